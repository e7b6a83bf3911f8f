-- `set_of_certificate` meets its contract: each list is the numbers that stand there. Assumes nothing.
use Rattle.std.proofs.Common.{ap, ◌∙◌, arith}
use Rattle.sparse.specs.Matrix.{compressed}
use Rattle.sparse.specs.Set.{set_of}
use Rattle.certificate.specs.Reading.{field, set_in, set_of_certificate}
use Rattle.certificate.specs.declared.parts.Places.{Places}
use Rattle.certificate.proofs.Views.{header-fits}
use Rattle.certificate.proofs.parts.set_of_certificate.Goals as goal

pub number-requires : goal.number-requires
number-requires c = (omega arith, header-fits c.args.n c.args.m c.args.cert.now c.requires)

pub returns : goal.returns
unfolding set_of_certificate set_in
returns c =
    (λ j. set_of (c.number.ensures j)
    (c.numbers_in.ensures j)
    (c.numbers_in-2.ensures j)
    (compressed (c.numbers_in-3.ensures j) (c.numbers_in-4.ensures j) (c.numbers_in-5.ensures j))
    (compressed (c.numbers_in-6.ensures j) (c.numbers_in-7.ensures j) (c.numbers_in-8.ensures j)))
    ∙ ap (λ (q : Places). set_in c.args.cert.now q (field c.args.cert.now 3)) c.places_in-places.ensures.is
