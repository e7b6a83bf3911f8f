-- `places_in` meets its contract. Assumes nothing.
use mathlib.Core.Path.{◌∙◌}
use native.Mathlib.Omega.{arith}
use Rattle.certificate.specs.Reading.{places_of}
use Rattle.certificate.proofs.Views.{header-fits, located}
use Rattle.certificate.proofs.parts.places_in.Goals as goal

pub number-r-requires : goal.number-r-requires
number-r-requires c = (omega arith, header-fits c.args.n c.args.m c.args.cert.now c.requires)

pub number-lcount-requires : goal.number-lcount-requires
number-lcount-requires c = (omega arith, header-fits c.args.n c.args.m c.args.cert.now c.requires)

pub number-ucount-requires : goal.number-ucount-requires
number-ucount-requires c = (omega arith, header-fits c.args.n c.args.m c.args.cert.now c.requires)

pub returns : goal.returns
returns c =
    located c.args.n c.args.m c.args.cert.now c.requires c.places_of.result
    (c.places_of.ensures ∙ (λ j. places_of c.args.n c.args.m (c.number-r.ensures j) (c.number-lcount.ensures j) (c.number-ucount.ensures j)))
