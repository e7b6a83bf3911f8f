-- `length_ok` meets its contract. Assumes nothing.
use mathlib.Core.Path.{◌∙◌, ap}
use lib.ListN.{length}
use lib.Dec.{eqb}
use Rattle.certificate.specs.Reading.{places_of, length_ok}
use Rattle.certificate.specs.declared.parts.Places.{Places}
use Rattle.certificate.proofs.header.length_ok.Goals as goal

pub returns : goal.returns
unfolding length_ok
returns c =
    ap (λ (q : Places). eqb q.end (length c.args.cert.now))
    (c.places_of-places.ensures ∙ (λ j. places_of (c.number-n.ensures j) (c.number-m.ensures j) (c.number-r.ensures j) (c.number-lcount.ensures j) (c.number-ucount.ensures j)))
