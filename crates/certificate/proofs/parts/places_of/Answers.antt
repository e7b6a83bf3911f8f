-- `places_of` meets its contract. Assumes nothing.
use Rattle.certificate.specs.Reading.{places_of}
use Rattle.certificate.proofs.parts.places_of.Goals as goal

pub returns : goal.returns
unfolding places_of
returns c = λ j. places_of (c.index-height.ensures j) (c.index-width.ensures j) (c.index-rank.ensures j) (c.index-lower.ensures j) (c.index-upper.ensures j)
