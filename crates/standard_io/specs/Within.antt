-- What reading standard input answers.
--   Within r xs    the bytes that were read stand at the start of xs; where a read failed there is nothing to say
use Rattle.std.specs.Prelude.{List, ℕ}
use Rattle.io.specs.Counts.{IsPrefixLen}
use Rattle.standard_io.specs.declared.Input.{Input}
use Rattle.standard_io.specs.declared.Input.TheVariants.{Read, Failed}

abbrev pub Within : Input → List ℕ → Type 0
Within (Read size) xs = IsPrefixLen size xs
Within Failed xs = Unit {0}
