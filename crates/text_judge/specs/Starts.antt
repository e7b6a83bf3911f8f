-- How a line starts: two numbers, each with a space after it, or otherwise.
--   line_after l r      the line `i j v` where r says how the line l starts
--   Inside l r         what is left starts inside the line
--   Starts l r         r says how the line l starts: that and what is left of the line are all that it says
use Rattle.std.specs.Prelude.{ℕ, ◌≤◌, ◌≡◌, List, length, drop, Option, Some, None}
use Rattle.text_fields.specs.Number.{signed_of}
use Rattle.text_judge.specs.Line.{with_signed, line_of}
use Rattle.text_judge.specs.declared.line.Triple.{Triple}
use Rattle.text_judge.specs.declared.line.Start.{Start}

abbrev pub line_after : List ℕ → Option Start → Option Triple
line_after l (Some start) = with_signed start.i start.j (signed_of (drop start.rest l))
line_after l None = None

abbrev pub Inside : List ℕ → Option Start → Type 0
Inside l (Some start) = start.rest ≤ length l
Inside l None = Unit {0}

pub record Starts (l : List ℕ) (r : Option Start) : Type 0 where
  pub line : line_of l ≡ line_after l r
  pub inside : Inside l r
