-- What the steps start from: A are the lists of the plan, ow the owners, l the lists of the set, h the slot values, `out` the buffer.
--   Solvable s A ow l h st w          solving: the lists have the plan, the owners and the set, and room for the setting st and the combination w
--   WordsStagedReady s A ow l h out   writing the line of what the stages came to; the working row is all zero
use Rattle.std.specs.Prelude.{ℕ, ◌≡◌, List, length}
use Rattle.sparse.specs.Matrix.{Compressed}
use Rattle.sparse.specs.Set.{Storage}
use Rattle.limits.specs.Limits.{largest_size}
use Rattle.stages.specs.Results.{Stages}
use Rattle.ask_lib.specs.Needs.{Answerable, AskStagedReady}

pub record Solvable (s : Stages) (A : Compressed) (ow : List ℕ) (l : Storage) (h st w : List ℕ) : Type 0 where
  pub lists : Answerable s A l h w st
  pub owners-length : length ow ≡ largest_size

pub record WordsStagedReady (s : Stages) (A : Compressed) (ow : List ℕ) (l : Storage) (h out : List ℕ) : Type 0 where
  pub lists : AskStagedReady s A l h out
  pub owners-length : length ow ≡ largest_size
