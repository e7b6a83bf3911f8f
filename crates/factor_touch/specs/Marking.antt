-- Marks that are set one after another.
--   EachMarked marks₀ marks    every block is marked
use Rattle.std.specs.Prelude.{ℕ, ◌≡◌, List, length}
use Rattle.factor_touch.specs.Touched.{AllMarked}

pub record EachMarked (marks₀ marks : List ℕ) : Type 0 where
  pub long : length marks ≡ length marks₀
  pub each : AllMarked marks
