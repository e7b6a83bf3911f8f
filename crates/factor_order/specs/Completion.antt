-- The completion of an order by the numbers that it lacks. There is a mark for each number.
--   marked xs x                  the mark of x: 1 where it is one of xs, else 0
--   unmarked v x                 x alone where its mark v is 0, else nothing
--   AppendReady k xs w           the marks of the first k numbers of xs, and room for the others
--   Completed k xs₀ xs w         after the first k numbers come the others below its length, rising; the marks are cleared
use Rattle.std.specs.Prelude.{ℕ, zero, suc, ◌+◌, ◌^◌, ◌≤◌, ◌≡◌, cond, List, [], ◌∷◌, ◌++◌, length, take}
use Rattle.lists.specs.Filled.{zeros}
use Rattle.lists.specs.Tabulate.{tabulate}
use Rattle.lists.specs.Tests.{among}
use Rattle.lists.specs.Rest.{rest}

abbrev pub marked : List ℕ → ℕ → ℕ
marked xs x = cond (among x xs) 1 0

abbrev pub unmarked : ℕ → ℕ → List ℕ
unmarked zero x = x ∷ []
unmarked (suc v) x = []

pub record AppendReady (k : ℕ) (xs w : List ℕ) : Type 0 where
  pub narrow : length xs ≤ 2 ^ 32
  pub room : k + length (rest (take k xs) (length xs)) ≡ length xs
  pub marks : w ≡ tabulate (length xs) (marked (take k xs))

pub record Completed (k : ℕ) (xs₀ xs w : List ℕ) : Type 0 where
  pub order : xs ≡ take k xs₀ ++ rest (take k xs₀) (length xs₀)
  pub cleared : w ≡ zeros (length xs₀)
