-- The columns that a row may still take, by the test of each.
--   next-later                 one place after another
use Prim.Native.Nat.{ℕ, ◌<◌}
use mathlib.Core.Path.{◌≡◌}
use mathlib.Core.Logic.{inl, inr, ⊎_elim}
use mathlib.Core.List.{List}
use native.Mathlib.Omega.{arith}
use native.Mathlib.Decide.{dec_lt}
use lib.ListN.{get_or}
use Rattle.factor_select.specs.Search.{Passed, NextFit}

-- the search goes on from the place that it came to, after more columns were stamped
pub next-later : (row w stamps₁ stamps : List ℕ) (mark t u : ℕ) → ((j : ℕ) → get_or stamps₁ j 0 ≡ mark → get_or stamps j 0 ≡ mark)
    → NextFit row w stamps₁ mark 0 t → NextFit row w stamps mark t u → NextFit row w stamps mark 0 u
next-later row w stamps₁ stamps mark t u still a b = record { before = λ k h l. go k h (dec_lt k t); here = b.here }
  where
    go : (k : ℕ) → k < u → Dec (k < t) → Passed w stamps mark (get_or row k 0)
    go k h (yes l) = ⊎_elim (λ x. inl x) (λ e. inr (still (get_or row k 0) e)) (a.before k l (omega arith))
    go k h (no l) = b.before k h (omega arith)
