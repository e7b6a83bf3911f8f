-- The walk over the sorted numbers, step by step.
use mathlib.Core.Path.{◌≡◌, refl, ap, ap₂, ◌∙◌}
use mathlib.Core.Bool.{Bool, true, false, cond, ◌&&◌}
use mathlib.Core.List.{List, [], ◌∷◌}
use Prim.Native.Nat.{ℕ, ◌≤◌, ◌<◌, min}
use native.Mathlib.Omega.{arith}
use lib.Dec.{ltb}
use lib.ListN.{length, get_or, take, drop}
use Rattle.std.proofs.lemmas.Bool.Decides.{nat_tests}
use Rattle.grouping.specs.Repeats.{again}

module _ (same : ℕ → ℕ → Bool) (d : ℕ) where
  -- one pair further, in what is left of the list
  step : (e : ℕ) (rest after pair : List ℕ) → 2 ≤ length rest → pair ≡ take 2 rest → after ≡ drop 1 rest
      → e ≡ cond (same (get_or pair 0 0) (get_or pair 1 0) && ltb (get_or pair 1 0) d) (get_or pair 1 0) d → again same e after ≡ again same d rest
  unfolding again
  step e [] after pair h p q x = absurd (omega arith)
  step e (a ∷ []) after pair h p q x = absurd (omega arith)
  step e (a ∷ b ∷ r) after pair h p q x = ap₂ (again same) (x ∙ ap (λ (l : List ℕ). cond (same (get_or l 0 0) (get_or l 1 0) && ltb (get_or l 1 0) d) (get_or l 1 0) d) p) q

  -- the pair is one of a number and its like
  pub step_same : (e : ℕ) (rest after pair : List ℕ) → 2 ≤ length rest → pair ≡ take 2 rest → after ≡ drop 1 rest → true ≡ same (get_or pair 0 0) (get_or pair 1 0) → e ≡ min d (get_or pair 1 0) → again same e after ≡ again same d rest
  step_same e rest after pair h p q t x = step e rest after pair h p q (rw (← t) (grind (arith, nat_tests)))

  pub step_other : (rest after pair : List ℕ) → 2 ≤ length rest → pair ≡ take 2 rest → after ≡ drop 1 rest → false ≡ same (get_or pair 0 0) (get_or pair 1 0) → again same d after ≡ again same d rest
  step_other rest after pair h p q t = step d rest after pair h p q (rw (← t) refl)

  -- no pair is left
  pub no_pair : (rest : List ℕ) → length rest < 2 → again same d rest ≡ d
  unfolding again
  no_pair [] h = refl
  no_pair (x ∷ []) h = refl
  no_pair (x ∷ y ∷ r) h = absurd (omega arith)
