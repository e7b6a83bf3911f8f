-- The settings of a list of columns: of two lists joined, their length, and the columns that are left, one by one.
use mathlib.Core.Path.{◌≡◌, refl, sym, ap, ◌∙◌}
use mathlib.Core.Logic.{◌⊎◌, inl, inr}
use mathlib.Core.Bool.{Bool, false, cond}
use mathlib.Core.List.{List, [], ◌∷◌, ◌++◌, flatten, append_assoc}
use Prim.Native.Nat.{ℕ, zero, suc, ◌+◌, ◌*◌, ◌≤◌, ◌<◌}
use native.Mathlib.Nat.{eq-or-lt_of_le, le_of_suc-le-suc}
use native.Mathlib.Numerals.{add-one}
use native.Mathlib.Omega.{arith}
use lib.ListN.{length, length-append}
use Rattle.lists.specs.Rest.{rest}
use Rattle.lists.specs.Tests.{among}
use Rattle.lists.proofs.Tabulate.{length-tabulate}
use Rattle.algebra.specs.Sum.{δ}
use Rattle.algebra.specs.Matrix.{Vector, Matrix}
use Rattle.row_space.specs.Substitution.{back_u, through_u}
use Rattle.answer_kernel.specs.Filling.{column_settings}

module _ (p m r : ℕ) (C : Vector) (U : Matrix) where
  pub setting-length : (v : Vector) → length (through_u p m r C U v) ≡ m
  setting-length v = length-tabulate m (back_u p m C U r v)

  pub settings-append : (xs ys : List ℕ) → column_settings p m r C U (xs ++ ys) ≡ column_settings p m r C U xs ++ column_settings p m r C U ys
  unfolding column_settings flatten
  settings-append [] ys = refl
  settings-append (x ∷ xs) ys =
      ap (λ (l : List ℕ). through_u p m r C U (δ x) ++ l) (settings-append xs ys)
      ∙ sym (append_assoc (through_u p m r C U (δ x)) (column_settings p m r C U xs) (column_settings p m r C U ys))

  pub settings-length : (xs : List ℕ) → length (column_settings p m r C U xs) ≡ m * length xs
  unfolding column_settings flatten
  settings-length [] = omega arith
  settings-length (x ∷ xs) =
      length-append (through_u p m r C U (δ x)) (column_settings p m r C U xs)
      ∙ (λ i. setting-length (δ x) i + settings-length xs i)
      ∙ omega arith

-- ---- the columns that are left

pub rest-step : (xs : List ℕ) (c : ℕ) → rest xs (c + 1) ≡ rest xs c ++ cond (among c xs) [] (c ∷ [])
unfolding rest
rest-step xs c = ap (rest xs) (add-one c)

-- a larger bound leaves no fewer
pub rest-grows : (xs : List ℕ) (c n : ℕ) → c ≤ n → length (rest xs c) ≤ length (rest xs n)
unfolding rest
rest-grows xs c zero h = let q : c ≡ 0 = omega arith in rw q (let z : 0 ≤ 0 = omega arith in z)
rest-grows xs c (suc n) h = go (eq-or-lt_of_le h) (rest-grows xs c n)
  where
    go : (c ≡ suc n) ⊎ (c < suc n) → (c ≤ n → length (rest xs c) ≤ length (rest xs n)) → length (rest xs c) ≤ length (rest xs (suc n))
    go (inl e) ih = omega (arith, ap (λ (k : ℕ). length (rest xs k)) e)
    go (inr l) ih = omega (arith, ih (le_of_suc-le-suc l), length-append (rest xs n) (cond (among n xs) [] (n ∷ [])))

pub rest_more : (xs : List ℕ) (c n : ℕ) → c < n → among c xs ≡ false → length (rest xs c) < length (rest xs n)
rest_more xs c n h e =
    omega (
      arith,
      rest-grows xs (c + 1) n (omega arith),
      ap length (rest-step xs c) ∙ length-append (rest xs c) (cond (among c xs) [] (c ∷ [])) ∙ ap (λ (b : Bool). length (rest xs c) + length {A = ℕ} (cond b [] (c ∷ []))) e,
    )
