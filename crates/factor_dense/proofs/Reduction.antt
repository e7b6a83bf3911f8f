-- Reduction by the block is reduction by the rows of U that it holds.
use mathlib.Core.Path.{◌≡◌, refl, sym, ap, ◌∙◌}
use mathlib.Core.List.{List, ◌∷◌, ◌++◌}
use Prim.Native.Nat.{ℕ, zero, suc, ◌+◌, ◌-◌, ◌*◌, ◌%◌, ◌≤◌, ◌<◌}
use native.Mathlib.Nat.{zero-mod, zero-add, add-zero}
use native.Mathlib.Omega.{arith}
use Rattle.lists.specs.Tabulate.{tabulate}
use Rattle.lists.proofs.Tabulate.{tabulate-ext}
use Rattle.algebra.specs.Matrix.{Vector, Matrix}
use Rattle.algebra.specs.Reduction.{reduced, multiples}
use Rattle.factor_dense.specs.Block.{cells_of, BlockHolds}

suc-add : (a b : ℕ) → suc a + b ≡ suc (a + b)
suc-add a b = omega arith

pub tabulate-add : (a b : ℕ) (f : ℕ → ℕ) → tabulate (a + b) f ≡ tabulate a f ++ tabulate b (λ i. f (a + i))
unfolding tabulate
tabulate-add zero b f = ap (λ (n : ℕ). tabulate n f) (zero-add b) ∙ tabulate-ext b f (λ i. f (0 + i)) (λ i h. ap f (sym (zero-add i)))
tabulate-add (suc a) b f =
    ap (λ (n : ℕ). tabulate n f) (suc-add a b)
    ∙ ap (λ (l : List ℕ). f 0 ∷ l)
    (tabulate-add a b (λ i. f (suc i))
    ∙ ap (λ (l : List ℕ). tabulate a (λ i. f (suc i)) ++ l) (tabulate-ext b (λ i. f (suc (a + i))) (λ i. f (suc a + i)) (λ i h. ap f (sym (suc-add a i)))))

module _ (p s b width : ℕ) (js ks C : Vector) (U : Matrix) (block : List (List ℕ)) (h : BlockHolds s b width js ks C U block) (y : Vector) where
  -- a block row that begins with what the first s rows left, at the columns js
  pub reduced-block : (z : Vector) → ((l : ℕ) → l < width → z l ≡ reduced p C U s y (js l))
      → (t : ℕ) → t ≤ b → (l : ℕ) → l < width → reduced p ks (cells_of block) t z l ≡ reduced p C U (s + t) y (js l)
  unfolding reduced
  reduced-block z start zero le l w = start l w ∙ ap (λ (n : ℕ). reduced p C U n y (js l)) (sym (add-zero s))
  reduced-block z start (suc t) le l w = go (reduced-block z start t (omega arith))
    where
      next : (s t : ℕ) → suc (s + t) ≡ s + suc t
      next s t = omega arith

      go : ((l : ℕ) → l < width → reduced p ks (cells_of block) t z l ≡ reduced p C U (s + t) y (js l)) → reduced p ks (cells_of block) (suc t) z l ≡ reduced p C U (s + suc t) y (js l)
      go before =
          (λ i. (before l w i + (p - (before (ks t) (h.within t (omega arith)) ∙ ap (reduced p C U (s + t) y) (h.pivot t (omega arith))) i) * h.cells t l (omega arith) w i) % p)
          ∙ ap (λ (n : ℕ). reduced p C U n y (js l)) (next s t)

  -- it stays 0 past the columns
  pub reduced-past : (z : Vector) → ((l : ℕ) → width ≤ l → z l ≡ 0)
      → (t : ℕ) → t ≤ b → (l : ℕ) → width ≤ l → reduced p ks (cells_of block) t z l ≡ 0
  unfolding reduced
  reduced-past z start zero le l out = start l out
  reduced-past z start (suc t) le l out =
      ap (λ (n : ℕ). n % p) (omega (arith, reduced-past z start t (omega arith) l out, ap (λ (n : ℕ). (p - reduced p ks (cells_of block) t z (ks t)) * n) (h.past t l (omega arith) out))) ∙ zero-mod p

  -- the multiples of s + b rows are those of the first s, and then those of the block
  pub multiples-block : (z : Vector) → ((l : ℕ) → l < width → z l ≡ reduced p C U s y (js l))
      → multiples p (s + b) C U y ≡ multiples p s C U y ++ multiples p b ks (cells_of block) z
  unfolding multiples
  multiples-block z start =
      tabulate-add s b (λ k. reduced p C U k y (C k))
      ∙ ap (λ (l : List ℕ). tabulate s (λ k. reduced p C U k y (C k)) ++ l)
      (tabulate-ext b (λ t. reduced p C U (s + t) y (C (s + t))) (λ t. reduced p ks (cells_of block) t z (ks t))
      (λ t lt. sym (reduced-block z start t (omega arith) (ks t) (h.within t lt) ∙ ap (reduced p C U (s + t) y) (h.pivot t lt))))

-- the law as it stands in the design: the block row is the remainder at the columns js
pub reduced-in-block : (p s b width : ℕ) (js ks C : Vector) (U : Matrix) (block : List (List ℕ)) → BlockHolds s b width js ks C U block → (y : Vector)
    → (t : ℕ) → t ≤ b → (l : ℕ) → l < width → reduced p ks (cells_of block) t (λ l. reduced p C U s y (js l)) l ≡ reduced p C U (s + t) y (js l)
reduced-in-block p s b width js ks C U block h y = reduced-block p s b width js ks C U block h y (λ l. reduced p C U s y (js l)) (λ l w. refl)
