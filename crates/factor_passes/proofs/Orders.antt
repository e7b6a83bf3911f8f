-- An order of which the first numbers are given, completed by the others.
use mathlib.Core.Path.{◌≡◌, sym, ap, ◌∙◌, subst}
use mathlib.Core.List.{List, ◌++◌}
use Prim.Native.Nat.{ℕ, ◌≤◌, ◌<◌}
use lib.ListN.{length, get_or, take}
use lib.Seq.{length-take-le, get_or-take, take_at}
use Rattle.algebra.specs.Matrix.{Distinct, vector}
use Rattle.lists.specs.Rest.{rest}
use Rattle.algebra.proofs.Completion.{completed-length}
use Rattle.factor_order.specs.Completion.{Completed}

-- what holds of the first k numbers of a list, cut there or not
pub distinct-front : (k n : ℕ) (xs l : List ℕ) → take k l ≡ xs → Distinct k n (vector xs) → Distinct k n (vector l)
distinct-front k n xs l e d =
    record {
      below = λ a b. subst (λ (x : ℕ). x < n) (at a b) (d.below a b);
      apart = λ a b x y q. d.apart a b x y (at a x ∙ q ∙ sym (at b y));
    }
  where
    at : (a : ℕ) → a < k → get_or xs a 0 ≡ get_or l a 0
    at a b = ap (λ (z : List ℕ). get_or z a 0) (sym e) ∙ get_or-take k l a 0 b

pub distinct-cut : (k n : ℕ) (l : List ℕ) → Distinct k n (vector l) → Distinct k n (vector (take k l))
distinct-cut k n l d =
    record {
      below = λ a b. subst (λ (x : ℕ). x < n) (sym (get_or-take k l a 0 b)) (d.below a b);
      apart = λ a b x y q. d.apart a b x y (sym (get_or-take k l a 0 x) ∙ q ∙ get_or-take k l b 0 y);
    }

module _ (s : ℕ) (X : List ℕ) (inside : s ≤ length X) (X₁ marks : List ℕ) (c : Completed s X X₁ marks) where
  pub front_kept : take s X₁ ≡ take s X
  front_kept = ap (take s) c.order ∙ take_at (take s X) (rest (take s X) (length X)) s (length-take-le s X inside)

  module _ (d : Distinct s (length X) (vector (take s X))) where
    pub order-long : length X₁ ≡ length X
    order-long = ap length c.order ∙ completed-length (take s X) (length X) (rw (length-take-le s X inside) d)

    pub order-completed : X₁ ≡ take s X₁ ++ rest (take s X₁) (length X₁)
    order-completed = c.order ∙ (λ t. sym front_kept t ++ rest (sym front_kept t) (sym order-long t))
