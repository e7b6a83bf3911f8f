-- Cells of lists, one after another.
--   cell-inside            a cell that is not 0 is inside the list
--   named                  a number that is not 0 is one more than another
--   set-cells              what holds of a cell that is set, and of the others, holds of all
--   Marked                 where the loop of `mark_ready` stands: what holds of the first i cells
use Prim.Native.Nat.{ℕ, zero, suc, ◌≤◌, ◌<◌}
use mathlib.Core.Path.{◌≡◌, refl, sym, ap, ◌∙◌, subst}
use mathlib.Core.List.{List}
use native.Mathlib.Decide.{ℕ_discrete, dec_lt}
use native.Mathlib.Omega.{arith}
use lib.ListN.{length, get_or, set, get_or-eq_default}
use lib.Seq.{get_or-set_same, get_or-set_other}
use Rattle.lists.proofs.Filled.{length-zeros, zeros-at}
use Rattle.factor_arrange.specs.Needs.{MarkReady}

pub cell-inside : (l : List ℕ) (i : ℕ) → ¬ (get_or l i 0 ≡ 0) → i < length l
cell-inside l i h = go (dec_lt i (length l))
  where
    go : Dec (i < length l) → i < length l
    go (yes g) = g
    go (no g) = absurd (h (get_or-eq_default l 0 (omega arith)))

pub named : (x : ℕ) → ¬ (x ≡ 0) → (c : ℕ) × (x ≡ suc c)
named zero h = absurd (h refl)
named (suc c) h = (c, refl)

-- what holds of a cell that is set, and of the others, holds of all
pub set-cells : (P : ℕ → ℕ → Type 0) (l : List ℕ) (i x : ℕ) → i < length l → P i x → ((j : ℕ) → ¬ (j ≡ i) → P j (get_or l j 0)) → (j : ℕ) → P j (get_or (set l i x) j 0)
set-cells P l i x h here others j = go (ℕ_discrete j i)
  where
    go : Dec (j ≡ i) → P j (get_or (set l i x) j 0)
    go (yes e) = subst (λ (k : ℕ). P k (get_or (set l i x) k 0)) (sym e) (subst (P i) (sym (get_or-set_same l i x 0 h)) here)
    go (no d) = subst (P j) (sym (get_or-set_other l i j x 0 d)) (others j d)

-- ---- marking

pub record Marked (v degrees ready : List ℕ) (i : ℕ) : Type 0 where
  pub inside : i ≤ length v
  pub long : length ready ≡ length v
  pub right : (j : ℕ) → ¬ (get_or ready j 0 ≡ 0) → (¬ (get_or v j 0 ≡ 0)) × (get_or degrees j 0 ≡ 0)
  pub all : (j : ℕ) → j < i → ¬ (get_or v j 0 ≡ 0) → get_or degrees j 0 ≡ 0 → ¬ (get_or ready j 0 ≡ 0)

pub marked-starts : (v degrees ready : List ℕ) → MarkReady v degrees ready → Marked v degrees ready 0
marked-starts v degrees ready h =
    record {
      inside = omega arith;
      long = ap length h.clear ∙ length-zeros (length v);
      right = λ j n. absurd (n (ap (λ (l : List ℕ). get_or l j 0) h.clear ∙ zeros-at (length v) j));
      all = λ j g. absurd (omega arith);
    }
