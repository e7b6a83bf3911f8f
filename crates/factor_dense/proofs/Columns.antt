-- A row that is 0 at the structural pivot columns: what is stored of it, and its first column that is not 0.
use mathlib.Core.Path.{◌≡◌, refl, sym, ap, ◌∙◌}
use mathlib.Core.Logic.{◌⊎◌, inl, inr}
use mathlib.Core.List.{List, [], ◌∷◌}
use Prim.Native.Nat.{ℕ, zero, suc, ◌+◌, ◌≤◌, ◌<◌}
use native.Mathlib.Nat.{zero-add}
use native.Mathlib.Decide.{ℕ_discrete, dec_lt}
use native.Mathlib.Omega.{arith}
use borrow.Author.Tests.{eqb-true, eq-eqb}
use lib.Dec.{eqb}
use Rattle.lists.specs.Tabulate.{tabulate}
use Rattle.lists.specs.Tests.{first}
use Rattle.lists.proofs.Tests.{first-all, first-fails, first-before, first-here}
use Rattle.lists.proofs.Tabulate.{tabulate-ext}
use Rattle.algebra.specs.Matrix.{Vector}
use Rattle.sparse.specs.Dense.{columns_from, nonzeros}
use Rattle.factor_dense.specs.Block.{LeftColumns, where_nonzero}

-- js goes through the columns from `low` up to low + n at which w may be other than 0
record Through (w : Vector) (low n width : ℕ) (js : Vector) : Type 0 where
  inside : (l : ℕ) → l < width → (low ≤ js l) × (js l < low + n)
  rising : (a b : ℕ) → a < b → b < width → js a < js b
  others : (j : ℕ) → low ≤ j → j < low + n → ¬ (w j ≡ 0) → (l : ℕ) × (l < width) × (js l ≡ j)

-- the same of the columns after `low`, which is not one of them
skip : (w : Vector) (low n width : ℕ) (js : Vector) → Through w low (suc n) width js → ((l : ℕ) → l < width → ¬ (js l ≡ low)) → Through w (suc low) n width js
skip w low n width js h off =
    record {
      inside = λ l g. let i = h.inside l g in (go l (off l g) i.0, omega arith);
      rising = h.rising;
      others = λ j a b e. h.others j (omega arith) (omega arith) e;
    }
  where
    go : (l : ℕ) → ¬ (js l ≡ low) → low ≤ js l → suc low ≤ js l
    go l ne le = elim (ℕ_discrete (js l) low) [ yes e ↦ absurd (ne e) | no e ↦ lt l e le ]
      where
        lt : (l : ℕ) → ¬ (js l ≡ low) → low ≤ js l → suc low ≤ js l
        lt l ne le = omega arith

-- and where it is the first
next : (w : Vector) (low n width : ℕ) (js : Vector) → Through w low (suc n) (suc width) js → js 0 ≡ low → Through w (suc low) n width (λ l. js (suc l))
next w low n width js h e =
    record {
      inside = λ l g. let i = h.inside (suc l) (omega arith) in let r = h.rising 0 (suc l) (omega arith) (omega arith) in (omega arith, omega arith);
      rising = λ a b lt g. h.rising (suc a) (suc b) (omega arith) (omega arith);
      others = λ j a b ne. after j (omega arith) (h.others j (omega arith) (omega arith) ne);
    }
  where
    after : (j : ℕ) → low < j → (l : ℕ) × (l < suc width) × (js l ≡ j) → (l : ℕ) × (l < width) × (js (suc l) ≡ j)
    after j lt (zero, g, q) = absurd (omega arith)
    after j lt (suc l, g, q) = (l, omega arith, q)

-- the cells that are stored, in order: as many of the row itself as of its cells at js
record Same (low : ℕ) (row cs vs : List ℕ) : Type 0 where
  columns : columns_from low row ≡ where_nonzero cs vs
  values : nonzeros row ≡ nonzeros vs

same-skip : (low v : ℕ) (row cs vs : List ℕ) → v ≡ 0 → Same (suc low) row cs vs → Same low (v ∷ row) cs vs
unfolding columns_from nonzeros
same-skip low zero row cs vs e s = record { columns = s.columns; values = s.values }
same-skip low (suc v) row cs vs e s = absurd (omega arith)

same_next : (low v : ℕ) (row cs vs : List ℕ) → Same (suc low) row cs vs → Same low (v ∷ row) (low ∷ cs) (v ∷ vs)
unfolding columns_from nonzeros where_nonzero
same_next low zero row cs vs s = record { columns = s.columns; values = s.values }
same_next low (suc v) row cs vs s = record { columns = ap (λ (l : List ℕ). low ∷ l) s.columns; values = ap (λ (l : List ℕ). suc v ∷ l) s.values }

suc-add : (a b : ℕ) → suc a + b ≡ a + suc b
suc-add a b = omega arith

add_none : (a : ℕ) → a + 0 ≡ a
add_none a = omega arith

walk : (w : Vector) (n low width : ℕ) (js : Vector) → Through w low n width js
    → Same low (tabulate n (λ i. w (low + i))) (tabulate width js) (tabulate width (λ l. w (js l)))
unfolding tabulate columns_from nonzeros where_nonzero
walk w zero low zero js h = record { columns = refl; values = refl }
walk w zero low (suc width) js h = let i = h.inside 0 (omega arith) in absurd (omega arith)
walk w (suc n) low zero js h =
    rw (tabulate-ext n (λ i. w (low + suc i)) (λ i. w (suc low + i)) (λ i g. ap w (sym (suc-add low i))))
    (same-skip low (w (low + 0)) (tabulate n (λ i. w (suc low + i))) [] [] (zeroed (ℕ_discrete (w (low + 0)) 0))
    (walk w n (suc low) zero js (skip w low n zero js h (λ l g e. omega arith))))
  where
    zeroed : Dec (w (low + 0) ≡ 0) → w (low + 0) ≡ 0
    zeroed (yes e) = e
    zeroed (no e) = let o = h.others (low + 0) (omega arith) (omega arith) e in absurd (omega arith)
walk w (suc n) low (suc width) js h =
    rw (tabulate-ext n (λ i. w (low + suc i)) (λ i. w (suc low + i)) (λ i g. ap w (sym (suc-add low i))))
    (go (ℕ_discrete (js 0) low) (λ g. walk w n (suc low) (suc width) js g) (λ g. walk w n (suc low) width (λ l. js (suc l)) g))
  where
    off : ¬ (js 0 ≡ low) → (l : ℕ) → l < suc width → ¬ (js l ≡ low)
    off ne zero g e = ne e
    off ne (suc l) g e = let r = h.rising 0 (suc l) (omega arith) g in let i = h.inside 0 (omega arith) in absurd (omega arith)

    zeroed : ¬ (js 0 ≡ low) → Dec (w (low + 0) ≡ 0) → w (low + 0) ≡ 0
    zeroed ne (yes e) = e
    zeroed ne (no e) = let o = h.others (low + 0) (omega arith) (omega arith) e in absurd (off ne o.0 o.1 (o.2 ∙ add_none low))

    go : Dec (js 0 ≡ low)
        → (Through w (suc low) n (suc width) js → Same (suc low) (tabulate n (λ i. w (suc low + i))) (tabulate (suc width) js) (tabulate (suc width) (λ l. w (js l))))
        → (Through w (suc low) n width (λ l. js (suc l)) → Same (suc low) (tabulate n (λ i. w (suc low + i))) (tabulate width (λ l. js (suc l))) (tabulate width (λ l. w (js (suc l)))))
        → Same low (w (low + 0) ∷ tabulate n (λ i. w (suc low + i))) (tabulate (suc width) js) (tabulate (suc width) (λ l. w (js l)))
    go (no ne) same less = same-skip low (w (low + 0)) (tabulate n (λ i. w (suc low + i))) (tabulate (suc width) js) (tabulate (suc width) (λ l. w (js l))) (zeroed ne (ℕ_discrete (w (low + 0)) 0)) (same (skip w low n (suc width) js h (off ne)))
    go (yes e) same less =
        rw (add_none low, e)
        (same_next low (w low) (tabulate n (λ i. w (suc low + i))) (tabulate width (λ l. js (suc l))) (tabulate width (λ l. w (js (suc l)))) (less (next w low n width js h e)))

module _ (m s : ℕ) (C : Vector) (width : ℕ) (js : Vector) (left : LeftColumns m s C width js) (w : Vector) (clear : (k : ℕ) → k < s → w (C k) ≡ 0) where
  found : (j : ℕ) → j < m → ¬ (w j ≡ 0) → (l : ℕ) × (l < width) × (js l ≡ j)
  found j h ne = go (left.covers j h)
    where
      go : ((k : ℕ) × (k < s) × (C k ≡ j)) ⊎ ((l : ℕ) × (l < width) × (js l ≡ j)) → (l : ℕ) × (l < width) × (js l ≡ j)
      go (inl (k, g, e)) = absurd (ne (ap w (sym e) ∙ clear k g))
      go (inr o) = o

  through : Through w 0 m width js
  through =
      record {
        inside = λ l g. (omega arith, omega (arith, left.inside l g));
        rising = left.rising;
        others = λ j a b ne. found j (omega arith) ne;
      }

  same : Same 0 (tabulate m w) (tabulate width js) (tabulate width (λ l. w (js l)))
  same = rw (tabulate-ext m w (λ i. w (0 + i)) (λ i g. ap w (sym (zero-add i)))) (walk w m 0 width js through)

  -- what is stored of the row is what is stored of the block row, under the columns js
  pub row-columns : columns_from 0 (tabulate m w) ≡ where_nonzero (tabulate width js) (tabulate width (λ l. w (js l)))
  row-columns = same.columns

  pub row-values : nonzeros (tabulate m w) ≡ nonzeros (tabulate width (λ l. w (js l)))
  row-values = same.values

  -- its first column that is not 0 is that of the block row's first
  before : (l : ℕ) → l < width → ((k : ℕ) → k < l → w (js k) ≡ 0) → (j : ℕ) → j < js l → w j ≡ 0
  before l h none j lt = go (ℕ_discrete (w j) 0)
    where
      at : (o : (l : ℕ) × (l < width) × (js l ≡ j)) → Dec (o.0 < l) → w j ≡ 0
      at (k, g, e) (yes a) = ap w (sym e) ∙ none k a
      at (k, g, e) (no a) = absurd (order (ℕ_discrete k l))
        where
          order : Dec (k ≡ l) → ⊥
          order (yes q) = omega (arith, ap js q)
          order (no q) = omega (arith, left.rising l k (omega arith) g)

      go : Dec (w j ≡ 0) → w j ≡ 0
      go (yes e) = e
      go (no ne) = let o = found j (omega (arith, left.inside l h)) ne in at o (dec_lt o.0 l)

  pub first-column : first width (λ l. eqb (w (js l)) 0) < width → first m (λ j. eqb (w j) 0) ≡ js (first width (λ l. eqb (w (js l)) 0))
  first-column h =
      first-fails m (λ j. eqb (w j) 0) (js c) (left.inside c h)
      (λ k lt. eq-eqb (w k) 0 (before c h (λ l g. eqb-true (w (js l)) 0 (first-before width (λ l. eqb (w (js l)) 0) l g)) k lt))
      (first-here width (λ l. eqb (w (js l)) 0) h)
    where
      c : ℕ
      c = first width (λ l. eqb (w (js l)) 0)

  -- and there is none where the block row has none
  pub first-none : width ≤ first width (λ l. eqb (w (js l)) 0) → first m (λ j. eqb (w j) 0) ≡ m
  first-none h = first-all m (λ j. eqb (w j) 0) (λ j g. eq-eqb (w j) 0 (go j g (ℕ_discrete (w j) 0)))
    where
      go : (j : ℕ) → j < m → Dec (w j ≡ 0) → w j ≡ 0
      go j g (yes e) = e
      go j g (no ne) = let o = found j g ne in absurd (ne (ap w (sym o.2) ∙ eqb-true (w (js o.0)) 0 (first-before width (λ l. eqb (w (js l)) 0) o.0 (omega arith))))
