-- Closed answers at a column j (algebra's `ClosedAnswer`).
--   unit-kernel     substitution through U from the unit vector of j gives one, where j is no pivot column
--   closed-cells    only the cells below m count
--   closed-moved    and of the column order only which columns are pivot columns
--   Free r C c      c is no pivot column: none of the first r of C
use mathlib.Core.Path.{◌≡◌, refl, sym, ap, ◌∙◌}
use mathlib.Core.Logic.{◌↔◌}
use Prim.Native.Nat.{ℕ, ◌≤◌, ◌<◌}
use native.Mathlib.Decide.{dec_lt}
use native.Mathlib.Omega.{arith}
use Rattle.algebra.specs.Sum.{δ}
use Rattle.algebra.specs.Prime.{Prime}
use Rattle.algebra.specs.Matrix.{Vector, Matrix, Permutation}
use Rattle.algebra.specs.RowSpace.{InKernel}
use Rattle.algebra.specs.Factors.{Factors}
use Rattle.algebra.specs.Answer.{ClosedAnswer}
use Rattle.algebra.proofs.Congruence.{exact, ◌⊙◌}
use Rattle.algebra.proofs.Dot.{dot-eq, δ-same, δ-other}
use Rattle.algebra.proofs.Finite.{onto}
use Rattle.algebra.proofs.Substitution.{Right, right-none}
use Rattle.row_space.specs.Substitution.{back_u}
use Rattle.row_space.proofs.Substitutions.{δ-small, back_u-kept, back_u-small, back_u-right}

abbrev pub Free : (r : ℕ) (C : Vector) → ℕ → Type 0
Free r C c = (l : ℕ) → l < r → ¬ (C l ≡ c)

pub unit-kernel : {p : ℕ} → (prime : Prime p) → {n m r : ℕ} {A : Matrix} {R C : Vector} {L U : Matrix} → Factors p n m r A R C L U
    → (j : ℕ) → Free r C j → ClosedAnswer p n m r A C j (back_u p m C U r (δ j))
unit-kernel {p} prime {n} {m} {r} {A} {R} {C} {L} {U} f j free =
    record {
      residues = λ t h. back_u-small p m C U r (δ j) (omega (arith, prime.two)) (δ-small p prime.two j) t;
      kernel = right-none prime f (back_u p m C U r (δ j)) (back_u-right prime f r (omega arith) (δ j) starts);
      pivot = free;
      one = back_u-kept p m C U r (δ j) j free ∙ δ-same j;
      others = λ l h g e.
          back_u-kept p m C U r (δ j) (C l) (λ k b d. omega (arith, f.columns.apart k l (omega (arith, f.rank-columns)) g d)) ∙ δ-other j (C l) (λ d. e (sym d));
    }
  where
    starts : Right prime f (λ l. 0) r (δ j)
    starts = record { done = λ l h g. absurd (omega arith); todo = λ l h. δ-other j (C l) (λ e. free l h (sym e)) }

pub closed-cells : {p n m r : ℕ} {A : Matrix} {C : Vector} {j : ℕ} {z z' : Vector} → Permutation m C → j < m
    → ((t : ℕ) → t < m → z' t ≡ z t) → ClosedAnswer p n m r A C j z → ClosedAnswer p n m r A C j z'
unfolding InKernel
closed-cells {m} {A} {C} {j} order inside at a =
    record {
      residues = λ t h. rw (at t h) (a.residues t h);
      kernel = λ i h. exact (dot-eq m {u = A i} (λ t g. refl) at) ⊙ a.kernel i h;
      pivot = a.pivot;
      one = at j inside ∙ a.one;
      others = λ l h g e. at (C l) (order.below l g) ∙ a.others l h g e;
    }

-- a column that is no pivot column stands past the first r of a column order
free-later : {m r : ℕ} {C : Vector} → Permutation m C → (c : ℕ) → c < m → Free r C c → (l : ℕ) × (r ≤ l) × (l < m) × (C l ≡ c)
free-later {m} {r} {C} order c h free = let o = onto m C order c h in (o.0, later o.0 o.2 (dec_lt o.0 r), o.1, o.2)
  where
    later : (l : ℕ) → C l ≡ c → Dec (l < r) → r ≤ l
    later l e (yes b) = absurd (free l b e)
    later l e (no b) = omega arith

later-free : {m r : ℕ} {C : Vector} → Permutation m C → r ≤ m → (l : ℕ) → r ≤ l → l < m → Free r C (C l)
later-free order h l past inside k g e = omega (arith, order.apart k l (omega arith) inside e)

pub closed-moved : {p n m r r' : ℕ} {A : Matrix} {C C' : Vector} {j : ℕ} {z : Vector} → Permutation m C → Permutation m C' → r' ≤ m → j < m
    → ((c : ℕ) → c < m → Free r C c ↔ Free r' C' c) → ClosedAnswer p n m r A C j z → ClosedAnswer p n m r' A C' j z
closed-moved {m} {r} {r'} {C} {C'} {j} {z} order order' rank inside same a =
    record { residues = a.residues; kernel = a.kernel; pivot = (same j inside).0 a.pivot; one = a.one; others = others }
  where
    others : (l : ℕ) → r' ≤ l → l < m → ¬ (C' l ≡ j) → z (C' l) ≡ 0
    others l h g e =
        let b = order'.below l g in
        let (k, past, within, q) = free-later {r = r} order (C' l) b ((same (C' l) b).1 (later-free order' rank l h g)) in
        ap z (sym q) ∙ a.others k past within (λ d. e (sym q ∙ d))
