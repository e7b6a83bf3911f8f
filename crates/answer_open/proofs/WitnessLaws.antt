-- What a witness marks is closed, and marks on closed columns leave what is settled as it is.
use mathlib.Core.Path.{◌≡◌, refl, sym, ap, ◌∙◌}
use mathlib.Core.Logic.{◌≢◌}
use mathlib.Core.List.{List}
use Prim.Native.Nat.{ℕ, ◌+◌, ◌^◌, ◌≤◌, ◌<◌}
use native.Mathlib.Decide.{ℕ_discrete}
use native.Mathlib.Omega.{arith}
use lib.ListN.{length, get_or, set, length-set}
use lib.Seq.{get_or-set_same, get_or-set_other}
use Rattle.lists.specs.Filled.{zeros}
use Rattle.lists.proofs.Filled.{zeros-at, length-zeros}
use Rattle.lists.proofs.Tabulate.{tabulate-at, length-tabulate}
use Rattle.algebra.specs.Matrix.{Permutation, vector}
use Rattle.sparse.specs.Row.{Below}
use Rattle.sparse.specs.Matrix.{Compressed, matrix}
use Rattle.pluq.proofs.Orders.{permutation-means}
use Rattle.row_space.specs.Needs.{UpperReady}
use Rattle.row_space.specs.Substitution.{back_u, through_u}
use Rattle.answer_open.specs.Opening.{open_cell, Settled}
use Rattle.answer_open.specs.Witness.{Chosen, NonzeroPivot, ClosedPivot, ChangedOnly}
use Rattle.answer_open.specs.Needs.{EchelonPassed, ChooseReady, MarkReady, RoundReady}
use Rattle.answer_open.proofs.Kernel.{filled-closed}
use Rattle.answer_open.proofs.PivotLaws.{order, shape}

-- ---- the choice of values: the columns from place r to place i - 1 of C have theirs

pub record Choosing (p r : ℕ) (C z : List ℕ) (x i : ℕ) : Type 0 where
  pub number : x < 2 ^ 31
  pub past : r ≤ i
  pub long : length z ≡ length C
  pub chosen : Chosen p r C z

module _ (p r : ℕ) (C z₀ : List ℕ) (d : ChooseReady p r C z₀) where
  pub choosing-starts : (z : List ℕ) (x : ℕ) → x < 2 ^ 31 → z ≡ zeros (length z₀) → Choosing p r C z x r
  choosing-starts z x b e =
      record {
        number = b;
        past = omega arith;
        long = ap length e ∙ length-zeros (length z₀) ∙ sym d.long;
        chosen = record { residues = λ t. omega (arith, zero-at t, d.two); pivots = λ l h. zero-at (get_or C l 0) };
      }
    where
      zero-at : (c : ℕ) → get_or z c 0 ≡ 0
      zero-at c = ap (λ (l : List ℕ). get_or l c 0) e ∙ zeros-at (length z₀) c

  columns : Permutation (length C) (vector C)
  columns = permutation-means (length C) C refl d.columns

  module _ (z : List ℕ) (x i c : ℕ) (h : i < length z) (ec : c ≡ get_or C i 0) (s : Choosing p r C z x i) where
    pub choosing-place : c < length z
    choosing-place = omega (arith, ec, s.long, columns.below i (omega (arith, s.long)))

    pub choosing-turn : (v y : ℕ) → v < p → y < 2 ^ 31 → Choosing p r C (set z c v) y (i + 1)
    choosing-turn v y small b =
        record {
          number = b;
          past = omega (arith, s.past);
          long = length-set z c v ∙ s.long;
          chosen = record { residues = λ t. residue t (ℕ_discrete t c); pivots = λ l g. get_or-set_other z c (get_or C l 0) v 0 (λ q. away l g (q ∙ ec)) ∙ s.chosen.pivots l g };
        }
      where
        residue : (t : ℕ) → Dec (t ≡ c) → get_or (set z c v) t 0 < p
        residue t (yes e) = rw e (rw (get_or-set_same z c v 0 choosing-place) small)
        residue t (no e) = rw (get_or-set_other z c t v 0 e) (s.chosen.residues t)

        away : (l : ℕ) → l < r → get_or C l 0 ≢ get_or C i 0
        away l g q = omega (arith, s.past, columns.apart l i (omega (arith, s.past, s.long)) (omega (arith, s.long)) q)

-- ---- lists that differ only where P holds

pub changed-by : (P Q : ℕ → Type 0) (o₀ o : List ℕ) → ((c : ℕ) → P c → Q c) → ChangedOnly P o₀ o → ChangedOnly Q o₀ o
changed-by P Q o₀ o f a = record { long = a.long; kept = λ c n. a.kept c (λ h. n (f c h)) }

-- ---- the loop over the pivot columns: those of the first i rows are marked where z is not 0

pub record Marking (left : ℕ) (C z o₀ o : List ℕ) (found i : ℕ) : Type 0 where
  pub most : found ≤ i
  pub changed : ChangedOnly (NonzeroPivot left C z) o₀ o

-- ---- one witness

module _ (p r left : ℕ) (U : Compressed) (C z₀ o₀ : List ℕ) (d : RoundReady p r left U C z₀ o₀) where
  abbrev m : ℕ
  m = length o₀

  places : Below (length o₀) C
  places i h = (order p r U C m d.factor).below i (omega (arith, d.factor.long))

  module _ (z₁ : List ℕ) (long₁ : length z₁ ≡ length z₀) (chosen : Chosen p r C z₁) where
    wide : length z₁ ≡ length o₀
    wide = long₁ ∙ d.long

    pub round-solves : UpperReady p r U C z₁
    round-solves =
        record {
          positive = omega (arith, d.factor.prime.two);
          formed = rw wide d.factor.formed;
          rows = d.factor.rows;
          order = omega (arith, d.factor.rank, d.factor.long);
          places = rw wide places;
          small = λ i h. chosen.residues i;
        }

    module _ (z₂ : List ℕ) (solved : z₂ ≡ through_u p (length z₁) r (vector C) (matrix U) (vector z₁)) where
      pub round-marks : MarkReady left C z₂ o₀
      round-marks =
          record {
            inside = omega (arith, d.inside, d.factor.rank, d.factor.long);
            values = rw (ap length solved ∙ length-tabulate (length z₁) (back_u p (length z₁) (vector C) (matrix U) r (vector z₁)) ∙ wide) places;
            places = places;
          }

      value : (c : ℕ) → c < m → get_or z₂ c 0 ≡ back_u p m (vector C) (matrix U) r (vector z₁) c
      value c h =
          ap (λ (l : List ℕ). get_or l c 0) solved
          ∙ tabulate-at (length z₁) (back_u p (length z₁) (vector C) (matrix U) r (vector z₁)) c (omega (arith, wide))
          ∙ ap (λ (n : ℕ). back_u p n (vector C) (matrix U) r (vector z₁) c) wide

      closed : (c : ℕ) → NonzeroPivot left C z₂ c → ClosedPivot p m (vector C) (matrix U) r left c
      closed c a =
          let s = shape p r U C m d.factor in
          let inside : c < m = rw a.column (places a.row (omega (arith, a.inside, d.inside, d.factor.rank, d.factor.long))) in
          record {
            row = a.row;
            inside = a.inside;
            column = a.column;
            closed = filled-closed d.factor.prime m r (vector C) (matrix U) (order p r U C m d.factor) d.factor.rank s.left s.unit (vector z₁) chosen.residues chosen.pivots c inside (λ e. a.nonzero (value c inside ∙ e));
          }

      pub round-closes : (o : List ℕ) → ChangedOnly (NonzeroPivot left C z₂) o₀ o → ChangedOnly (ClosedPivot p (length o₀) (vector C) (matrix U) r left) o₀ o
      round-closes o = changed-by (NonzeroPivot left C z₂) (ClosedPivot p m (vector C) (matrix U) r left) o₀ o closed

-- ---- several witnesses: z is lent to each, and o has changed only at closed columns

pub record Witnessing (p r left : ℕ) (U : Compressed) (C z₀ z o₀ o : List ℕ) : Type 0 where
  pub long : length z ≡ length z₀
  pub changed : ChangedOnly (ClosedPivot p (length o₀) (vector C) (matrix U) r left) o₀ o

-- ---- the marks do not change what is settled

module _ (p r : ℕ) (U : Compressed) (C : List ℕ) (m : ℕ) (f : EchelonPassed p r U C m) where
  pub settled-changed : (o₀ o : List ℕ) (k : ℕ) → ChangedOnly (ClosedPivot p m (vector C) (matrix U) r k) o₀ o → Settled p r U C m o₀ k → Settled p r U C m o k
  settled-changed o₀ o k a s =
      record {
        inside = s.inside;
        long = a.long ∙ s.long;
        early = λ i h q. early i h q (ℕ_discrete (open_cell p m (vector C) (matrix U) r (get_or C i 0)) 0);
        done = λ i h g. kept i h (omega (arith, f.rank)) ∙ s.done i h g;
        rest = λ i h g. kept i (omega (arith, s.inside)) g ∙ s.rest i h g;
      }
    where
      kept : (i : ℕ) → k ≤ i → i < m → get_or o (get_or C i 0) 0 ≡ get_or o₀ (get_or C i 0) 0
      kept i h g = a.kept (get_or C i 0) (λ q. omega (arith, q.inside, (order p r U C m f).apart i q.row g (omega (arith, q.inside, s.inside, f.rank)) q.column))

      early : (i : ℕ) → i < k → (get_or o (get_or C i 0) 0 ≡ 0 → ⊥) → Dec (open_cell p m (vector C) (matrix U) r (get_or C i 0) ≡ 0) → open_cell p m (vector C) (matrix U) r (get_or C i 0) ≡ 0
      early i h q (yes e) = e
      early i h q (no e) = s.early i h (λ z. q (a.kept (get_or C i 0) (λ b. e b.closed) ∙ z))
