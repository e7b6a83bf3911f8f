-- Each turn keeps the invariant: another row always, a pair where its row is 0 at the pivot columns before it.
use mathlib.Core.Path.{◌≡◌, refl, sym, ap, ◌∙◌}
use mathlib.Core.Bool.{Bool, true, false, cond}
use Prim.Native.Nat.{ℕ, ◌+◌, ◌<◌}
use native.Mathlib.Decide.{dec_lt}
use native.Mathlib.Omega.{arith}
use lib.Dec.{eqb, leb}
use lib.ListN.{length, get_or, get_or-eq_default}
use borrow.Author.Tests.{leb-true, leb-false, eqb-true, eqb-false}
use Rattle.algebra.specs.Reduction.{multiples}
use Rattle.lists.specs.Filled.{zeros}
use Rattle.lists.specs.Tests.{first}
use Rattle.lists.proofs.Filled.{length-zeros, zeros-at}
use Rattle.lists.proofs.Tabulate.{length-tabulate, tabulate-at}
use Rattle.lists.proofs.Tests.{first-before, first-here}
use Rattle.algebra.specs.Sum.{dot}
use Rattle.algebra.specs.Prime.{Prime}
use Rattle.algebra.specs.Matrix.{Vector, Matrix, vector}
use Rattle.algebra.proofs.Congruence.{exact, ◌⊙◌}
use Rattle.algebra.proofs.Dot.{dot-vanish, dot-eq}
use Rattle.algebra.proofs.Reduction.{taken, reduced-small, reduced-split, reduced-pivot}
use Rattle.elimination.specs.Structural.{Pair}
use Rattle.elimination.specs.Pivots.{Found, columns_of, uppers_of, upper_of, rank_of, reduced_by, multiples_by, with_pivot, with_dependent, placed_row, pair, other, turn}
use Rattle.elimination.specs.Invariant.{Invariant}
use Rattle.elimination.proofs.Invariant.{uppers-many, Remainder, dependent-holds, pivot-holds}

-- another row becomes a dependent row or a pivot row
pub other-either : (p m : ℕ) (A : Matrix) (f : Found) (i : ℕ) (P : Found → Type 0) → P (with_dependent f i (multiples_by p f (A i)))
    → ((c : ℕ) → P (with_pivot p m f i c (multiples_by p f (A i)) (reduced_by p f (rank_of f) (A i)))) → P (turn p m A f (other i))
unfolding turn placed_row
other-either p m A f i P dependent pivot = go (leb m c)
  where
    c : ℕ
    c = first m (λ j. eqb (reduced_by p f (rank_of f) (A i) j) 0)

    go : (b : Bool) → P (cond b (with_dependent f i (multiples_by p f (A i))) (with_pivot p m f i c (multiples_by p f (A i)) (reduced_by p f (rank_of f) (A i))))
    go true = dependent
    go false = pivot c

-- ---- reduction by the rows of U found so far

module _ (p n m : ℕ) (A : Matrix) (prime : Prime p) (f : Found) (v : Invariant p n m A f) (i : ℕ) (small : (j : ℕ) → j < m → A i j < p) where
  pos : 0 < p
  pos = omega (arith, prime.two)

  inside : (k : ℕ) → k < rank_of f → vector (columns_of f) k < m
  inside k h = (v.echelon.rows k (omega (arith, uppers-many f))).inside

  abbrev remains : Vector
  remains = reduced_by p f (rank_of f) (A i)

  abbrev each : Vector
  each = taken p pos m (rank_of f) (vector (columns_of f)) (upper_of f) inside (A i) small

  pub multiple-at : (k : ℕ) → k < rank_of f → get_or (multiples_by p f (A i)) k 0 ≡ reduced_by p f k (A i) (get_or (columns_of f) k 0)
  unfolding multiples_by multiples
  multiple-at k h = tabulate-at (rank_of f) (λ k. reduced_by p f k (A i) (get_or (columns_of f) k 0)) k h

  pub multiples-long : length (multiples_by p f (A i)) ≡ rank_of f
  unfolding multiples_by multiples
  multiples-long = length-tabulate (rank_of f) (λ k. reduced_by p f k (A i) (get_or (columns_of f) k 0))

  pub multiple-residue : (k : ℕ) → get_or (multiples_by p f (A i)) k 0 < p
  multiple-residue k = go (dec_lt k (rank_of f))
    where
      go : Dec (k < rank_of f) → get_or (multiples_by p f (A i)) k 0 < p
      go (yes h) = rw (multiple-at k h) (reduced-small p pos m (rank_of f) (vector (columns_of f)) (upper_of f) inside (A i) small k (vector (columns_of f) k) (inside k h))
      go (no h) = omega (arith, pos, get_or-eq_default (multiples_by p f (A i)) 0 {n = k} (omega (arith, multiples-long)))

  pub reduced-remainder : i < n → Remainder p n m A f i (multiples_by p f (A i)) remains
  unfolding taken
  reduced-remainder row =
      record {
        row = row;
        long = multiples-long ∙ sym (uppers-many f);
        residues = multiple-residue;
        small = reduced-small p pos m (rank_of f) (vector (columns_of f)) (upper_of f) inside (A i) small (rank_of f);
        clear = λ k h. reduced-pivot p pos m (rank_of f) (vector (columns_of f)) (upper_of f) inside (A i) small
            (λ k j l b. (v.echelon.rows k (omega (arith, uppers-many f))).left j l)
            (λ k b. (v.echelon.rows k (omega (arith, uppers-many f))).unit)
            k (omega (arith, uppers-many f));
        split = λ j l.
            reduced-split p pos m (rank_of f) (vector (columns_of f)) (upper_of f) inside (A i) small (rank_of f) (omega arith) j
            ⊙ exact (ap (λ (x : ℕ). remains j + x) (whole j));
      }
    where
      whole : (j : ℕ) → dot (rank_of f) each (λ k. upper_of f k j) ≡ dot (length (uppers_of f)) (vector (multiples_by p f (A i))) (λ k. upper_of f k j)
      whole j =
          dot-eq (rank_of f) {u = each} {u' = vector (multiples_by p f (A i))} {v = λ k. upper_of f k j} (λ k h. sym (multiple-at k h)) (λ k h. refl)
          ∙ ap (λ (r : ℕ). dot r (vector (multiples_by p f (A i))) (λ k. upper_of f k j)) (sym (uppers-many f))

-- ---- the two turns

module _ (p n m : ℕ) (A : Matrix) (prime : Prime p) (small : (i j : ℕ) → i < n → j < m → A i j < p) (f : Found) (v : Invariant p n m A f) where
  pub other-holds : (i : ℕ) → i < n → Invariant p n m A (turn p m A f (other i))
  unfolding turn placed_row
  other-holds i row = go (leb m c) refl
    where
      w : Vector
      w = reduced_by p f (rank_of f) (A i)

      c : ℕ
      c = first m (λ j. eqb (w j) 0)

      h : Remainder p n m A f i (multiples_by p f (A i)) w
      h = reduced-remainder p n m A prime f v i (λ j l. small i j row l) row

      go : (b : Bool) → leb m c ≡ b → Invariant p n m A (cond b (with_dependent f i (multiples_by p f (A i))) (with_pivot p m f i c (multiples_by p f (A i)) w))
      go true e =
          dependent-holds p n m A f i (multiples_by p f (A i)) w v h
          (λ j l. eqb-true (w j) 0 (first-before m (λ j. eqb (w j) 0) j (omega (arith, leb-true m c e))))
      go false e =
          pivot-holds p n m A prime f i c (multiples_by p f (A i)) w v h (leb-false m c e)
          (eqb-false (w c) 0 (first-here m (λ j. eqb (w j) 0) (leb-false m c e)))

  pub pair-holds : (q : Pair) → q.row < n → q.column < m → ¬ (A q.row q.column ≡ 0)
      → ((k : ℕ) → k < rank_of f → A q.row (get_or (columns_of f) k 0) ≡ 0) → Invariant p n m A (turn p m A f (pair q))
  unfolding turn
  pair-holds q row column here clear = pivot-holds p n m A prime f q.row q.column (zeros (rank_of f)) (A q.row) v h column here
    where
      h : Remainder p n m A f q.row (zeros (rank_of f)) (A q.row)
      h =
          record {
            row = row;
            long = length-zeros (rank_of f) ∙ sym (uppers-many f);
            residues = λ k. omega (arith, zeros-at (rank_of f) k, prime.two);
            small = λ j l. small q.row j row l;
            clear = λ k b. clear k (omega (arith, uppers-many f));
            split = λ j l. exact (omega (arith, dot-vanish (length (uppers_of f)) {u = vector (zeros (rank_of f))} (λ k. upper_of f k j) (λ k b. zeros-at (rank_of f) k)));
          }
