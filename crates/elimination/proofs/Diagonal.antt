-- The row of L of each structural pivot holds its diagonal alone.
--   pairs-lower           the rows of L that the pairs give: zeros, and the value of the pair
--   turns-kept            later turns leave them
--   diagonal-alone        so the stored row of L has one entry, of that value, in the diagonal
--   structural-diagonal   of the factors from slip 9's pivots
use Prim.Native.Nat.{ℕ, zero, suc, ◌+◌, ◌≤◌, ◌<◌}
use mathlib.Core.Path.{◌≡◌, refl, sym, ap, ◌∙◌, subst}
use mathlib.Core.Bool.{true}
use mathlib.Core.List.{List, [], ◌∷◌, ◌++◌, map}
use native.Mathlib.Omega.{arith}
use lib.ListN.{length, get_or, get_or-append, get_or-map}
use lib.Seq.{get_or-append_seam}
use Rattle.lists.specs.Filled.{zeros}
use Rattle.algebra.specs.Matrix.{Matrix, vector}
use Rattle.sparse.specs.Matrix.{Compressed, row_of, matrix, form}
use Rattle.sparse.specs.Dense.{columns_from, nonzeros, compress}
use Rattle.sparse.proofs.DenseLaws.{compress-columns, compress-values}
use Rattle.elimination.specs.Structural.{Pair}
use Rattle.elimination.specs.Pairs.{pair_rows, pair_columns}
use Rattle.elimination.specs.Pivots.{Pivot, Found, rank_of, reduced_by, multiples_by, with_pivot, with_dependent, Turn, pair, other, turn, turns}
use Rattle.lists.specs.Rest.{rest}
use Rattle.elimination.specs.Factoring.{schedule, nothing, lowers_of, factored, factor_from}
use Rattle.algebra.proofs.Listed.{snoc-length}
use Rattle.elimination.specs.Invariant.{no_pivot}
use Rattle.elimination.proofs.Turns.{other-either}
use Rattle.elimination.proofs.Schedule.{turns-append}
use Rattle.elimination.proofs.Pairs.{no_pair}
use Rattle.elimination.proofs.Theorem.{pivot-lower}
use Rattle.elimination.specs.Selection.{structural}
use Rattle.elimination.proofs.Selected.{structural-pairs}

-- ---- a row of zeros and one value

columns-one : (j n v : ℕ) → ¬ (v ≡ 0) → columns_from j (zeros n ++ (v ∷ [])) ≡ (j + n) ∷ []
unfolding columns_from zeros
columns-one j zero zero h = absurd (h refl)
columns-one j zero (suc v) h = ap (λ (x : ℕ). x ∷ []) (omega arith)
columns-one j (suc n) v h = columns-one (suc j) n v h ∙ ap (λ (x : ℕ). x ∷ []) (omega arith)

values_one : (n v : ℕ) → ¬ (v ≡ 0) → nonzeros (zeros n ++ (v ∷ [])) ≡ v ∷ []
unfolding nonzeros zeros
values_one zero zero h = absurd (h refl)
values_one zero (suc v) h = refl
values_one (suc n) v h = values_one n v h

-- ---- pivots found stay

record Kept (f f' : Found) : Type 0 where
  rank : rank_of f ≤ rank_of f'
  same : (k : ℕ) → k < rank_of f → get_or f'.pivots k no_pivot ≡ get_or f.pivots k no_pivot

one_kept : (f : Found) (q : Pivot) → Kept f (record { pivots = f.pivots ++ (q ∷ []); dependents = f.dependents })
one_kept f q = record { rank = omega (arith, snoc-length f.pivots q); same = λ k h. get_or-append f.pivots (q ∷ []) no_pivot k h }

module _ (p m : ℕ) (A : Matrix) where
  pivot-kept : (f : Found) (i c : ℕ) (cs : List ℕ) (w : ℕ → ℕ) → Kept f (with_pivot p m f i c cs w)
  unfolding with_pivot
  pivot-kept f i c cs w = one_kept f _

  dependent-kept : (f : Found) (i : ℕ) (cs : List ℕ) → Kept f (with_dependent f i cs)
  unfolding with_dependent
  dependent-kept f i cs = record { rank = omega arith; same = λ k h. refl }

  turn-kept : (f : Found) (t : Turn) → Kept f (turn p m A f t)
  unfolding turn
  turn-kept f (pair q) = pivot-kept f q.row q.column (zeros (rank_of f)) (A q.row)
  turn-kept f (other i) =
      other-either p m A f i (Kept f) (dependent-kept f i (multiples_by p f (A i))) (λ c. pivot-kept f i c (multiples_by p f (A i)) (reduced_by p f (rank_of f) (A i)))

  turns-kept : (f : Found) (ts : List Turn) → Kept f (turns p m A f ts)
  unfolding turns
  turns-kept f [] = record { rank = omega arith; same = λ k h. refl }
  turns-kept f (t ∷ ts) =
      let one = turn-kept f t in
      let more = turns-kept (turn p m A f t) ts in
      record { rank = omega (arith, one.rank, more.rank); same = λ k h. more.same k (omega (arith, one.rank)) ∙ one.same k h }

  -- ---- the pairs

  pair-rank : (f : Found) (q : Pair) → rank_of (turn p m A f (pair q)) ≡ suc (rank_of f)
  unfolding turn with_pivot
  pair-rank f q = snoc-length f.pivots _

  pair-lower : (f : Found) (q : Pair) → (get_or (turn p m A f (pair q)).pivots (rank_of f) no_pivot).lower ≡ zeros (rank_of f) ++ (A q.row q.column ∷ [])
  unfolding turn with_pivot
  pair-lower f q = ap (λ (x : Pivot). x.lower) (get_or-append_seam f.pivots _ [] no_pivot)

  pairs-rank : (f : Found) (qs : List Pair) → rank_of (turns p m A f (map pair qs)) ≡ rank_of f + length qs
  unfolding turns
  pairs-rank f [] = omega arith
  pairs-rank f (q ∷ qs) = omega (arith, pairs-rank (turn p m A f (pair q)) qs, pair-rank f q)

  pairs-lower : (f : Found) (qs : List Pair) (k r : ℕ) → k < length qs → r ≡ rank_of f + k
      → (get_or (turns p m A f (map pair qs)).pivots r no_pivot).lower ≡ zeros r ++ (A (get_or qs k no_pair).row (get_or qs k no_pair).column ∷ [])
  unfolding turns
  pairs-lower f [] k r h e = absurd (omega arith)
  pairs-lower f (q ∷ qs) zero r h e =
      ap (λ (x : Pivot). x.lower) ((turns-kept (turn p m A f (pair q)) (map pair qs)).same r (omega (arith, pair-rank f q)))
      ∙ subst (λ (x : ℕ). (get_or (turn p m A f (pair q)).pivots x no_pivot).lower ≡ zeros x ++ (A q.row q.column ∷ [])) (let s : rank_of f ≡ r = omega arith in s) (pair-lower f q)
  pairs-lower f (q ∷ qs) (suc k) r h e = pairs-lower (turn p m A f (pair q)) qs k r (omega arith) (omega (arith, pair-rank f q))

  -- ---- the stored rows

  module _ (n : ℕ) (ps : List Pair) (k : ℕ) (h : k < length ps) where
    abbrev value : ℕ
    value = A (vector (pair_rows ps) k) (vector (pair_columns ps) k)

    lower-row : get_or (lowers_of (turns p m A nothing (schedule n ps))) k [] ≡ zeros k ++ (value ∷ [])
    unfolding schedule
    lower-row =
        rw (turns-append p m A nothing (map pair ps) (map other (rest (pair_rows ps) n)))
        (pivot-lower (turns p m A start (map other (rest (pair_rows ps) n))) k (omega (arith, later.rank, pairs-rank nothing ps))
        ∙ ap (λ (x : Pivot). x.lower) (later.same k (omega (arith, pairs-rank nothing ps)))
        ∙ pairs-lower nothing ps k k h (omega arith)
        ∙ (λ t. zeros k ++ (A (sym (get_or-map (λ q. q.row) ps k no_pair) t) (sym (get_or-map (λ q. q.column) ps k no_pair) t) ∷ [])))
      where
        start : Found
        start = turns p m A nothing (map pair ps)

        later : Kept start (turns p m A start (map other (rest (pair_rows ps) n)))
        later = turns-kept start (map other (rest (pair_rows ps) n))

    -- row k of L has the diagonal, with the value that the plan has at the pivot, and nothing else
    pub diagonal-alone : ¬ (value ≡ 0)
        → (row_of (factor_from p n m A ps).L.starts k (factor_from p n m A ps).L.cols ≡ k ∷ []) × (row_of (factor_from p n m A ps).L.starts k (factor_from p n m A ps).L.vals ≡ value ∷ [])
    unfolding factor_from factored compress
    diagonal-alone z = (
      compress-columns (lowers_of found) k ∙ ap (columns_from 0) lower-row ∙ columns-one 0 k value z ∙ ap (λ (x : ℕ). x ∷ []) (omega arith),
      compress-values (lowers_of found) k ∙ ap nonzeros lower-row ∙ values_one k value z,
    )
      where
        found : Found
        found = turns p m A nothing (schedule n ps)

pub structural-diagonal : (p n m : ℕ) (A : Compressed) → form p m A ≡ true → length A.starts ≡ n + 1 → (k : ℕ) → k < length (structural A n m)
    → row_of (factor_from p n m (matrix A) (structural A n m)).L.starts k (factor_from p n m (matrix A) (structural A n m)).L.cols ≡ k ∷ []
structural-diagonal p n m A formed many k h =
    (diagonal-alone p m (matrix A) n (structural A n m) k h ((structural-pairs p n m A formed many).here k h)).0
