-- The factors have the published shape, their product is the matrix, and they are stored in their form.
use mathlib.Core.Path.{◌≡◌, sym, ap, ◌∙◌, subst₂}
use mathlib.Core.Bool.{true}
use mathlib.Core.List.{List, [], ◌++◌, map}
use Prim.Native.Nat.{ℕ, ◌+◌, ◌≤◌, ◌<◌}
use native.Mathlib.Omega.{arith}
use lib.ListN.{length, get_or, length-append, length-map, get_or-map, get_or-append, get_or-eq_default}
use Rattle.algebra.specs.Congruence.{◌≈⟨◌⟩◌}
use Rattle.algebra.specs.Sum.{dot}
use Rattle.algebra.specs.Prime.{Prime}
use Rattle.algebra.specs.Matrix.{Matrix, Permutation, vector}
use Rattle.algebra.specs.Factors.{Factors}
use Rattle.algebra.specs.Rank.{Rank}
use Rattle.algebra.proofs.Congruence.{exact, ◌⊙◌, equal-residues}
use Rattle.algebra.proofs.Dot.{dot-eq}
use Rattle.algebra.proofs.Rank.{rank}
use Rattle.sparse.specs.Matrix.{Compressed, matrix, form}
use Rattle.sparse.specs.Set.{Set}
use Rattle.sparse.specs.Dense.{compress}
use Rattle.sparse.proofs.DenseLaws.{compress-matrix, compress-lengths}
use Rattle.sparse.proofs.DenseForm.{compress-form}
use Rattle.sparse.proofs.Rows.{form-below}
use Rattle.elimination.specs.Structural.{Pair}
use Rattle.elimination.specs.Selection.{structural}
use Rattle.elimination.specs.Pairs.{Pairs}
use Rattle.elimination.specs.Pivots.{Found, columns_of, uppers_of, rank_of, turns}
use Rattle.lists.specs.Rest.{rest}
use Rattle.elimination.specs.Factoring.{schedule, nothing, rows_of, lowers_of, factored, factor_from, factor}
use Rattle.algebra.proofs.Listed.{append-both}
use Rattle.algebra.proofs.Completion.{completed, completed-length}
use Rattle.elimination.specs.Invariant.{cells, no_pivot, no_dependent, Lower, Invariant}
use Rattle.elimination.proofs.Echelon.{echelon-distinct}
use Rattle.elimination.proofs.Invariant.{columns-many, uppers-many}
use Rattle.elimination.proofs.Selected.{structural-pairs}
use Rattle.elimination.proofs.RowsFound.{rows-length, rows-permutation}
use Rattle.elimination.proofs.Schedule.{schedule-holds}

-- the set g stores PLUQ factors of the n by m matrix A, in lists of their lengths
pub record StoredFactors (p n m : ℕ) (A : Matrix) (g : Set) : Type 0 where
  pub factors : Factors p n m g.r A (vector g.R) (vector g.C) (matrix g.L) (matrix g.U)
  pub L-form : form p g.r g.L ≡ true
  pub U-form : form p m g.U ≡ true
  pub R-length : length g.R ≡ n
  pub C-length : length g.C ≡ m
  pub L-starts : length g.L.starts ≡ n + 1
  pub U-starts : length g.U.starts ≡ g.r + 1

-- ---- the rows of L, and the rank

pub lowers-many : (f : Found) → length (lowers_of f) ≡ length (rows_of f)
unfolding lowers_of rows_of
lowers-many f =
    length-append (map (λ q. q.lower) f.pivots) (map (λ d. d.lower) f.dependents)
    ∙ omega (
      arith,
      length-append (map (λ q. q.row) f.pivots) (map (λ d. d.row) f.dependents),
      length-map f.pivots (λ q. q.lower),
      length-map f.pivots (λ q. q.row),
      length-map f.dependents (λ d. d.lower),
      length-map f.dependents (λ d. d.row),
    )

pub rank-rows : (f : Found) → rank_of f ≤ length (rows_of f)
unfolding rows_of
rank-rows f = omega (arith, length-append (map (λ q. q.row) f.pivots) (map (λ d. d.row) f.dependents), length-map f.pivots (λ q. q.row))

pub pivot-lower : (f : Found) (k : ℕ) → k < rank_of f → get_or (lowers_of f) k [] ≡ (get_or f.pivots k no_pivot).lower
unfolding lowers_of
pivot-lower f k h =
    get_or-append (map (λ q. q.lower) f.pivots) (map (λ d. d.lower) f.dependents) [] k (omega (arith, length-map f.pivots (λ q. q.lower)))
    ∙ get_or-map (λ q. q.lower) f.pivots k no_pivot

module _ (p n m : ℕ) (A : Matrix) (f : Found) (v : Invariant p n m A f) where
  -- each row, in R's order, is the combination that its row of L states
  pub row-combines : (i : ℕ) → i < length (rows_of f) → Lower p n m A (uppers_of f) (get_or (rows_of f) i 0) (get_or (lowers_of f) i [])
  unfolding rows_of lowers_of
  row-combines =
      append-both (Lower p n m A (uppers_of f)) 0 [] (map (λ q. q.row) f.pivots) (map (λ d. d.row) f.dependents) (map (λ q. q.lower) f.pivots) (map (λ d. d.lower) f.dependents)
      (length-map f.pivots (λ q. q.row) ∙ sym (length-map f.pivots (λ q. q.lower)))
      (λ k h. subst₂ (Lower p n m A (uppers_of f)) (sym (get_or-map (λ q. q.row) f.pivots k no_pivot)) (sym (get_or-map (λ q. q.lower) f.pivots k no_pivot))
      (v.pivot-rows k (omega (arith, length-map f.pivots (λ q. q.row)))).combines)
      (λ k h. subst₂ (Lower p n m A (uppers_of f)) (sym (get_or-map (λ d. d.row) f.dependents k no_dependent)) (sym (get_or-map (λ d. d.lower) f.dependents k no_dependent))
      (v.dependent-rows k (omega (arith, length-map f.dependents (λ d. d.row)))))

  lower-above : (i k : ℕ) → i < k → k < rank_of f → get_or (get_or (lowers_of f) i []) k 0 ≡ 0
  lower-above i k l h = get_or-eq_default (get_or (lowers_of f) i []) 0 (omega (arith, ap length (pivot-lower f i (omega arith)), (v.pivot-rows i (omega arith)).long))

  lower-diagonal : (k : ℕ) → k < rank_of f → ¬ (get_or (get_or (lowers_of f) k []) k 0 ≡ 0)
  lower-diagonal k h e = (v.pivot-rows k h).diagonal (ap (λ (l : List ℕ). get_or l k 0) (sym (pivot-lower f k h)) ∙ e)

  columns-whole : length (columns_of f ++ rest (columns_of f) m) ≡ m
  columns-whole = completed-length (columns_of f) m (echelon-distinct p m (columns_of f) (uppers_of f) v.echelon)

  pub rank-columns : rank_of f ≤ m
  rank-columns = omega (arith, columns-whole, columns-many f, length-append (columns_of f) (rest (columns_of f) m))

-- ---- the factors from what was found, where each row was

module _ (p n m : ℕ) (A : Matrix) (prime : Prime p) (f : Found) (v : Invariant p n m A f) (many : length (rows_of f) ≡ n) (order : Permutation n (vector (rows_of f))) where
  column-at : (k : ℕ) → k < rank_of f → get_or (columns_of f ++ rest (columns_of f) m) k 0 ≡ get_or (columns_of f) k 0
  column-at k h = get_or-append (columns_of f) (rest (columns_of f) m) 0 k (omega (arith, columns-many f))

  diagonal : (k : ℕ) → k < rank_of f → ¬ (matrix (compress (lowers_of f)) k k ≈⟨ p ⟩ 0)
  diagonal k h e =
      lower-diagonal p n m A f v k h
      (equal-residues ((row-combines p n m A f v k (omega (arith, rank-rows f))).residues k) (omega (arith, prime.two)) (exact (sym (compress-matrix (lowers_of f) k k)) ⊙ e))

  product : (i j : ℕ) → i < n → j < m → A (get_or (rows_of f) i 0) j ≈⟨ p ⟩ dot (rank_of f) (matrix (compress (lowers_of f)) i) (λ k. matrix (compress (uppers_of f)) k j)
  product i j h l =
      (row-combines p n m A f v i (omega arith)).product j l
      ⊙ exact (ap (λ (r : ℕ). dot r (vector (get_or (lowers_of f) i [])) (λ k. cells (uppers_of f) k j)) (uppers-many f)
      ∙ dot-eq (rank_of f) {u = vector (get_or (lowers_of f) i [])} {v = λ k. cells (uppers_of f) k j}
      (λ k b. sym (compress-matrix (lowers_of f) i k)) (λ k b. sym (compress-matrix (uppers_of f) k j)))

  pub factored-factors : Factors p n m (rank_of f) A (vector (rows_of f)) (vector (columns_of f ++ rest (columns_of f) m)) (matrix (compress (lowers_of f))) (matrix (compress (uppers_of f)))
  factored-factors =
      record {
        rows = order;
        columns = completed (columns_of f) m (echelon-distinct p m (columns_of f) (uppers_of f) v.echelon);
        rank-rows = omega (arith, rank-rows f);
        rank-columns = rank-columns p n m A f v;
        L-above = λ i k l h. compress-matrix (lowers_of f) i k ∙ lower-above p n m A f v i k l h;
        L-diagonal = diagonal;
        U-left = λ k j l h. ap (matrix (compress (uppers_of f)) k) (column-at j (omega arith)) ∙ compress-matrix (uppers_of f) k (get_or (columns_of f) j 0) ∙ (v.echelon.rows k (omega (arith, uppers-many f))).left j l;
        U-unit = λ k h. ap (matrix (compress (uppers_of f)) k) (column-at k h) ∙ compress-matrix (uppers_of f) k (get_or (columns_of f) k 0) ∙ (v.echelon.rows k (omega (arith, uppers-many f))).unit;
        product = product;
      }

  pub factored-stored : StoredFactors p n m A (factored m f)
  unfolding factored
  factored-stored =
      record {
        factors = factored-factors;
        L-form = compress-form p (rank_of f) (lowers_of f) (record {
          narrow = λ i h. omega (arith, (row-combines p n m A f v i (omega (arith, lowers-many f))).narrow, uppers-many f);
          residues = λ i j h. (row-combines p n m A f v i (omega (arith, lowers-many f))).residues j;
        });
        U-form = compress-form p m (uppers_of f) (record {
          narrow = λ k h. omega (arith, (v.echelon.rows k h).wide);
          residues = λ k j h. (v.echelon.rows k h).residues j;
        });
        R-length = many;
        C-length = columns-whole p n m A f v;
        L-starts = (compress-lengths (lowers_of f)).starts-are ∙ omega (arith, lowers-many f);
        U-starts = (compress-lengths (uppers_of f)).starts-are ∙ omega (arith, uppers-many f);
      }

-- ---- the theorem, and its corollary for the structural pivots of a stored matrix

pub factor_from-stored : (p n m : ℕ) (A : Matrix) (pairs : List Pair) → Prime p → ((i j : ℕ) → i < n → j < m → A i j < p) → Pairs n m A pairs
    → StoredFactors p n m A (factor_from p n m A pairs)
unfolding factor_from
factor_from-stored p n m A pairs prime small h =
    factored-stored p n m A prime (turns p m A nothing (schedule n pairs)) (schedule-holds p n m A prime small pairs h) (rows-length p n m A pairs h) (rows-permutation p n m A pairs h)

pub factor-stored : (p n m : ℕ) (A : Compressed) → Prime p → form p m A ≡ true → length A.starts ≡ n + 1 → StoredFactors p n m (matrix A) (factor p n m A)
unfolding factor
factor-stored p n m A prime formed many =
    factor_from-stored p n m (matrix A) (structural A n m) prime (λ i j h l. form-below p m A.starts A.cols A.vals formed i j (omega (arith, prime.two)))
    (structural-pairs p n m A formed many)

-- so r is the rank
pub factor-rank : (p n m : ℕ) (A : Compressed) → Prime p → form p m A ≡ true → length A.starts ≡ n + 1 → Rank p n m (matrix A) (factor p n m A).r
factor-rank p n m A prime formed many = rank prime (factor-stored p n m A prime formed many).factors
