-- Sizes that the invariant bounds: the rank, and the entries of U and of L.
use mathlib.Core.Path.{ap, subst}
use mathlib.Core.List.{List, [], ◌∷◌}
use Prim.Native.Nat.{ℕ, zero, suc, ◌+◌, ◌*◌, ◌^◌, ◌≤◌, ◌<◌}
use native.Mathlib.Nat.{mul-le-mul_right}
use native.Mathlib.Omega.{arith}
use lib.ListN.{length, get_or, length-append, length-map, get_or-map}
use Rattle.algebra.specs.Matrix.{Matrix, Distinct, vector}
use Rattle.sparse.specs.Dense.{nonzeros}
use Rattle.elimination.specs.Pivots.{Found, columns_of, uppers_of, rank_of}
use Rattle.lists.specs.Rest.{rest}
use Rattle.elimination.specs.Factoring.{lowers_of, entries}
use Rattle.algebra.proofs.Completion.{completed-length}
use Rattle.elimination.specs.Invariant.{no_pivot, no_dependent, Invariant}
use Rattle.elimination.proofs.Echelon.{echelon-distinct}
use Rattle.elimination.proofs.Invariant.{columns-many, uppers-many}
use Rattle.factor_turn.specs.State.{pivot_lowers, dependent_lowers}
use Rattle.factor_turn.proofs.Steps.{lowers-entries}

nonzeros-most : (row : List ℕ) → length (nonzeros row) ≤ length row
unfolding nonzeros
nonzeros-most [] = omega arith
nonzeros-most (zero ∷ row) = omega (arith, nonzeros-most row)
nonzeros-most (suc v ∷ row) = omega (arith, nonzeros-most row)

entries-most : (m : ℕ) (rows : List (List ℕ)) → ((k : ℕ) → k < length rows → length (get_or rows k []) ≤ m) → entries rows ≤ length rows * m
unfolding entries
entries-most m [] h = omega arith
entries-most m (row ∷ rows) h = omega (arith, nonzeros-most row, h 0 (omega arith), entries-most m rows (λ k l. h (suc k) (omega arith)))

module _ (p n m : ℕ) (A : Matrix) (f : Found) (v : Invariant p n m A f) where
  pub columns-distinct : Distinct (rank_of f) m (vector (columns_of f))
  columns-distinct = subst (λ (r : ℕ). Distinct r m (vector (columns_of f))) (columns-many f) (echelon-distinct p m (columns_of f) (uppers_of f) v.echelon)

  pub rank_most : rank_of f ≤ m
  rank_most =
      omega (
        arith,
        completed-length (columns_of f) m (echelon-distinct p m (columns_of f) (uppers_of f) v.echelon),
        length-append (columns_of f) (rest (columns_of f) m),
        columns-many f,
      )

  pub U-most : entries (uppers_of f) ≤ rank_of f * m
  U-most = subst (λ (r : ℕ). entries (uppers_of f) ≤ r * m) (uppers-many f) (entries-most m (uppers_of f) (λ k h. omega (arith, (v.echelon.rows k h).wide)))

  pub L-most : entries (pivot_lowers f) ≤ rank_of f * m
  unfolding pivot_lowers
  L-most =
      subst (λ (r : ℕ). entries (pivot_lowers f) ≤ r * m) (length-map f.pivots (λ q. q.lower))
      (entries-most m (pivot_lowers f) (λ k h. let b : k < rank_of f = omega (arith, length-map f.pivots (λ q. q.lower)) in
      omega (arith, ap length (get_or-map (λ q. q.lower) f.pivots k no_pivot), (v.pivot-rows k b).long, rank_most)))

  D-most : entries (dependent_lowers f) ≤ length f.dependents * m
  unfolding dependent_lowers
  D-most =
      subst (λ (d : ℕ). entries (dependent_lowers f) ≤ d * m) (length-map f.dependents (λ d. d.lower))
      (entries-most m (dependent_lowers f) (λ k h. let b : k < length f.dependents = omega (arith, length-map f.dependents (λ d. d.lower)) in
      omega (arith, ap length (get_or-map (λ d. d.lower) f.dependents k no_dependent), (v.dependent-rows k b).narrow, uppers-many f, rank_most)))

  -- all entries of L
  pub lowers-fit : rank_of f + length f.dependents ≤ n → n * m < 2 ^ 32 → entries (lowers_of f) < 2 ^ 32
  lowers-fit few small =
      omega (
        arith,
        small,
        lowers-entries f,
        L-most,
        D-most,
        mul-le-mul_right {m = rank_of f + length f.dependents} {n = n} m few,
      )
