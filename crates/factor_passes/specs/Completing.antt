-- What is completed before the pass and after it: the orders, and the factors of what was found.
--   ColumnsCompleted n s C₀ C w    C is C₀, with its first s numbers followed by the others rising where at most 32 rows and columns are left; the marks are cleared
--   FoundFrom R C L r l total f    what the first pass found is held: the pivots of f, and R is to be completed by the other rows rising; L holds its rows, those of
--                                  dependent rows at the end
--   CompletedFor f m R C L         R, C and L are those of the factors of f, which has m columns
--   Completes R₀ C₀ L₀ w₀ ..       so they are, whatever was found, and the working row is cleared
use Rattle.std.specs.Prelude.{ℕ, ◌+◌, ◌≤◌, ◌≡◌, List, ◌++◌, length, take}
use Rattle.lists.specs.Filled.{zeros}
use Rattle.algebra.specs.Matrix.{Distinct, Permutation, vector}
use Rattle.sparse.specs.Matrix.{Compressed}
use Rattle.elimination.specs.Pivots.{Found, columns_of, rank_of}
use Rattle.lists.specs.Rest.{rest}
use Rattle.elimination.specs.Factoring.{rows_of}
use Rattle.factor_turn.specs.State.{pivot_rows}
use Rattle.factor_turn.specs.Keeping.{FillFrom, FillDone}

pub record ColumnsCompleted (n s : ℕ) (C₀ C w : List ℕ) : Type 0 where
  pub order : n ≤ s + 32 → length C₀ ≤ s + 32 → C ≡ take s C ++ rest (take s C) (length C)
  pub front : take s C ≡ take s C₀
  pub long : length C ≡ length C₀
  pub cleared : w ≡ zeros (length C₀)

pub record FoundFrom (R C : List ℕ) (L : Compressed) (r l total : ℕ) (f : Found) : Type 0 where
  pub pivots : take r R ≡ pivot_rows f
  pub columns : take r C ≡ columns_of f
  pub distinct : Distinct (rank_of f) (length C) (vector (columns_of f))
  pub rows : rows_of f ≡ pivot_rows f ++ rest (pivot_rows f) (length R)
  pub many : length (rows_of f) ≡ length R
  pub order : Permutation (length R) (vector (rows_of f))
  pub lower : FillFrom f L r l total

pub record CompletedFor (f : Found) (m : ℕ) (R C : List ℕ) (L : Compressed) : Type 0 where
  pub rows : R ≡ rows_of f
  pub columns : C ≡ columns_of f ++ rest (columns_of f) m
  pub lower : FillDone f L

pub record Completes (R₀ C₀ : List ℕ) (L₀ : Compressed) (w₀ R C : List ℕ) (L : Compressed) (w : List ℕ) (r l total : ℕ) : Type 0 where
  pub completed : (f : Found) → FoundFrom R₀ C₀ L₀ r l total f → CompletedFor f (length C₀) R C L
  pub clear : w ≡ zeros (length w₀)
