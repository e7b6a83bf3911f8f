-- Which columns are open: the verdicts of the unit questions (document 01's open words).
--   open_cell p m C U r j        1 where the unit question at column j is open, 0 where it is closed
--   ReducesOn p C U k r w₀ w    w stands for y reduced by r rows of U, for each y that w₀ stands for when reduced by k rows
--   Settled p r U C m o k       o has the verdict of each column but the pivot columns of the first k rows; of those the ones that are not 0 in o are closed
--   SettledTo .. from o k       o is settled at k, and k is at most `from`
--   SettledOn .. from o w k     the same, and the working row has a cell for each column and is all zero
--   PivotCell v r w             the result is v, and the working row is all zero
--   ColumnsListed cells o w     the list o has those cells, and the working row is all zero
--   AllColumns p r C U o w      the list o is `open_columns` of every set with this column order and this U, and the working row is all zero
use Rattle.std.specs.Prelude.{ℕ, ◌≤◌, ◌<◌, ◌≡◌, cond, List, leb, length, get_or}
use Rattle.lists.specs.Filled.{zeros}
use Rattle.algebra.specs.Sum.{δ}
use Rattle.algebra.specs.Matrix.{Vector, Matrix, vector}
use Rattle.algebra.specs.Reduction.{reduced}
use Rattle.sparse.specs.Matrix.{Compressed, matrix}
use Rattle.sparse.specs.Set.{set_of}
use Rattle.row_space.specs.Solve.{lowest_of, open_columns}
use Rattle.answer_question.specs.Reducing.{Remains}

unfoldable pub open_cell : (p m : ℕ) (C : Vector) (U : Matrix) (r j : ℕ) → ℕ
open_cell p m C U r j = cond (leb m (lowest_of m (reduced p C U r (δ j)))) 1 0

abbrev pub ReducesOn : (p : ℕ) (C : Vector) (U : Matrix) (k r : ℕ) (w₀ w : List ℕ) → Type 0
ReducesOn p C U k r w₀ w = (y : Vector) → Remains p C U k y w₀ → Remains p C U r y w

pub record Settled (p r : ℕ) (U : Compressed) (C : List ℕ) (m : ℕ) (o : List ℕ) (k : ℕ) : Type 0 where
  pub inside : k ≤ r
  pub long : length o ≡ m
  pub early : (i : ℕ) → i < k → (get_or o (get_or C i 0) 0 ≡ 0 → ⊥) → open_cell p m (vector C) (matrix U) r (get_or C i 0) ≡ 0
  pub done : (i : ℕ) → k ≤ i → i < r → get_or o (get_or C i 0) 0 ≡ open_cell p m (vector C) (matrix U) r (get_or C i 0)
  pub rest : (i : ℕ) → r ≤ i → i < m → get_or o (get_or C i 0) 0 ≡ 0

pub record SettledTo (p r : ℕ) (U : Compressed) (C : List ℕ) (m from : ℕ) (o : List ℕ) (k : ℕ) : Type 0 where
  pub settled : Settled p r U C m o k
  pub most : k ≤ from

pub record SettledOn (p r : ℕ) (U : Compressed) (C : List ℕ) (m from : ℕ) (o w : List ℕ) (k : ℕ) : Type 0 where
  pub settled : Settled p r U C m o k
  pub most : k ≤ from
  pub long : length w ≡ m
  pub clear : w ≡ zeros (length w)

pub record PivotCell (v r : ℕ) (w : List ℕ) : Type 0 where
  pub value : r ≡ v
  pub row : w ≡ zeros (length w)

pub record ColumnsListed (cells o w : List ℕ) : Type 0 where
  pub list : o ≡ cells
  pub row : w ≡ zeros (length w)

pub record AllColumns (p r : ℕ) (C : List ℕ) (U : Compressed) (o w : List ℕ) : Type 0 where
  pub list : (R : List ℕ) (L : Compressed) → o ≡ open_columns p (length o) (set_of r R C L U)
  pub row : w ≡ zeros (length w)
