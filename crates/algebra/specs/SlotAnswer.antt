-- The answer to slot values h (document 02, slip 6). The pivot rows and columns are the first r of R and of C.
--   SettingAnswer p n m r A C h s           A s = h, and s is 0 at every column that is no pivot column
--   ContradictionAnswer p n m r A R i w     w A = 0, and of the rows that are no pivot rows w has 1 at i and 0 at the others
use Rattle.std.specs.Prelude.{◌≡◌, ℕ, ◌≤◌, ◌<◌}
use Rattle.algebra.specs.Matrix.{Vector, Matrix}
use Rattle.algebra.specs.ColumnSpace.{GivesSlots, InLeftKernel}

pub record SettingAnswer (p n m r : ℕ) (A : Matrix) (C : ℕ → ℕ) (h s : Vector) : Type 0 where
  pub residues : (j : ℕ) → j < m → s j < p
  pub gives : GivesSlots p n m A h s
  pub others : (l : ℕ) → r ≤ l → l < m → s (C l) ≡ 0

pub record ContradictionAnswer (p n m r : ℕ) (A : Matrix) (R : ℕ → ℕ) (i : ℕ) (w : Vector) : Type 0 where
  pub residues : (t : ℕ) → t < n → w t < p
  pub kernel : InLeftKernel p n m A w
  pub pivot : (k : ℕ) → k < r → ¬ (R k ≡ i)
  pub one : w i ≡ 1
  pub others : (k : ℕ) → r ≤ k → k < n → ¬ (R k ≡ i) → w (R k) ≡ 0
