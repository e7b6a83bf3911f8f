-- What a witness shows: a vector z with U z = 0 is 0 at every open column.
--   Chosen p r C z                  z has residues, and 0 at the first r columns of C
--   NonzeroAt z d c                 c is d, and z is not 0 there
--   NonzeroPivot left C z c         c is one of the first `left` columns of C, and z is not 0 there
--   ClosedPivot p m C U r left c    c is one of the first `left` columns of C, and its unit question is closed
--   ChangedOnly P o₀ o              o has the cells of o₀, but for places of which P holds
--   MarkedOne c z o₀ o v            v is at most 1, and o has the cells of o₀, but for c where z is not 0 there
use Rattle.std.specs.Prelude.{ℕ, ◌≤◌, ◌<◌, ◌≡◌, List, length, get_or}
use Rattle.algebra.specs.Matrix.{Vector, Matrix}
use Rattle.answer_open.specs.Opening.{open_cell}

pub record Chosen (p r : ℕ) (C z : List ℕ) : Type 0 where
  pub residues : (t : ℕ) → get_or z t 0 < p
  pub pivots : (l : ℕ) → l < r → get_or z (get_or C l 0) 0 ≡ 0

pub record NonzeroAt (z : List ℕ) (d c : ℕ) : Type 0 where
  pub column : c ≡ d
  pub nonzero : get_or z c 0 ≡ 0 → ⊥

pub record NonzeroPivot (left : ℕ) (C z : List ℕ) (c : ℕ) : Type 0 where
  pub row : ℕ
  pub inside : row < left
  pub column : c ≡ get_or C row 0
  pub nonzero : get_or z c 0 ≡ 0 → ⊥

pub record ClosedPivot (p m : ℕ) (C : Vector) (U : Matrix) (r left c : ℕ) : Type 0 where
  pub row : ℕ
  pub inside : row < left
  pub column : c ≡ C row
  pub closed : open_cell p m C U r c ≡ 0

pub record ChangedOnly (P : ℕ → Type 0) (o₀ o : List ℕ) : Type 0 where
  pub long : length o ≡ length o₀
  pub kept : (c : ℕ) → ¬ P c → get_or o c 0 ≡ get_or o₀ c 0

pub record MarkedOne (c : ℕ) (z o₀ o : List ℕ) (v : ℕ) : Type 0 where
  pub most : v ≤ 1
  pub changed : ChangedOnly (NonzeroAt z c) o₀ o
