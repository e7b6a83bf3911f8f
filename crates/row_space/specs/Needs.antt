-- What the two substitutions need of a set and of the lent lists.
--   DiagonalReady p k L        L is well formed and lower triangular, and k is one of its rows
--   LowerReady p L w           L is well formed and lower triangular, with a column for each cell of w
--   LowerRowReady p k L w      the same, and k is one of its rows
--   LowerOrder p L R w x       R gives each row of L a place in x, which is all zero
--   UpperRowReady p k U z      U is well formed, with a column for each cell of z, and k is one of its rows; z has residues
--   UpperReady p r U C z       the same for the first r rows of U, and C gives each a place in z
use Rattle.std.specs.Prelude.{ℕ, ◌+◌, ◌*◌, ◌≤◌, ◌<◌, ◌≡◌, true, List, length}
use Rattle.lists.specs.Filled.{zeros}
use Rattle.algebra.specs.Prime.{Prime}
use Rattle.sparse.specs.Row.{Below}
use Rattle.sparse.specs.Matrix.{Compressed, matrix, form}
use Rattle.pluq.specs.Order.{permutation}
use Rattle.pluq.specs.Shape.{lower}

pub record DiagonalReady (p k : ℕ) (L : Compressed) : Type 0 where
  pub width : ℕ
  pub prime : Prime p
  pub formed : form p width L ≡ true
  pub shaped : lower width (matrix L) ≡ true
  pub inside : k < width
  pub rows : width < length L.starts

pub record LowerReady (p : ℕ) (L : Compressed) (w : List ℕ) : Type 0 where
  pub prime : Prime p
  pub formed : form p (length w) L ≡ true
  pub rows : length w < length L.starts
  pub shaped : lower (length w) (matrix L) ≡ true
  pub below : Below (p * p) w

pub record LowerRowReady (p k : ℕ) (L : Compressed) (w : List ℕ) : Type 0 where
  pub inside : k < length w
  pub ready : LowerReady p L w

pub record LowerOrder (p : ℕ) (L : Compressed) (R w x : List ℕ) : Type 0 where
  pub ready : LowerReady p L w
  pub order : permutation R ≡ true
  pub long : length R ≡ length x
  pub rank : length w ≤ length x
  pub clear : x ≡ zeros (length x)

pub record UpperRowReady (p k : ℕ) (U : Compressed) (z : List ℕ) : Type 0 where
  pub positive : 0 < p
  pub formed : form p (length z) U ≡ true
  pub inside : k + 1 < length U.starts
  pub small : Below p z

pub record UpperReady (p r : ℕ) (U : Compressed) (C z : List ℕ) : Type 0 where
  pub positive : 0 < p
  pub formed : form p (length z) U ≡ true
  pub rows : r < length U.starts
  pub order : r ≤ length C
  pub places : Below (length z) C
  pub small : Below p z
