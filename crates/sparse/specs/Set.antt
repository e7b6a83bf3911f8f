-- A set of factors as it is stored (document 01's set).
--   Set                   the rank r, the row order R, the column order C, and L and U by compressed rows
--   set_of                 the set of these five
--   Storage, storage_of    the lists that are lent to be filled with a set: R, C, the lists of L and of U, and the working row
use Rattle.std.specs.Prelude.{ℕ, List}
use Rattle.sparse.specs.Matrix.{Compressed}

pub record Set : Type 0 where
  pub r : ℕ
  pub R : List ℕ
  pub C : List ℕ
  pub L : Compressed
  pub U : Compressed

abbrev pub set_of : ℕ → List ℕ → List ℕ → Compressed → Compressed → Set
set_of r R C L U = record { r = r; R = R; C = C; L = L; U = U }

pub record Storage : Type 0 where
  pub R : List ℕ
  pub C : List ℕ
  pub L : Compressed
  pub U : Compressed
  pub work : List ℕ

abbrev pub storage_of : List ℕ → List ℕ → Compressed → Compressed → List ℕ → Storage
storage_of R C L U work = record { R = R; C = C; L = L; U = U; work = work }
