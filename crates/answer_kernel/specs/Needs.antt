-- What the settings of the free columns need of a set that passed and of the lent lists; w has a cell for each column.
--   MarksReady r C w               the first r of C are places in w, which is all zero
--   BlockReady p r c at U C b w    U is well formed, with a row for each of the first r of C, which are marked in w, and b has room from `at` on where c is not marked
--   SettingsReady p r U C b w      the same, where b has room for the settings of all that are not marked
--   BasisReady p r U C b w         the same, where nothing is marked yet
use Rattle.std.specs.Prelude.{ℕ, ◌+◌, ◌*◌, ◌≤◌, ◌<◌, ◌≡◌, true, List, length, get_or, take}
use Rattle.lists.specs.Filled.{zeros}
use Rattle.lists.specs.Rest.{rest}
use Rattle.algebra.specs.Prime.{Prime}
use Rattle.sparse.specs.Row.{Below}
use Rattle.sparse.specs.Matrix.{Compressed, form}
use Rattle.answer_kernel.specs.Filling.{Marked}

pub record MarksReady (r : ℕ) (C w : List ℕ) : Type 0 where
  pub order : r ≤ length C
  pub places : Below (length w) C
  pub clear : w ≡ zeros (length w)

pub record BlockReady (p r c at : ℕ) (U : Compressed) (C b w : List ℕ) : Type 0 where
  pub prime : Prime p
  pub formed : form p (length w) U ≡ true
  pub rows : r < length U.starts
  pub order : r ≤ length C
  pub places : Below (length w) C
  pub inside : c < length w
  pub room : get_or w c 0 ≡ 0 → at + length w ≤ length b
  pub marked : Marked (take r C) w

pub record SettingsReady (p r : ℕ) (U : Compressed) (C b w : List ℕ) : Type 0 where
  pub prime : Prime p
  pub formed : form p (length w) U ≡ true
  pub rows : r < length U.starts
  pub order : r ≤ length C
  pub places : Below (length w) C
  pub room : length b ≡ length w * length (rest (take r C) (length w))
  pub marked : Marked (take r C) w

pub record BasisReady (p r : ℕ) (U : Compressed) (C b w : List ℕ) : Type 0 where
  pub prime : Prime p
  pub formed : form p (length w) U ≡ true
  pub rows : r < length U.starts
  pub order : r ≤ length C
  pub places : Below (length w) C
  pub room : length b ≡ length w * length (rest (take r C) (length w))
  pub clear : w ≡ zeros (length w)
