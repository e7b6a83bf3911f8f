-- What writing accepts exactly, without an order of tests.
--   CanWrite p n m A s w room    stored factors that pass the check, and a buffer that holds their certificate
use Rattle.std.specs.Prelude.{ℕ, ◌≤◌, length}
use Rattle.sparse.specs.Matrix.{Compressed}
use Rattle.sparse.specs.Set.{Set}
use Rattle.certificate.specs.Layout.{certificate_of}
use Rattle.call_check.specs.Passing.{StoredPasses}

pub record CanWrite (p n m : ℕ) (A : Compressed) (s : Set) (w room : ℕ) : Type 0 where
  pub set : StoredPasses p n m A s w
  pub enough : length (certificate_of p n m s) ≤ room
