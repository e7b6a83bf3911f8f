-- Even odds (document 02, slip 8), from EVERY set that passes, whoever made it.
-- A is a stored n by m matrix (document 01's plan), p a prime, s a set with n rows in R and m columns in C that the judge passes, y a list of m residues,
-- h slot values that some setting t gives.
--   settings-count    the settings that give h are p ^ (m - r)
--   closed-room       closed: r is below m
--   closed-count      closed: of these settings p ^ (m - r - 1) give y the value v, whatever v
--   closed-even       closed: p times that many are all of them
--   open-count        open: all of them give y one value
--   open_none         open: and none gives it another
use mathlib.Core.Path.{◌≡◌}
use mathlib.Core.List.{List}
use Prim.Native.Nat.{ℕ, ◌*◌, ◌<◌}
use lib.ListN.{length}
use Rattle.refusals.specs.Outcome.{Passed}
use Rattle.algebra.specs.Congruence.{◌≈⟨◌⟩◌}
use Rattle.algebra.specs.Sum.{dot}
use Rattle.algebra.specs.Prime.{Prime}
use Rattle.algebra.specs.Matrix.{Vector, vector}
use Rattle.algebra.specs.RowSpace.{InKernel}
use Rattle.algebra.specs.Odds.{Count, SettingFor, SettingForValue, settings_for, settings_per_value}
use Rattle.algebra.proofs.Odds.{setting-count, value-count, value_room, determined-count, determined-none, values-even}
use Rattle.sparse.specs.Matrix.{Compressed, matrix}
use Rattle.sparse.specs.Set.{Set}
use Rattle.pluq.specs.Judge.{judge}
use Rattle.row_space.specs.Solve.{solve}
use Rattle.row_space.specs.declared.Verdict.TheVariants.{Open, Closed}
use Rattle.row_space.proofs.Theorems.{closed-answer, closed-differs, open-determined}
use Rattle.row_space.proofs.Freedom.{basis}

module _ {p : ℕ} (prime : Prime p) (n m : ℕ) (A : Compressed) (s : Set) (long-R : length s.R ≡ n) (long-C : length s.C ≡ m) (ok : judge p n m A s ≡ Passed) where
  module _ (y : List ℕ) (residues : (j : ℕ) → j < m → vector y j < p) where
    -- z of a closed question is in the kernel
    closed-kernel : (solve p n m s (vector y)).verdict ≡ Closed → InKernel p n m (matrix A) (vector (solve p n m s (vector y)).z)
    closed-kernel e = (closed-answer prime n m A s long-R long-C ok y residues e).1.kernel

    pub closed-room : (solve p n m s (vector y)).verdict ≡ Closed → s.r < m
    closed-room e =
        value_room prime s.r (basis prime n m A s long-R long-C ok) (vector y) (vector (solve p n m s (vector y)).z) (closed-kernel e)
        (closed-differs prime n m A s long-R long-C ok y residues e)

    pub closed-even : (solve p n m s (vector y)).verdict ≡ Closed → p * settings_per_value p m s.r ≡ settings_for p m s.r
    closed-even e = values-even p m s.r (closed-room e)

  module _ (h : Vector) (t : List ℕ) (some : SettingFor p n m (matrix A) h t) where
    pub settings-count : Count (SettingFor p n m (matrix A) h) (settings_for p m s.r)
    settings-count = setting-count s.r (basis prime n m A s long-R long-C ok) h t some

    module _ (y : List ℕ) (residues : (j : ℕ) → j < m → vector y j < p) where
      pub closed-count : (solve p n m s (vector y)).verdict ≡ Closed → (v : ℕ) → Count (SettingForValue p n m (matrix A) h (vector y) v) (settings_per_value p m s.r)
      closed-count e =
          value-count prime s.r (basis prime n m A s long-R long-C ok) (vector y) (vector (solve p n m s (vector y)).z) (closed-kernel y residues e)
          (closed-differs prime n m A s long-R long-C ok y residues e) h t some

      pub open-count : (solve p n m s (vector y)).verdict ≡ Open
          → Count (SettingForValue p n m (matrix A) h (vector y) (dot m (vector y) (vector t))) (settings_for p m s.r)
      open-count e =
          determined-count s.r (basis prime n m A s long-R long-C ok) (vector y) (open-determined prime n m A s long-R long-C ok y residues e) h t some

      pub open_none : (solve p n m s (vector y)).verdict ≡ Open
          → (v : ℕ) → ¬ (v ≈⟨ p ⟩ dot m (vector y) (vector t)) → Count (SettingForValue p n m (matrix A) h (vector y) v) 0
      open_none e = determined-none (vector y) (open-determined prime n m A s long-R long-C ok y residues e) h t some
