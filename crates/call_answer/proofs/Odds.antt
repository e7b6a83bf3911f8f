-- Even odds (document 02, slip 8), for what calls return, whatever set they were given, whoever made it. h are slot values that some setting t gives.
-- Of a set that passes a check:
--   stored-settings, bytes-settings    the settings that give h are p ^ (m - r)
-- Of an answer r to a question y (`SolvedFrom`):
--   closed-room                        closed: r is below m
--   closed-even                        closed: p times as many as have one value are all of them
--   closed-count                       closed: p ^ (m - r - 1) of them give y the value v, whatever v
--   open-count                         open: all of them give y one value
--   open_none                          open: and none gives it another
use mathlib.Core.Path.{◌≡◌}
use mathlib.Core.List.{List}
use Prim.Native.Nat.{ℕ, ◌*◌, ◌<◌}
use Rattle.algebra.specs.Congruence.{◌≈⟨◌⟩◌}
use Rattle.algebra.specs.Sum.{dot}
use Rattle.algebra.specs.Matrix.{Vector, vector}
use Rattle.algebra.specs.Odds.{Count, SettingFor, SettingForValue, settings_for, settings_per_value}
use Rattle.sparse.specs.Matrix.{Compressed, matrix}
use Rattle.sparse.specs.Set.{Set}
use Rattle.row_space.proofs.Odds as sets
use Rattle.certificate.specs.Reading.{set_of_certificate}
use Rattle.call_check.specs.Passing.{StoredPasses, CertificatePasses}
use Rattle.call_check.proofs.Theorems.{factors-exactly, certificate-exactly}
use Rattle.call_check.proofs.Checked.{Checked, factors-checked, certificate-checked}
use Rattle.call_answer.specs.Answer.{Answer}
use Rattle.call_answer.proofs.Theorems.{SolvedFrom}

-- ---- a set that passes a check

checked-settings : (p n m : ℕ) (A : Compressed) (s : Set) (w : ℕ) → Checked p n m A s w → (h : Vector) (t : List ℕ) → SettingFor p n m (matrix A) h t
    → Count (SettingFor p n m (matrix A) h) (settings_for p m s.r)
checked-settings p n m A s w c = sets.settings-count c.prime n m A s c.sized.row-order c.sized.column-order c.judged

pub stored-settings : (p n m : ℕ) (A : Compressed) (s : Set) (w : ℕ) → StoredPasses p n m A s w → (h : Vector) (t : List ℕ) → SettingFor p n m (matrix A) h t
    → Count (SettingFor p n m (matrix A) h) (settings_for p m s.r)
stored-settings p n m A s w passes = checked-settings p n m A s w (factors-checked p n m A w s ((factors-exactly p n m A s w).1 passes))

pub bytes-settings : (p n m : ℕ) (A : Compressed) (cert : List ℕ) (w : ℕ) → CertificatePasses p n m A cert w → (h : Vector) (t : List ℕ) → SettingFor p n m (matrix A) h t
    → Count (SettingFor p n m (matrix A) h) (settings_for p m (set_of_certificate n m cert).r)
bytes-settings p n m A cert w passes =
    checked-settings p n m A (set_of_certificate n m cert) w (certificate-checked p n m A w cert ((certificate-exactly p n m A cert w).1 passes))

-- ---- an answer

module _ (p n m : ℕ) (A : Compressed) (s : Set) (y : List ℕ) (r : Answer) (x z : List ℕ) (a : SolvedFrom p n m A s y r x z) where
  pub closed-room : r ≡ Answer.Closed → s.r < m
  closed-room e = sets.closed-room a.prime n m A s a.sized.row-order a.sized.column-order a.judged y a.residues (a.closed e)

  pub closed-even : r ≡ Answer.Closed → p * settings_per_value p m s.r ≡ settings_for p m s.r
  closed-even e = sets.closed-even a.prime n m A s a.sized.row-order a.sized.column-order a.judged y a.residues (a.closed e)

  module _ (h : Vector) (t : List ℕ) (some : SettingFor p n m (matrix A) h t) where
    pub closed-count : r ≡ Answer.Closed → (v : ℕ) → Count (SettingForValue p n m (matrix A) h (vector y) v) (settings_per_value p m s.r)
    closed-count e = sets.closed-count a.prime n m A s a.sized.row-order a.sized.column-order a.judged h t some y a.residues (a.closed e)

    pub open-count : r ≡ Answer.Open → Count (SettingForValue p n m (matrix A) h (vector y) (dot m (vector y) (vector t))) (settings_for p m s.r)
    open-count e = sets.open-count a.prime n m A s a.sized.row-order a.sized.column-order a.judged h t some y a.residues (a.opened e)

    pub open_none : r ≡ Answer.Open → (v : ℕ) → ¬ (v ≈⟨ p ⟩ dot m (vector y) (vector t)) → Count (SettingForValue p n m (matrix A) h (vector y) v) 0
    open_none e = sets.open_none a.prime n m A s a.sized.row-order a.sized.column-order a.judged h t some y a.residues (a.opened e)
