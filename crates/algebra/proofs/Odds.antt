-- How many settings give the slots h, from a basis of the kernel; and of these, how many give a question y the value v.
--   setting-count      as many as there are combinations of the basis, if there is any
--   value-count        where some kernel vector does not give y the value 0: as many as there are combinations of one vector less, whatever v
--   value_room         there is such a vector only where the basis is not empty
--   determined-count   where two settings with the same slots give y the same value: all give the value that one of them gives
--   determined-none    and none gives another
--   values-even        the p values share the settings evenly
use mathlib.Core.Path.{◌≡◌, refl, sym, ap, ◌∙◌}
use mathlib.Core.List.{List}
use Prim.Native.Nat.{ℕ, suc, ◌+◌, ◌-◌, ◌*◌, ◌%◌, ◌^◌, ◌<◌}
use native.Mathlib.Nat.{mod-lt, pow-succ'}
use native.Mathlib.Omega.{arith}
use lib.Seq.{ext_get_or}
use Rattle.lists.specs.Tabulate.{tabulate}
use Rattle.lists.proofs.Tabulate.{length-tabulate, tabulate-at}
use Rattle.algebra.specs.Congruence.{◌≈⟨◌⟩◌}
use Rattle.algebra.specs.Sum.{dot}
use Rattle.algebra.specs.Prime.{Prime}
use Rattle.algebra.specs.Matrix.{Vector, Matrix, vector}
use Rattle.algebra.specs.RowSpace.{InKernel}
use Rattle.algebra.specs.ColumnSpace.{GivesSlots}
use Rattle.algebra.specs.Settings.{Determined, Undetermined, SameSlots}
use Rattle.algebra.specs.Odds.{Count, SettingFor, SettingForValue, settings_for, settings_per_value}
use Rattle.algebra.proofs.Congruence.{exact, turn, ◌⊙◌, ◌⊕◌, same_refl, same-mod, equal-residues}
use Rattle.algebra.proofs.Dot.{dot-eq, dot-left}
use Rattle.algebra.proofs.Settings.{kernel-undetermined}
use Rattle.algebra.proofs.Kernel.{KernelBasis}
use Rattle.algebra.proofs.Shifts.{alike-shifted, shifted-alike, shift-only}
use Rattle.algebra.proofs.Narrowing.{with_row, rows, rows-old, rows_new, narrowed, differing}
use Rattle.algebra.proofs.Count.{Tuple, tuples-count, count-through, count_none}

-- settings that give h give the same slots
alike : {p n m : ℕ} {A : Matrix} {h : Vector} {s t : List ℕ} → SettingFor p n m A h s → SettingFor p n m A h t
    → (i : ℕ) → i < n → dot m (A i) (vector s) ≈⟨ p ⟩ dot m (A i) (vector t)
unfolding GivesSlots
alike s t i l = s.gives i l ⊙ turn (t.gives i l)

-- ---- one setting that gives h, and the combinations of the basis

module _ {p n m : ℕ} {A : Matrix} {d : ℕ} {F : ℕ → ℕ} {Z : ℕ → Vector} (basis : KernelBasis p n m A d F Z) (h : Vector) (s : List ℕ) (some : SettingFor p n m A h s) where
  cell : List ℕ → Vector
  cell c j = (vector s j + dot d (vector c) (λ l. Z l j)) % p

  moved : List ℕ → List ℕ
  moved c = tabulate m (cell c)

  moved_at : (c : List ℕ) (j : ℕ) → j < m → vector (moved c) j ≡ cell c j
  unfolding moved
  moved_at c j g = tabulate-at m (cell c) j g

  moved-shifted : (c : List ℕ) (j : ℕ) → j < m → vector (moved c) j ≈⟨ p ⟩ vector s j + dot d (vector c) (λ l. Z l j)
  unfolding cell
  moved-shifted c j g = exact (moved_at c j g) ⊙ same-mod (vector s j + dot d (vector c) (λ l. Z l j))

  moved-setting : (c : List ℕ) → SettingFor p n m A h (moved c)
  unfolding moved cell GivesSlots
  moved-setting c =
      record {
        long = length-tabulate m (cell c);
        residues = λ j g. rw (moved_at c j g) (mod-lt (vector s j + dot d (vector c) (λ l. Z l j)) basis.positive);
        gives = λ i g. shifted-alike basis (vector (moved c)) (vector s) (vector c) (moved-shifted c) i g ⊙ some.gives i g;
      }

  moved_apart : (c c' : List ℕ) → Tuple p d c → Tuple p d c' → moved c ≡ moved c' → c ≡ c'
  moved_apart c c' t t' e =
      ext_get_or 0 c c' (t.long ∙ sym t'.long)
      (λ l g.
      let k : l < d = omega (arith, t.long) in
      equal-residues (t.below l k) (t'.below l k)
      (shift-only basis (vector (moved c)) (vector s) (vector c) (vector c') (moved-shifted c)
      (λ j b. exact (ap (λ (z : List ℕ). vector z j) e) ⊙ moved-shifted c' j b) l k))

  moved-onto : (t : List ℕ) → SettingFor p n m A h t → (c : List ℕ) × Tuple p d c × (moved c ≡ t)
  moved-onto t u = (c, tuple, same)
    where
      shift : (w : Vector) × ((j : ℕ) → j < m → vector t j ≈⟨ p ⟩ vector s j + dot d w (λ l. Z l j))
      shift = alike-shifted basis (vector t) (vector s) (alike u some)

      digit : Vector
      digit l = shift.0 l % p

      c : List ℕ
      c = tabulate d digit

      tuple : Tuple p d c
      tuple = record { long = length-tabulate d digit; below = λ l g. rw (tabulate-at d digit l g) (mod-lt (shift.0 l) basis.positive) }

      same : moved c ≡ t
      same =
          ext_get_or 0 (moved c) t ((moved-setting c).long ∙ sym u.long)
          (λ j g.
          let k : j < m = omega (arith, (moved-setting c).long) in
          equal-residues ((moved-setting c).residues j k) (u.residues j k)
          (moved-shifted c j k
          ⊙ same_refl (vector s j) ⊕ dot-left d (λ l. Z l j) (λ l b. exact (tabulate-at d digit l b) ⊙ same-mod (shift.0 l))
          ⊙ turn (shift.1 j k)))

  basis-count : Count (SettingFor p n m A h) (p ^ d)
  basis-count =
      count-through (Tuple p d) (SettingFor p n m A h) (p ^ d) moved (λ c t. moved-setting c) moved_apart moved-onto (tuples-count p basis.positive d)

pub setting-count : {p n m : ℕ} (r : ℕ) {A : Matrix} {F : ℕ → ℕ} {Z : ℕ → Vector} → KernelBasis p n m A (m - r) F Z
    → (h : Vector) (s : List ℕ) → SettingFor p n m A h s → Count (SettingFor p n m A h) (settings_for p m r)
unfolding settings_for
setting-count r basis h s some = basis-count basis h s some

-- ---- a value fixed

module _ {p : ℕ} (prime : Prime p) {n m d : ℕ} {A : Matrix} {F : ℕ → ℕ} {Z : ℕ → Vector} (basis : KernelBasis p n m A d F Z) (y : Vector) where
  -- the settings with the value v, where there is one, are those that give A with the row y its slots
  narrowed-count : (k : ℕ) → k < d → ¬ (dot m y (Z k) ≈⟨ p ⟩ 0) → (h : Vector) (v : ℕ) (t : List ℕ) → SettingForValue p n m A h y v t
      → Count (SettingForValue p n m A h y v) (p ^ (d - 1))
  unfolding GivesSlots
  narrowed-count k inside differs h v t first =
      count-through (SettingFor p (suc n) m B slots) (SettingForValue p n m A h y v) (p ^ (d - 1)) (λ s. s) into (λ c c' w w' e. e) (λ s w. (s, back s w, refl))
      (basis-count (narrowed prime basis y k inside differs) slots t
      (record { long = first.setting.long; residues = first.setting.residues; gives = λ i g. same_refl (dot m (B i) (vector t)) }))
    where
      B : Matrix
      B = with_row n A y

      slots : Vector
      slots i = dot m (B i) (vector t)

      into : (s : List ℕ) → SettingFor p (suc n) m B slots s → SettingForValue p n m A h y v s
      into s w =
          record {
            setting =
                record {
                  long = w.long;
                  residues = w.residues;
                  gives = λ i g. rows-old n A y (λ u. dot m u (vector s) ≈⟨ p ⟩ dot m u (vector t)) w.gives i g ⊙ first.setting.gives i g;
                };
            value = rows_new n A y (λ u. dot m u (vector s) ≈⟨ p ⟩ dot m u (vector t)) w.gives ⊙ first.value;
          }

      back : (s : List ℕ) → SettingForValue p n m A h y v s → SettingFor p (suc n) m B slots s
      back s w =
          record {
            long = w.setting.long;
            residues = w.setting.residues;
            gives = rows n A y (λ u. dot m u (vector s) ≈⟨ p ⟩ dot m u (vector t)) (alike w.setting first.setting) (w.value ⊙ turn first.value);
          }

-- from one setting that gives h, one that gives y the value v
with_value : {p : ℕ} → Prime p → (n m : ℕ) (A : Matrix) (y z : Vector) → InKernel p n m A z → ¬ (dot m y z ≈⟨ p ⟩ 0)
    → (h : Vector) (s : List ℕ) → SettingFor p n m A h s → (v : ℕ) → (t : List ℕ) × SettingForValue p n m A h y v t
unfolding Undetermined GivesSlots
with_value {p} prime n m A y z u differs h s some v = go (kernel-undetermined prime n m A y z u differs (vector s) v)
  where
    cells : (f w : Vector) → dot m f (vector (tabulate m w)) ≡ dot m f w
    cells f w = dot-eq m {u = f} (λ j b. refl) (tabulate-at m w)

    go : (w : Vector) × SameSlots p n m A y (vector s) v w → (t : List ℕ) × SettingForValue p n m A h y v t
    go (w, same) = (
      tabulate m w,
      record {
        setting =
            record {
              long = length-tabulate m w;
              residues = λ j b. rw (tabulate-at m w j b) (same.residues j b);
              gives = λ i b. exact (cells (A i) w) ⊙ same.slots i b ⊙ some.gives i b;
            };
        value = exact (cells y w) ⊙ same.value;
      },
    )

pub value-count : {p : ℕ} → Prime p → {n m : ℕ} (r : ℕ) {A : Matrix} {F : ℕ → ℕ} {Z : ℕ → Vector} → KernelBasis p n m A (m - r) F Z
    → (y z : Vector) → InKernel p n m A z → ¬ (dot m y z ≈⟨ p ⟩ 0)
    → (h : Vector) (s : List ℕ) → SettingFor p n m A h s → (v : ℕ) → Count (SettingForValue p n m A h y v) (settings_per_value p m r)
unfolding settings_per_value
value-count prime {n} {m} r {A} basis y z u differs h s some v =
    let (k, inside, e) = differing prime basis y z u differs in
    let (t, first) = with_value prime n m A y z u differs h s some v in
    narrowed-count prime basis y k inside e h v t first

pub value_room : {p : ℕ} → Prime p → {n m : ℕ} (r : ℕ) {A : Matrix} {F : ℕ → ℕ} {Z : ℕ → Vector} → KernelBasis p n m A (m - r) F Z
    → (y z : Vector) → InKernel p n m A z → ¬ (dot m y z ≈⟨ p ⟩ 0) → r < m
value_room prime r basis y z u differs = let (k, inside, e) = differing prime basis y z u differs in omega arith

-- ---- where the slots tell the value

pub determined-count : {p n m : ℕ} (r : ℕ) {A : Matrix} {F : ℕ → ℕ} {Z : ℕ → Vector} → KernelBasis p n m A (m - r) F Z → (y : Vector) → Determined p n m A y
    → (h : Vector) (s : List ℕ) → SettingFor p n m A h s → Count (SettingForValue p n m A h y (dot m y (vector s))) (settings_for p m r)
unfolding Determined
determined-count {p} {n} {m} r {A} basis y tells h s some =
    count-through (SettingFor p n m A h) (SettingForValue p n m A h y (dot m y (vector s))) (settings_for p m r) (λ t. t)
    (λ t w. record { setting = w; value = tells (vector t) (vector s) (alike w some) }) (λ c c' w w' e. e) (λ t w. (t, w.setting, refl))
    (setting-count r basis h s some)

pub determined-none : {p n m : ℕ} {A : Matrix} (y : Vector) → Determined p n m A y → (h : Vector) (s : List ℕ) → SettingFor p n m A h s
    → (v : ℕ) → ¬ (v ≈⟨ p ⟩ dot m y (vector s)) → Count (SettingForValue p n m A h y v) 0
unfolding Determined
determined-none {p} {n} {m} {A} y tells h s some v other =
    count_none (SettingForValue p n m A h y v) (λ t w. other (turn w.value ⊙ tells (vector t) (vector s) (alike w.setting some)))

-- ---- the values together

pub values-even : (p m r : ℕ) → r < m → p * settings_per_value p m r ≡ settings_for p m r
unfolding settings_for settings_per_value
values-even p m r h = let e : suc (m - r - 1) ≡ m - r = omega arith in sym (pow-succ' p (m - r - 1)) ∙ ap (λ (k : ℕ). p ^ k) e
