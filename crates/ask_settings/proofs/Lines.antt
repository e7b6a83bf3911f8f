-- The lines of the columns.
--   lines-free      those below c are the lines of the settings of the free columns below c
--   settings-lines  so all of them are the lines of the settings of the free columns, rising
--   line-upper, lines-upper    the rank, C and U alone decide them
use mathlib.Core.Path.{◌≡◌, refl, ap, sym, ◌∙◌}
use mathlib.Core.Bool.{Bool, true, false, cond}
use mathlib.Core.List.{List, [], ◌∷◌, ◌++◌, map, flatten, append_assoc, append-nil}
use Prim.Native.Nat.{ℕ, zero, suc}
use lib.ListN.{take}
use Rattle.lists.specs.Rest.{rest}
use Rattle.lists.specs.Tests.{among}
use Rattle.sparse.specs.Matrix.{compressed}
use Rattle.sparse.specs.Set.{Set, set_of}
use Rattle.row_space.specs.Kernel.{free_columns, setting}
use Rattle.print_text.specs.Settings.{setting_line}
use Rattle.ask_settings.specs.Settings.{setting_line_at, setting_lines}

-- the lines of any columns
abbrev pub lines_of : (p m : ℕ) → Set → List ℕ → List ℕ
lines_of p m s cs = flatten (map (λ c. setting_line (setting p m s c)) cs)

module _ (p m : ℕ) (s : Set) where
  lines-append : (xs ys : List ℕ) → lines_of p m s (xs ++ ys) ≡ lines_of p m s xs ++ lines_of p m s ys
  unfolding flatten
  lines-append [] ys = refl
  lines-append (x ∷ xs) ys =
      ap (λ (l : List ℕ). setting_line (setting p m s x) ++ l) (lines-append xs ys)
      ∙ sym (append_assoc (setting_line (setting p m s x)) (lines_of p m s xs) (lines_of p m s ys))

  line-of : (c : ℕ) (b : Bool) → cond b [] (setting_line (setting p m s c)) ≡ lines_of p m s (cond b [] (c ∷ []))
  unfolding flatten
  line-of c true = refl
  line-of c false = sym (append-nil (setting_line (setting p m s c)))

  pub lines-free : (c : ℕ) → setting_lines p m s c ≡ lines_of p m s (rest (take s.r s.C) c)
  unfolding setting_lines setting_line_at rest flatten
  lines-free zero = refl
  lines-free (suc c) =
      let xs = take s.r s.C in
      (λ t. lines-free c t ++ line-of c (among c xs) t) ∙ sym (lines-append (rest xs c) (cond (among c xs) [] (c ∷ [])))

  pub settings-lines : setting_lines p m s m ≡ lines_of p m s (free_columns m s)
  unfolding free_columns
  settings-lines = lines-free m

-- the part of a set that decides them
abbrev pub upper_part : Set → Set
upper_part s = set_of s.r [] s.C (compressed [] [] []) s.U

pub line-upper : (p m : ℕ) (s : Set) (c : ℕ) → setting_line_at p m s c ≡ setting_line_at p m (upper_part s) c
unfolding setting_line_at setting
line-upper p m s c = refl

pub lines-upper : (p m : ℕ) (s : Set) (c : ℕ) → setting_lines p m s c ≡ setting_lines p m (upper_part s) c
unfolding setting_lines
lines-upper p m s zero = refl
lines-upper p m s (suc c) = λ t. lines-upper p m s c t ++ line-upper p m s c t
