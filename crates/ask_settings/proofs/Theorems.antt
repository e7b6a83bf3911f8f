-- What is printed for a text with the verb `settings`.
-- Of the definition:
--   settings-right      a text that states a plan whose factors fit: how many columns are free, and their settings (`SettingsTold`)
--   settings-refused    a text that states no plan: the line of a refusal by one of the numbers of a text
--   settings-storage    a plan whose factors overflow: the line of refusal 7 at the first row that does, counted from 1
--   settings-alike      the same for texts that are read as the same plan
-- Of the calls, with what they returned and left:
--   printed-all         the line that `begin` left, and then the lines of the columns, are what is printed for the text
--   column-pivot        of a pivot column `setting_line` leaves no line
--   column-free         of free column l the line of block l of the plan's kernel basis
use mathlib.Core.Path.{◌≡◌, refl, sym, ap, subst, ◌∙◌}
use mathlib.Core.Bool.{Bool, true, false}
use mathlib.Core.List.{List, [], ◌∷◌, ◌++◌, map, flatten}
use Prim.Native.Nat.{ℕ, ◌+◌, ◌-◌, ◌*◌, ◌<◌}
use native.Mathlib.Omega.{arith}
use lib.ListN.{length, get_or, take}
use lib.Seq.{take_at, drop_at, ext_get_or, length-take-le, get_or-take}
use Rattle.lists.specs.Tests.{among}
use Rattle.lists.specs.Tabulate.{tabulate}
use Rattle.lists.proofs.Tabulate.{length-tabulate, tabulate-at}
use Rattle.refusals.specs.Table.{text_faults, storage_too_short}
use Rattle.algebra.proofs.Listed.{among-place}
use Rattle.sparse.specs.Matrix.{Compressed}
use Rattle.sparse.specs.Set.{Set}
use Rattle.row_space.specs.Kernel.{free_columns, setting, kernel_basis}
use Rattle.row_space.proofs.Blocks.{blocks_at}
use Rattle.row_space.proofs.FreeColumns as free
use Rattle.row_space.proofs.Freedom.{setting-length, free-count}
use Rattle.pluq.proofs.Orders.{permutation-means}
use Rattle.answer_question.specs.Needs.{SetReady}
use Rattle.limits.specs.Limits.{largest_entries, work_length}
use Rattle.byte_buffer.specs.Fills.{Fills}
use Rattle.text_plan.specs.Held.{plan_of}
use Rattle.text_owners.specs.Stating.{StatesText}
use Rattle.factor_all.specs.Factorization.{Factorization}
use Rattle.call_check.proofs.Checked.{Checked}
use Rattle.call_kernel.proofs.Tested.{basis-right}
use Rattle.print_text.specs.Report.{refusal_text}
use Rattle.print_text.specs.Settings.{free_line, setting_line}
use Rattle.print_text.specs.Printed.{PrintsRefusal}
use Rattle.print_text.proofs.Shown.{fills-shown}
use Rattle.stages.specs.Stages.{reading, set_factored}
use Rattle.stages.specs.Meaning.{factors_of, FitsAll, OverflowsAt}
use Rattle.stages.proofs.ReadText.{factored-whole}
use Rattle.ask_lib.proofs.Following.{text-refused, text-storage, text-whole}
use Rattle.ask_settings.specs.declared.Begun.{Begun}
use Rattle.ask_settings.specs.Settings.{setting_line_at, setting_lines, settings_text, settings_read_of, settings_of, first_line_of}
use Rattle.ask_settings.specs.Held.{held_upper, BeginsSettings}
use Rattle.ask_settings.specs.Meaning.{block_lines, SettingsTold}
use Rattle.ask_settings.proofs.Lines.{lines_of, settings-lines}
use Rattle.ask_settings.proofs.Column.{line-none, line-one}
use Rattle.ask_settings.proofs.Checking.{set-checked, ready}

-- ---- the lines of the blocks of a basis

module _ (p m : ℕ) (s : Set) where
  lines-blocks : (cs : List ℕ) → lines_of p m s cs ≡ block_lines m (length cs) (flatten (map (setting p m s) cs))
  unfolding block_lines flatten
  lines-blocks [] = refl
  lines-blocks (c ∷ cs) =
      let z = setting p m s c in
      let zs = flatten (map (setting p m s) cs) in
      (λ t. setting_line (sym (take_at z zs m (setting-length p m s c)) t) ++ lines-blocks cs t)
      ∙ ap (λ (l : List ℕ). setting_line (take m (z ++ zs)) ++ block_lines m (length cs) l) (sym (drop_at z zs m (setting-length p m s c)))

  settings-blocks : setting_lines p m s m ≡ block_lines m (length (free_columns m s)) (kernel_basis p m s)
  unfolding kernel_basis
  settings-blocks = settings-lines p m s ∙ lines-blocks (free_columns m s)

  -- the setting of free column l is block l
  setting-block : (l : ℕ) → l < length (free_columns m s) → setting p m s (get_or (free_columns m s) l 0) ≡ tabulate m (λ j. get_or (kernel_basis p m s) (l * m + j) 0)
  unfolding kernel_basis
  setting-block l h =
      let z = setting p m s (get_or (free_columns m s) l 0) in
      let f : ℕ → ℕ = λ j. get_or (flatten (map (setting p m s) (free_columns m s))) (l * m + j) 0 in
      ext_get_or 0 z (tabulate m f) (setting-length p m s (get_or (free_columns m s) l 0) ∙ sym (length-tabulate m f))
      (λ j k. let g : j < m = omega (arith, setting-length p m s (get_or (free_columns m s) l 0)) in
      sym (tabulate-at m f j g ∙ blocks_at m (setting p m s) (setting-length p m s) (free_columns m s) l j h g))

-- a free column is no pivot column
free-none : (p n m : ℕ) (s : Set) → SetReady p n m s → (l : ℕ) → l < m - s.r → among (get_or (free_columns m s) l 0) (take s.r s.C) ≡ false
free-none p n m s d l h = go (among c (take s.r s.C)) refl
  where
    c : ℕ
    c = get_or (free_columns m s) l 0

    go : (b : Bool) → among c (take s.r s.C) ≡ b → among c (take s.r s.C) ≡ false
    go false e = e
    go true e =
        let (a, inside, at) = among-place (take s.r s.C) c e in
        let k : a < s.r = omega (arith, inside, length-take-le s.r s.C (omega (arith, d.rank-columns, d.long-C))) in
        absurd (free.at m s d.long-C d.rank-columns (permutation-means m s.C d.long-C d.columns) l h a k (sym (get_or-take s.r s.C a 0 k) ∙ at))

-- ---- what is printed for a text

module _ (text : List ℕ) where
  abbrev p : ℕ
  p = (reading text).result.p

  abbrev n : ℕ
  n = (reading text).result.n

  abbrev m : ℕ
  m = (reading text).result.m

  abbrev set : Set
  set = factors_of (reading text)

  -- what is printed once factoring passed
  abbrev lines : Factorization → List ℕ
  lines f = settings_text p m (set_factored f)

  pub settings-refused : ¬ StatesText largest_entries text → PrintsRefusal text_faults (settings_of text)
  unfolding settings_of settings_read_of
  settings-refused none = text-refused text lines none

  module _ (states : StatesText largest_entries text) where
    pub settings-storage : ¬ FitsAll (reading text) → (i : ℕ) × (settings_of text ≡ refusal_text storage_too_short (i + 1)) × OverflowsAt (reading text) i
    unfolding settings_of settings_read_of
    settings-storage none = text-storage text lines states none

    checked : Checked p n m (plan_of (reading text)) set work_length
    checked = set-checked text states

    count : length (free_columns m set) ≡ m - set.r
    count = let c = checked in free-count c.prime n m (plan_of (reading text)) set c.sized.row-order c.sized.column-order c.judged

    all_blocks : settings_text p m set ≡ free_line (m - set.r) ++ block_lines m (m - set.r) (kernel_basis p m set)
    unfolding settings_text
    all_blocks = ap (λ (l : List ℕ). free_line (m - set.r) ++ l) (settings-blocks p m set ∙ ap (λ (d : ℕ). block_lines m d (kernel_basis p m set)) count)

    pub settings-right : FitsAll (reading text) → SettingsTold (reading text) (settings_of text)
    unfolding settings_of settings_read_of
    settings-right fits =
        record {
          basis = kernel_basis p m set;
          printed-is = text-whole text lines states _ (factored-whole text states fits) refl ∙ all_blocks;
          right = basis-right p n m (plan_of (reading text)) set work_length checked;
        }

pub settings-alike : (T T' : List ℕ) → reading T ≡ reading T' → settings_of T ≡ settings_of T'
unfolding settings_of
settings-alike T T' same = ap settings_read_of same

-- ---- the calls

module _ (text : List ℕ) (g : Begun) (C : List ℕ) (U : Compressed) (w b₀ b : List ℕ) (call : BeginsSettings text g C U w b₀ b) where
  pub printed-all : take g.size b ++ setting_lines g.p g.columns (held_upper g C U) g.columns ≡ settings_of text
  printed-all =
      ap (λ (l : List ℕ). l ++ setting_lines g.p g.columns (held_upper g C U) g.columns) (fills-shown b₀ b g.size (first_line_of text) call.first)
      ∙ sym call.whole

  -- the line of a column that `setting_line` wrote
  module _ (c : ℕ) (inside : c < g.columns) (size : ℕ) (o₀ o : List ℕ) (line : Fills o₀ o size (setting_line_at g.p g.columns (held_upper g C U) c)) where
    shown : take size o ≡ setting_line_at (p text) (m text) (set text) c
    shown = fills-shown o₀ o size (setting_line_at g.p g.columns (held_upper g C U) c) line ∙ call.lines_are c inside

    pub column-pivot : among c (take (set text).r (set text).C) ≡ true → take size o ≡ []
    column-pivot e = shown ∙ sym (line-none (p text) (m text) (set text) c e)

    pub column-free : StatesText largest_entries text → (l : ℕ) → l < m text - (set text).r → c ≡ get_or (free_columns (m text) (set text)) l 0
        → take size o ≡ setting_line (tabulate (m text) (λ j. get_or (kernel_basis (p text) (m text) (set text)) (l * m text + j) 0))
    column-free states l h e =
        shown
        ∙ sym (line-one (p text) (m text) (set text) c (subst (λ (x : ℕ). among x (take (set text).r (set text).C) ≡ false) (sym e) (free-none (p text) (n text) (m text) (set text) (ready text states) l h)))
        ∙ ap (λ (x : ℕ). setting_line (setting (p text) (m text) (set text) x)) e
        ∙ ap setting_line (setting-block (p text) (m text) (set text) l (omega (arith, count text states)))
