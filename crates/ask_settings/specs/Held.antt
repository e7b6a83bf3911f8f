-- What stands in lists between the lines: C is the column order, U are the lists of the upper factor, w is the working row.
--   held_upper g C U              the part of the set that stands in the lists: the rank, C and U, which alone decide the settings
--   KernelReady p m s            the settings can be computed from C and U
--   SettingsHeld g C U w         what every line of a column starts from: C and U are in their lists, and their pivot columns are marked in w
--   begun_of o s size             what is returned once the stages ended with the outcome o: no columns after a refusal
--   BegunFrom s g C b₀ b w       the first line of what the stages came to is in the buffer, and the pivot columns are marked
--   BeginsSettings text g C U w b₀ b     the contract: the first line of the text is in the buffer; what is printed for the text is that line and then the lines of the
--                                columns, as they are made from the lists, each of them the line of that column for the plan that was read
use Rattle.std.specs.Prelude.{ℕ, ◌+◌, ◌-◌, ◌≤◌, ◌<◌, ◌≡◌, true, List, [], ◌++◌, length, take}
use Rattle.refusals.specs.Outcome.{Outcome}
use Rattle.refusals.specs.Outcome.{Passed, Refused}
use Rattle.algebra.specs.Prime.{Prime}
use Rattle.sparse.specs.Row.{Below}
use Rattle.sparse.specs.Matrix.{Compressed, compressed, form}
use Rattle.sparse.specs.Set.{Set, set_of}
use Rattle.answer_kernel.specs.Filling.{Marked}
use Rattle.limits.specs.Limits.{largest_size}
use Rattle.byte_buffer.specs.Fills.{Fills}
use Rattle.print_text.specs.Settings.{free_line}
use Rattle.stages.specs.Stages.{reading}
use Rattle.stages.specs.Meaning.{factors_of}
use Rattle.stages.specs.Results.{Stages}
use Rattle.ask_lib.specs.Held.{stages_refusal, staged_then}
use Rattle.ask_settings.specs.declared.Begun.{Begun}
use Rattle.ask_settings.specs.Settings.{setting_line_at, setting_lines, settings_of, first_line_of}

abbrev pub held_upper : Begun → List ℕ → Compressed → Set
held_upper g C U =
    set_of g.rank [] (take g.columns C) (compressed [] [] [])
    (compressed (take (g.rank + 1) U.starts) (take g.upper U.cols) (take g.upper U.vals))

pub record KernelReady (p m : ℕ) (s : Set) : Type 0 where
  pub prime : Prime p
  pub formed : form p m s.U ≡ true
  pub rows : s.r < length s.U.starts
  pub order : s.r ≤ length s.C
  pub places : Below m s.C

pub record SettingsHeld (g : Begun) (C : List ℕ) (U : Compressed) (w : List ℕ) : Type 0 where
  pub C-fits : g.columns ≤ length C
  pub U-starts : g.rank + 1 ≤ length U.starts
  pub U-columns : g.upper ≤ length U.cols
  pub U-values : g.upper ≤ length U.vals
  pub few : g.columns ≤ largest_size
  pub wide : g.columns ≤ length w
  pub ready : 0 < g.columns → KernelReady g.p g.columns (held_upper g C U)
  pub marked : 0 < g.columns → Marked (take g.rank (take g.columns C)) w

abbrev pub begun_of : Outcome → Stages → ℕ → Begun
begun_of Passed s size = record { size = size; p = s.reading.p; columns = s.reading.m; rank = s.factored.rank; upper = s.upper }
begun_of (Refused k d) s size = record { size = size; p = 0; columns = 0; rank = 0; upper = 0 }

pub record BegunFrom (s : Stages) (g : Begun) (C b₀ b w : List ℕ) : Type 0 where
  pub line : Fills b₀ b g.size (staged_then s (free_line (s.reading.m - s.factored.rank)))
  pub begun-is : g ≡ begun_of (stages_refusal s) s g.size
  pub marked : stages_refusal s ≡ Passed → Marked (take s.factored.rank (take s.reading.m C)) w

pub record BeginsSettings (text : List ℕ) (g : Begun) (C : List ℕ) (U : Compressed) (w b₀ b : List ℕ) : Type 0 where
  pub first : Fills b₀ b g.size (first_line_of text)
  pub whole : settings_of text ≡ first_line_of text ++ setting_lines g.p g.columns (held_upper g C U) g.columns
  pub lines_are : (c : ℕ) → c < g.columns
      → setting_line_at g.p g.columns (held_upper g C U) c ≡ setting_line_at (reading text).result.p (reading text).result.m (factors_of (reading text)) c
  pub held : SettingsHeld g C U w
