-- What the steps start from: C is the column order, U are the lists of the upper factor, w is the working row, `out` the buffer.
--   FreeLineReady g C U c out     the line of the column c, which is free
--   ColumnLineReady g C U w c out       the line of the column c
--   BeginStagedReady s C out w    the first line of what the stages came to
--   BeginLists C U out w          the first line of a text: lists of the largest lengths, a buffer that holds any line, and a working row
use Rattle.std.specs.Prelude.{ℕ, ◌≤◌, ◌<◌, ◌≡◌, List, length, take}
use Rattle.refusals.specs.Outcome.{Passed}
use Rattle.sparse.specs.Matrix.{Compressed}
use Rattle.answer_kernel.specs.Needs.{MarksReady}
use Rattle.limits.specs.Limits.{largest_size, work_length, print_room}
use Rattle.stages.specs.Lists.{Largest}
use Rattle.stages.specs.Results.{Stages}
use Rattle.ask_lib.specs.Held.{stages_refusal}
use Rattle.ask_lib.specs.Needs.{RowCountable}
use Rattle.ask_settings.specs.declared.Begun.{Begun}
use Rattle.ask_settings.specs.Held.{held_upper, KernelReady, SettingsHeld}

pub record FreeLineReady (g : Begun) (C : List ℕ) (U : Compressed) (c : ℕ) (out : List ℕ) : Type 0 where
  pub C-fits : g.columns ≤ length C
  pub U-starts : g.rank < length U.starts
  pub U-columns : g.upper ≤ length U.cols
  pub U-values : g.upper ≤ length U.vals
  pub few : g.columns ≤ largest_size
  pub ready : KernelReady g.p g.columns (held_upper g C U)
  pub inside : c < g.columns
  pub room : print_room ≤ length out

pub record ColumnLineReady (g : Begun) (C : List ℕ) (U : Compressed) (w : List ℕ) (c : ℕ) (out : List ℕ) : Type 0 where
  pub held : SettingsHeld g C U w
  pub inside : c < g.columns
  pub room : print_room ≤ length out

pub record BeginStagedReady (s : Stages) (C out w : List ℕ) : Type 0 where
  pub countable : RowCountable s
  pub room : print_room ≤ length out
  pub C-fits : stages_refusal s ≡ Passed → s.reading.m ≤ length C
  pub rank-small : stages_refusal s ≡ Passed → s.factored.rank ≤ s.reading.m
  pub marks : stages_refusal s ≡ Passed → MarksReady s.factored.rank (take s.reading.m C) w

pub record BeginLists (C : List ℕ) (U : Compressed) (out w : List ℕ) : Type 0 where
  pub C-length : length C ≡ largest_size
  pub U-lists : Largest U
  pub room : print_room ≤ length out
  pub work-length : length w ≡ work_length
