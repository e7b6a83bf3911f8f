-- What the steps of asking start from: A are the lists of the plan, h those of the set, y the question, `out` the buffer.
--   LineReady d n m x z out       writing an answer's line: a detail d that can be counted from 1, n and m values within the limit, and room
--   Answerable s A h y x z        answering: the lists have the plan and the set, and room for x and z
--   RowCountable s                the row of a refusal by factoring can be counted from 1
--   AskStagedReady s A h y out    writing the line of what the stages came to; the working row is all zero
use Rattle.std.specs.Prelude.{ℕ, ◌≤◌, ◌≡◌, List, length}
use Rattle.lists.specs.Filled.{zeros}
use Rattle.refusals.specs.Refusals.{detail_of}
use Rattle.refusals.specs.Outcome.{Passed}
use Rattle.sparse.specs.Matrix.{Compressed}
use Rattle.sparse.specs.Set.{Storage}
use Rattle.limits.specs.Limits.{largest_size, work_length, starts_length, print_room}
use Rattle.stages.specs.Staged.{Fits}
use Rattle.stages.specs.Results.{Stages}
use Rattle.ask_lib.specs.Asking.{AskLists}

pub record LineReady (detail n m : ℕ) (x z out : List ℕ) : Type 0 where
  pub detail-small : detail ≤ starts_length
  pub x-few : n ≤ largest_size
  pub z-few : m ≤ largest_size
  pub x-length : length x ≡ largest_size
  pub z-length : length z ≡ largest_size
  pub room : print_room ≤ length out

pub record Answerable (s : Stages) (A : Compressed) (h : Storage) (y x z : List ℕ) : Type 0 where
  pub fits : Fits s A h
  pub rows-small : s.reading.n ≤ largest_size
  pub columns-small : s.reading.m ≤ largest_size
  pub x-length : length x ≡ largest_size
  pub z-length : length z ≡ largest_size
  pub few : length y ≤ starts_length
  pub work-length : length h.work ≡ work_length

pub record RowCountable (s : Stages) : Type 0 where
  pub detail-small : s.reading.outcome ≡ Passed → detail_of s.factored.outcome ≤ largest_size

pub record AskStagedReady (s : Stages) (A : Compressed) (h : Storage) (y out : List ℕ) : Type 0 where
  pub countable : RowCountable s
  pub fits : s.reading.outcome ≡ Passed → Fits s A h
  pub rows-small : s.reading.outcome ≡ Passed → s.reading.n ≤ largest_size
  pub columns-small : s.reading.outcome ≡ Passed → s.reading.m ≤ largest_size
  pub asked : AskLists y out h.work
  pub clear : h.work ≡ zeros (length h.work)
