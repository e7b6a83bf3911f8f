-- What the stages leave: A are the lists of the plan, ow the owners, h the lists of the set.
--   Fits s A h             the lists are at least as long as what stands in them
--   held_set s h            the set that stands in the lists
--   stages_outcome s        the first refusal of the stages, by reading or by factoring, or none
--   FactorsHeld x s A h    after a reading x that passed: the plan, the outcome and the numbers of its factoring, and where that passed too, the set
--   Staged text s A w₀ h   the contract: the reading, what stands in the lists after it, and the working row, which was w₀, left all zero
--   StagedOwned ..         the same with the owners that were read
use Rattle.std.specs.Prelude.{ℕ, ◌+◌, ◌≤◌, ◌≡◌, List, length, take}
use Rattle.lists.specs.Filled.{zeros}
use Rattle.refusals.specs.Refusals.{◌▷◌, detail_of}
use Rattle.refusals.specs.Outcome.{Outcome}
use Rattle.refusals.specs.Outcome.{Passed}
use Rattle.sparse.specs.Matrix.{Compressed, compressed}
use Rattle.sparse.specs.Set.{Set, set_of, Storage}
use Rattle.text_plan.specs.Call.{ReadAnswer}
use Rattle.limits.specs.Limits.{largest_size}
use Rattle.stages.specs.Results.{Stages}
use Rattle.stages.specs.Stages.{reading, owners_read, factored_of, set_factored}
use Rattle.text_plan.specs.Held.{held_plan, plan_of}
use Rattle.stages.specs.Lists.{Held}

pub record Fits (s : Stages) (A : Compressed) (h : Storage) : Type 0 where
  pub plan : Held s.reading A
  pub R-fits : s.reading.n ≤ length h.R
  pub C-fits : s.reading.m ≤ length h.C
  pub L-starts : s.reading.n + 1 ≤ length h.L.starts
  pub L-columns : s.lower ≤ length h.L.cols
  pub L-values : s.lower ≤ length h.L.vals
  pub U-starts : s.factored.rank + 1 ≤ length h.U.starts
  pub U-columns : s.upper ≤ length h.U.cols
  pub U-values : s.upper ≤ length h.U.vals

abbrev pub held_set : Stages → Storage → Set
held_set s h =
    set_of s.factored.rank (take s.reading.n h.R) (take s.reading.m h.C)
    (compressed (take (s.reading.n + 1) h.L.starts) (take s.lower h.L.cols) (take s.lower h.L.vals))
    (compressed (take (s.factored.rank + 1) h.U.starts) (take s.upper h.U.cols) (take s.upper h.U.vals))

abbrev pub stages_outcome : Stages → Outcome
stages_outcome s = s.reading.outcome ▷ s.factored.outcome

pub record FactorsHeld (x : ReadAnswer) (s : Stages) (A : Compressed) (h : Storage) : Type 0 where
  pub fits : Fits s A h
  pub plan-is : held_plan s.reading A ≡ plan_of x
  pub outcome-is : s.factored.outcome ≡ (factored_of x).outcome
  pub detail-small : detail_of s.factored.outcome ≤ largest_size
  pub rank_is : s.factored.rank ≡ (factored_of x).rank
  pub structural-is : s.factored.structural ≡ (factored_of x).structural
  pub lower-is : s.lower ≡ length (factored_of x).L.vals
  pub upper_is : s.upper ≡ length (factored_of x).U.vals
  pub set_is : s.factored.outcome ≡ Passed → held_set s h ≡ set_factored (factored_of x)

pub record Staged (text : List ℕ) (s : Stages) (A : Compressed) (w₀ : List ℕ) (h : Storage) : Type 0 where
  pub reading-is : s.reading ≡ (reading text).result
  pub factors : s.reading.outcome ≡ Passed → FactorsHeld (reading text) s A h
  pub cleared : h.work ≡ zeros (length w₀)

pub record StagedOwned (text : List ℕ) (s : Stages) (A : Compressed) (ow w₀ : List ℕ) (h : Storage) : Type 0 where
  pub stages : Staged text s A w₀ h
  pub owners-are : ow ≡ owners_read text
