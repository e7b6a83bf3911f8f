-- The details of an answer's refusals are small: positions and indexes of a plan that was read, and of slot values within their limit.
use mathlib.Core.List.{List}
use Prim.Native.Nat.{ℕ, ◌≤◌}
use lib.ListN.{length}
use Rattle.sparse.specs.Matrix.{Compressed}
use Rattle.sparse.specs.Set.{Set}
use Rattle.row_space.specs.Question.{question_outcome}
use Rattle.call_check.specs.Calls.{check_factors_of}
use Rattle.call_slots.specs.Calls.{slot_lengths, slots_after}
use Rattle.ask_lib.proofs.Details.{Small, small-then, plain, values-small, check-small}

pub slots_small : (k p n m : ℕ) (A : Compressed) (s : Set) → n ≤ k → (h : List ℕ) (c a b w : ℕ) → length h ≤ k → Small k (slots_after (check_factors_of p n m A s w) p n m c h a b)
unfolding slots_after
slots_small k p n m A s rows h c a b w few =
    plain k (slot_lengths n m c h a b) 9 _
    (small-then k (check_factors_of p n m A s w) (question_outcome p h) (check-small k p n m A s rows w) (values-small k p h few))
