-- The details of an answer's refusals are small: positions and indexes of a plan that was read, and of a question within its limit.
use mathlib.Core.Bool.{Bool, true, false, cond, ◌&&◌}
use mathlib.Core.List.{List}
use Prim.Native.Nat.{ℕ, zero, suc, ◌≤◌}
use native.Mathlib.Omega.{arith}
use lib.Dec.{eqb, leb, ltb}
use lib.ListN.{length, get_or}
use Rattle.lists.specs.Tests.{first}
use Rattle.refusals.specs.Refusals.{◌▷◌, unless, detail_of}
use Rattle.refusals.specs.Outcome.{Outcome}
use Rattle.refusals.specs.Outcome.{Passed, Refused}
use Rattle.residue.specs.Range.{is_modulus}
use Rattle.algebra.specs.Matrix.{vector}
use Rattle.sparse.specs.Matrix.{Compressed, matrix, form}
use Rattle.sparse.specs.Set.{Set}
use Rattle.pluq.specs.Order.{permutation}
use Rattle.pluq.specs.Shape.{lower, upper}
use Rattle.pluq.specs.Judge.{agrees, product_outcome, judge_factors, judge}
use Rattle.row_space.specs.Question.{question_outcome}
use Rattle.limits.specs.Limits.{work_length}
use Rattle.call_plan.specs.Tests.{plan_lengths, set_lengths, limits_ok, plan_outcome}
use Rattle.call_check.specs.Calls.{factors_outcome, check_factors_of}
use Rattle.call_answer.specs.Calls.{question_lengths, question_after}

abbrev pub Small : ℕ → Outcome → Type 0
Small k o = detail_of o ≤ k

-- ---- tests one after another

pub small-then : (k : ℕ) (o next : Outcome) → Small k o → Small k next → Small k (o ▷ next)
small-then k Passed next h g = g
small-then k (Refused c d) next h g = h

small-test : (k : ℕ) (t : Bool) (c d : ℕ) → d ≤ k → Small k (unless t c d)
small-test k true c d h = omega arith
small-test k false c d h = h

-- a test with no detail
pub plain : (k : ℕ) (t : Bool) (c : ℕ) (next : Outcome) → Small k next → Small k (unless t c 0 ▷ next)
plain k t c next g = small-then k (unless t c 0) next (small-test k t c 0 (omega arith)) g

first_small : (n : ℕ) (t : ℕ → Bool) → first n t ≤ n
unfolding first
first_small zero t = omega arith
first_small (suc n) t = go (t 0) (first_small n (λ i. t (suc i)))
  where
    go : (b : Bool) → first n (λ i. t (suc i)) ≤ n → cond b (suc (first n (λ i. t (suc i)))) 0 ≤ suc n
    go true h = omega arith
    go false h = omega arith

-- the values of a question
pub values-small : (k p : ℕ) (y : List ℕ) → length y ≤ k → Small k (question_outcome p y)
unfolding question_outcome
values-small k p y h =
    let at = first (length y) (λ j. ltb (get_or y j 0) p) in
    small-test k (leb (length y) at) 15 at (omega (arith, first_small (length y) (λ j. ltb (get_or y j 0) p)))

-- ---- the tests of the call

module _ (k p n m : ℕ) (A : Compressed) (s : Set) (rows : n ≤ k) where
  product_small : (t : ℕ → Bool) → Small k (product_outcome n t)
  unfolding product_outcome
  product_small t = small-test k (leb n (first n t)) 14 (first n t) (omega (arith, first_small n t))

  factors-small : Small k (judge_factors p n m A s)
  unfolding judge_factors
  factors-small =
      plain k (form p s.r s.L) 13 _
      (plain k (form p m s.U) 13 _
      (plain k (lower s.r (matrix s.L)) 13 _
      (plain k (upper s.r (vector s.C) (matrix s.U)) 13 _
      (product_small (agrees p m s.r (matrix A) (vector s.R) (matrix s.L) (matrix s.U))))))

  judge-small : Small k (judge p n m A s)
  unfolding judge
  judge-small =
      plain k (permutation s.R) 11 _
      (plain k (permutation s.C) 11 _
      (plain k (leb s.r n) 12 _
      (plain k (leb s.r m) 12 _
      factors-small)))

  pub check-small : (w : ℕ) → Small k (check_factors_of p n m A s w)
  unfolding check_factors_of factors_outcome plan_outcome
  check-small w =
      small-then k (factors_outcome p n m A s w) (judge p n m A s)
      (plain k (plan_lengths n A && (set_lengths n m s && eqb w work_length)) 9 _
      (plain k (is_modulus p) 1 _
      (plain k (limits_ok n m A) 2 _
      (small-test k (form p m A) 8 0 (omega arith)))))
      judge-small

  pub question-small : (y : List ℕ) (a b w : ℕ) → length y ≤ k → Small k (question_after (check_factors_of p n m A s w) p n m y a b)
  unfolding question_after
  question-small y a b w h =
      plain k (question_lengths n m y a b) 9 _
      (small-then k (check_factors_of p n m A s w) (question_outcome p y) (check-small w) (values-small k p y h))
