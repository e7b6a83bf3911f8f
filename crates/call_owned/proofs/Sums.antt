-- Questions that add up (document 02, slip 14), asked by the calls with owners: what holds of the calls without them holds of these.
--   owned-sum            `SumRight`, where the third call has m owners
--   owned-sum-closed     `SumClosed`, the same
use mathlib.Core.Path.{◌≡◌, ap}
use Prim.Native.Nat.{ℕ}
use Rattle.call_answer.specs.Calls.{answer_number, Given}
use Rattle.call_answer.specs.Sums.{Called, AnswersTo, SumRight, SumClosed}
use Rattle.call_owned.specs.Owned.{owned_answer}
use Rattle.call_owned.proofs.Owned.{answers-right, answers-done}

-- g, g' and g'' are what the three calls are given without owners
module _ (m : ℕ) (g g' g'' : ℕ → ℕ → ℕ → Given) (k k' k'' : ℕ) (c c' d : Called) (call : AnswersTo (λ x z w. owned_answer k m (g x z w)) c)
    (call' : AnswersTo (λ x z w. owned_answer k' m (g' x z w)) c') (call'' : AnswersTo (λ x z w. owned_answer k'' m (g'' x z w)) d) (count : k'' ≡ m) where
  -- where the first two calls are not refused, all three are the calls without owners
  without : (X : Type 0) → (AnswersTo g c → AnswersTo g' c' → AnswersTo g'' d → X) → answer_number c.answer ≡ 0 → answer_number c'.answer ≡ 0 → X
  without X f done done' =
      f (answers-done k m _ c.answer c.x₀ c.x c.z₀ c.z c.w₀ c.w call done) (answers-done k' m _ c'.answer c'.x₀ c'.x c'.z₀ c'.z c'.w₀ c'.w call' done')
      (answers-right k'' m _ d.answer d.x₀ d.x d.z₀ d.z d.w₀ d.w call'' count)

  pub owned-sum : (p n a b : ℕ) → (AnswersTo g c → AnswersTo g' c' → AnswersTo g'' d → SumRight p n m a b c c' d) → SumRight p n m a b c c' d
  owned-sum p n a b f =
      record {
        answered = λ z z'. (without _ f z z').answered z z';
        open-sum = λ e e'. (without _ f (ap answer_number e) (ap answer_number e')).open-sum e e';
        closed-sum = λ e e'. (without _ f (ap answer_number e) (ap answer_number e')).closed-sum e e';
        closed-sum-left = λ e e'. (without _ f (ap answer_number e) (ap answer_number e')).closed-sum-left e e';
      }

  pub owned-sum-closed : (n : ℕ) → (AnswersTo g c → AnswersTo g' c' → AnswersTo g'' d → SumClosed n c c' d) → SumClosed n c c' d
  owned-sum-closed n f =
      record {
        second-closed = λ e e'. (without _ f (ap answer_number e) (ap answer_number e')).second-closed e e';
        first-closed = λ e e'. (without _ f (ap answer_number e) (ap answer_number e')).first-closed e e';
      }
