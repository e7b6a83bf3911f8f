-- Answers to one question, whichever call gave them.
--   OwnedAnswerOf p n m A y r    r is the answer that some call with owners gave to y, from stored factors or from a certificate, and did not refuse
use Rattle.std.specs.Prelude.{ℕ, ◌≡◌, List, length}
use Rattle.sparse.specs.Matrix.{Compressed}
use Rattle.sparse.specs.Set.{Set}
use Rattle.call_answer.specs.Calls.{answer_number, answer_factors_of, answer_certificate_of, Answers}
use Rattle.call_answer.specs.Answer.{Answer}
use Rattle.call_owned.specs.Owned.{owned_answer}

pub data OwnedAnswerOf (p n m : ℕ) (A : Compressed) (y : List ℕ) (r : Answer) : Type 0 where
  from_stored : (k : ℕ) (s : Set) (x₀ x z₀ z w₀ w : List ℕ) → Answers (owned_answer k m (answer_factors_of p n m A s y (length x₀) (length z₀) (length w₀))) r x₀ x z₀ z w₀ w
      → answer_number r ≡ 0 → OwnedAnswerOf p n m A y r
  from_bytes : (k : ℕ) (cert x₀ x z₀ z w₀ w : List ℕ) → Answers (owned_answer k m (answer_certificate_of p n m A cert y (length x₀) (length z₀) (length w₀))) r x₀ x z₀ z w₀ w
      → answer_number r ≡ 0 → OwnedAnswerOf p n m A y r
