-- The answer of a call with owners is that of the call without them.
use mathlib.Core.List.{List}
use Prim.Native.Nat.{ℕ}
use Rattle.sparse.specs.Matrix.{Compressed}
use Rattle.call_answer.specs.Meaning.{AnswerOf, from_stored as plain_stored, from_bytes as plain_bytes}
use Rattle.call_answer.specs.Answer.{Answer}
use Rattle.call_owned.specs.Meaning.{OwnedAnswerOf, from_stored, from_bytes}
use Rattle.call_owned.proofs.Owned.{answers-done}

pub answer-without : (p n m : ℕ) (A : Compressed) (y : List ℕ) (r : Answer) → OwnedAnswerOf p n m A y r → AnswerOf p n m A y r
answer-without p n m A y r (from_stored k s x₀ x z₀ z w₀ w call done) = plain_stored s x₀ x z₀ z w₀ w (answers-done k m _ r x₀ x z₀ z w₀ w call done) done
answer-without p n m A y r (from_bytes k cert x₀ x z₀ z w₀ w call done) = plain_bytes cert x₀ x z₀ z w₀ w (answers-done k m _ r x₀ x z₀ z w₀ w call done) done
