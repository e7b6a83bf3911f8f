-- What the answer from a certificate that passed needs.
--   AnswerPartsReady p n m cert y x z w    the bytes end where their parts do, and the set that they hold is ready to answer
use Rattle.std.specs.Prelude.{ℕ, ◌≡◌, List, length}
use Rattle.answer_question.specs.Needs.{AnswerReady}
use Rattle.certificate.specs.Reading.{places_in, set_of_certificate}

pub record AnswerPartsReady (p n m : ℕ) (cert y x z w : List ℕ) : Type 0 where
  pub long : length cert ≡ (places_in n m cert).end
  pub ready : AnswerReady p (set_of_certificate n m cert) y x z w
