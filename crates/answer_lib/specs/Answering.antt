-- The answer to a question about a plan's text: from a certificate, or from the engine's own factors where the certificate has no bytes.
-- a and b are the numbers of cells that are lent for x and z.
--   own_answer r y a b             for a reading that passed: the refusal of factoring, or the answer from the factors of its plan
--   certified_answer r cert y a b  for a reading that passed: the answer from a certificate
--   answer_read_of r cert y a b     for a reading: its refusal, or one of these
--   answer_text_of text cert y a b  for a text: reading, then factoring where there is no certificate, then the question
use Rattle.std.specs.Prelude.{ℕ, List, [], ◌∷◌}
use Rattle.limits.specs.Limits.{work_length}
use Rattle.text_plan.specs.Call.{ReadAnswer}
use Rattle.text_plan.specs.Held.{plan_of}
use Rattle.call_answer.specs.Calls.{Given, answer_factors_of, answer_certificate_of}
use Rattle.call_owned.specs.Owned.{given_after}
use Rattle.stages.specs.Stages.{reading, factored_of, set_factored}

unfoldable pub own_answer : ReadAnswer → (y : List ℕ) → (a b : ℕ) → Given
own_answer r y a b =
    let q = r.result in
    let f = factored_of r in
    given_after f.outcome (answer_factors_of q.p q.n q.m (plan_of r) (set_factored f) y a b work_length)

unfoldable pub certified_answer : ReadAnswer → (cert y : List ℕ) → (a b : ℕ) → Given
certified_answer r cert y a b = let q = r.result in answer_certificate_of q.p q.n q.m (plan_of r) cert y a b work_length

-- a certificate without bytes is none
unfoldable pub answer_read_of : ReadAnswer → (cert y : List ℕ) → (a b : ℕ) → Given
answer_read_of r [] y a b = given_after r.result.outcome (own_answer r y a b)
answer_read_of r (c ∷ cs) y a b = given_after r.result.outcome (certified_answer r (c ∷ cs) y a b)

unfoldable pub answer_text_of : (text cert y : List ℕ) → (a b : ℕ) → Given
answer_text_of text cert y a b = answer_read_of (reading text) cert y a b
