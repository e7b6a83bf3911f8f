-- The calls that take a plan as its text, as planning programs in C see them.
--   check_read_of x cert       checking a certificate against the plan of a reading that passed
--   check_text_of text cert    reading the text, then checking the certificate against its plan
--   make_read_of x room        factoring the plan of a reading that passed, then writing its certificate into a buffer with so much room
--   make_text_of text room     reading the text, then factoring its plan and writing its certificate
--   certificate_for x         the certificate of the set that factoring gives for the plan of a reading
--   report_text_of text room   reading the text and factoring its plan, then writing the report into a buffer with so much room
--   verdict_byte a            1 where an answer is open, else 0
--   packed o                 an outcome as one number: the table's number plus 256 times its detail
--   Makes text z b₀ b        the contract of making: the number, and every byte of the buffer
--   ReportsText text z b₀ b  the contract of reporting: the number, and every byte of the buffer
--   AnswersText ..           the contract of answering: the number, the verdict, and every cell of x and z
use Rattle.std.specs.Prelude.{ℕ, ◌+◌, ◌*◌, ◌≡◌, List, length}
use Rattle.lists.specs.Filled.{filled}
use Rattle.refusals.specs.Refusals.{◌▷◌, number_of, detail_of}
use Rattle.refusals.specs.Outcome.{Outcome}
use Rattle.text_plan.specs.Call.{ReadAnswer}
use Rattle.limits.specs.Limits.{work_length}
use Rattle.certificate.specs.Layout.{certificate_of}
use Rattle.certificate.specs.Writing.{room_for}
use Rattle.call_check.specs.Calls.{check_certificate_of}
use Rattle.call_write.specs.Call.{write_outcome, bytes_given}
use Rattle.call_answer.specs.Answer.{Answer}
use Rattle.stages.specs.Stages.{reading, factored_of, set_factored}
use Rattle.text_plan.specs.Held.{plan_of}
use Rattle.report_lib.specs.Reporting.{report_of, report_outcome}
use Rattle.answer_lib.specs.Answering.{answer_text_of}

-- ---- checking

unfoldable pub check_read_of : ReadAnswer → List ℕ → Outcome
check_read_of x cert = let r = x.result in r.outcome ▷ check_certificate_of r.p r.n r.m (plan_of x) cert work_length

unfoldable pub check_text_of : List ℕ → List ℕ → Outcome
check_text_of text cert = check_read_of (reading text) cert

-- ---- making

unfoldable pub make_read_of : ReadAnswer → ℕ → Outcome
make_read_of x room =
    let r = x.result in
    let f = factored_of x in
    r.outcome ▷ f.outcome ▷ write_outcome r.p r.n r.m (plan_of x) (set_factored f) work_length room

unfoldable pub make_text_of : List ℕ → ℕ → Outcome
make_text_of text room = make_read_of (reading text) room

unfoldable pub certificate_for : ReadAnswer → List ℕ
certificate_for x = certificate_of x.result.p x.result.n x.result.m (set_factored (factored_of x))

-- ---- one number

abbrev pub packed : Outcome → ℕ
packed o = number_of o + 256 * detail_of o

pub record Makes (text : List ℕ) (z : ℕ) (b₀ b : List ℕ) : Type 0 where
  pub number : z ≡ packed (make_text_of text (length b₀))
  pub buffer : b ≡ filled (length b₀) (bytes_given (make_text_of text (length b₀)) (certificate_for (reading text)))

-- ---- reporting

unfoldable pub report_text_of : List ℕ → ℕ → Outcome
report_text_of text room = report_outcome text ▷ room_for room (report_of text)

pub record ReportsText (text : List ℕ) (z : ℕ) (b₀ b : List ℕ) : Type 0 where
  pub number : z ≡ packed (report_text_of text (length b₀))
  pub buffer : b ≡ filled (length b₀) (bytes_given (report_text_of text (length b₀)) (report_of text))

-- ---- answering

abbrev pub verdict_byte : Answer → ℕ
verdict_byte (Answer.Refused number detail) = 0
verdict_byte Answer.Open = 1
verdict_byte Answer.Closed = 0

pub record AnswersText (text cert y : List ℕ) (q : ℕ) (x₀ x z₀ z : List ℕ) (v : ℕ) : Type 0 where
  pub number : q ≡ packed (answer_text_of text cert y (length x₀) (length z₀)).outcome
  pub x-is : x ≡ filled (length x₀) (answer_text_of text cert y (length x₀) (length z₀)).x
  pub z-is : z ≡ filled (length z₀) (answer_text_of text cert y (length x₀) (length z₀)).z
  pub verdict : v ≡ verdict_byte (answer_text_of text cert y (length x₀) (length z₀)).answer
