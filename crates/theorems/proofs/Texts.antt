-- The calls for C that take a plan as its text, beside those that make and check a certificate (`make`, `check-text` in Demand1 to Demand3). Every statement speaks of
-- what a call returned and left: z is the number returned, a number of the table plus 256 times its detail. Everything is shown in the crate that it is about.
-- Reporting:
--   report-text-exactly    0 exactly if the text states a plan, its factors fit, and the buffer holds its report
--   report-text-buffer     0: the buffer has the report, zero past its end
--   report-text-right      0: the report has the plan's sizes, its rank, the number of structural pivots, the entries of L and U, its open words with their owners, and
--                          their totals
--   report-text-cleared    else the buffer is all zero
--   report-text-by         the numbers by which it refuses
--   report-text-seven      after a text that is accepted: 7 exactly if L or U has more than 16,384 entries
--   report-text-row        at the first row in processing order that overflows, counted from 0
--   report-text-nine       9 exactly if they fit and the buffer is shorter than the report
--   report-text-numbers    and nothing else but 0
--   report-text-room       every report has fewer than 65,536 bytes: a buffer of so many holds it, with a zero after it
--   report-text-bytes      and no zero byte, so that in the buffer it stands before the first zero
-- Answering a question y: q is the number returned, v the verdict, 1 open or 0 closed, and x and z are the lists as left.
--   answer-text-exactly    0 exactly if the text states a plan, its factors fit or the certificate that is handed over passes, and y, x and z are the plan's: m
--                          residues, n cells and m cells
--   answer-text-right      0: the answer is right, from the certificate's set or the plan's factors. By its parts:
--   .. -open, -closed      1 exactly if some x has x A = y, and 0 exactly if none has
--   .. -x, -z              1: the x that was left has x A = y, is 0 on every row that is no pivot row, and z is all zero; 0: the z that was left has A z = 0 and y z
--                          not 0, is 1 at one column that is no pivot column and 0 at the others, and x is all zero
--   .. -one-value          1: two settings that give the same slots give y one value
--   .. -every-value        0: for every setting and every value some setting gives the same slots and gives y that value
--   answer-text-cleared    else x and z are all zero, and the verdict is 0
--   answer-text-by         the numbers by which it refuses
--   answer-text-refused    a text that states no plan is refused as reading refuses it
--   answer-text-storage    without a certificate, where the plan's factors do not fit: 7 at the first row in processing order that overflows, counted from 0
-- What is given after a text that states a plan is what a call on the stored plan gives, so that all that Demand1 to Demand3 say of these calls holds of it:
--   answer-text-stored     without a certificate, where the plan's factors fit: the call with these factors
--   answer-text-bytes      with one: the call with its bytes
use Prim.Native.Nat.{ℕ, ◌+◌, ◌*◌, ◌<◌}
use mathlib.Core.Path.{◌≡◌}
use mathlib.Core.Logic.{◌↔◌, ◌⊎◌}
use mathlib.Core.Bool.{false}
use mathlib.Core.List.{List, [], ◌∷◌, ◌++◌}
use lib.ListN.{length}
use Rattle.lists.specs.Tests.{among}
use Rattle.lists.specs.Filled.{zeros, filled}
use Rattle.refusals.specs.Table.{text_faults, set_faults, storage_too_short, wrong_length, question_too_large}
use Rattle.algebra.specs.Matrix.{vector}
use Rattle.algebra.specs.RowSpace.{InRowSpace}
use Rattle.algebra.specs.Settings.{Determined, Undetermined}
use Rattle.sparse.specs.Matrix.{matrix}
use Rattle.limits.specs.Limits.{largest_entries, work_length, print_room}
use Rattle.text_plan.specs.Held.{plan_of}
use Rattle.text_owners.specs.Stating.{StatesText}
use Rattle.call_answer.specs.Calls.{answer_factors_of, answer_certificate_of}
use Rattle.call_answer.specs.Meaning.{LeftOpen, LeftClosed}
use Rattle.stages.specs.Stages.{reading}
use Rattle.stages.specs.Meaning.{factors_of, FitsAll, OverflowsAt}
use Rattle.report_lib.specs.Reporting.{report_of}
use Rattle.report_lib.specs.Meaning.{ReportsRight}
use Rattle.answer_lib.specs.Answering.{answer_text_of}
use Rattle.text_calls.specs.Calls.{packed, ReportsText, AnswersText}
use Rattle.text_calls.specs.Meaning.{Reportable, PackedFrom, TextAskable, set_used, VerdictRight}
use Rattle.text_calls.proofs.Reports as reports
use Rattle.text_calls.proofs.Answers as answers

-- ---- reporting: b₀ and b are the buffer before and after

module _ (text : List ℕ) (z : ℕ) (b₀ b : List ℕ) (call : ReportsText text z b₀ b) where
  pub report-text-exactly : (z ≡ 0) ↔ Reportable text (length b₀)
  report-text-exactly = reports.reported-exactly text z b₀ b call

  pub report-text-buffer : z ≡ 0 → b ≡ filled (length b₀) (report_of text)
  report-text-buffer = reports.reported-buffer text z b₀ b call

  pub report-text-right : z ≡ 0 → (states : StatesText largest_entries text) → ReportsRight (reading text) states.owners (report_of text)
  report-text-right = reports.reported-right text z b₀ b call

  pub report-text-cleared : ¬ (z ≡ 0) → b ≡ zeros (length b₀)
  report-text-cleared = reports.reported-cleared text z b₀ b call

  pub report-text-by : PackedFrom (text_faults ++ (storage_too_short ∷ wrong_length ∷ [])) z
  report-text-by = reports.reported-by text z b₀ b call

  module _ (states : StatesText largest_entries text) where
    pub report-text-numbers : (z ≡ 0) ⊎ ((z ≡ 9) ⊎ ((i : ℕ) × (z ≡ 7 + 256 * i)))
    report-text-numbers = reports.reported-numbers text z b₀ b call states

    pub report-text-seven : ((i : ℕ) × (z ≡ 7 + 256 * i)) ↔ (¬ FitsAll (reading text))
    report-text-seven = reports.reported-seven text z b₀ b call states

    pub report-text-row : (i : ℕ) → z ≡ 7 + 256 * i → OverflowsAt (reading text) i
    report-text-row = reports.reported-row text z b₀ b call states

    pub report-text-nine : (z ≡ 9) ↔ (FitsAll (reading text) × (length b₀ < length (report_of text)))
    report-text-nine = reports.reported-nine text z b₀ b call states

-- the report of any text
pub report-text-room : (text : List ℕ) → length (report_of text) < print_room
report-text-room = reports.reported-room

pub report-text-bytes : (text : List ℕ) → among 0 (report_of text) ≡ false
report-text-bytes = reports.reported-bytes

-- ---- answering: x₀, z₀ and x, z are the lists before and after

module _ (text cert y : List ℕ) (q : ℕ) (x₀ x z₀ z : List ℕ) (v : ℕ) (call : AnswersText text cert y q x₀ x z₀ z v) where
  pub answer-text-exactly : (q ≡ 0) ↔ TextAskable text cert y (length x₀) (length z₀)
  answer-text-exactly = answers.answered-exactly text cert y q x₀ x z₀ z v call

  pub answer-text-right : q ≡ 0 → let r = (reading text).result in VerdictRight r.p r.n r.m (plan_of (reading text)) (set_used text cert) y v x z
  answer-text-right = answers.answered-right text cert y q x₀ x z₀ z v call

  pub answer-text-open : q ≡ 0 → let r = (reading text).result in (v ≡ 1) ↔ InRowSpace r.p r.n r.m (matrix (plan_of (reading text))) (vector y)
  answer-text-open done = (answer-text-right done).open-exactly

  pub answer-text-closed : q ≡ 0 → let r = (reading text).result in (v ≡ 0) ↔ (¬ InRowSpace r.p r.n r.m (matrix (plan_of (reading text))) (vector y))
  answer-text-closed done = (answer-text-right done).closed-exactly

  pub answer-text-x : q ≡ 0 → v ≡ 1 → let r = (reading text).result in LeftOpen r.p r.n r.m (plan_of (reading text)) (set_used text cert) y x z
  answer-text-x done = (answer-text-right done).open-left

  pub answer-text-z : q ≡ 0 → v ≡ 0 → let r = (reading text).result in LeftClosed r.p r.n r.m (plan_of (reading text)) (set_used text cert) y x z
  answer-text-z done = (answer-text-right done).closed-left

  pub answer-text-one-value : q ≡ 0 → v ≡ 1 → let r = (reading text).result in Determined r.p r.n r.m (matrix (plan_of (reading text))) (vector y)
  answer-text-one-value done = (answer-text-right done).one_value

  pub answer-text-every-value : q ≡ 0 → v ≡ 0 → let r = (reading text).result in Undetermined r.p r.n r.m (matrix (plan_of (reading text))) (vector y)
  answer-text-every-value done = (answer-text-right done).every_value

  pub answer-text-cleared : ¬ (q ≡ 0) → (x ≡ zeros (length x₀)) × (z ≡ zeros (length z₀)) × (v ≡ 0)
  answer-text-cleared = answers.answered-cleared text cert y q x₀ x z₀ z v call

  pub answer-text-by : PackedFrom (text_faults ++ ((storage_too_short ∷ wrong_length ∷ []) ++ (set_faults ++ (question_too_large ∷ [])))) q
  answer-text-by = answers.answered-by text cert y q x₀ x z₀ z v call

  pub answer-text-refused : ¬ StatesText largest_entries text → q ≡ packed (reading text).result.outcome
  answer-text-refused = answers.answered-refused text cert y q x₀ x z₀ z v call

  pub answer-text-storage : StatesText largest_entries text → cert ≡ [] → ¬ FitsAll (reading text) → (i : ℕ) × (q ≡ storage_too_short + 256 * i) × OverflowsAt (reading text) i
  answer-text-storage = answers.answered-storage text cert y q x₀ x z₀ z v call

-- a and b are the numbers of cells that are lent for x and z
pub answer-text-stored : (text y : List ℕ) → StatesText largest_entries text → FitsAll (reading text) → (a b : ℕ)
    → let r = (reading text).result in answer_text_of text [] y a b ≡ answer_factors_of r.p r.n r.m (plan_of (reading text)) (factors_of (reading text)) y a b work_length
answer-text-stored = answers.as-stored

pub answer-text-bytes : (text y : List ℕ) → StatesText largest_entries text → (cert : List ℕ) → ¬ (cert ≡ []) → (a b : ℕ)
    → let r = (reading text).result in answer_text_of text cert y a b ≡ answer_certificate_of r.p r.n r.m (plan_of (reading text)) cert y a b work_length
answer-text-bytes = answers.as_bytes
