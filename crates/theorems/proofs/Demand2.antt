-- Demand 2: R, C, L, U and r are those of the published PLUQ work under our pivot rules, their product is A and r is the rank; a question is open, with an x where
-- x A = y, exactly if such an x exists, and else closed, with a z where A z = 0 and y z is not 0. Every statement speaks of what a call returned and left.
--   factor-set           what factoring left with 0, cut to its lengths, is `factor p n m A`: the set of the pivot rules
--   factor-product       its product is A
--   factor-rank          the rank returned is the greatest number of independent rows
--   factor-structural    the number of structural pivots is that of the rules
--   factor-rules         which obey document 02's five rules for them (slip 9)
--   factor-diagonal      of each of them the row of L that was left holds its diagonal alone
--   make-set             the call for C that returned 0 left the certificate of that set
-- Of a question that was answered from stored factors (`stored`) or from a certificate (`bytes`):
--   .. -open             open exactly if some x has x A = y
--   .. -closed           and closed exactly if none has
--   .. -x                open: the x that was left has x A = y, is 0 on every row that is no pivot row, and z is all zero
--   .. -z                closed: the z that was left has A z = 0 and y z not 0, is 1 at one column that is no pivot column and 0 at the others, and x is all zero
--   .. -columns          the list of open columns has 1 at j exactly if the unit vector of j is in the row space, and 0 exactly if not
-- The totals, for every set, whoever made it:
--   open-total           so many unit questions are answered open from it
--   closed-total         and so many closed
--   totals-sum           together m
--   set_tells            where it passes, a unit question is answered open exactly if the unit vector is in the row space: these are the totals of `report-right`
--   report-foot          the totals are the last line of a text's report, where no stage refuses
-- The set of the pivot rules, for every good plan:
--   rules-right          has the published shape and the product A, and passes the check
-- What the two programs print, for a text that states a plan whose factors fit:
--   report-right         the report has the plan's sizes, its rank, the number of structural pivots, the entries of L and U, its open words with their owners, and their totals
--   ask-right            the line has the right verdict on a question of m residues, with the x or the z that `.. -x` and `.. -z` describe
use Prim.Native.Nat.{ℕ, ◌+◌, ◌<◌}
use mathlib.Core.Path.{◌≡◌}
use mathlib.Core.Logic.{◌↔◌}
use mathlib.Core.Bool.{not}
use mathlib.Core.List.{List, [], ◌∷◌, ◌++◌}
use lib.ListN.{length, take}
use Rattle.lists.specs.Filled.{filled}
use Rattle.lists.specs.Tests.{count}
use Rattle.refusals.specs.Refusals.{number_of}
use Rattle.refusals.specs.Outcome.{Outcome}
use Rattle.refusals.specs.Outcome.{Passed}
use Rattle.algebra.specs.Sum.{δ}
use Rattle.algebra.specs.Matrix.{vector}
use Rattle.algebra.specs.Rank.{Rank}
use Rattle.algebra.specs.RowSpace.{InRowSpace}
use Rattle.algebra.specs.Factors.{Factors}
use Rattle.sparse.specs.Row.{Below}
use Rattle.sparse.specs.Matrix.{Compressed, matrix, row_of}
use Rattle.sparse.specs.Set.{Set, Storage}
use Rattle.elimination.specs.Selection.{structural}
use Rattle.elimination.specs.Rules.{FollowsRules}
use Rattle.elimination.specs.Factoring.{factor}
use Rattle.row_space.specs.Solve.{is_open, solve, open_columns}
use Rattle.certificate.specs.Reading.{set_of_certificate}
use Rattle.text_owners.specs.Stating.{StatesText}
use Rattle.limits.specs.Limits.{largest_entries, work_length}
use Rattle.call_plan.specs.Accepted.{GoodPlan}
use Rattle.call_check.specs.Passing.{StoredPasses}
use Rattle.factor_all.specs.Factorization.{Leaves}
use Rattle.factor_all.specs.Factored.{Factored}
use Rattle.factor_all.specs.OwnSet.{own_set}
use Rattle.call_factor.specs.Calls.{factor_call_of}
use Rattle.call_factor.specs.declared.Lent.{Lent}
use Rattle.call_factor.proofs.Theorems as factors
use Rattle.call_answer.specs.Calls.{answer_number, answer_factors_of, answer_certificate_of, Answers}
use Rattle.call_answer.specs.Meaning.{LeftOpen, LeftClosed}
use Rattle.call_answer.specs.Answer.{Answer}
use Rattle.call_answer.proofs.Theorems as answers
use Rattle.call_open.specs.Calls.{open_factors_of, open_certificate_of, Lists}
use Rattle.call_open.specs.Meaning.{MarksOpen}
use Rattle.call_open.proofs.Theorems as columns
use Rattle.call_owned.specs.Owned.{owned_factors, owned_answer, owned_list}
use Rattle.call_owned.proofs.Owned.{leaves-done, answers-done, lists-done}
use Rattle.stages.specs.Stages.{reading, factored_of}
use Rattle.stages.specs.Meaning.{FitsAll}
use Rattle.stages.proofs.Passing.{factors-pass}
use Rattle.text_calls.specs.Calls.{Makes}
use Rattle.text_calls.specs.Meaning.{own_certificate}
use Rattle.text_calls.proofs.Texts as texts
use Rattle.print_text.specs.Lines.{open_count, closed_count, totals_line}
use Rattle.report_lib.specs.Reporting.{open_list_of, report_of, Reports}
use Rattle.report_lib.specs.Meaning.{TellsOpen, ReportsRight}
use Rattle.report_lib.proofs.Theorems as reports
use Rattle.report_lib.proofs.Totals as totals
use Rattle.ask_lib.specs.Asking.{Asks}
use Rattle.ask_lib.specs.Meaning.{AskRight}
use Rattle.ask_lib.proofs.Theorems as asks

-- ---- factoring

module _ (p n m k : ℕ) (A : Compressed) (l : Lent) (o : Factored) (h : Storage) (call : Leaves (owned_factors k m (factor_call_of p n m A l)) o h) (done : number_of o.outcome ≡ 0) where
  -- the set that was left
  abbrev own : Set
  own = own_set n m o.rank h

  pub factor-set : own ≡ factor p n m A
  factor-set = factors.factored-set p n m A l o h (leaves-done k m _ o h call done) done

  pub factor-product : Factors p n m o.rank (matrix A) (vector own.R) (vector own.C) (matrix own.L) (matrix own.U)
  factor-product = (factors.factored-passes p n m A l o h (leaves-done k m _ o h call done) done).factors

  pub factor-rank : Rank p n m (matrix A) o.rank
  factor-rank = factors.factored-rank p n m A l o h (leaves-done k m _ o h call done) done

  pub factor-structural : o.structural ≡ length (structural A n m)
  factor-structural = factors.factored-structural p n m A l o h (leaves-done k m _ o h call done) done

  pub factor-rules : FollowsRules p n m A
  factor-rules = factors.factored-rules p n m A l o h (leaves-done k m _ o h call done) done

  pub factor-diagonal : (i : ℕ) → i < o.structural → row_of own.L.starts i own.L.cols ≡ i ∷ []
  factor-diagonal = factors.factored-diagonal p n m A l o h (leaves-done k m _ o h call done) done

pub make-set : (text : List ℕ) (z : ℕ) (b₀ b : List ℕ) → Makes text z b₀ b → z ≡ 0 → b ≡ filled (length b₀) (own_certificate (reading text))
make-set = texts.made-buffer

-- ---- a question, from stored factors

module _ (p n m k : ℕ) (A : Compressed) (s : Set) (y : List ℕ) (r : Answer) (x₀ x z₀ z w₀ w : List ℕ)
    (call : Answers (owned_answer k m (answer_factors_of p n m A s y (length x₀) (length z₀) (length w₀))) r x₀ x z₀ z w₀ w) (done : answer_number r ≡ 0) where
  pub stored-open : (r ≡ Answer.Open) ↔ InRowSpace p n m (matrix A) (vector y)
  stored-open = (answers.stored-right p n m A s y r x₀ x z₀ z w₀ w (answers-done k m _ r x₀ x z₀ z w₀ w call done) done).open-exactly

  pub stored-closed : (r ≡ Answer.Closed) ↔ (¬ InRowSpace p n m (matrix A) (vector y))
  stored-closed = (answers.stored-right p n m A s y r x₀ x z₀ z w₀ w (answers-done k m _ r x₀ x z₀ z w₀ w call done) done).closed-exactly

  pub stored-x : r ≡ Answer.Open → LeftOpen p n m A s y x z
  stored-x = (answers.stored-right p n m A s y r x₀ x z₀ z w₀ w (answers-done k m _ r x₀ x z₀ z w₀ w call done) done).open-left

  pub stored-z : r ≡ Answer.Closed → LeftClosed p n m A s y x z
  stored-z = (answers.stored-right p n m A s y r x₀ x z₀ z w₀ w (answers-done k m _ r x₀ x z₀ z w₀ w call done) done).closed-left

-- ---- a question, from a certificate

module _ (p n m k : ℕ) (A : Compressed) (cert y : List ℕ) (r : Answer) (x₀ x z₀ z w₀ w : List ℕ)
    (call : Answers (owned_answer k m (answer_certificate_of p n m A cert y (length x₀) (length z₀) (length w₀))) r x₀ x z₀ z w₀ w) (done : answer_number r ≡ 0) where
  pub bytes-open : (r ≡ Answer.Open) ↔ InRowSpace p n m (matrix A) (vector y)
  bytes-open = (answers.bytes-right p n m A cert y r x₀ x z₀ z w₀ w (answers-done k m _ r x₀ x z₀ z w₀ w call done) done).open-exactly

  pub bytes-closed : (r ≡ Answer.Closed) ↔ (¬ InRowSpace p n m (matrix A) (vector y))
  bytes-closed = (answers.bytes-right p n m A cert y r x₀ x z₀ z w₀ w (answers-done k m _ r x₀ x z₀ z w₀ w call done) done).closed-exactly

  pub bytes-x : r ≡ Answer.Open → LeftOpen p n m A (set_of_certificate n m cert) y x z
  bytes-x = (answers.bytes-right p n m A cert y r x₀ x z₀ z w₀ w (answers-done k m _ r x₀ x z₀ z w₀ w call done) done).open-left

  pub bytes-z : r ≡ Answer.Closed → LeftClosed p n m A (set_of_certificate n m cert) y x z
  bytes-z = (answers.bytes-right p n m A cert y r x₀ x z₀ z w₀ w (answers-done k m _ r x₀ x z₀ z w₀ w call done) done).closed-left

-- ---- the open columns

pub stored-columns : (p n m k : ℕ) (A : Compressed) (s : Set) (r : Outcome) (l₀ l w₀ w : List ℕ) → Lists (owned_list k m (open_factors_of p n m A s (length l₀) (length w₀))) r l₀ l w₀ w
    → number_of r ≡ 0 → MarksOpen p n m A l
stored-columns p n m k A s r l₀ l w₀ w call done = columns.stored-marks p n m A s r l₀ l w₀ w (lists-done k m _ r l₀ l w₀ w call done) done

pub bytes-columns : (p n m k : ℕ) (A : Compressed) (cert : List ℕ) (r : Outcome) (l₀ l w₀ w : List ℕ) → Lists (owned_list k m (open_certificate_of p n m A cert (length l₀) (length w₀))) r l₀ l w₀ w
    → number_of r ≡ 0 → MarksOpen p n m A l
bytes-columns p n m k A cert r l₀ l w₀ w call done = columns.bytes-marks p n m A cert r l₀ l w₀ w (lists-done k m _ r l₀ l w₀ w call done) done

-- ---- the totals

pub open-total : (p n m : ℕ) (s : Set) → open_count (open_columns p m s) ≡ count m (λ j. is_open (solve p n m s (δ j)).verdict)
open-total = totals.open-total

pub closed-total : (p n m : ℕ) (s : Set) → closed_count (open_columns p m s) ≡ count m (λ j. not (is_open (solve p n m s (δ j)).verdict))
closed-total = totals.closed-total

pub totals-sum : (p n m : ℕ) (s : Set) → open_count (open_columns p m s) + closed_count (open_columns p m s) ≡ m
totals-sum = totals.totals-sum

pub set_tells : (p n m : ℕ) (A : Compressed) (s : Set) → StoredPasses p n m A s work_length → TellsOpen p n m A (λ j. is_open (solve p n m s (δ j)).verdict)
set_tells p n m A s passes = totals.set_tells p n m A s (reports.all-marked p n m A s passes)

pub report-foot : (text : List ℕ) → (reading text).result.outcome ≡ Passed → (factored_of (reading text)).outcome ≡ Passed
    → (open_list_of (reading text) (factored_of (reading text))).outcome ≡ Passed
    → (front : List ℕ) × (report_of text ≡ front ++ totals_line (open_list_of (reading text) (factored_of (reading text))).list)
report-foot = totals.report-foot

-- ---- the set of the pivot rules

pub rules-right : (p n m : ℕ) (A : Compressed) → GoodPlan p n m A → StoredPasses p n m A (factor p n m A) work_length
rules-right = factors-pass

-- ---- the programs: what is printed stands in the first `size` bytes of the buffer b

pub report-right : (text : List ℕ) (size : ℕ) (b₀ b w₀ w : List ℕ) → Reports text size b₀ b w₀ w → (states : StatesText largest_entries text) → FitsAll (reading text)
    → ReportsRight (reading text) states.owners (take size b)
report-right = reports.report-right

pub ask-right : (text y : List ℕ) (size : ℕ) (b₀ b w₀ w : List ℕ) → Asks text y size b₀ b w₀ w → StatesText largest_entries text → FitsAll (reading text)
    → length y ≡ (reading text).result.m → Below (reading text).result.p y → AskRight (reading text) y (take size b)
ask-right = asks.ask-right
