-- Demand 3: the checker trusts no one. Every statement speaks of what a call returned and left; a set is judged unless something tested earlier refuses the call.
-- The calls on a stored plan take k owners, which are to be m: nothing else of the owners matters (Owners).
-- A set is stored factors (`stored`) or a certificate (`bytes`); `text` is the call for C that checks a certificate against a plan's text.
--   .. -judged           a set that is judged: none of 10 to 14 is returned exactly if it has the published shape and its product is A (a certificate: the
--                        layout with the plan's p, n and m too); by the check, by writing (`write`), by an answer (`answer`) and by a list of open columns (`list`)
--   own-passes           what factoring left with 0 is passed by the call that checks stored factors
--   own-written          written by the call that writes, exactly if the buffer holds its certificate
--   own-certificate      and that certificate is passed by the call that checks one
--   written-passes       so is whatever writing left with 0
--   made-passes          what the call for C made is passed by the call for C that checks
-- Whenever a set passes, whoever made it:
--   .. -product          A = PLUQ
--   .. -rank             r is the rank
--   .. -answered         every question of m residues is answered, where a call that checks has returned 0 for the set
--   .. -right            the answer is open exactly when an x with x A = y exists, else closed (`AnswersRight`, whose x and z Demand2 has one by one)
--   agree                so all answers to one question agree, whichever sets they came from
--   .. -one-value        open: two settings that give the same slots give y one value
--   .. -every-value      closed: for every setting and every value some setting gives the same slots and gives y that value
-- Even odds (document 02, slip 8), also whenever a set passes, of the settings that give slot values h, of which t is one:
--   .. -settings         they are p ^ (m - r)
--   .. -closed-count     closed: p ^ (m - r - 1) of them give y the value v, whatever v
--   .. -closed-room      closed: r is below m, so that nothing is cut off in m - r - 1
--   .. -closed-even      closed: p times that many are all of them
--   .. -open-count       open: all of them give y one value
--   .. -open-none        open: and none gives it another
--   one-count            a number of settings that is counted is the only one
use Prim.Native.Nat.{ℕ, ◌*◌, ◌≤◌, ◌<◌}
use mathlib.Core.Path.{◌≡◌, refl}
use mathlib.Core.Logic.{◌↔◌}
use mathlib.Core.Bool.{true, false}
use mathlib.Core.List.{List}
use lib.ListN.{length, take}
use Rattle.lists.specs.Tests.{among}
use Rattle.refusals.specs.Table.{set_faults}
use Rattle.refusals.specs.Refusals.{number_of}
use Rattle.refusals.specs.Outcome.{Outcome}
use Rattle.algebra.specs.Congruence.{◌≈⟨◌⟩◌}
use Rattle.algebra.specs.Sum.{dot}
use Rattle.algebra.specs.Matrix.{Vector, vector}
use Rattle.algebra.specs.Rank.{Rank}
use Rattle.algebra.specs.Factors.{Factors}
use Rattle.algebra.specs.Settings.{Determined, Undetermined}
use Rattle.algebra.specs.Odds.{Count, SettingFor, SettingForValue, settings_for, settings_per_value}
use Rattle.algebra.proofs.Count.{count-only}
use Rattle.sparse.specs.Matrix.{Compressed, matrix}
use Rattle.sparse.specs.Set.{Set, Storage}
use Rattle.pluq.specs.Judge.{Passes}
use Rattle.certificate.specs.Layout.{certificate_of, Sized}
use Rattle.certificate.specs.Reading.{header_ok, set_of_certificate}
use Rattle.text_plan.specs.Held.{plan_of}
use Rattle.limits.specs.Limits.{work_length}
use Rattle.call_plan.specs.Accepted.{GoodPlan}
use Rattle.call_check.specs.Calls.{check_factors_of, check_certificate_of, Checks}
use Rattle.call_check.proofs.Theorems as checks
use Rattle.call_write.specs.Call.{write_outcome, WritesCertificate}
use Rattle.call_write.specs.Written.{Written}
use Rattle.call_write.proofs.Theorems as writes
use Rattle.factor_all.specs.Factorization.{Leaves}
use Rattle.factor_all.specs.Factored.{Factored}
use Rattle.factor_all.specs.OwnSet.{own_set}
use Rattle.call_factor.specs.Calls.{factor_call_of}
use Rattle.call_factor.specs.declared.Lent.{Lent}
use Rattle.call_answer.specs.Calls.{answer_number, answer_factors_of, answer_certificate_of, Answers}
use Rattle.call_answer.specs.Meaning.{Askable, AnswersRight}
use Rattle.call_answer.specs.Answer.{Answer}
use Rattle.call_answer.proofs.Theorems as answers
use Rattle.call_answer.proofs.Odds as odds
use Rattle.call_open.specs.Calls.{open_factors_of, open_certificate_of, Lists}
use Rattle.call_open.proofs.Theorems as columns
use Rattle.call_owned.specs.Owned.{owned_outcome, owned_factors, owned_answer, owned_list}
use Rattle.call_owned.specs.Meaning.{OwnedAnswerOf}
use Rattle.call_owned.proofs.Owned.{checks-right, checks-done, writes-right, writes-done, leaves-done, answers-right, answers-done, lists-right}
use Rattle.call_owned.proofs.Answers.{answer-without}
use Rattle.stages.specs.Stages.{reading}
use Rattle.text_calls.specs.Calls.{check_text_of, packed, Makes}
use Rattle.text_calls.specs.Meaning.{own_certificate}
use Rattle.text_calls.proofs.Own as owns
use Rattle.text_calls.proofs.Texts as texts

-- ---- the check of stored factors

module _ (p n m k : ℕ) (A : Compressed) (s : Set) (r : Outcome) (w₀ w : List ℕ) (call : Checks (owned_outcome k m (check_factors_of p n m A s (length w₀))) r w₀ w) where
  pub stored-judged : k ≡ m → GoodPlan p n m A → Sized n m s → length w₀ ≡ work_length → (among (number_of r) set_faults ≡ false) ↔ Passes p n m A s
  stored-judged e = checks.stored-judged p n m A s r w₀ w (checks-right k m _ r w₀ w call e)

  pub stored-product : number_of r ≡ 0 → Factors p n m s.r (matrix A) (vector s.R) (vector s.C) (matrix s.L) (matrix s.U)
  stored-product done = checks.stored-product p n m A s r w₀ w (checks-done k m _ r w₀ w call done) done

  pub stored-rank : number_of r ≡ 0 → Rank p n m (matrix A) s.r
  stored-rank done = checks.stored-rank p n m A s r w₀ w (checks-done k m _ r w₀ w call done) done

  pub stored-settings : number_of r ≡ 0 → (h : Vector) (t : List ℕ) → SettingFor p n m (matrix A) h t → Count (SettingFor p n m (matrix A) h) (settings_for p m s.r)
  stored-settings done = odds.stored-settings p n m A s (length w₀) ((checks.stored-passes p n m A s r w₀ w (checks-done k m _ r w₀ w call done)).0 done)

-- ---- the check of a certificate

module _ (p n m k : ℕ) (A : Compressed) (cert : List ℕ) (r : Outcome) (w₀ w : List ℕ) (call : Checks (owned_outcome k m (check_certificate_of p n m A cert (length w₀))) r w₀ w) where
  abbrev held : Set
  held = set_of_certificate n m cert

  pub bytes-judged : k ≡ m → GoodPlan p n m A → length w₀ ≡ work_length → (among (number_of r) set_faults ≡ false) ↔ ((header_ok p n m cert ≡ true) × Passes p n m A held)
  bytes-judged e = checks.bytes-judged p n m A cert r w₀ w (checks-right k m _ r w₀ w call e)

  pub bytes_product : number_of r ≡ 0 → Factors p n m held.r (matrix A) (vector held.R) (vector held.C) (matrix held.L) (matrix held.U)
  bytes_product done = checks.bytes_product p n m A cert r w₀ w (checks-done k m _ r w₀ w call done) done

  pub bytes-rank : number_of r ≡ 0 → Rank p n m (matrix A) held.r
  bytes-rank done = checks.bytes-rank p n m A cert r w₀ w (checks-done k m _ r w₀ w call done) done

  pub bytes-settings : number_of r ≡ 0 → (h : Vector) (t : List ℕ) → SettingFor p n m (matrix A) h t → Count (SettingFor p n m (matrix A) h) (settings_for p m held.r)
  bytes-settings done = odds.bytes-settings p n m A cert (length w₀) ((checks.bytes-pass p n m A cert r w₀ w (checks-done k m _ r w₀ w call done)).0 done)

-- ---- the call for C that checks; that it returns 0 exactly if the certificate passes is `check-text-exactly` of Demand1

module _ (text cert : List ℕ) (z : ℕ) (call : z ≡ packed (check_text_of text cert)) (passed : z ≡ 0) where
  abbrev plan : Compressed
  plan = plan_of (reading text)

  abbrev set : Set
  set = set_of_certificate (reading text).result.n (reading text).result.m cert

  pub text-product : let q = (reading text).result in Factors q.p q.n q.m set.r (matrix plan) (vector set.R) (vector set.C) (matrix set.L) (matrix set.U)
  text-product = texts.checked-product text cert z call passed

  pub text-rank : let q = (reading text).result in Rank q.p q.n q.m (matrix plan) set.r
  text-rank = texts.checked-rank text cert z call passed

  pub text-settings : let q = (reading text).result in (h : Vector) (t : List ℕ) → SettingFor q.p q.n q.m (matrix plan) h t
      → Count (SettingFor q.p q.n q.m (matrix plan) h) (settings_for q.p q.m set.r)
  text-settings = let q = (reading text).result in odds.bytes-settings q.p q.n q.m plan cert work_length (texts.checked-passes text cert z call passed)

-- ---- the engine's own

module _ (p n m k : ℕ) (A : Compressed) (l : Lent) (o : Factored) (h : Storage) (call : Leaves (owned_factors k m (factor_call_of p n m A l)) o h) (done : number_of o.outcome ≡ 0) where
  abbrev own : Set
  own = own_set n m o.rank h

  pub own-passes : (j : ℕ) (r : Outcome) (w₀ w₁ : List ℕ) → Checks (owned_outcome j m (check_factors_of p n m A own (length w₀))) r w₀ w₁ → j ≡ m → length w₀ ≡ work_length → number_of r ≡ 0
  own-passes j r w₀ w₁ check e = owns.own-checked p n m A l o h (leaves-done k m _ o h call done) done r w₀ w₁ (checks-right j m _ r w₀ w₁ check e)

  pub own-written : (j : ℕ) (z : Written) (b₀ b w₀ w₁ : List ℕ) → WritesCertificate (owned_outcome j m (write_outcome p n m A own (length w₀) (length b₀))) (certificate_of p n m own) z b₀ b w₀ w₁
      → j ≡ m → length w₀ ≡ work_length → (number_of z.outcome ≡ 0) ↔ (length (certificate_of p n m own) ≤ length b₀)
  own-written j z b₀ b w₀ w₁ write e = owns.own-written p n m A l o h (leaves-done k m _ o h call done) done z b₀ b w₀ w₁ (writes-right j m _ _ z b₀ b w₀ w₁ write e)

  pub own-certificate : (j : ℕ) (r : Outcome) (w₀ w₁ : List ℕ) → Checks (owned_outcome j m (check_certificate_of p n m A (certificate_of p n m own) (length w₀))) r w₀ w₁ → j ≡ m → length w₀ ≡ work_length → number_of r ≡ 0
  own-certificate j r w₀ w₁ check e = owns.own-certificate p n m A l o h (leaves-done k m _ o h call done) done r w₀ w₁ (checks-right j m _ r w₀ w₁ check e)

module _ (p n m k : ℕ) (A : Compressed) (s : Set) (z : Written) (b₀ b w₀ w : List ℕ)
    (call : WritesCertificate (owned_outcome k m (write_outcome p n m A s (length w₀) (length b₀))) (certificate_of p n m s) z b₀ b w₀ w) where
  pub write-judged : k ≡ m → GoodPlan p n m A → Sized n m s → length w₀ ≡ work_length → (among (number_of z.outcome) set_faults ≡ false) ↔ Passes p n m A s
  write-judged e = writes.written-judged p n m A s z b₀ b w₀ w (writes-right k m _ _ z b₀ b w₀ w call e)

  -- the bytes that were written
  pub written-passes : number_of z.outcome ≡ 0 → (j : ℕ) (r : Outcome) (w₁ w₂ : List ℕ) → Checks (owned_outcome j m (check_certificate_of p n m A (take z.length b) (length w₁))) r w₁ w₂
      → j ≡ m → length w₁ ≡ work_length → number_of r ≡ 0
  written-passes done j r w₁ w₂ check e =
      writes.written-checked p n m A s z b₀ b w₀ w (writes-done k m _ _ z b₀ b w₀ w call done) done r w₁ w₂ (checks-right j m _ r w₁ w₂ check e)

pub made-passes : (text : List ℕ) (z : ℕ) (b₀ b : List ℕ) → Makes text z b₀ b → z ≡ 0
    → (y : ℕ) → y ≡ packed (check_text_of text (take (length (own_certificate (reading text))) b)) → y ≡ 0
made-passes = texts.made-checked

-- ---- questions to stored factors

module _ (p n m k : ℕ) (A : Compressed) (s : Set) (y : List ℕ) (r : Answer) (x₀ x z₀ z w₀ w : List ℕ)
    (call : Answers (owned_answer k m (answer_factors_of p n m A s y (length x₀) (length z₀) (length w₀))) r x₀ x z₀ z w₀ w) where
  pub answer-stored-judged : k ≡ m → GoodPlan p n m A → Sized n m s → length w₀ ≡ work_length → Askable p n m y (length x₀) (length z₀) → (among (answer_number r) set_faults ≡ false) ↔ Passes p n m A s
  answer-stored-judged e = answers.stored-judged p n m A s y r x₀ x z₀ z w₀ w (answers-right k m _ r x₀ x z₀ z w₀ w call e)

  pub stored-answered : (j : ℕ) (q : Outcome) (w₁ w₂ : List ℕ) → Checks (owned_outcome j m (check_factors_of p n m A s (length w₁))) q w₁ w₂ → number_of q ≡ 0
      → k ≡ m → length w₀ ≡ work_length → Askable p n m y (length x₀) (length z₀) → answer_number r ≡ 0
  stored-answered j q w₁ w₂ check passed e = answers.stored-after p n m A s y r x₀ x z₀ z w₀ w (answers-right k m _ r x₀ x z₀ z w₀ w call e) q w₁ w₂ (checks-done j m _ q w₁ w₂ check passed) passed

  pub stored-right : answer_number r ≡ 0 → AnswersRight p n m A s y r x z
  stored-right done = answers.stored-right p n m A s y r x₀ x z₀ z w₀ w (answers-done k m _ r x₀ x z₀ z w₀ w call done) done

  pub stored-one-value : r ≡ Answer.Open → Determined p n m (matrix A) (vector y)
  stored-one-value e = (stored-right (rw e refl)).one_value e

  pub stored-every-value : r ≡ Answer.Closed → Undetermined p n m (matrix A) (vector y)
  stored-every-value e = (stored-right (rw e refl)).every_value e

  stored-solved : answer_number r ≡ 0 → answers.SolvedFrom p n m A s y r x z
  stored-solved done = answers.stored-solved p n m A s y r x₀ x z₀ z w₀ w (answers-done k m _ r x₀ x z₀ z w₀ w call done) done

  pub stored-closed-room : r ≡ Answer.Closed → s.r < m
  stored-closed-room e = odds.closed-room p n m A s y r x z (stored-solved (rw e refl)) e

  pub stored-closed-even : r ≡ Answer.Closed → p * settings_per_value p m s.r ≡ settings_for p m s.r
  stored-closed-even e = odds.closed-even p n m A s y r x z (stored-solved (rw e refl)) e

  module _ (h : Vector) (t : List ℕ) (some : SettingFor p n m (matrix A) h t) where
    pub stored-closed-count : r ≡ Answer.Closed → (v : ℕ) → Count (SettingForValue p n m (matrix A) h (vector y) v) (settings_per_value p m s.r)
    stored-closed-count e = odds.closed-count p n m A s y r x z (stored-solved (rw e refl)) h t some e

    pub stored-open-count : r ≡ Answer.Open → Count (SettingForValue p n m (matrix A) h (vector y) (dot m (vector y) (vector t))) (settings_for p m s.r)
    stored-open-count e = odds.open-count p n m A s y r x z (stored-solved (rw e refl)) h t some e

    pub stored-open-none : r ≡ Answer.Open → (v : ℕ) → ¬ (v ≈⟨ p ⟩ dot m (vector y) (vector t)) → Count (SettingForValue p n m (matrix A) h (vector y) v) 0
    stored-open-none e = odds.open_none p n m A s y r x z (stored-solved (rw e refl)) h t some e

-- ---- questions to a certificate

module _ (p n m k : ℕ) (A : Compressed) (cert y : List ℕ) (r : Answer) (x₀ x z₀ z w₀ w : List ℕ)
    (call : Answers (owned_answer k m (answer_certificate_of p n m A cert y (length x₀) (length z₀) (length w₀))) r x₀ x z₀ z w₀ w) where
  pub answer-bytes-judged : k ≡ m → GoodPlan p n m A → length w₀ ≡ work_length → Askable p n m y (length x₀) (length z₀)
      → (among (answer_number r) set_faults ≡ false) ↔ ((header_ok p n m cert ≡ true) × Passes p n m A (set_of_certificate n m cert))
  answer-bytes-judged e = answers.bytes-judged p n m A cert y r x₀ x z₀ z w₀ w (answers-right k m _ r x₀ x z₀ z w₀ w call e)

  pub bytes-answered : (j : ℕ) (q : Outcome) (w₁ w₂ : List ℕ) → Checks (owned_outcome j m (check_certificate_of p n m A cert (length w₁))) q w₁ w₂ → number_of q ≡ 0
      → k ≡ m → length w₀ ≡ work_length → Askable p n m y (length x₀) (length z₀) → answer_number r ≡ 0
  bytes-answered j q w₁ w₂ check passed e = answers.bytes_after p n m A cert y r x₀ x z₀ z w₀ w (answers-right k m _ r x₀ x z₀ z w₀ w call e) q w₁ w₂ (checks-done j m _ q w₁ w₂ check passed) passed

  pub bytes-right : answer_number r ≡ 0 → AnswersRight p n m A (set_of_certificate n m cert) y r x z
  bytes-right done = answers.bytes-right p n m A cert y r x₀ x z₀ z w₀ w (answers-done k m _ r x₀ x z₀ z w₀ w call done) done

  pub bytes-one-value : r ≡ Answer.Open → Determined p n m (matrix A) (vector y)
  bytes-one-value e = (bytes-right (rw e refl)).one_value e

  pub bytes-every-value : r ≡ Answer.Closed → Undetermined p n m (matrix A) (vector y)
  bytes-every-value e = (bytes-right (rw e refl)).every_value e

  abbrev set-held : Set
  set-held = set_of_certificate n m cert

  bytes-solved : answer_number r ≡ 0 → answers.SolvedFrom p n m A set-held y r x z
  bytes-solved done = answers.bytes-solved p n m A cert y r x₀ x z₀ z w₀ w (answers-done k m _ r x₀ x z₀ z w₀ w call done) done

  pub bytes-closed-room : r ≡ Answer.Closed → set-held.r < m
  bytes-closed-room e = odds.closed-room p n m A set-held y r x z (bytes-solved (rw e refl)) e

  pub bytes-closed-even : r ≡ Answer.Closed → p * settings_per_value p m set-held.r ≡ settings_for p m set-held.r
  bytes-closed-even e = odds.closed-even p n m A set-held y r x z (bytes-solved (rw e refl)) e

  module _ (h : Vector) (t : List ℕ) (some : SettingFor p n m (matrix A) h t) where
    pub bytes-closed-count : r ≡ Answer.Closed → (v : ℕ) → Count (SettingForValue p n m (matrix A) h (vector y) v) (settings_per_value p m set-held.r)
    bytes-closed-count e = odds.closed-count p n m A set-held y r x z (bytes-solved (rw e refl)) h t some e

    pub bytes-open-count : r ≡ Answer.Open → Count (SettingForValue p n m (matrix A) h (vector y) (dot m (vector y) (vector t))) (settings_for p m set-held.r)
    bytes-open-count e = odds.open-count p n m A set-held y r x z (bytes-solved (rw e refl)) h t some e

    pub bytes-open-none : r ≡ Answer.Open → (v : ℕ) → ¬ (v ≈⟨ p ⟩ dot m (vector y) (vector t)) → Count (SettingForValue p n m (matrix A) h (vector y) v) 0
    bytes-open-none e = odds.open_none p n m A set-held y r x z (bytes-solved (rw e refl)) h t some e

-- r and r' are what two calls answered to y, each from stored factors or from a certificate, whoever made them
pub agree : (p n m : ℕ) (A : Compressed) (y : List ℕ) (r r' : Answer) → OwnedAnswerOf p n m A y r → OwnedAnswerOf p n m A y r'
    → ((r ≡ Answer.Open) ↔ (r' ≡ Answer.Open)) × ((r ≡ Answer.Closed) ↔ (r' ≡ Answer.Closed))
agree p n m A y r r' a a' = answers.answers_agree p n m A y r r' (answer-without p n m A y r a) (answer-without p n m A y r' a')

-- ---- the open columns

pub list-stored-judged : (p n m k : ℕ) (A : Compressed) (s : Set) (r : Outcome) (l₀ l w₀ w : List ℕ) → Lists (owned_list k m (open_factors_of p n m A s (length l₀) (length w₀))) r l₀ l w₀ w
    → k ≡ m → GoodPlan p n m A → Sized n m s → length w₀ ≡ work_length → length l₀ ≡ m → (among (number_of r) set_faults ≡ false) ↔ Passes p n m A s
list-stored-judged p n m k A s r l₀ l w₀ w call e = columns.stored-judged p n m A s r l₀ l w₀ w (lists-right k m _ r l₀ l w₀ w call e)

pub list-bytes-judged : (p n m k : ℕ) (A : Compressed) (cert : List ℕ) (r : Outcome) (l₀ l w₀ w : List ℕ) → Lists (owned_list k m (open_certificate_of p n m A cert (length l₀) (length w₀))) r l₀ l w₀ w
    → k ≡ m → GoodPlan p n m A → length w₀ ≡ work_length → length l₀ ≡ m → (among (number_of r) set_faults ≡ false) ↔ ((header_ok p n m cert ≡ true) × Passes p n m A (set_of_certificate n m cert))
list-bytes-judged p n m k A cert r l₀ l w₀ w call e = columns.bytes-judged p n m A cert r l₀ l w₀ w (lists-right k m _ r l₀ l w₀ w call e)

-- ---- a number that is counted

pub one-count : (P : List ℕ → Type 0) (k k' : ℕ) → Count P k → Count P k' → k ≡ k'
one-count = count-only
