-- Demand 1: bad input is refused by a number from one table with all lent output cleared to zero, all else is accepted, and each text is stored as exactly the
-- plan it states. Every statement speaks of what a call returned and left in the lent lists, through the record that is its contract; everything is shown in the
-- crate that it is about. For each call: `-exactly`, 0 is returned exactly if ..; `-by`, the numbers by which it refuses; `-cleared`, what a refusal leaves.
--   read                           a text read into lent lists; `stored-as-stated`, `owners-as-stated`, `read-each-triple`: it is stored as exactly the plan
--                                  and the owners that it states; `read-accepted`: which every later call takes; `order-does-not-matter`: texts that state
--                                  the same triples, in any order, leave the same; `rising-as-before`: what was accepted while triples had to rise is read
--                                  and stored as it was, and every word belongs to customer 1; `no-owners-as-before`: so is every text without owners;
--                                  `owner-too-large`: 16 at its line
--   factor                         a stored plan factored; `factor-seven`, `factor-row`: storage that is outgrown
--   check-stored, check-bytes      stored factors, and a certificate, checked against a stored plan
--   write                          a certificate written
--   answer-stored, answer-bytes    a question answered from stored factors, and from a certificate
--   list-stored, list-bytes        the open columns (document 01's open words) listed
--   make                           the call for C that makes a certificate; `make-seven`, `make-row`, `make-nine`, `make-numbers`: after a text that is accepted
--   check-text                     the call for C that checks one; `check-text-judged`: after a text that is accepted
-- The calls on a stored plan take k owners: `-owners`, each is refused by 9 unless k is m, whatever else is right or wrong.
-- What the two programs print where there is no plan to report and no question to answer: the line of the first refusal, its row or index counted from 1.
--   report, ask                    `-refused`: the text states no plan; `-storage`: its factors overflow; `ask-length`, `ask-value`: the question is no
--                                  list of m residues
-- What the words mean:
--   moduli                         a modulus is accepted exactly if it is a prime that is not above the largest
--   word-moduli                    so of the numbers below 2 ^ 32 all primes are accepted, and nothing else
--   accepted-exactly               a plan's own text, which ends with the line `0 0 0`, is accepted, as these sizes and entries, exactly if it states that plan: it
--                                  is the canonical text of a modulus that is accepted, sizes within the limits, and triples in any order, no two at one place,
--                                  whose values modulo p are the entries
--   owners-exactly                 what follows it is read as these owners exactly if it states them: it is the canonical line of a byte for each word, or nothing,
--                                  where each word belongs to customer 1
--   entry-limit                    a text within its length cannot pass the entry limit
--   plans                          a stored plan passes the tests that every call begins with exactly if it is a good plan and the other lists have their lengths
use Prim.Native.Nat.{ℕ, ◌+◌, ◌-◌, ◌*◌, ◌^◌, ◌≤◌, ◌<◌}
use mathlib.Core.Path.{◌≡◌, ap, ◌∙◌}
use mathlib.Core.Logic.{◌↔◌, ◌⊎◌}
use mathlib.Core.Bool.{Bool, true, false}
use mathlib.Core.List.{List, [], ◌∷◌, ◌++◌}
use native.Mathlib.Omega.{arith}
use lib.ListN.{length, get_or, take, replicate}
use Rattle.lists.specs.Filled.{zeros, filled}
use Rattle.refusals.specs.Table.{text_faults, plan_faults, set_faults, storage_too_short, wrong_length, question_too_large, owner_too_large}
use Rattle.refusals.specs.Refusals.{number_of, detail_of, NumberFrom}
use Rattle.refusals.specs.Outcome.{Outcome}
use Rattle.refusals.specs.Outcome.{Passed, Refused}
use Rattle.algebra.specs.Prime.{Prime}
use Rattle.residue.specs.Range.{is_modulus, largest_modulus}
use Rattle.residue.specs.Signed.{residue_of}
use Rattle.residue.proofs.Primes.{modulus-prime, modulus-range, prime-modulus, prime-in-range}
use Rattle.sparse.specs.Matrix.{Compressed, compressed, matrix}
use Rattle.sparse.specs.Set.{Set, Storage}
use Rattle.sparse.specs.Row.{Below}
use Rattle.lists.specs.Members.{Member}
use Rattle.elimination.specs.Selection.{structural}
use Rattle.elimination.specs.Factoring.{schedule, nothing}
use Rattle.elimination.specs.Overflow.{Overflows}
use Rattle.text_plan.specs.Call.{Reading}
use Rattle.text_judge.specs.declared.judge.Sizes.{Sizes}
use Rattle.limits.specs.Limits.{starts_length, largest_entries, largest_text}
use Rattle.text_opening.specs.Reading.{Entry, accepted, kept, read_of}
use Rattle.text_plan.specs.Rising.{read_rising_of}
use Rattle.text_plan.specs.Stating.{States, StatedEntry, Plan, plan_text, integer_of}
use Rattle.text_plan.specs.Call.{answer_rising_of, call_of, Gives}
use Rattle.text_plan.specs.Held.{held_plan, StatesPlan, HoldsPlan, ReadCleared}
use Rattle.text_plan.proofs.EntryLimit.{few-entries}
use Rattle.text_plan.proofs.Done as plans-read
use Rattle.text_fields.specs.Pieces.{pieces}
use Rattle.text_owners.specs.Owners.{all_bytes, owned, owners_in}
use Rattle.text_owners.specs.Call.{owners_length, text_call_of, GivesText}
use Rattle.text_owners.specs.Stating.{owners_text, StatesOwners, StatesText}
use Rattle.text_owners.proofs.Footing.{owned-exactly}
use Rattle.text_owners.proofs.Theorems as reads
use Rattle.call_plan.specs.Tests.{call_outcome}
use Rattle.call_plan.specs.Accepted.{GoodPlan}
use Rattle.call_plan.proofs.Plans.{plan-exactly}
use Rattle.call_check.specs.Calls.{check_factors_of, check_certificate_of, Checks}
use Rattle.call_check.specs.Passing.{StoredPasses, CertificatePasses}
use Rattle.call_check.proofs.Theorems as checks
use Rattle.certificate.specs.Layout.{certificate_of}
use Rattle.call_write.specs.Call.{write_outcome, WritesCertificate}
use Rattle.call_write.specs.Accepted.{CanWrite}
use Rattle.call_write.specs.Written.{Written}
use Rattle.call_write.proofs.Theorems as writes
use Rattle.factor_all.specs.Factorization.{Leaves}
use Rattle.factor_all.specs.Factored.{Factored}
use Rattle.call_factor.specs.Calls.{factor_call_of}
use Rattle.call_factor.specs.Accepted.{LentRight, FactorsFit, Factorable, FactorCleared}
use Rattle.call_factor.specs.declared.Lent.{Lent}
use Rattle.call_factor.proofs.Theorems as factors
use Rattle.call_answer.specs.Calls.{answer_number, answer_factors_of, answer_certificate_of, Answers}
use Rattle.call_answer.specs.Meaning.{Askable}
use Rattle.call_answer.specs.Answer.{Answer}
use Rattle.call_answer.proofs.Theorems as answers
use Rattle.call_open.specs.Calls.{open_factors_of, open_certificate_of, Lists}
use Rattle.call_open.proofs.Theorems as columns
use Rattle.call_owned.specs.Owned.{owned_outcome, owned_factors, owned_answer, owned_list}
use Rattle.call_owned.proofs.Owned.{nine-first, checks-unowned, checks-exactly, checks-by, writes-unowned, writes-exactly, writes-by, writes-cleared, leaves-right, leaves-unowned, leaves-other, leaves-exactly, leaves_by, leaves-cleared, answers-unowned, answers-exactly, answers_by, answers-cleared, lists-unowned, lists-exactly, lists-by, lists-cleared}
use Rattle.stages.specs.Stages.{reading}
use Rattle.stages.specs.Meaning.{FitsAll, OverflowsAt}
use Rattle.text_calls.specs.Calls.{check_text_of, packed, Makes}
use Rattle.text_calls.specs.Meaning.{own_certificate, Made, TextPasses, PackedFrom}
use Rattle.text_calls.proofs.Texts as texts
use Rattle.print_text.specs.Report.{refusal_text}
use Rattle.print_text.specs.Printed.{PrintsRefusal}
use Rattle.report_lib.specs.Reporting.{Reports}
use Rattle.report_lib.proofs.Theorems as reports
use Rattle.ask_lib.specs.Asking.{Asks}
use Rattle.ask_lib.specs.Meaning.{FirstTooLarge}
use Rattle.ask_lib.proofs.Theorems as asks

-- ---- reading: a, b, c and k are the lengths of the lent starts, columns, values and owners; r is the result

module _ (text : List ℕ) (a b c k : ℕ) (r : Reading) (starts columns values owners : List ℕ) (call : GivesText (text_call_of text a b c k) r starts columns values owners) where
  pub read-exactly : (number_of r.outcome ≡ 0) ↔ ((a ≡ starts_length) × (b ≡ c) × (k ≡ owners_length) × StatesText b text)
  read-exactly = reads.read-exactly text a b c k r starts columns values owners call

  pub stored-as-stated : a ≡ starts_length → b ≡ c → k ≡ owners_length → (h : StatesText b text) → HoldsPlan h.sizes h.triples r starts columns values
  stored-as-stated = reads.holds-stated text a b c k r starts columns values owners call

  pub owners-as-stated : a ≡ starts_length → b ≡ c → k ≡ owners_length → (h : StatesText b text) → owners ≡ filled owners_length h.owners
  owners-as-stated = reads.owners-stated text a b c k r starts columns values owners call

  pub read-accepted : number_of r.outcome ≡ 0 → GoodPlan r.p r.n r.m (held_plan r (compressed starts columns values))
  read-accepted = reads.read-good text a b c k r starts columns values owners call

  pub read-by : NumberFrom text_faults (number_of r.outcome)
  read-by = reads.read-by text a b c k r starts columns values owners call

  pub read-cleared : ¬ (number_of r.outcome ≡ 0) → ReadCleared a b c r starts columns values × (owners ≡ zeros k)
  read-cleared z = (reads.read-cleared text a b c k r starts columns values owners call z, reads.owners-cleared text a b c k r starts columns values owners call z)

  -- `read_rising_of` and `answer_rising_of` are the reading and the answer as they were while triples had to rise, by row and then by column
  pub rising-as-before : (s : Sizes) (seen : List Entry) → a ≡ starts_length → b ≡ c → k ≡ owners_length → read_rising_of b text ≡ accepted s seen
      → (read_of b text ≡ accepted s seen) × Gives (answer_rising_of b (read_rising_of b text)) r starts columns values × (owners ≡ filled owners_length (replicate s.m 1))
  rising-as-before = reads.read-rising-as-before text a b c k r starts columns values owners call

-- ts and us are the same triples, in any order
pub order-does-not-matter : (s : Sizes) (room : ℕ) (ts us : List StatedEntry) (foot vs : List ℕ) → Plan room s ts → Plan room s us → ((t : StatedEntry) → Member t ts ↔ Member t us)
    → StatesOwners s.m foot vs → length (plan_text s ts ++ foot) ≤ largest_text → length (plan_text s us ++ foot) ≤ largest_text
    → (r : Reading) (starts columns values owners : List ℕ) → GivesText (text_call_of (plan_text s ts ++ foot) starts_length room room owners_length) r starts columns values owners
    → GivesText (text_call_of (plan_text s us ++ foot) starts_length room room owners_length) r starts columns values owners
order-does-not-matter = reads.read-any-order

-- t is any of the triples that are stated: xs stand before it, ys after it
pub read-each-triple : (s : Sizes) (room : ℕ) (xs : List StatedEntry) (t : StatedEntry) (ys : List StatedEntry) (foot vs : List ℕ) → Plan room s (xs ++ (t ∷ ys))
    → StatesOwners s.m foot vs → length (plan_text s (xs ++ (t ∷ ys)) ++ foot) ≤ largest_text
    → (r : Reading) (starts columns values owners : List ℕ) → GivesText (text_call_of (plan_text s (xs ++ (t ∷ ys)) ++ foot) starts_length room room owners_length) r starts columns values owners
    → matrix (held_plan r (compressed starts columns values)) (t.row - 1) (t.column - 1) ≡ residue_of s.modulus.p (integer_of t.value)
read-each-triple = reads.each-stated

-- the line of owners vs, one for each word, of which some are no bytes
pub owner-too-large : (s : Sizes) (room : ℕ) (ts : List StatedEntry) (vs : List ℕ) → Plan room s ts → length vs ≡ s.m → ((j : ℕ) → get_or vs j 0 < 10 ^ 10) → all_bytes vs ≡ false
    → length (plan_text s ts ++ owners_text vs) ≤ largest_text
    → (r : Reading) (starts columns values owners : List ℕ) → GivesText (text_call_of (plan_text s ts ++ owners_text vs) starts_length room room owners_length) r starts columns values owners
    → r.outcome ≡ Refused owner_too_large (length ts + 4)
owner-too-large s room ts vs plan long small some short r starts columns values owners call =
    ap (λ (x : Reading). x.outcome) call.plan.result-is ∙ reads.owner-too-large s room ts vs plan long small some short

-- a text without the line, which was accepted before there were owners
pub no-owners-as-before : (text : List ℕ) (a b c k : ℕ) (r : Reading) (starts columns values owners : List ℕ) → GivesText (text_call_of text a b c k) r starts columns values owners
    → a ≡ starts_length → b ≡ c → k ≡ owners_length → (h : StatesPlan b text) → Gives (call_of text a b c) r starts columns values × (owners ≡ filled owners_length (replicate h.sizes.m 1))
no-owners-as-before = reads.read-as-before

-- ---- factoring: l has the lengths of the lent lists; o is the result, h are the lists as left

module _ (p n m k : ℕ) (A : Compressed) (l : Lent) (o : Factored) (h : Storage) (call : Leaves (owned_factors k m (factor_call_of p n m A l)) o h) where
  pub factor-exactly : (number_of o.outcome ≡ 0) ↔ ((k ≡ m) × Factorable p n m A l)
  factor-exactly = leaves-exactly k m _ o h call _ (factors.factored-exactly p n m A l o h)

  pub factor-owners : ¬ (k ≡ m) → number_of o.outcome ≡ wrong_length
  factor-owners = leaves-unowned k m _ o h call

  pub factor-seven : k ≡ m → GoodPlan p n m A → LentRight n m l → (number_of o.outcome ≡ storage_too_short) ↔ (¬ FactorsFit p n m A l)
  factor-seven e = factors.factored-seven p n m A l o h (leaves-right k m _ o h call e)

  pub factor-row : number_of o.outcome ≡ storage_too_short → Overflows p m (matrix A) l.lc l.uc nothing (schedule n (structural A n m)) (detail_of o.outcome)
  factor-row e = factors.factored-row p n m A l o h (leaves-other k m _ o h call (λ nine. omega (arith, e, nine))) e

  pub factor-by : NumberFrom (plan_faults ++ (storage_too_short ∷ [])) (number_of o.outcome)
  factor-by = leaves_by k m _ o h call _ (nine-first _) (factors.factored-by p n m A l o h)

  pub factor-cleared : ¬ (number_of o.outcome ≡ 0) → FactorCleared o h
  factor-cleared = leaves-cleared k m _ o h call (factors.factored-cleared p n m A l o h)

-- ---- checking: w₀ and w are the working row before and after, which `Checks` says is all zero in any case

module _ (p n m k : ℕ) (A : Compressed) (s : Set) (r : Outcome) (w₀ w : List ℕ) (call : Checks (owned_outcome k m (check_factors_of p n m A s (length w₀))) r w₀ w) where
  pub check-stored-exactly : (number_of r ≡ 0) ↔ ((k ≡ m) × StoredPasses p n m A s (length w₀))
  check-stored-exactly = checks-exactly k m _ r w₀ w call _ (checks.stored-passes p n m A s r w₀ w)

  pub check-stored-owners : ¬ (k ≡ m) → number_of r ≡ wrong_length
  check-stored-owners = checks-unowned k m _ r w₀ w call

  pub check-stored-by : NumberFrom (plan_faults ++ set_faults) (number_of r)
  check-stored-by = checks-by k m _ r w₀ w call _ (nine-first _) (checks.stored-by p n m A s r w₀ w)

module _ (p n m k : ℕ) (A : Compressed) (cert : List ℕ) (r : Outcome) (w₀ w : List ℕ) (call : Checks (owned_outcome k m (check_certificate_of p n m A cert (length w₀))) r w₀ w) where
  pub check-bytes-exactly : (number_of r ≡ 0) ↔ ((k ≡ m) × CertificatePasses p n m A cert (length w₀))
  check-bytes-exactly = checks-exactly k m _ r w₀ w call _ (checks.bytes-pass p n m A cert r w₀ w)

  pub check-bytes-owners : ¬ (k ≡ m) → number_of r ≡ wrong_length
  check-bytes-owners = checks-unowned k m _ r w₀ w call

  pub check-bytes-by : NumberFrom (plan_faults ++ set_faults) (number_of r)
  check-bytes-by = checks-by k m _ r w₀ w call _ (nine-first _) (checks.bytes-by p n m A cert r w₀ w)

-- ---- writing: b₀ and b are the buffer before and after

module _ (p n m k : ℕ) (A : Compressed) (s : Set) (z : Written) (b₀ b w₀ w : List ℕ)
    (call : WritesCertificate (owned_outcome k m (write_outcome p n m A s (length w₀) (length b₀))) (certificate_of p n m s) z b₀ b w₀ w) where
  pub write-exactly : (number_of z.outcome ≡ 0) ↔ ((k ≡ m) × CanWrite p n m A s (length w₀) (length b₀))
  write-exactly = writes-exactly k m _ _ z b₀ b w₀ w call _ (writes.written-exactly p n m A s z b₀ b w₀ w)

  pub write-owners : ¬ (k ≡ m) → number_of z.outcome ≡ wrong_length
  write-owners = writes-unowned k m _ _ z b₀ b w₀ w call

  pub write-by : NumberFrom ((plan_faults ++ set_faults) ++ (wrong_length ∷ [])) (number_of z.outcome)
  write-by = writes-by k m _ _ z b₀ b w₀ w call _ (nine-first _) (writes.written-by p n m A s z b₀ b w₀ w)

  pub write-cleared : ¬ (number_of z.outcome ≡ 0) → (b ≡ zeros (length b₀)) × (z.length ≡ 0)
  write-cleared = writes-cleared k m _ _ z b₀ b w₀ w call (writes.written-cleared p n m A s z b₀ b w₀ w)

-- ---- questions: x₀, z₀ and x, z are the lists before and after

module _ (p n m k : ℕ) (A : Compressed) (s : Set) (y : List ℕ) (r : Answer) (x₀ x z₀ z w₀ w : List ℕ)
    (call : Answers (owned_answer k m (answer_factors_of p n m A s y (length x₀) (length z₀) (length w₀))) r x₀ x z₀ z w₀ w) where
  pub answer-stored-exactly : (answer_number r ≡ 0) ↔ ((k ≡ m) × (StoredPasses p n m A s (length w₀) × Askable p n m y (length x₀) (length z₀)))
  answer-stored-exactly = answers-exactly k m _ r x₀ x z₀ z w₀ w call _ (answers.stored-answered p n m A s y r x₀ x z₀ z w₀ w)

  pub answer-stored-owners : ¬ (k ≡ m) → answer_number r ≡ wrong_length
  answer-stored-owners = answers-unowned k m _ r x₀ x z₀ z w₀ w call

  pub answer-stored-by : NumberFrom ((wrong_length ∷ []) ++ ((plan_faults ++ set_faults) ++ (question_too_large ∷ []))) (answer_number r)
  answer-stored-by = answers_by k m _ r x₀ x z₀ z w₀ w call _ (nine-first _) (answers.stored-by p n m A s y r x₀ x z₀ z w₀ w)

  pub answer-stored-cleared : ¬ (answer_number r ≡ 0) → (x ≡ zeros (length x₀)) × (z ≡ zeros (length z₀))
  answer-stored-cleared = answers-cleared k m _ r x₀ x z₀ z w₀ w call (answers.stored-cleared p n m A s y r x₀ x z₀ z w₀ w)

module _ (p n m k : ℕ) (A : Compressed) (cert y : List ℕ) (r : Answer) (x₀ x z₀ z w₀ w : List ℕ)
    (call : Answers (owned_answer k m (answer_certificate_of p n m A cert y (length x₀) (length z₀) (length w₀))) r x₀ x z₀ z w₀ w) where
  pub answer-bytes-exactly : (answer_number r ≡ 0) ↔ ((k ≡ m) × (CertificatePasses p n m A cert (length w₀) × Askable p n m y (length x₀) (length z₀)))
  answer-bytes-exactly = answers-exactly k m _ r x₀ x z₀ z w₀ w call _ (answers.bytes-answered p n m A cert y r x₀ x z₀ z w₀ w)

  pub answer-bytes-owners : ¬ (k ≡ m) → answer_number r ≡ wrong_length
  answer-bytes-owners = answers-unowned k m _ r x₀ x z₀ z w₀ w call

  pub answer-bytes-by : NumberFrom ((wrong_length ∷ []) ++ ((plan_faults ++ set_faults) ++ (question_too_large ∷ []))) (answer_number r)
  answer-bytes-by = answers_by k m _ r x₀ x z₀ z w₀ w call _ (nine-first _) (answers.bytes-by p n m A cert y r x₀ x z₀ z w₀ w)

  pub answer-bytes-cleared : ¬ (answer_number r ≡ 0) → (x ≡ zeros (length x₀)) × (z ≡ zeros (length z₀))
  answer-bytes-cleared = answers-cleared k m _ r x₀ x z₀ z w₀ w call (answers.bytes-cleared p n m A cert y r x₀ x z₀ z w₀ w)

-- ---- open columns: l₀ and l are the list before and after

module _ (p n m k : ℕ) (A : Compressed) (s : Set) (r : Outcome) (l₀ l w₀ w : List ℕ)
    (call : Lists (owned_list k m (open_factors_of p n m A s (length l₀) (length w₀))) r l₀ l w₀ w) where
  pub list-stored-exactly : (number_of r ≡ 0) ↔ ((k ≡ m) × (StoredPasses p n m A s (length w₀) × (length l₀ ≡ m)))
  list-stored-exactly = lists-exactly k m _ r l₀ l w₀ w call _ (columns.stored-listed p n m A s r l₀ l w₀ w)

  pub list-stored-owners : ¬ (k ≡ m) → number_of r ≡ wrong_length
  list-stored-owners = lists-unowned k m _ r l₀ l w₀ w call

  pub list-stored-by : NumberFrom ((wrong_length ∷ []) ++ (plan_faults ++ set_faults)) (number_of r)
  list-stored-by = lists-by k m _ r l₀ l w₀ w call _ (nine-first _) (columns.stored-by p n m A s r l₀ l w₀ w)

  pub list-stored-cleared : ¬ (number_of r ≡ 0) → l ≡ zeros (length l₀)
  list-stored-cleared = lists-cleared k m _ r l₀ l w₀ w call (columns.stored-cleared p n m A s r l₀ l w₀ w)

module _ (p n m k : ℕ) (A : Compressed) (cert : List ℕ) (r : Outcome) (l₀ l w₀ w : List ℕ)
    (call : Lists (owned_list k m (open_certificate_of p n m A cert (length l₀) (length w₀))) r l₀ l w₀ w) where
  pub list-bytes-exactly : (number_of r ≡ 0) ↔ ((k ≡ m) × (CertificatePasses p n m A cert (length w₀) × (length l₀ ≡ m)))
  list-bytes-exactly = lists-exactly k m _ r l₀ l w₀ w call _ (columns.bytes-listed p n m A cert r l₀ l w₀ w)

  pub list-bytes-owners : ¬ (k ≡ m) → number_of r ≡ wrong_length
  list-bytes-owners = lists-unowned k m _ r l₀ l w₀ w call

  pub list-bytes-by : NumberFrom ((wrong_length ∷ []) ++ (plan_faults ++ set_faults)) (number_of r)
  list-bytes-by = lists-by k m _ r l₀ l w₀ w call _ (nine-first _) (columns.bytes-by p n m A cert r l₀ l w₀ w)

  pub list-bytes-cleared : ¬ (number_of r ≡ 0) → l ≡ zeros (length l₀)
  list-bytes-cleared = lists-cleared k m _ r l₀ l w₀ w call (columns.bytes-cleared p n m A cert r l₀ l w₀ w)

-- ---- the calls for C: z is the number returned, a number of the table plus 256 times its detail; b₀ and b are the buffer before and after

module _ (text : List ℕ) (z : ℕ) (b₀ b : List ℕ) (call : Makes text z b₀ b) where
  pub make-exactly : (z ≡ 0) ↔ Made text (length b₀)
  make-exactly = texts.made-exactly text z b₀ b call

  pub make-by : PackedFrom (text_faults ++ (storage_too_short ∷ wrong_length ∷ [])) z
  make-by = texts.made_by text z b₀ b call

  pub make-cleared : ¬ (z ≡ 0) → b ≡ zeros (length b₀)
  make-cleared = texts.made-cleared text z b₀ b call

  module _ (states : StatesText largest_entries text) where
    pub make-numbers : (z ≡ 0) ⊎ ((z ≡ 9) ⊎ ((i : ℕ) × (z ≡ 7 + 256 * i)))
    make-numbers = texts.made-numbers text z b₀ b call states

    pub make-seven : ((i : ℕ) × (z ≡ 7 + 256 * i)) ↔ (¬ FitsAll (reading text))
    make-seven = texts.made-seven text z b₀ b call states

    pub make-row : (i : ℕ) → z ≡ 7 + 256 * i → OverflowsAt (reading text) i
    make-row = texts.made_row text z b₀ b call states

    pub make-nine : (z ≡ 9) ↔ (FitsAll (reading text) × (length b₀ < length (own_certificate (reading text))))
    make-nine = texts.made-nine text z b₀ b call states

module _ (text cert : List ℕ) (z : ℕ) (call : z ≡ packed (check_text_of text cert)) where
  pub check-text-exactly : (z ≡ 0) ↔ TextPasses text cert
  check-text-exactly = texts.checked-exactly text cert z call

  pub check-text-by : PackedFrom (text_faults ++ set_faults) z
  check-text-by = texts.checked-by text cert z call

  pub check-text-judged : StatesText largest_entries text → PackedFrom set_faults z
  check-text-judged = texts.checked-judged text cert z call

-- ---- the programs: what is printed stands in the first `size` bytes of the buffer b; Demand2 has what they print where nothing is refused

module _ (text : List ℕ) (size : ℕ) (b₀ b w₀ w : List ℕ) (call : Reports text size b₀ b w₀ w) where
  pub report-refused : ¬ StatesText largest_entries text → PrintsRefusal text_faults (take size b)
  report-refused = reports.report-refused text size b₀ b w₀ w call

  pub report-storage : StatesText largest_entries text → ¬ FitsAll (reading text) → (i : ℕ) × (take size b ≡ refusal_text storage_too_short (i + 1)) × OverflowsAt (reading text) i
  report-storage = reports.report-storage text size b₀ b w₀ w call

module _ (text y : List ℕ) (size : ℕ) (b₀ b w₀ w : List ℕ) (call : Asks text y size b₀ b w₀ w) where
  pub ask-refused : ¬ StatesText largest_entries text → PrintsRefusal text_faults (take size b)
  ask-refused = asks.ask-refused text y size b₀ b w₀ w call

  module _ (states : StatesText largest_entries text) where
    pub ask-storage : ¬ FitsAll (reading text) → (i : ℕ) × (take size b ≡ refusal_text storage_too_short (i + 1)) × OverflowsAt (reading text) i
    ask-storage = asks.ask-storage text y size b₀ b w₀ w call states

    pub ask-length : FitsAll (reading text) → ¬ (length y ≡ (reading text).result.m) → take size b ≡ refusal_text wrong_length 0
    ask-length = asks.ask-length text y size b₀ b w₀ w call states

    pub ask-value : FitsAll (reading text) → length y ≡ (reading text).result.m → ¬ Below (reading text).result.p y
        → (i : ℕ) × (take size b ≡ refusal_text question_too_large (i + 1)) × FirstTooLarge (reading text).result.p y i
    ask-value = asks.ask-value text y size b₀ b w₀ w call states

-- ---- what the words mean

pub moduli : (p : ℕ) → (is_modulus p ≡ true) ↔ (Prime p × (p ≤ largest_modulus))
moduli p = ((λ e. (modulus-prime p e, modulus-range p e)), λ h. prime-modulus p h.0 h.1)

pub word-moduli : (p : ℕ) → p < 2 ^ 32 → (is_modulus p ≡ true) ↔ Prime p
word-moduli p h = (modulus-prime p, λ prime. prime-modulus p prime (prime-in-range p prime h))

pub accepted-exactly : (room : ℕ) (s : Sizes) (text : List ℕ) (out : List Entry) → (read_of room text ≡ accepted s out) ↔ States room s text out
accepted-exactly = plans-read.accepted-exactly

pub owners-exactly : (m k : ℕ) (foot vs : List ℕ) → (owners_in m k (pieces 10 foot) ≡ owned vs) ↔ StatesOwners m foot vs
owners-exactly = owned-exactly

pub entry-limit : (room : ℕ) (s : Sizes) (text : List ℕ) (out : List Entry) → read_of room text ≡ accepted s out → length (kept out) ≤ largest_entries
entry-limit room s text out e = omega (arith, few-entries room s text out e)

pub plans : (p n m : ℕ) (A : Compressed) (lengths : Bool) → (call_outcome lengths p n m A ≡ Passed) ↔ (GoodPlan p n m A × (lengths ≡ true))
plans = plan-exactly
