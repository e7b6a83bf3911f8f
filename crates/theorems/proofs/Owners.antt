-- Owners alter no factor, no certificate and no verdict on a question (document 02, slip 4).
-- Of a stored plan, os and os' being two lists of m owners: what a call returned and left with the one it returns and leaves with the other.
--   check-alike, write-alike, factor-alike, answer-alike, list-alike, solve-alike
--                        checking, writing, factoring, answering, listing the open columns or the settings that fit, and solving, from stored factors and from a certificate
-- Of the text of one plan, with any owners after it or with none: T and T' are two such texts within the limit.
--   read-call-alike      the call that reads the one returns and leaves of the plan what it returns and leaves for the other, whatever room it is lent
--   read_alike           in lists of the largest lengths; only the owners differ, and those are the ones that are stated
--   factors-alike        the factors are the same
--   certificate-alike    and so is their certificate
--   make-alike           the call for C that makes a certificate returns the same number and leaves the same bytes
--   check-text-alike     the call for C that checks one returns the same number
--   ask-alike            the question program prints the same line
--   words-alike          and so it does with the verb `words`
--   settings-alike       and all lines with the verb `settings`
use Prim.Native.Nat.{ℕ, ◌≤◌}
use mathlib.Core.Path.{◌≡◌, sym, ap, subst, ◌∙◌}
use mathlib.Core.List.{List, ◌++◌}
use lib.ListN.{length}
use Rattle.lists.specs.Filled.{filled}
use Rattle.refusals.specs.Outcome.{Outcome}
use Rattle.sparse.specs.Set.{Storage}
use Rattle.text_judge.specs.declared.judge.Sizes.{Sizes}
use Rattle.text_plan.specs.Call.{ReadAnswer, Gives}
use Rattle.text_plan.specs.Stating.{StatedEntry, Plan, plan_text}
use Rattle.text_plan.specs.Call.{Reading}
use Rattle.limits.specs.Limits.{starts_length, largest_entries, largest_text}
use Rattle.factor_all.specs.Factorization.{Factorization, Leaves}
use Rattle.factor_all.specs.Factored.{Factored}
use Rattle.call_check.specs.Calls.{Checks}
use Rattle.call_write.specs.Call.{WritesCertificate}
use Rattle.call_write.specs.Written.{Written}
use Rattle.call_answer.specs.Calls.{Given, Answers}
use Rattle.call_answer.specs.Answer.{Answer}
use Rattle.call_open.specs.Calls.{Listed, Lists}
use Rattle.call_slots.specs.Calls.{SlotsGiven, Solves}
use Rattle.call_slots.specs.Solution.{Solution}
use Rattle.call_owned.specs.Owned.{owned_outcome, owned_factors, owned_answer, owned_list}
use Rattle.call_owned.proofs.Owned.{outcomes-alike, factors-alike as factorings-alike, givens-alike, lists-alike}
use Rattle.text_owners.specs.Call.{owners_length, text_call_of, GivesText}
use Rattle.text_owners.specs.Stating.{StatesOwners}
use Rattle.text_owners.proofs.Theorems.{owners-alone}
use Rattle.stages.specs.Stages.{reading, owners_read, factored_of}
use Rattle.stages.proofs.ReadText.{reading-alike, owners_of}
use Rattle.text_calls.specs.Calls.{check_text_of, certificate_for, packed, Makes}
use Rattle.text_calls.proofs.Texts as texts
use Rattle.ask_lib.specs.Asking.{Asks}
use Rattle.ask_lib.proofs.Theorems as asks
use Rattle.ask_words.specs.Solving.{TellsWords}
use Rattle.ask_words.proofs.Theorems as words
use Rattle.ask_settings.specs.Settings.{settings_of}
use Rattle.ask_settings.proofs.Theorems as settings

-- ---- a stored plan

module _ (m : ℕ) (os os' : List ℕ) (long : length os ≡ m) (long' : length os' ≡ m) where
  pub check-alike : (o r : Outcome) (w₀ w : List ℕ) → Checks (owned_outcome (length os) m o) r w₀ w → Checks (owned_outcome (length os') m o) r w₀ w
  check-alike o r w₀ w = subst (λ (x : Outcome). Checks x r w₀ w) (outcomes-alike (length os) (length os') m long long' o)

  pub write-alike : (o : Outcome) (cert : List ℕ) (z : Written) (b₀ b w₀ w : List ℕ) → WritesCertificate (owned_outcome (length os) m o) cert z b₀ b w₀ w
      → WritesCertificate (owned_outcome (length os') m o) cert z b₀ b w₀ w
  write-alike o cert z b₀ b w₀ w = subst (λ (x : Outcome). WritesCertificate x cert z b₀ b w₀ w) (outcomes-alike (length os) (length os') m long long' o)

  pub factor-alike : (g : Factorization) (o : Factored) (h : Storage) → Leaves (owned_factors (length os) m g) o h → Leaves (owned_factors (length os') m g) o h
  factor-alike g o h = subst (λ (x : Factorization). Leaves x o h) (factorings-alike (length os) (length os') m long long' g)

  pub answer-alike : (g : Given) (r : Answer) (x₀ x z₀ z w₀ w : List ℕ) → Answers (owned_answer (length os) m g) r x₀ x z₀ z w₀ w → Answers (owned_answer (length os') m g) r x₀ x z₀ z w₀ w
  answer-alike g r x₀ x z₀ z w₀ w = subst (λ (y : Given). Answers y r x₀ x z₀ z w₀ w) (givens-alike (length os) (length os') m long long' g)

  pub list-alike : (g : Listed) (r : Outcome) (l₀ l w₀ w : List ℕ) → Lists (owned_list (length os) m g) r l₀ l w₀ w → Lists (owned_list (length os') m g) r l₀ l w₀ w
  list-alike g r l₀ l w₀ w = subst (λ (x : Listed). Lists x r l₀ l w₀ w) (lists-alike (length os) (length os') m long long' g)

  -- g makes what is given from the number of owners, as `slots_factors_of` and `slots_certificate_of` do
  pub solve-alike : (g : ℕ → SlotsGiven) (r : Solution) (s₀ s w₀ w v₀ v : List ℕ) → Solves (g (length os)) r s₀ s w₀ w v₀ v → Solves (g (length os')) r s₀ s w₀ w v₀ v
  solve-alike g r s₀ s w₀ w v₀ v = subst (λ (k : ℕ). Solves (g k) r s₀ s w₀ w v₀ v) (long ∙ sym long')

-- ---- the text of a plan

pub read-call-alike : (s : Sizes) (room : ℕ) (ts : List StatedEntry) (foot foot' vs vs' : List ℕ) → Plan room s ts → StatesOwners s.m foot vs → StatesOwners s.m foot' vs'
    → length (plan_text s ts ++ foot) ≤ largest_text → length (plan_text s ts ++ foot') ≤ largest_text
    → (r : Reading) (starts columns values owners : List ℕ) → GivesText (text_call_of (plan_text s ts ++ foot) starts_length room room owners_length) r starts columns values owners
    → Gives (text_call_of (plan_text s ts ++ foot') starts_length room room owners_length).plan r starts columns values
read-call-alike s room ts foot foot' vs vs' plan states states' short short' r starts columns values owners call =
    subst (λ (x : ReadAnswer). Gives x r starts columns values) (owners-alone s room ts foot foot' vs vs' plan states states' short short') call.plan

module _ (s : Sizes) (ts : List StatedEntry) (foot foot' vs vs' : List ℕ) (plan : Plan largest_entries s ts) (states : StatesOwners s.m foot vs) (states' : StatesOwners s.m foot' vs')
    (short : length (plan_text s ts ++ foot) ≤ largest_text) (short' : length (plan_text s ts ++ foot') ≤ largest_text) where
  abbrev T : List ℕ
  T = plan_text s ts ++ foot

  abbrev T' : List ℕ
  T' = plan_text s ts ++ foot'

  pub read_alike : (reading T ≡ reading T') × (owners_read T ≡ filled owners_length vs) × (owners_read T' ≡ filled owners_length vs')
  read_alike = (reading-alike s ts foot foot' vs vs' plan states states' short short', owners_of s ts foot vs plan states short, owners_of s ts foot' vs' plan states' short')

  pub factors-alike : factored_of (reading T) ≡ factored_of (reading T')
  factors-alike = ap factored_of read_alike.0

  pub certificate-alike : certificate_for (reading T) ≡ certificate_for (reading T')
  certificate-alike = ap certificate_for read_alike.0

  pub make-alike : (z : ℕ) (b₀ b : List ℕ) → Makes T z b₀ b → Makes T' z b₀ b
  make-alike = texts.made_alike T T' read_alike.0

  pub check-text-alike : (cert : List ℕ) (z : ℕ) → z ≡ packed (check_text_of T cert) → z ≡ packed (check_text_of T' cert)
  check-text-alike cert z e = e ∙ ap packed (texts.checked-alike T T' read_alike.0 cert)

  pub ask-alike : (y : List ℕ) (size : ℕ) (b₀ b w₀ w : List ℕ) → Asks T y size b₀ b w₀ w → Asks T' y size b₀ b w₀ w
  ask-alike = asks.asked-alike T T' read_alike.0

  pub words-alike : (h : List ℕ) (size : ℕ) (b₀ b w₀ w : List ℕ) → TellsWords T h size b₀ b w₀ w → TellsWords T' h size b₀ b w₀ w
  words-alike = words.words-alike T T' read_alike.0

  pub settings-alike : settings_of T ≡ settings_of T'
  settings-alike = settings.settings-alike T T' read_alike.0
