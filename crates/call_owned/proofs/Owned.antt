-- What a call with owners says, by what the same call says without them. k is the number of owners, m the number of words.
--   owned-right, owned-wrong    there are m owners, or there are not, as code tests it
--   owners-alike                two lists of m owners give the same: `outcomes-alike`, `factors-alike`, `givens-alike`, `lists-alike`
--   Owned k m P number          P holds of what the test of the owners comes to, and where it refuses, the number of the call is 9
-- For each contract, of a check (`checks`), a certificate's writing (`writes`), factoring (`leaves`), a question (`answers`) and a list of open columns (`lists`):
--   .. -right                   m owners: the contract without owners
--   leaves-other                the number is not 9: the contract without owners
--   .. -unowned                 there are not m owners: the number is 9
--   .. -done                    the number is 0: the contract without owners
--   .. -exactly                 what the number is 0 exactly for, by what it is 0 exactly for without owners
--   .. -by                      the numbers by which the call refuses are those without owners, if 9 is one of them (`nine-first`: it is, where it stands first)
--   .. -cleared                 a refusal leaves everything cleared, as without owners
use mathlib.Core.Path.{◌≡◌, refl, sym, ap, subst, ◌∙◌}
use mathlib.Core.Logic.{◌↔◌, inr}
use mathlib.Core.Bool.{Bool, true, false}
use mathlib.Core.List.{List, ◌∷◌}
use Prim.Native.Nat.{ℕ}
use native.Mathlib.Omega.{arith}
use lib.Dec.{eqb}
use lib.ListN.{length}
use borrow.Author.Tests.{eqb-true, eq-eqb}
use Rattle.lists.specs.Tests.{among}
use Rattle.lists.specs.Filled.{zeros}
use Rattle.lists.proofs.Filled.{filled_none}
use Rattle.refusals.specs.Table.{wrong_length}
use Rattle.refusals.specs.Refusals.{◌▷◌, unless, number_of, NumberFrom}
use Rattle.refusals.specs.Outcome.{Outcome}
use Rattle.refusals.specs.Outcome.{Passed, Refused}
use Rattle.sparse.specs.Set.{Storage}
use Rattle.factor_all.specs.Factorization.{Factorization, Leaves}
use Rattle.factor_all.specs.Factored.{Factored}
use Rattle.call_check.specs.Calls.{Checks}
use Rattle.call_write.specs.Call.{WritesCertificate}
use Rattle.call_write.specs.Written.{Written}
use Rattle.call_factor.specs.Calls.{unless_refused}
use Rattle.call_factor.specs.Accepted.{FactorCleared}
use Rattle.call_factor.proofs.Theorems.{refusal-cleared}
use Rattle.call_answer.specs.Calls.{answer_number, Given, Answers}
use Rattle.call_answer.specs.Answer.{Answer}
use Rattle.call_open.specs.Calls.{Listed, Lists}
use Rattle.call_owned.specs.Owned.{owners_outcome, owned_outcome, owned_factors, given_after, owned_answer, listed_after, owned_list}

-- ---- the test of the owners

pub owned-right : (k m : ℕ) → eqb k m ≡ true → owners_outcome k m ≡ Passed
unfolding owners_outcome
owned-right k m e = ap (λ (b : Bool). unless b wrong_length 0) e

pub owned-wrong : (k m : ℕ) → eqb k m ≡ false → owners_outcome k m ≡ Refused wrong_length 0
unfolding owners_outcome
owned-wrong k m e = ap (λ (b : Bool). unless b wrong_length 0) e

module _ (k k' m : ℕ) (e : k ≡ m) (e' : k' ≡ m) where
  pub owners-alike : owners_outcome k m ≡ owners_outcome k' m
  owners-alike = ap (λ (i : ℕ). owners_outcome i m) (e ∙ sym e')

  pub outcomes-alike : (o : Outcome) → owned_outcome k m o ≡ owned_outcome k' m o
  outcomes-alike o = ap (λ (t : Outcome). t ▷ o) owners-alike

  pub factors-alike : (g : Factorization) → owned_factors k m g ≡ owned_factors k' m g
  factors-alike g = ap (λ (t : Outcome). unless_refused t g) owners-alike

  pub givens-alike : (g : Given) → owned_answer k m g ≡ owned_answer k' m g
  givens-alike g = ap (λ (t : Outcome). given_after t g) owners-alike

  pub lists-alike : (g : Listed) → owned_list k m g ≡ owned_list k' m g
  lists-alike g = ap (λ (t : Outcome). listed_after t g) owners-alike

-- ---- for any contract

pub nine-first : (ks : List ℕ) → among wrong_length (wrong_length ∷ ks) ≡ true
unfolding among
nine-first ks = refl

pub record Owned (k m : ℕ) (P : Outcome → Type 0) (number : ℕ) : Type 0 where
  pub call : P (owners_outcome k m)
  pub nine : P (Refused wrong_length 0) → number ≡ wrong_length

module _ (k m : ℕ) (P : Outcome → Type 0) (number : ℕ) (h : Owned k m P number) where
  cases : (C : Type 0) → (k ≡ m → P Passed → C) → (P (Refused wrong_length 0) → C) → C
  cases C right wrong = go (eqb k m) refl
    where
      go : (b : Bool) → eqb k m ≡ b → C
      go true e = right (eqb-true k m e) (subst P (owned-right k m e) h.call)
      go false e = wrong (subst P (owned-wrong k m e) h.call)

  right : k ≡ m → P Passed
  right e = subst P (owned-right k m (eq-eqb k m e)) h.call

  other : ¬ (number ≡ wrong_length) → P Passed
  other f = cases (P Passed) (λ e c. c) (λ c. absurd (f (h.nine c)))

  count : number ≡ 0 → k ≡ m
  count z = cases (k ≡ m) (λ e c. e) (λ c. absurd (let q : number ≡ wrong_length = h.nine c in omega arith))

  unowned : ¬ (k ≡ m) → number ≡ wrong_length
  unowned f = cases (number ≡ wrong_length) (λ e c. absurd (f e)) (λ c. h.nine c)

  done : number ≡ 0 → P Passed
  done z = right (count z)

  exactly : (X : Type 0) → (P Passed → (number ≡ 0) ↔ X) → (number ≡ 0) ↔ ((k ≡ m) × X)
  exactly X f = ((λ z. (count z, (f (done z)).0 z)), λ x. (f (right x.0)).1 x.1)

  by : (ks : List ℕ) → among wrong_length ks ≡ true → (P Passed → NumberFrom ks number) → NumberFrom ks number
  by ks nine f = cases (NumberFrom ks number) (λ e c. f c) (λ c. inr (ap (λ (i : ℕ). among i ks) (h.nine c) ∙ nine))

  cleared : (C : Type 0) → (P (Refused wrong_length 0) → C) → (P Passed → ¬ (number ≡ 0) → C) → ¬ (number ≡ 0) → C
  cleared C wrong f z = cases C (λ e c. f c z) wrong

-- ---- a check

module _ (k m : ℕ) (o r : Outcome) (w₀ w : List ℕ) (call : Checks (owned_outcome k m o) r w₀ w) where
  checked : Owned k m (λ (t : Outcome). Checks (t ▷ o) r w₀ w) (number_of r)
  checked = record { call = call; nine = λ c. c.number }

  pub checks-right : k ≡ m → Checks o r w₀ w
  checks-right = right k m _ _ checked

  pub checks-unowned : ¬ (k ≡ m) → number_of r ≡ wrong_length
  checks-unowned = unowned k m _ _ checked

  pub checks-done : number_of r ≡ 0 → Checks o r w₀ w
  checks-done = done k m _ _ checked

  pub checks-exactly : (X : Type 0) → (Checks o r w₀ w → (number_of r ≡ 0) ↔ X) → (number_of r ≡ 0) ↔ ((k ≡ m) × X)
  checks-exactly = exactly k m _ _ checked

  pub checks-by : (ks : List ℕ) → among wrong_length ks ≡ true → (Checks o r w₀ w → NumberFrom ks (number_of r)) → NumberFrom ks (number_of r)
  checks-by = by k m _ _ checked

-- ---- a certificate's writing

module _ (k m : ℕ) (o : Outcome) (cert : List ℕ) (z : Written) (b₀ b w₀ w : List ℕ) (call : WritesCertificate (owned_outcome k m o) cert z b₀ b w₀ w) where
  written : Owned k m (λ (t : Outcome). WritesCertificate (t ▷ o) cert z b₀ b w₀ w) (number_of z.outcome)
  written = record { call = call; nine = λ c. c.number }

  pub writes-right : k ≡ m → WritesCertificate o cert z b₀ b w₀ w
  writes-right = right k m _ _ written

  pub writes-unowned : ¬ (k ≡ m) → number_of z.outcome ≡ wrong_length
  writes-unowned = unowned k m _ _ written

  pub writes-done : number_of z.outcome ≡ 0 → WritesCertificate o cert z b₀ b w₀ w
  writes-done = done k m _ _ written

  pub writes-exactly : (X : Type 0) → (WritesCertificate o cert z b₀ b w₀ w → (number_of z.outcome ≡ 0) ↔ X) → (number_of z.outcome ≡ 0) ↔ ((k ≡ m) × X)
  writes-exactly = exactly k m _ _ written

  pub writes-by : (ks : List ℕ) → among wrong_length ks ≡ true → (WritesCertificate o cert z b₀ b w₀ w → NumberFrom ks (number_of z.outcome)) → NumberFrom ks (number_of z.outcome)
  writes-by = by k m _ _ written

  pub writes-cleared : (WritesCertificate o cert z b₀ b w₀ w → ¬ (number_of z.outcome ≡ 0) → (b ≡ zeros (length b₀)) × (z.length ≡ 0))
      → ¬ (number_of z.outcome ≡ 0) → (b ≡ zeros (length b₀)) × (z.length ≡ 0)
  writes-cleared = cleared k m _ _ written ((b ≡ zeros (length b₀)) × (z.length ≡ 0)) (λ c. (c.buffer ∙ filled_none (length b₀), c.size))

-- ---- factoring

module _ (k m : ℕ) (g : Factorization) (o : Factored) (h : Storage) (call : Leaves (owned_factors k m g) o h) where
  factored : Owned k m (λ (t : Outcome). Leaves (unless_refused t g) o h) (number_of o.outcome)
  factored = record { call = call; nine = λ c. c.number }

  pub leaves-right : k ≡ m → Leaves g o h
  leaves-right = right k m _ _ factored

  pub leaves-other : ¬ (number_of o.outcome ≡ wrong_length) → Leaves g o h
  leaves-other = other k m _ _ factored

  pub leaves-unowned : ¬ (k ≡ m) → number_of o.outcome ≡ wrong_length
  leaves-unowned = unowned k m _ _ factored

  pub leaves-done : number_of o.outcome ≡ 0 → Leaves g o h
  leaves-done = done k m _ _ factored

  pub leaves-exactly : (X : Type 0) → (Leaves g o h → (number_of o.outcome ≡ 0) ↔ X) → (number_of o.outcome ≡ 0) ↔ ((k ≡ m) × X)
  leaves-exactly = exactly k m _ _ factored

  pub leaves_by : (ks : List ℕ) → among wrong_length ks ≡ true → (Leaves g o h → NumberFrom ks (number_of o.outcome)) → NumberFrom ks (number_of o.outcome)
  leaves_by = by k m _ _ factored

  pub leaves-cleared : (Leaves g o h → ¬ (number_of o.outcome ≡ 0) → FactorCleared o h) → ¬ (number_of o.outcome ≡ 0) → FactorCleared o h
  leaves-cleared = cleared k m _ _ factored (FactorCleared o h) (refusal-cleared wrong_length 0 o h)

-- ---- a question

module _ (k m : ℕ) (g : Given) (r : Answer) (x₀ x z₀ z w₀ w : List ℕ) (call : Answers (owned_answer k m g) r x₀ x z₀ z w₀ w) where
  answered : Owned k m (λ (t : Outcome). Answers (given_after t g) r x₀ x z₀ z w₀ w) (answer_number r)
  answered = record { call = call; nine = λ c. c.number }

  pub answers-right : k ≡ m → Answers g r x₀ x z₀ z w₀ w
  answers-right = right k m _ _ answered

  pub answers-unowned : ¬ (k ≡ m) → answer_number r ≡ wrong_length
  answers-unowned = unowned k m _ _ answered

  pub answers-done : answer_number r ≡ 0 → Answers g r x₀ x z₀ z w₀ w
  answers-done = done k m _ _ answered

  pub answers-exactly : (X : Type 0) → (Answers g r x₀ x z₀ z w₀ w → (answer_number r ≡ 0) ↔ X) → (answer_number r ≡ 0) ↔ ((k ≡ m) × X)
  answers-exactly = exactly k m _ _ answered

  pub answers_by : (ks : List ℕ) → among wrong_length ks ≡ true → (Answers g r x₀ x z₀ z w₀ w → NumberFrom ks (answer_number r)) → NumberFrom ks (answer_number r)
  answers_by = by k m _ _ answered

  pub answers-cleared : (Answers g r x₀ x z₀ z w₀ w → ¬ (answer_number r ≡ 0) → (x ≡ zeros (length x₀)) × (z ≡ zeros (length z₀)))
      → ¬ (answer_number r ≡ 0) → (x ≡ zeros (length x₀)) × (z ≡ zeros (length z₀))
  answers-cleared =
      cleared k m _ _ answered ((x ≡ zeros (length x₀)) × (z ≡ zeros (length z₀)))
      (λ c. (c.x-is ∙ filled_none (length x₀), c.z-is ∙ filled_none (length z₀)))

-- ---- a list of open columns

module _ (k m : ℕ) (g : Listed) (r : Outcome) (l₀ l w₀ w : List ℕ) (call : Lists (owned_list k m g) r l₀ l w₀ w) where
  listed : Owned k m (λ (t : Outcome). Lists (listed_after t g) r l₀ l w₀ w) (number_of r)
  listed = record { call = call; nine = λ c. c.number }

  pub lists-right : k ≡ m → Lists g r l₀ l w₀ w
  lists-right = right k m _ _ listed

  pub lists-unowned : ¬ (k ≡ m) → number_of r ≡ wrong_length
  lists-unowned = unowned k m _ _ listed

  pub lists-done : number_of r ≡ 0 → Lists g r l₀ l w₀ w
  lists-done = done k m _ _ listed

  pub lists-exactly : (X : Type 0) → (Lists g r l₀ l w₀ w → (number_of r ≡ 0) ↔ X) → (number_of r ≡ 0) ↔ ((k ≡ m) × X)
  lists-exactly = exactly k m _ _ listed

  pub lists-by : (ks : List ℕ) → among wrong_length ks ≡ true → (Lists g r l₀ l w₀ w → NumberFrom ks (number_of r)) → NumberFrom ks (number_of r)
  lists-by = by k m _ _ listed

  pub lists-cleared : (Lists g r l₀ l w₀ w → ¬ (number_of r ≡ 0) → l ≡ zeros (length l₀)) → ¬ (number_of r ≡ 0) → l ≡ zeros (length l₀)
  lists-cleared = cleared k m _ _ listed (l ≡ zeros (length l₀)) (λ c. c.list-is ∙ filled_none (length l₀))
