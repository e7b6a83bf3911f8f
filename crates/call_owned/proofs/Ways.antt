-- One law for each way out of a call with owners. k is the number of owners, m the number of words, as code compares them.
--   .. -refuses    there are not m owners: 9, and everything lent is cleared
--   .. -passes     there are m owners: what the call without them returns and leaves
use mathlib.Core.Path.{◌≡◌, sym, subst, refl, ◌∙◌}
use mathlib.Core.Bool.{true, false}
use mathlib.Core.List.{List}
use Prim.Native.Nat.{ℕ}
use lib.Dec.{eqb}
use lib.ListN.{length}
use Rattle.lists.specs.Filled.{zeros}
use Rattle.lists.proofs.Filled.{filled_none}
use Rattle.refusals.specs.Table.{wrong_length}
use Rattle.refusals.specs.Refusals.{◌▷◌}
use Rattle.refusals.specs.Outcome.{Outcome}
use Rattle.refusals.specs.Outcome.{Passed, Refused}
use Rattle.sparse.specs.Set.{Storage}
use Rattle.factor_all.specs.Factorization.{Factorization, Leaves}
use Rattle.factor_all.specs.Needs.{AllClear}
use Rattle.factor_all.specs.Factored.{Factored}
use Rattle.factor_all.proofs.FromPairs.{leaves-refused}
use Rattle.call_check.specs.Calls.{Checks}
use Rattle.call_write.specs.Call.{WritesCertificate}
use Rattle.call_write.specs.Written.{Written}
use Rattle.call_factor.specs.Calls.{unless_refused}
use Rattle.call_answer.specs.Calls.{Given, Answers}
use Rattle.call_answer.specs.Answer.{Answer}
use Rattle.call_open.specs.Calls.{Listed, Lists}
use Rattle.call_owned.specs.Owned.{owners_outcome, owned_outcome, owned_factors, given_after, owned_answer, listed_after, owned_list}
use Rattle.call_owned.proofs.Owned.{owned-right, owned-wrong}

module _ (k m : ℕ) where
  -- what holds where the test passes or refuses holds of the test
  passes : (P : Outcome → Type 0) → eqb k m ≡ true → P Passed → P (owners_outcome k m)
  passes P e h = subst P (sym (owned-right k m e)) h

  refuses : (P : Outcome → Type 0) → eqb k m ≡ false → P (Refused wrong_length 0) → P (owners_outcome k m)
  refuses P e h = subst P (sym (owned-wrong k m e)) h

  -- ---- a check

  module _ (o : Outcome) (w₀ w : List ℕ) where
    pub checks-refuses : eqb k m ≡ false → w ≡ zeros (length w₀) → Checks (owned_outcome k m o) (Refused wrong_length 0) w₀ w
    checks-refuses e ew = refuses (λ (t : Outcome). Checks (t ▷ o) (Refused wrong_length 0) w₀ w) e (record { outcome = refl; number = refl; detail = refl; cleared = ew })

    pub checks-passes : eqb k m ≡ true → (r : Outcome) → Checks o r w₀ w → Checks (owned_outcome k m o) r w₀ w
    checks-passes e r h = passes (λ (t : Outcome). Checks (t ▷ o) r w₀ w) e h

  -- ---- a certificate's writing

  module _ (o : Outcome) (cert b₀ b w₀ w : List ℕ) where
    abbrev none : Written
    none = record { outcome = Refused wrong_length 0; length = 0 }

    pub writes-refuses : eqb k m ≡ false → b ≡ zeros (length b₀) → w ≡ zeros (length w₀) → WritesCertificate (owned_outcome k m o) cert none b₀ b w₀ w
    writes-refuses e eb ew =
        refuses (λ (t : Outcome). WritesCertificate (t ▷ o) cert none b₀ b w₀ w) e
        (record { outcome = refl; number = refl; detail = refl; size = refl; buffer = eb ∙ sym (filled_none (length b₀)); cleared = ew })

    pub writes-passes : eqb k m ≡ true → (z : Written) → WritesCertificate o cert z b₀ b w₀ w → WritesCertificate (owned_outcome k m o) cert z b₀ b w₀ w
    writes-passes e z h = passes (λ (t : Outcome). WritesCertificate (t ▷ o) cert z b₀ b w₀ w) e h

  -- ---- factoring

  module _ (g : Factorization) (h : Storage) where
    pub leaves-refuses : eqb k m ≡ false → AllClear h → Leaves (owned_factors k m g) (record { outcome = Refused wrong_length 0; rank = 0; structural = 0 }) h
    leaves-refuses e c =
        refuses (λ (t : Outcome). Leaves (unless_refused t g) (record { outcome = Refused wrong_length 0; rank = 0; structural = 0 }) h) e (leaves-refused wrong_length 0 h c)

    pub leaves-passes : eqb k m ≡ true → (o : Factored) → Leaves g o h → Leaves (owned_factors k m g) o h
    leaves-passes e o c = passes (λ (t : Outcome). Leaves (unless_refused t g) o h) e c

  -- ---- a question

  module _ (g : Given) (x₀ x z₀ z w₀ w : List ℕ) where
    pub answers-refuses : eqb k m ≡ false → x ≡ zeros (length x₀) → z ≡ zeros (length z₀) → w ≡ zeros (length w₀)
        → Answers (owned_answer k m g) (Answer.Refused wrong_length 0) x₀ x z₀ z w₀ w
    answers-refuses e ex ez ew =
        refuses (λ (t : Outcome). Answers (given_after t g) (Answer.Refused wrong_length 0) x₀ x z₀ z w₀ w) e
        (record { answer = refl; number = refl; detail = refl; x-is = ex ∙ sym (filled_none (length x₀)); z-is = ez ∙ sym (filled_none (length z₀)); cleared = ew })

    pub answers-passes : eqb k m ≡ true → (r : Answer) → Answers g r x₀ x z₀ z w₀ w → Answers (owned_answer k m g) r x₀ x z₀ z w₀ w
    answers-passes e r h = passes (λ (t : Outcome). Answers (given_after t g) r x₀ x z₀ z w₀ w) e h

  -- ---- a list of open columns

  module _ (g : Listed) (l₀ l w₀ w : List ℕ) where
    pub lists-refuses : eqb k m ≡ false → l ≡ zeros (length l₀) → w ≡ zeros (length w₀) → Lists (owned_list k m g) (Refused wrong_length 0) l₀ l w₀ w
    lists-refuses e el ew =
        refuses (λ (t : Outcome). Lists (listed_after t g) (Refused wrong_length 0) l₀ l w₀ w) e
        (record { outcome = refl; number = refl; detail = refl; list-is = el ∙ sym (filled_none (length l₀)); cleared = ew })

    pub lists-passes : eqb k m ≡ true → (r : Outcome) → Lists g r l₀ l w₀ w → Lists (owned_list k m g) r l₀ l w₀ w
    lists-passes e r h = passes (λ (t : Outcome). Lists (listed_after t g) r l₀ l w₀ w) e h
