-- A call on a stored plan with the owners of its words (document 02, slip 4): 9 unless there is one for each of the m words, then the call without them.
-- Only how many they are is looked at, so that owners alter no factor, no certificate and no verdict.
--   owners_outcome k m        9 unless k, the number of owners, is m
--   owned_outcome k m o       a check or a certificate's writing, whose outcome without owners is o
--   owned_factors k m g       factoring that gives g without them
--   given_after, listed_after  what is given, or listed, where the outcome is passed; else its refusal, with no list
--   owned_answer k m g        a question that is given g without them
--   owned_list k m g          a list, of open columns or of settings, that is g without them
--   ChecksOwned, WritesOwned, LeavesOwned, AnswersOwned, ListsOwned
--                            the contracts of these calls, of lent owners and the other lent lists, where g makes what is given without owners
use Rattle.std.specs.Prelude.{ℕ, List, [], eqb, length}
use Rattle.refusals.specs.Table.{wrong_length}
use Rattle.refusals.specs.Refusals.{◌▷◌, unless}
use Rattle.refusals.specs.Outcome.{Outcome}
use Rattle.refusals.specs.Outcome.{Passed, Refused}
use Rattle.sparse.specs.Set.{Storage}
use Rattle.sparse.specs.Views.{LentList}
use Rattle.factor_all.specs.Factorization.{Factorization, Leaves}
use Rattle.factor_all.specs.Factored.{Factored}
use Rattle.call_check.specs.Calls.{ChecksIn}
use Rattle.call_write.specs.Call.{WritesIn}
use Rattle.call_write.specs.Written.{Written}
use Rattle.call_factor.specs.Calls.{unless_refused}
use Rattle.call_answer.specs.Calls.{Given, AnswersIn}
use Rattle.call_answer.specs.Answer.{Answer}
use Rattle.call_open.specs.Calls.{Listed, ListsIn}

unfoldable pub owners_outcome : (k m : ℕ) → Outcome
owners_outcome k m = unless (eqb k m) wrong_length 0

abbrev pub owned_outcome : (k m : ℕ) → Outcome → Outcome
owned_outcome k m o = owners_outcome k m ▷ o

abbrev pub owned_factors : (k m : ℕ) → Factorization → Factorization
owned_factors k m g = unless_refused (owners_outcome k m) g

abbrev pub given_after : Outcome → Given → Given
given_after Passed g = g
given_after (Refused number detail) g = record { outcome = Refused number detail; answer = Answer.Refused number detail; x = []; z = [] }

abbrev pub owned_answer : (k m : ℕ) → Given → Given
owned_answer k m g = given_after (owners_outcome k m) g

abbrev pub listed_after : Outcome → Listed → Listed
listed_after Passed g = g
listed_after (Refused number detail) g = record { outcome = Refused number detail; list = [] }

abbrev pub owned_list : (k m : ℕ) → Listed → Listed
owned_list k m g = listed_after (owners_outcome k m) g

-- ---- the contracts

abbrev pub ChecksOwned : List ℕ → ℕ → (ℕ → Outcome) → Outcome → (work : LentList) → Type 0
ChecksOwned owners m g r work = ChecksIn (λ (w : ℕ). owned_outcome (length owners) m (g w)) r work

abbrev pub WritesOwned : List ℕ → ℕ → (ℕ → ℕ → Outcome) → List ℕ → Written → (buffer work : LentList) → Type 0
WritesOwned owners m g cert r buffer work = WritesIn (λ (w room : ℕ). owned_outcome (length owners) m (g w room)) cert r buffer work

abbrev pub LeavesOwned : List ℕ → ℕ → Factorization → Factored → Storage → Type 0
LeavesOwned owners m g r h = Leaves (owned_factors (length owners) m g) r h

abbrev pub AnswersOwned : List ℕ → ℕ → (ℕ → ℕ → ℕ → Given) → Answer → (x z work : LentList) → Type 0
AnswersOwned owners m g r x z work = AnswersIn (λ (a b w : ℕ). owned_answer (length owners) m (g a b w)) r x z work

abbrev pub ListsOwned : List ℕ → ℕ → (ℕ → ℕ → Listed) → Outcome → (list work : LentList) → Type 0
ListsOwned owners m g r list work = ListsIn (λ (b w : ℕ). owned_list (length owners) m (g b w)) r list work
