-- Results as outcomes: what a test that refuses by `?` adds to the outcome of all tests.
--   is_left              the exit of a `?` returns the error that it met
--   left                 the outcome of such an exit
--   stops, goes_on       a test that refuses, and what would follow it; a test that passed, and what follows it
--   stops_at, goes_past  the same of a test `demand(b, ..)`, where b is what the definition tests
--   ends_at              such a test as the last
--   held                 what the definition tests holds after such a test
--   regroup              tests that the definition groups by their kind, one after another
--   chain                all of these, for a search: the tests of the code are those of the definition, in order
use Rattle.std.specs.Prelude.{ℕ, Bool, true, Result, Err}
use Rattle.std.specs.Result.{IsErrAnd}
use Rattle.std.proofs.Common.{◌≡◌, sym, ap, ◌∙◌}
use Rattle.std.proofs.lemmas.Result.{err_from_is_err_and}
use Rattle.refusals.specs.declared.Refusal.{Refusal}
use Rattle.refusals.specs.Outcome.{Outcome, Passed, Refused, outcome_of}
use Rattle.refusals.specs.Faults.{number}
use Rattle.refusals.specs.Refusals.{◌▷◌, unless}
use Rattle.refusals.proofs.Refusals.{unless-true, then-after}

pub is_left : {A : Type 0} (r : Result A Refusal) (e : Refusal) → IsErrAnd r (λ y. y ≡ e) → r ≡ Err e
is_left r e h = let (y, is, same) = err_from_is_err_and r h in is ∙ ap Err same

pub left : (r : Result (Unit {0}) Refusal) (e : Refusal) → IsErrAnd r (λ y. y ≡ e) → outcome_of r ≡ Refused (number e.fault) e.detail
left r e h = ap outcome_of (is_left r e h)

pub stops : (r : Result (Unit {0}) Refusal) (e : Refusal) (t next : Outcome) → IsErrAnd r (λ y. y ≡ e) → Refused (number e.fault) e.detail ≡ t → outcome_of r ≡ (t ▷ next)
stops r e t next h f = left r e h ∙ ap (λ (o : Outcome). o ▷ next) f

pub goes_on : (t next x : Outcome) → Passed ≡ t → x ≡ next → x ≡ (t ▷ next)
goes_on t next x f q = q ∙ ap (λ (o : Outcome). o ▷ next) f

pub stops_at : (r : Result (Unit {0}) Refusal) (e : Refusal) (b b' : Bool) (k d : ℕ) (next : Outcome) → IsErrAnd r (λ y. y ≡ e) → Refused (number e.fault) e.detail ≡ unless b k d → b ≡ b' → outcome_of r ≡ (unless b' k d ▷ next)
stops_at r e b b' k d next h f s = stops r e (unless b' k d) next h (f ∙ ap (λ (u : Bool). unless u k d) s)

pub goes_past : (b b' : Bool) (k d : ℕ) (next x : Outcome) → Passed ≡ unless b k d → b ≡ b' → x ≡ next → x ≡ (unless b' k d ▷ next)
goes_past b b' k d next x f s q = goes_on (unless b' k d) next x (f ∙ ap (λ (u : Bool). unless u k d) s) q

pub ends_at : (r : Result (Unit {0}) Refusal) (b b' : Bool) (k d : ℕ) → outcome_of r ≡ unless b k d → b ≡ b' → outcome_of r ≡ unless b' k d
ends_at r b b' k d e s = e ∙ ap (λ (u : Bool). unless u k d) s

pub held : (b b' : Bool) (k d : ℕ) → Passed ≡ unless b k d → b ≡ b' → b' ≡ true
held b b' k d f s = sym s ∙ unless-true b k d (sym f)

pub regroup : (a b c x : Outcome) → x ≡ (a ▷ (b ▷ c)) → x ≡ ((a ▷ b) ▷ c)
regroup a b c x q = q ∙ sym (then-after a b c)

pub ruleset chain = (stops_at, goes_past, ends_at, stops, goes_on, regroup)
