-- From what the steps of reading return to the call's answer.
--   passed-refused              passing is no refusal
--   owners-wrong                the owners have the wrong length
--   plan-refused                the plan's own text is refused: no list is left with anything in it
--   foot-refused, foot-passed   what follows the plan is refused, or says the owners
use mathlib.Core.Path.{◌≡◌, refl, sym, ap, ◌∙◌, subst}
use mathlib.Core.List.{List}
use Prim.Native.Nat.{ℕ}
use native.Mathlib.Omega.{arith}
use lib.ListN.{take, drop}
use borrow.Author.Tests.{eq-eqb, ne_eqb}
use Rattle.lists.specs.Filled.{zeros, filled}
use Rattle.lists.specs.Tests.{among}
use Rattle.refusals.specs.Table.{text_faults}
use Rattle.refusals.proofs.Refusals.{zero-passed}
use Rattle.refusals.specs.Outcome.{Outcome}
use Rattle.refusals.specs.Outcome.{Passed, Refused}
use Rattle.text_fields.specs.Pieces.{pieces}
use Rattle.text_lines.specs.declared.Place.{Place}
use Rattle.text_plan.specs.Call.{ReadAnswer, refusal_of, call_of, Gives}
use Rattle.text_plan.specs.Call.{Reading}
use Rattle.text_plan.proofs.Done.{refused-by, read-cleared}
use Rattle.text_owners.specs.Ending.{plan_part, PlanEnds}
use Rattle.text_owners.specs.Owners.{OwnersRead, not_read, owned, owners_in}
use Rattle.text_owners.specs.Needs.{Owns}
use Rattle.text_owners.specs.Call.{owners_length, TextAnswer, refuses_text, foot_of, after_plan, answer_with, text_call_of, GivesText}

pub passed-refused : {n d : ℕ} → Passed ≡ Refused n d → ⊥
passed-refused e = let z : ◌≡◌ {A = ℕ} 0 1 = cc in omega arith

-- what reading the owners returned says what they are
foot-not : (f : OwnersRead) (o : Outcome) (left : List ℕ) {n d : ℕ} → Owns f o left → o ≡ Refused n d → f ≡ not_read n d
foot-not (not_read k x) o left h q = cc
foot-not (owned vs) o left h q = absurd (passed-refused (sym h.0 ∙ q))

module _ (text : List ℕ) (a b c k : ℕ) where
  -- a refusal, and lists that are all zero
  refuses-all : (n d : ℕ) (r : Reading) (st co va ow : List ℕ) → r ≡ refusal_of (Refused n d) → st ≡ zeros a → co ≡ zeros b → va ≡ zeros c → ow ≡ zeros k
      → GivesText (refuses_text n d a b c k) r st co va ow
  refuses-all n d r st co va ow f x y z w = record { plan = record { result-is = f; starts-are = x; columns-are = y; values-are = z }; owners-are = w }

  pub owners-wrong : (k ≡ owners_length → ⊥) → (r : Reading) (st co va ow : List ℕ) → r ≡ refusal_of (Refused 9 0) → st ≡ zeros a → co ≡ zeros b → va ≡ zeros c → ow ≡ zeros k
      → GivesText (text_call_of text a b c k) r st co va ow
  unfolding text_call_of
  owners-wrong n r st co va ow f x y z w = rw (ne_eqb k owners_length n) (refuses-all 9 0 r st co va ow f x y z w)

  -- the plan's own text was read
  module _ (long : k ≡ owners_length) (from : Place) (ends : PlanEnds text from) (r : Reading) (st co va : List ℕ) (call : Gives (call_of (take from.at text) a b c) r st co va) where
    abbrev answer : ReadAnswer
    answer = call_of (plan_part text) a b c

    part-is : call_of (take from.at text) a b c ≡ answer
    part-is = ap (λ (j : ℕ). call_of (take j text) a b c) ends.end_is

    result-is : r ≡ answer.result
    result-is = call.result-is ∙ ap (λ (x : ReadAnswer). x.result) part-is

    whole : text_call_of text a b c k ≡ answer_with a b c k answer (after_plan r.outcome (foot_of text r.m))
    unfolding text_call_of
    whole = rw (eq-eqb k owners_length long) (ap (λ (x : Reading). answer_with a b c k answer (after_plan x.outcome (foot_of text x.m))) (sym result-is))

    gives : (x : TextAnswer) (r' : Reading) (st' co' va' ow : List ℕ) → text_call_of text a b c k ≡ x → GivesText x r' st' co' va' ow → GivesText (text_call_of text a b c k) r' st' co' va' ow
    gives x r' st' co' va' ow e h = subst (λ (y : TextAnswer). GivesText y r' st' co' va' ow) (sym e) h

    pub plan-refused : {n d : ℕ} → r.outcome ≡ Refused n d → (ow : List ℕ) → ow ≡ zeros k → GivesText (text_call_of text a b c k) r st co va ow
    unfolding among
    plan-refused {n} {d} q ow w =
        let by = refused-by (take from.at text) a b c r st co va call in
        let x = read-cleared (take from.at text) a b c r st co va call (λ z. passed-refused (sym ((zero-passed text_faults r.outcome by refl).0 z) ∙ q)) in
        gives (refuses_text n d a b c k) r st co va ow
        (whole ∙ ap (λ (o : Outcome). answer_with a b c k answer (after_plan o (foot_of text r.m))) q)
        (refuses-all n d r st co va ow (x.result-is ∙ ap refusal_of q) x.starts-are x.columns-are x.values-are w)

    -- it passed
    module _ (q : r.outcome ≡ Passed) where
      module _ (o : Outcome) (left : List ℕ) (h : Owns (owners_in r.m from.line (pieces 10 (drop from.at text))) o left) where
        foot-owns : Owns (foot_of text r.m) o left
        unfolding foot_of
        foot-owns = subst (λ (f : OwnersRead). Owns f o left) (λ j. owners_in r.m (ends.line-is j) (pieces 10 (drop (ends.end_is j) text))) h

        foot-decides : text_call_of text a b c k ≡ answer_with a b c k answer (foot_of text r.m)
        foot-decides = whole ∙ ap (λ (x : Outcome). answer_with a b c k answer (after_plan x (foot_of text r.m))) q

        pub foot-refused : {n d : ℕ} → o ≡ Refused n d → (r' : Reading) (st' co' va' ow : List ℕ) → r' ≡ refusal_of o → st' ≡ zeros a → co' ≡ zeros b → va' ≡ zeros c → ow ≡ zeros k
            → GivesText (text_call_of text a b c k) r' st' co' va' ow
        foot-refused {n} {d} e r' st' co' va' ow f x y z w =
            gives (refuses_text n d a b c k) r' st' co' va' ow (foot-decides ∙ ap (answer_with a b c k answer) (foot-not (foot_of text r.m) o left foot-owns e))
            (refuses-all n d r' st' co' va' ow (f ∙ ap refusal_of e) x y z w)

        pub foot-passed : o ≡ Passed → GivesText (text_call_of text a b c k) r st co va left
        foot-passed e =
            gives (answer_with a b c k answer (foot_of text r.m)) r st co va left foot-decides (go (foot_of text r.m) foot-owns)
          where
            go : (f : OwnersRead) → Owns f o left → GivesText (answer_with a b c k answer f) r st co va left
            go (not_read n d) s = absurd (passed-refused (sym e ∙ s))
            go (owned vs) s = record { plan = subst (λ (y : ReadAnswer). Gives y r st co va) part-is call; owners-are = s.1 ∙ ap (λ (n : ℕ). filled n vs) (sym long) }
