-- The lines from the third one on: what reading them as they stand comes to, if it is not 5, is what they come to in any order.
use mathlib.Core.Path.{◌≡◌, refl, sym, ap, ◌∙◌, subst}
use mathlib.Core.Bool.{false}
use mathlib.Core.List.{List, []}
use Prim.Native.Nat.{ℕ}
use native.Mathlib.Omega.{arith}
use lib.ListN.{length}
use Rattle.std.specs.Prelude.{Result, Ok, Err}
use Rattle.std.specs.Result.{IsErrAnd}
use Rattle.refusals.specs.declared.Fault.{Fault}
use Rattle.refusals.specs.declared.Fault.TheVariants as fault
use Rattle.refusals.specs.declared.Refusal.{Refusal}
use Rattle.refusals.specs.Faults.{number}
use Rattle.text_plan.specs.declared.triples.Stored.{Stored}
use borrow.Author.Tests.{ne_eqb}
use Rattle.text_fields.specs.Pieces.{Pieces}
use Rattle.text_judge.specs.declared.judge.Sizes.{Sizes}
use Rattle.text_plan.specs.Needs.{TripleLines, Refused, Read}
use Rattle.text_opening.specs.Reading.{Entry, ReadResult, refused, accepted, kept, fresh, placed, triples}
use Rattle.text_plan.specs.Rising.{last_row, rises}
use Rattle.text_plan.specs.Stored.{EntriesStored}
use Rattle.text_plan.specs.Needs.{lines_of, Shows, StoresAll, Settles}
use Rattle.text_plan.proofs.RisingFirst.{is_five, First, rising-first}

pub refused-read : {A : Type 0} {c k n r : ℕ} → Refused c k ≡ Read n r → A
refused-read e = let z : ◌≡◌ {A = ℕ} 0 1 = cc in absurd (omega arith)

pub refused-both : {a b c d : ℕ} → Refused a b ≡ Refused c d → (a ≡ c) × (b ≡ d)
refused-both e = (cc, cc)

module _ (room : ℕ) (r : TripleLines) (st co va : List ℕ) where
  settles-same : (o any : ReadResult) → First o any → is_five o ≡ false → Shows room o r st co va → Settles room any r st co va
  settles-same (refused c k) any f n h = subst (λ (x : ReadResult). Settles room x r st co va) (sym (f.same n)) h
  settles-same (accepted s seen) any f n h =
      subst (λ (x : ReadResult). Settles room x r st co va) (sym (f.same n))
      (subst (λ (x : TripleLines). StoresAll s.n room (placed s seen) x st co va) (sym h.0)
      (subst (λ (es : List Entry). EntriesStored (last_row seen) room es (length (kept seen)) st co va) (sym f.fine) h.1, h.2))

  other-number : (o : ReadResult) (c k : ℕ) → r ≡ Refused c k → (c ≡ 5 → ⊥) → Shows room o r st co va → is_five o ≡ false
  other-number (refused a b) c k e n h = ne_eqb a 5 (λ q. n (sym (refused-both (sym h ∙ e)).0 ∙ q))
  other-number (accepted s seen) c k e n h = refused-read (sym e ∙ h.0)

  no_number : (o : ReadResult) (count row : ℕ) → r ≡ Read count row → Shows room o r st co va → is_five o ≡ false
  no_number (refused a b) count row e h = refused-read (sym h ∙ e)
  no_number (accepted s seen) count row e h = refl

  module _ (s : Sizes) (line : ℕ) (p : Pieces) (h : Shows room (triples rises s room line [] p) r st co va) where
    -- another refusal than 5
    pub refused-settles : (c k : ℕ) → r ≡ Refused c k → (c ≡ 5 → ⊥) → Settles room (triples fresh s room line [] p) (Refused c k) st co va
    refused-settles c k e n =
        subst (λ (x : TripleLines). Settles room (triples fresh s room line [] p) x st co va) e
        (settles-same (triples rises s room line [] p) (triples fresh s room line [] p) (rising-first s room p line [] tt) (other-number (triples rises s room line [] p) c k e n h) h)

    pub read-settles : (count row : ℕ) → r ≡ Read count row → Settles room (triples fresh s room line [] p) (Read count row) st co va
    read-settles count row e =
        subst (λ (x : TripleLines). Settles room (triples fresh s room line [] p) x st co va) e
        (settles-same (triples rises s room line [] p) (triples fresh s room line [] p) (rising-first s room p line [] tt) (no_number (triples rises s room line [] p) count row e h) h)

-- a refusal that `?` hands on
pub lines-left : (r : Result Stored Refusal) (e : Refusal) → IsErrAnd r (λ y. y ≡ e) → Refused (number e.fault) e.detail ≡ lines_of r
lines-left (Ok x) e h = absurd h
lines-left (Err y) e h = ap (λ (q : Refusal). Refused (number q.fault) q.detail) (sym h)

-- 5 is the number of one fault alone
pub five : (f : Fault) → number f ≡ 5 → f ≡ fault.RepeatedPlace
five fault.BadModulus e = absurd (omega arith)
five fault.OverLimit e = absurd (omega arith)
five fault.Malformed e = absurd (omega arith)
five fault.OutsidePlan e = absurd (omega arith)
five fault.RepeatedPlace e = refl
five fault.ValueOutOfRange e = absurd (omega arith)
five fault.StorageTooShort e = absurd (omega arith)
five fault.BadPlan e = absurd (omega arith)
five fault.WrongLength e = absurd (omega arith)
five fault.BadHeader e = absurd (omega arith)
five fault.NoPermutation e = absurd (omega arith)
five fault.RankTooLarge e = absurd (omega arith)
five fault.BadFactors e = absurd (omega arith)
five fault.ProductDiffers e = absurd (omega arith)
five fault.QuestionTooLarge e = absurd (omega arith)
five fault.OwnerTooLarge e = absurd (omega arith)
