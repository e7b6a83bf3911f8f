-- What the calls for C say that read a text, factor its plan, and write bytes into a buffer that may be too short for them: o is the outcome, z the number returned.
--   Delivers ..        such an outcome
--   zero-exactly       0 exactly if the text states a plan, its factors fit, and the buffer holds the bytes
--   zero-passed        which is an outcome that is passed
--   refused-cleared    else a buffer that is given bytes where the outcome is passed is all zero
--   refused-by         the numbers of the table by which it refuses
--   seven-exactly      after a text that states a plan: 7 exactly if L or U has more than 16,384 entries
--   seven-row          at the first row in processing order that overflows
--   nine-exactly       9 exactly if they fit and the buffer is shorter than the bytes
--   only-numbers       and nothing else but 0
use mathlib.Core.Path.{◌≡◌, refl, sym, ap, subst, ◌∙◌}
use mathlib.Core.Logic.{◌↔◌, ◌⊎◌}
use mathlib.Core.List.{List, [], ◌∷◌, ◌++◌}
use mathlib.Core.Option.{Option, none, some}
use Prim.Native.Nat.{ℕ, ◌+◌, ◌*◌, ◌≤◌, ◌<◌}
use native.Mathlib.Omega.{arith}
use lib.Dec.{leb}
use lib.ListN.{length}
use borrow.Author.Tests.{le-leb, lt-leb, leb-true, leb-false}
use Rattle.lists.specs.Tests.{among}
use Rattle.lists.specs.Filled.{zeros, filled}
use Rattle.lists.proofs.Filled.{filled_none}
use Rattle.refusals.specs.Table.{text_faults, storage_too_short, wrong_length}
use Rattle.refusals.specs.Refusals.{◌▷◌}
use Rattle.refusals.specs.Outcome.{Outcome}
use Rattle.refusals.specs.Outcome.{Passed, Refused}
use Rattle.refusals.proofs.Refusals.{RefusedBy, both-passed, after-passed, refused-then}
use Rattle.certificate.specs.Writing.{room_for}
use Rattle.limits.specs.Limits.{largest_entries}
use Rattle.text_owners.specs.Stating.{StatesText}
use Rattle.call_write.specs.Call.{bytes_given}
use Rattle.stages.specs.Stages.{reading}
use Rattle.stages.specs.Meaning.{FitsAll, OverflowsAt}
use Rattle.stages.proofs.ReadText.{outcome-passed, reading-numbers, first_row, fits_all, row-overflows}
use Rattle.text_calls.specs.Calls.{packed}
use Rattle.text_calls.specs.Meaning.{Delivered, PackedFrom}
use Rattle.text_calls.proofs.Numbers.{packed_zero, packed-from, storage, stage-zero, stage-nine, stage-seven, stage-numbers, stage-by}

-- the bytes are those of a text whose factors fit: of any other nothing is said but that it is refused
pub record Delivers (text bytes : List ℕ) (room : ℕ) (o : Outcome) : Type 0 where
  pub later : Outcome
  pub whole : o ≡ ((reading text).result.outcome ▷ later)
  pub after-reading : StatesText largest_entries text → later ≡ (storage (first_row text) ▷ room_for room bytes)

abbrev pub faults : List ℕ
faults = text_faults ++ (storage_too_short ∷ wrong_length ∷ [])

module _ (text bytes : List ℕ) (room : ℕ) (o : Outcome) (d : Delivers text bytes room o) where
  refused-faults : RefusedBy faults o
  refused-faults = subst (RefusedBy faults) (sym d.whole) (go (reading text).result.outcome refl (reading-numbers text))
    where
      go : (r : Outcome) → (reading text).result.outcome ≡ r → RefusedBy text_faults r → RefusedBy (text_faults ++ (7 ∷ 9 ∷ [])) (r ▷ d.later)
      go Passed e h =
          subst (RefusedBy (text_faults ++ (7 ∷ 9 ∷ []))) (sym (d.after-reading ((outcome-passed text).0 e)))
          (refused-then text_faults (7 ∷ 9 ∷ []) Passed (storage (first_row text) ▷ room_for room bytes) tt (stage-by (leb (length bytes) room) (first_row text)))
      go (Refused k i) e h = refused-then text_faults (7 ∷ 9 ∷ []) (Refused k i) Passed h tt

  module _ (z : ℕ) (number : z ≡ packed o) where
    pub refused-by : PackedFrom (text_faults ++ (storage_too_short ∷ wrong_length ∷ [])) z
    refused-by = subst (PackedFrom faults) (sym number) (packed-from faults o refused-faults)

    pub zero-passed : (z ≡ 0) ↔ (o ≡ Passed)
    unfolding among
    zero-passed = let (there, back) = packed_zero faults o refused-faults refl in ((λ e. there (sym number ∙ e)), λ e. number ∙ back e)

    pub refused-cleared : (b₀ b given : List ℕ) → b ≡ filled (length b₀) (bytes_given o given) → ¬ (z ≡ 0) → b ≡ zeros (length b₀)
    refused-cleared b₀ b given left f = go o refl
      where
        go : (r : Outcome) → o ≡ r → b ≡ zeros (length b₀)
        go Passed e = absurd (f (zero-passed.1 e))
        go (Refused k i) e = left ∙ ap (λ (r : Outcome). filled (length b₀) (bytes_given r given)) e ∙ filled_none (length b₀)

    -- a text that is not refused
    zero-states : z ≡ 0 → StatesText largest_entries text
    zero-states e = (outcome-passed text).0 (both-passed (reading text).result.outcome d.later (sym d.whole ∙ zero-passed.0 e)).0

    module _ (states : StatesText largest_entries text) where
      is : z ≡ packed (storage (first_row text) ▷ room_for room bytes)
      is =
          number
          ∙ ap packed (d.whole ∙ after-passed (reading text).result.outcome d.later ((outcome-passed text).1 states) ∙ d.after-reading states)

      zero-parts : (z ≡ 0) ↔ (FitsAll (reading text) × (length bytes ≤ room))
      zero-parts =
          let (there, back) = stage-zero (leb (length bytes) room) (first_row text) in
          ((λ e. let q = there (sym is ∙ e) in ((fits_all text).0 q.0, leb-true (length bytes) room q.1)), λ q. is ∙ back ((fits_all text).1 q.0, le-leb (length bytes) room q.1))

      pub nine-exactly : (z ≡ 9) ↔ (FitsAll (reading text) × (room < length bytes))
      nine-exactly =
          let (there, back) = stage-nine (leb (length bytes) room) (first_row text) in
          ((λ e. let q = there (sym is ∙ e) in ((fits_all text).0 q.0, leb-false (length bytes) room q.1)), λ q. is ∙ back ((fits_all text).1 q.0, lt-leb (length bytes) room q.1))

      seven_at : (i : ℕ) → (z ≡ 7 + 256 * i) ↔ (first_row text ≡ some i)
      seven_at i = let (there, back) = stage-seven (leb (length bytes) room) (first_row text) i in ((λ e. there (sym is ∙ e)), λ q. is ∙ back q)

      pub seven-row : (i : ℕ) → z ≡ 7 + 256 * i → OverflowsAt (reading text) i
      seven-row i e = row-overflows text i ((seven_at i).0 e)

      pub seven-exactly : ((i : ℕ) × (z ≡ 7 + 256 * i)) ↔ (¬ FitsAll (reading text))
      seven-exactly = (
        (λ q f. let e = sym ((seven_at q.0).0 q.1) ∙ (fits_all text).1 f in absurd (let t : ◌≡◌ {A = ℕ} 0 1 = cc in omega arith)),
        λ f. go f (first_row text) refl,
      )
        where
          go : (¬ FitsAll (reading text)) → (r : Option ℕ) → (first_row text) ≡ r → (i : ℕ) × (z ≡ 7 + 256 * i)
          go f none e = absurd (f ((fits_all text).0 e))
          go f (some i) e = (i, (seven_at i).1 e)

      pub only-numbers : (z ≡ 0) ⊎ ((z ≡ 9) ⊎ ((i : ℕ) × (z ≡ 7 + 256 * i)))
      only-numbers = rw is (stage-numbers (leb (length bytes) room) (first_row text))

    pub zero-exactly : (z ≡ 0) ↔ Delivered text bytes room
    zero-exactly = (
      (λ e. let states = zero-states e in let (fit, enough) = (zero-parts states).0 e in record { states = states; fits = fit; enough = enough }),
      λ h. (zero-parts h.states).1 (h.fits, h.enough),
    )
