-- What the call for C that reports says: z is the number returned, b the buffer as left.
--   reported-exactly   0 exactly if the text states a plan, its factors fit, and the buffer holds their report
--   reported-buffer    0: the buffer has the report, zero past its end
--   reported-right     0: which is right (`ReportsRight`)
--   reported-cleared   else the buffer is all zero
--   reported-seven     after a text that states a plan: 7 exactly if L or U has more than 16,384 entries
--   reported-row       at the first row in processing order that overflows
--   reported-nine      9 exactly if they fit and the buffer is shorter than the report
--   reported-numbers   and nothing else but 0
--   reported-by        the numbers of the table by which it refuses
-- Of the report of any text:
--   reported-room      it has fewer than 65,536 bytes: a buffer of so many holds it, with a zero after it, and is never refused by 9
--   reported-bytes     it has no zero byte, so that in the buffer it stands before the first zero
use mathlib.Core.Path.{◌≡◌, refl, ap, ◌∙◌}
use mathlib.Core.Logic.{◌↔◌, ◌⊎◌}
use mathlib.Core.Bool.{false}
use mathlib.Core.List.{List, [], ◌∷◌, ◌++◌}
use mathlib.Core.Option.{Option, none, some}
use Prim.Native.Nat.{ℕ, ◌+◌, ◌*◌, ◌<◌}
use lib.ListN.{length}
use Rattle.lists.specs.Tests.{among}
use Rattle.lists.specs.Filled.{zeros, filled}
use Rattle.refusals.specs.Table.{text_faults, storage_too_short, wrong_length}
use Rattle.refusals.specs.Refusals.{◌▷◌}
use Rattle.refusals.specs.Outcome.{Outcome}
use Rattle.refusals.proofs.Refusals.{then-after}
use Rattle.limits.specs.Limits.{largest_entries, print_room}
use Rattle.certificate.specs.Writing.{room_for}
use Rattle.text_owners.specs.Stating.{StatesText}
use Rattle.call_write.specs.Call.{bytes_given}
use Rattle.factor_all.specs.Factorization.{Factorization, unless_over}
use Rattle.stages.specs.Stages.{reading, factored_of}
use Rattle.stages.specs.Meaning.{FitsAll, OverflowsAt}
use Rattle.stages.proofs.ReadText.{first_row, whole_set, factored-is}
use Rattle.report_lib.specs.Reporting.{report_of, report_outcome}
use Rattle.report_lib.specs.Meaning.{ReportsRight}
use Rattle.report_lib.proofs.Theorems.{text-right, text-short, text-bytes}
use Rattle.text_calls.specs.Calls.{report_text_of, ReportsText}
use Rattle.text_calls.specs.Meaning.{Reportable, PackedFrom}
use Rattle.text_calls.proofs.Numbers.{storage}
use Rattle.text_calls.proofs.Writing.{Delivers, zero-exactly, zero-passed, refused-cleared, refused-by, seven-exactly, seven-row, nine-exactly, only-numbers}

module _ (text : List ℕ) where
  pub reported-room : length (report_of text) < print_room
  reported-room = text-short text

  pub reported-bytes : among 0 (report_of text) ≡ false
  reported-bytes = text-bytes text

  report-delivers : (room : ℕ) → Delivers text (report_of text) room (report_text_of text room)
  unfolding report_text_of report_outcome
  report-delivers room =
      record {
        later = after-factoring (factored_of (reading text));
        whole = then-after (reading text).result.outcome (factored_of (reading text)).outcome (room_for room (report_of text));
        after-reading = λ h. ap after-factoring (factored-is text h) ∙ go (first_row text);
      }
    where
      after-factoring : Factorization → Outcome
      after-factoring f = f.outcome ▷ room_for room (report_of text)

      go : (o : Option ℕ) → after-factoring (unless_over o (whole_set text)) ≡ (storage o ▷ room_for room (report_of text))
      go none = refl
      go (some i) = refl

  module _ (z : ℕ) (b₀ b : List ℕ) (call : ReportsText text z b₀ b) where
    delivers : Delivers text (report_of text) (length b₀) (report_text_of text (length b₀))
    delivers = report-delivers (length b₀)

    pub reported-exactly : (z ≡ 0) ↔ Reportable text (length b₀)
    reported-exactly = zero-exactly text (report_of text) (length b₀) _ delivers z call.number

    pub reported-buffer : z ≡ 0 → b ≡ filled (length b₀) (report_of text)
    reported-buffer e =
        call.buffer ∙ ap (λ (o : Outcome). filled (length b₀) (bytes_given o (report_of text))) ((zero-passed text (report_of text) (length b₀) _ delivers z call.number).0 e)

    pub reported-right : z ≡ 0 → (states : StatesText largest_entries text) → ReportsRight (reading text) states.owners (report_of text)
    reported-right e states = text-right text states (reported-exactly.0 e).fits

    pub reported-cleared : ¬ (z ≡ 0) → b ≡ zeros (length b₀)
    reported-cleared = refused-cleared text (report_of text) (length b₀) _ delivers z call.number b₀ b _ call.buffer

    pub reported-by : PackedFrom (text_faults ++ (storage_too_short ∷ wrong_length ∷ [])) z
    reported-by = refused-by text (report_of text) (length b₀) _ delivers z call.number

    module _ (states : StatesText largest_entries text) where
      pub reported-seven : ((i : ℕ) × (z ≡ 7 + 256 * i)) ↔ (¬ FitsAll (reading text))
      reported-seven = seven-exactly text (report_of text) (length b₀) _ delivers z call.number states

      pub reported-row : (i : ℕ) → z ≡ 7 + 256 * i → OverflowsAt (reading text) i
      reported-row = seven-row text (report_of text) (length b₀) _ delivers z call.number states

      pub reported-nine : (z ≡ 9) ↔ (FitsAll (reading text) × (length b₀ < length (report_of text)))
      reported-nine = nine-exactly text (report_of text) (length b₀) _ delivers z call.number states

      pub reported-numbers : (z ≡ 0) ⊎ ((z ≡ 9) ⊎ ((i : ℕ) × (z ≡ 7 + 256 * i)))
      reported-numbers = only-numbers text (report_of text) (length b₀) _ delivers z call.number states
