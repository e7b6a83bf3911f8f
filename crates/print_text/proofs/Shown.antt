-- What a buffer that was printed to shows in its first bytes.
--   fills-shown      the text that fills it
--   first-refusal    the line of a refusal, where the outcome that is printed first is one
use mathlib.Core.Path.{◌≡◌, refl, sym, ap, ◌∙◌}
use mathlib.Core.List.{List}
use Prim.Native.Nat.{ℕ}
use lib.ListN.{length, take}
use Rattle.refusals.specs.Outcome.{Outcome}
use Rattle.refusals.specs.Outcome.{Passed, Refused}
use Rattle.lists.proofs.Filled.{filled-cut}
use Rattle.refusals.proofs.Refusals.{RefusedBy}
use Rattle.byte_buffer.specs.Fills.{Fills}
use Rattle.print_text.specs.Printed.{printed, PrintsRefusal}

pub fills-shown : (b₀ b : List ℕ) (size : ℕ) (ys : List ℕ) → Fills b₀ b size ys → take size b ≡ ys
fills-shown b₀ b size ys h = ap (take size) h.buffer-is ∙ filled-cut (length b₀) size ys (sym h.size_is)

pub first-refusal : (ks : List ℕ) (o : Outcome) (text : List ℕ) → RefusedBy ks o → ¬ (o ≡ Passed) → PrintsRefusal ks (printed o text)
first-refusal ks Passed text h f = absurd (f refl)
first-refusal ks (Refused c d) text h f = record { number = c; detail = d; line-is = refl; from = h }
