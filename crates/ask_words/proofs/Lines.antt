-- The line of an answer to slot values: it fits, and that of a refusal is the line.
use Rattle.std.specs.Prelude.{Result, Err}
use mathlib.Core.Path.{◌≡◌, sym, ◌∙◌, subst}
use mathlib.Core.Bool.{Bool}
use mathlib.Core.List.{List}
use Prim.Native.Nat.{ℕ, ◌≤◌}
use native.Mathlib.Omega.{arith}
use lib.ListN.{length, take}
use Rattle.byte_buffer.specs.Fills.{Fills}
use Rattle.refusals.specs.Faults.{number}
use Rattle.refusals.specs.declared.Refusal.{Refusal}
use Rattle.column_space.specs.declared.SlotVerdict.{SlotVerdict}
use Rattle.call_slots.specs.Calls.{given_solution}
use Rattle.print_text.specs.Answer.{slots_line}
use Rattle.print_text.specs.Report.{refusal_text}
use Rattle.print_text.specs.Printed.{detail_from_one}
use Rattle.print_text.proofs.Room.{slots-room}
use Rattle.ask_lib.specs.Needs.{LineReady}
use Rattle.ask_lib.proofs.Lines.{x-part, z-part}
use Rattle.ask_words.specs.Held.{solution_line_of}

module _ (detail n m : ℕ) (w s out : List ℕ) (d : LineReady detail n m w s out) where
  pub setting-fits : (t : Bool) → length (slots_line t (take m s)) ≤ length out
  setting-fits t = slots-room t (take m s) out (omega (arith, z-part detail n m w s out d, d.z-few)) d.room

  pub combination-fits : (t : Bool) → length (slots_line t (take n w)) ≤ length out
  combination-fits t = slots-room t (take n w) out (omega (arith, x-part detail n m w s out d, d.x-few)) d.room

-- what was written for a refusal is its line
module _ (r : Result SlotVerdict Refusal) (s w out out' : List ℕ) (size : ℕ) where
  pub line_refused : (e counted : Refusal) → r ≡ Err e → counted ≡ record { fault = e.fault; detail = detail_from_one 15 (number e.fault) e.detail }
      → Fills out out' size (refusal_text (number counted.fault) counted.detail) → Fills out out' size (solution_line_of (given_solution r) s w)
  line_refused e counted h c f = subst (Fills out out' size) ((λ t. refusal_text (number (c t).fault) (c t).detail) ∙ (λ t. solution_line_of (given_solution (sym h t)) s w)) f
