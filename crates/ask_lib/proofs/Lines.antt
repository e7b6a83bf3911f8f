-- The line of an answer: it fits, and that of a refusal is the line.
use Rattle.std.specs.Prelude.{Result, Err}
use mathlib.Core.Path.{◌≡◌, sym, ◌∙◌, subst}
use mathlib.Core.Bool.{Bool}
use mathlib.Core.List.{List}
use Prim.Native.Nat.{ℕ, ◌≤◌, ◌<◌}
use native.Mathlib.Omega.{arith}
use lib.ListN.{length, take}
use lib.Seq.{length-take-le}
use Rattle.byte_buffer.specs.Fills.{Fills}
use Rattle.refusals.specs.Faults.{number}
use Rattle.refusals.specs.declared.Refusal.{Refusal}
use Rattle.row_space.specs.declared.Verdict.{Verdict}
use Rattle.call_answer.specs.Calls.{given_answer}
use Rattle.print_text.specs.Answer.{answer_line}
use Rattle.print_text.specs.Report.{refusal_text}
use Rattle.print_text.specs.Printed.{detail_from_one}
use Rattle.print_text.proofs.Room.{refusal-room, answer-room}
use Rattle.ask_lib.specs.Held.{answer_line_of}
use Rattle.ask_lib.specs.Needs.{LineReady}

module _ (detail n m : ℕ) (x z out : List ℕ) (d : LineReady detail n m x z out) where
  pub detail-counts : (e : ℕ) → detail ≡ e → e < 4294967295
  detail-counts e h = omega (arith, d.detail-small)

  pub refusal-fits : (k e : ℕ) → length (refusal_text k e) ≤ length out
  refusal-fits k e = refusal-room k e out d.room

  pub x_fits : n ≤ length x
  x_fits = omega (arith, d.x-few, d.x-length)

  pub z-fits : m ≤ length z
  z-fits = omega (arith, d.z-few, d.z-length)

  pub x-part : length (take n x) ≡ n
  x-part = length-take-le n x x_fits

  pub z-part : length (take m z) ≡ m
  z-part = length-take-le m z z-fits

  pub x-line-fits : (t : Bool) → length (answer_line t (take n x)) ≤ length out
  x-line-fits t = answer-room t (take n x) out (omega (arith, x-part, d.x-few)) d.room

  pub z-line-fits : (t : Bool) → length (answer_line t (take m z)) ≤ length out
  z-line-fits t = answer-room t (take m z) out (omega (arith, z-part, d.z-few)) d.room

-- what was written for a refusal is its line
module _ (a : Result Verdict Refusal) (x z out out' : List ℕ) (size : ℕ) where
  pub line_refused : (r counted : Refusal) → a ≡ Err r → counted ≡ record { fault = r.fault; detail = detail_from_one 15 (number r.fault) r.detail }
      → Fills out out' size (refusal_text (number counted.fault) counted.detail) → Fills out out' size (answer_line_of (given_answer a) x z)
  line_refused r counted h c f = subst (Fills out out' size) ((λ t. refusal_text (number (c t).fault) (c t).detail) ∙ (λ t. answer_line_of (given_answer (sym h t)) x z)) f
