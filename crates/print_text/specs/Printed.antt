-- A call's outcome, printed.
--   detail_from_one k c d    a detail as it is printed: rows and indexes, the details of number k, count from 1
--   counted_from_one k o     the outcome with its detail so
--   printed o text         the one line of a refusal, else the text
--   Prints text size ..    the contract of whoever prints: the length, every byte of the buffer, and the working row left all zero
--   PrintsRefusal ks out   out is the one line of a refusal by one of the numbers ks
use Rattle.std.specs.Prelude.{ℕ, ◌+◌, ◌≡◌, true, cond, List, eqb, length}
use Rattle.lists.specs.Filled.{zeros}
use Rattle.lists.specs.Tests.{among}
use Rattle.refusals.specs.Outcome.{Outcome}
use Rattle.refusals.specs.Outcome.{Passed, Refused}
use Rattle.byte_buffer.specs.Fills.{Fills}
use Rattle.print_text.specs.Report.{refusal_text}

abbrev pub detail_from_one : (k c d : ℕ) → ℕ
detail_from_one k c d = cond (eqb c k) (d + 1) d

abbrev pub counted_from_one : ℕ → Outcome → Outcome
counted_from_one k Passed = Passed
counted_from_one k (Refused c d) = Refused c (detail_from_one k c d)

abbrev pub printed : Outcome → List ℕ → List ℕ
printed Passed text = text
printed (Refused c d) text = refusal_text c d

pub record Prints (text : List ℕ) (size : ℕ) (b₀ b w₀ w : List ℕ) : Type 0 where
  pub text-is : Fills b₀ b size text
  pub cleared : w ≡ zeros (length w₀)

pub record PrintsRefusal (ks out : List ℕ) : Type 0 where
  pub number : ℕ
  pub detail : ℕ
  pub line-is : out ≡ refusal_text number detail
  pub from : among number ks ≡ true
