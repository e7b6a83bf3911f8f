-- `print_lines` meets its contract; the loop keeps the length of the buffer. Assumes nothing.

use mathlib.Core.Path.{◌≡◌}
use lib.ListN.{length}
use Rattle.ask.proofs.settings.print_lines.Given as goal

abbrev pub invariant-loop-c : goal.invariant-loop-c
invariant-loop-c g l = length l.out ≡ length l.initial.out
