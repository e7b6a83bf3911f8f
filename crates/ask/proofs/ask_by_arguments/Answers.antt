-- `ask_by_arguments` meets its contract. Assumes nothing.
use mathlib.Core.Path.{sym}
use native.Mathlib.Omega.{arith}
use lib.Seq.{length-take-le}
use Rattle.ask.proofs.ask_by_arguments.Goals as goal

pub slice_bounds-print_answer-end : goal.slice_bounds-print_answer-end
slice_bounds-print_answer-end g c = sym (length-take-le _ _ c.question-count.ensures)

pub print_answer-requires : goal.print_answer-requires
print_answer-requires g c = let q = c.question-count in omega (arith, length-take-le q.result q.new.y q.ensures, q.ensures, q.auto.y)
