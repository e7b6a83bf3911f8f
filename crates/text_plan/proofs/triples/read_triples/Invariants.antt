-- `read_triples` meets its contract. The invariant: the lines that remain, after the triples seen, come to what all lines come to, and the lists hold the triples seen. Assumes nothing.
use mathlib.Core.Path.{◌≡◌}
use Prim.Native.Nat.{◌-◌}
use lib.ListN.{length}
use Rattle.limits.specs.Limits.{starts_length}
use Rattle.text_plan.proofs.Progress.{Progress}
use Rattle.text_plan.proofs.triples.read_triples.Given as goal

abbrev pub invariant-loop-here : goal.invariant-loop-here
invariant-loop-here l = Progress l.text l.initial.here l.s l.room l.starts l.cols l.vals l.here l.a l.b l.count × (length l.initial.starts ≡ starts_length) × (length l.initial.cols ≡ l.room) × (length l.initial.vals ≡ l.room)

abbrev pub decreases-loop-here : goal.decreases-loop-here
decreases-loop-here l = length l.text - l.here.at
