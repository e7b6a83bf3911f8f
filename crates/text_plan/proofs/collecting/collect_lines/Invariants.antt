-- `collect_lines` meets its contract. The invariant: the lines that remain, after the triples collected, come to what all lines come to, and the lists hold the triples collected. Assumes nothing.
use Prim.Native.Nat.{◌-◌}
use lib.ListN.{length}
use Rattle.text_plan.proofs.Gathering.{Gathering}
use Rattle.text_plan.proofs.collecting.collect_lines.Given as goal

abbrev pub invariant-loop-here : goal.invariant-loop-here
invariant-loop-here l = Gathering l.text l.initial.here l.s l.room l.rows l.columns l.values l.here l.count l.stored

abbrev pub decreases-loop-here : goal.decreases-loop-here
decreases-loop-here l = length l.text - l.here.at
