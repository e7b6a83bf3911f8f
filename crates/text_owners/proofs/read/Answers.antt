-- `read` meets its contract; the loop's invariant is `Trying`, the measure how many times the text may be read once more. Assumes nothing.
use mathlib.Core.Path.{ap}
use Rattle.refusals.specs.declared.Refusal.{Refusal}
use Rattle.refusals.specs.Faults.{number}
use Rattle.refusals.specs.Outcome.{Refused}
use Rattle.text_plan.specs.Call.{refusal_of, reading_of}
use Rattle.text_owners.proofs.Answers.{owners-wrong}
use Rattle.text_owners.proofs.FromEnd.{trying-starts, trying-turn, trying-counts, trying-less}
use Rattle.text_owners.proofs.read.Goals as goal

pub returns-then-owners-ne-SIZE_CELLS : goal.returns-then-owners-ne-SIZE_CELLS
returns-then-owners-ne-SIZE_CELLS c = owners-wrong _ _ _ _ _ c.if-owners-ne-SIZE_CELLS.true _ _ _ _ _ (ap (λ (r : Refusal). refusal_of (Refused (number r.fault) r.detail)) c.into.ensures) c.clear.ensures c.clear-then-owners-ne-SIZE_CELLS.ensures c.clear-then-owners-ne-SIZE_CELLS-2.ensures c.clear_bytes.ensures

pub loop-read-init : goal.loop-read-init
loop-read-init c = trying-starts _ _ _ _ _ _ c.quick_end.ensures c.if-owners-ne-SIZE_CELLS.false

pub read_cut-read-requires : goal.read_cut-read-requires
read_cut-read-requires c = c.loop-read.invariant.ready

pub returns-then-does_count : goal.returns-then-does_count
returns-then-does_count c = trying-counts c.loop-read.invariant _ _ _ _ _ c.read_cut-read.ensures _ c.does_count.ensures c.if-does_count.true

pub loop-read-smaller : goal.loop-read-smaller
loop-read-smaller c = trying-less c.loop-read.exact (reading_of c.read_cut-read.result).outcome _ c.does_count.ensures c.if-does_count.false

pub loop-read-preserved : goal.loop-read-preserved
loop-read-preserved c = trying-turn c.loop-read.invariant _ _ _ _ c.read_cut-read.auto.starts c.read_cut-read.auto.cols c.read_cut-read.auto.vals c.read_cut-read.auto.owners _ c.plan_end-end.ensures
