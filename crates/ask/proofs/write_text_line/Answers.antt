-- `write_text_line` meets its contract: each way out is a law of `TextLines`. Assumes nothing.
use mathlib.Core.Path.{refl, sym}
use native.Mathlib.Omega.{arith}
use lib.Seq.{length-take-le}
use Rattle.ask.proofs.TextLines.{cut_line_lem, whole-line}
use Rattle.ask.proofs.write_text_line.Goals as goal

pub slice_bounds-write_cut_line-end : goal.slice_bounds-write_cut_line-end
slice_bounds-write_cut_line-end c = sym (length-take-le _ _ c.plan_end-end.ensures.inside)

pub returns-then-is_cut : goal.returns-then-is_cut
returns-then-is_cut c = cut_line_lem _ _ _ c.plan_end-end.ensures _ _ _ _ c.if-is_cut.true c.is_cut.ensures _ c.last_line.ensures c.write_cut_line.ensures

pub slice_bounds-write_line-end : goal.slice_bounds-write_line-end
slice_bounds-write_line-end c = sym (length-take-le _ _ c.plan_end-end.ensures.inside)

pub slice_bounds-write_line-end-2 : goal.slice_bounds-write_line-end-2
slice_bounds-write_line-end-2 c = sym (length-take-le _ _ c.from_text-count.ensures.inside)

pub write_line-requires : goal.write_line-requires
write_line-requires c = let q = c.from_text-count in record { few = omega (arith, length-take-le q.result q.new.y q.ensures.inside, q.ensures.inside, q.auto.y); room = c.requires.room; work-length = c.requires.work-length }

pub returns : goal.returns
returns c = let q = c.from_text-count in whole-line _ _ _ c.plan_end-end.ensures _ _ _ _ c.if-is_cut.false c.is_cut.ensures _ q.new.y q.result refl q.ensures c.write_line.ensures
