-- `begin_staged` meets its contract, by whether the stages ended with a refusal. Assumes nothing.
use mathlib.Core.Path.{sym}
use Rattle.print_text.proofs.Room.{refusal-room, free-room}
use Rattle.ask_settings.proofs.FirstLine.{countable, refused-from, C-part, rank-small, marks-ready, passed-from}
use Rattle.ask_settings.proofs.first.begin_staged.Goals as goal

pub stopped_refusal-requires : goal.stopped_refusal-requires
stopped_refusal-requires c = countable c.args.staged c.args.co.now c.args.out.now c.args.work.now c.requires _ c.in-Err.is

pub write_refusal-size-requires : goal.write_refusal-size-requires
write_refusal-size-requires c = refusal-room _ _ c.args.out.now c.requires.room

pub returns-in-Err : goal.returns-in-Err
returns-in-Err c = refused-from c.args.staged c.args.co.now c.args.out.now c.args.work.now c.requires _ c.in-Err.is c.stopped_refusal.result c.stopped_refusal.ensures c.write_refusal-size.result c.write_refusal-size.new.out c.write_refusal-size.ensures

pub slice_bounds-stored-end : goal.slice_bounds-stored-end
slice_bounds-stored-end c = sym (C-part c.args.staged c.args.co.now c.args.out.now c.args.work.now c.requires _ c.in-Ok.is)

pub mark_pivots-requires : goal.mark_pivots-requires
mark_pivots-requires c = rw c.stored-order.ensures (marks-ready c.args.staged c.args.co.now c.args.out.now c.args.work.now c.requires _ c.in-Ok.is)

pub overflow_sub-m : goal.overflow_sub-m
overflow_sub-m c = rank-small c.args.staged c.args.co.now c.args.out.now c.args.work.now c.requires _ c.in-Ok.is

pub write_free-size-requires : goal.write_free-size-requires
write_free-size-requires c = free-room _ c.args.out.now c.requires.room

pub returns : goal.returns
returns c = passed-from c.args.staged c.args.co.now c.args.out.now c.args.work.now c.requires _ c.in-Ok.is c.write_free-size.result c.write_free-size.new.out c.mark_pivots.new.work (rw c.stored-order.ensures at c.mark_pivots.ensures) c.write_free-size.ensures
