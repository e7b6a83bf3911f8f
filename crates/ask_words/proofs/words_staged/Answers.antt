-- `words_staged` meets its contract. Assumes nothing.
use mathlib.Core.Path.{refl}
use Rattle.sparse.specs.Matrix.{Compressed, compressed}
use Rattle.sparse.specs.Set.{Storage, storage_of}
use Rattle.print_text.proofs.Room.{refusal-room}
use Rattle.call_slots.specs.Calls.{solution_detail, given_solution}
use Rattle.stages.specs.Results.{Stages, stages_of}
use Rattle.ask_lib.proofs.Asked.{countable, refused, answerable, line-ready, answered}
use Rattle.ask_words.specs.Solving.{solution_line}
use Rattle.ask_words.specs.Held.{held_slots}
use Rattle.ask_words.proofs.words_staged.Goals as goal

pub stopped_refusal-requires : goal.stopped_refusal-requires
stopped_refusal-requires c =
    let plan : Compressed = compressed c.args.starts.now c.args.cols.now c.args.vals.now in
    let lent : Storage = storage_of c.args.ro.now c.args.co.now (compressed c.args.ls.now c.args.lc.now c.args.lv.now)
    (compressed c.args.us.now c.args.uc.now c.args.uv.now) c.args.work.now in
    countable c.args.staged (plan) (lent) c.args.h.now c.args.out.now c.requires.lists _ c.in-Err.is

pub write_refusal-requires : goal.write_refusal-requires
write_refusal-requires c = refusal-room _ _ c.args.out.now c.requires.lists.asked.room

pub returns-in-Err : goal.returns-in-Err
returns-in-Err c =
    let plan : Compressed = compressed c.args.starts.now c.args.cols.now c.args.vals.now in
    let lent : Storage = storage_of c.args.ro.now c.args.co.now (compressed c.args.ls.now c.args.lc.now c.args.lv.now)
    (compressed c.args.us.now c.args.uc.now c.args.uv.now) c.args.work.now in
    refused c.args.staged (plan) (lent) c.args.h.now c.args.out.now c.requires.lists _ c.in-Err.is (solution_line (held_slots (stages_of c.args.staged) (plan) (lent) c.args.h.now)) c.stopped_refusal.result c.stopped_refusal.ensures c.write_refusal.result c.write_refusal.new.out c.write_refusal.ensures

pub solve_held-answer-requires : goal.solve_held-answer-requires
solve_held-answer-requires c =
    let plan : Compressed = compressed c.args.starts.now c.args.cols.now c.args.vals.now in
    let lent : Storage = storage_of c.args.ro.now c.args.co.now (compressed c.args.ls.now c.args.lc.now c.args.lv.now)
    (compressed c.args.us.now c.args.uc.now c.args.uv.now) c.args.work.now in
    record { lists = answerable c.args.staged (plan) (lent) c.args.h.now c.args.out.now c.requires.lists _ c.in-Ok.is _ _ refl refl; owners-length = c.requires.owners-length }

pub write_line-requires : goal.write_line-requires
write_line-requires c =
    let plan : Compressed = compressed c.args.starts.now c.args.cols.now c.args.vals.now in
    let lent : Storage = storage_of c.args.ro.now c.args.co.now (compressed c.args.ls.now c.args.lc.now c.args.lv.now)
    (compressed c.args.us.now c.args.uc.now c.args.uv.now) c.args.work.now in
    let a = c.solve_held-answer in
    line-ready c.args.staged (plan) (lent) c.args.h.now c.args.out.now c.requires.lists _ c.in-Ok.is (solution_detail (given_solution a.result)) a.new.combination a.new.setting a.ensures.detail-small a.auto.combination a.auto.setting

pub returns : goal.returns
returns c =
    let plan : Compressed = compressed c.args.starts.now c.args.cols.now c.args.vals.now in
    let lent : Storage = storage_of c.args.ro.now c.args.co.now (compressed c.args.ls.now c.args.lc.now c.args.lv.now)
    (compressed c.args.us.now c.args.uc.now c.args.uv.now) c.args.work.now in
    let a = c.solve_held-answer in
    answered c.args.staged (plan) (lent) c.args.h.now c.args.out.now c.requires.lists _ c.in-Ok.is _ (λ (s : Stages). solution_line (held_slots s (plan) (lent) c.args.h.now)) a.ensures.line-is c.write_line.result c.write_line.new.out a.new.work c.write_line.ensures a.ensures.cleared
