-- `write_line` meets its contract. Assumes nothing.
use mathlib.Core.Bool.{true, false}
use Rattle.call_slots.specs.Calls.{solution_detail, given_solution}
use Rattle.ask_lib.proofs.Lines.{detail-counts, refusal-fits}
use Rattle.ask_words.proofs.Lines.{setting-fits, combination-fits, line_refused}
use Rattle.ask_words.proofs.write_line.Goals as goal

pub from_one-requires : goal.from_one-requires
from_one-requires c = detail-counts _ c.args.n c.args.m c.args.ws.now c.args.ss.now c.args.out.now c.requires _ (λ t. solution_detail (given_solution (c.in-Err.is t)))

pub write_refusal-requires : goal.write_refusal-requires
write_refusal-requires c = refusal-fits _ c.args.n c.args.m c.args.ws.now c.args.ss.now c.args.out.now c.requires _ _

pub returns-in-Err : goal.returns-in-Err
returns-in-Err c = line_refused _ _ _ _ _ _ _ _ c.in-Err.is c.from_one.ensures c.write_refusal.ensures

pub write_slots-requires : goal.write_slots-requires
write_slots-requires c = setting-fits _ c.args.n c.args.m c.args.ws.now c.args.ss.now c.args.out.now c.requires true

pub write_slots-requires-in-Ok-Contradiction : goal.write_slots-requires-in-Ok-Contradiction
write_slots-requires-in-Ok-Contradiction c = combination-fits _ c.args.n c.args.m c.args.ws.now c.args.ss.now c.args.out.now c.requires false
