-- `write_line` meets its contract. Assumes nothing.
use mathlib.Core.Bool.{true, false}
use Rattle.call_answer.specs.Calls.{answer_detail, given_answer}
use Rattle.ask_lib.proofs.Lines.{detail-counts, refusal-fits, x-line-fits, z-line-fits, line_refused}
use Rattle.ask_lib.proofs.write_line.Goals as goal

pub from_one-requires : goal.from_one-requires
from_one-requires c = detail-counts _ c.args.n c.args.m c.args.xs.now c.args.zs.now c.args.out.now c.requires _ (λ t. answer_detail (given_answer (c.in-Err.is t)))

pub write_refusal-requires : goal.write_refusal-requires
write_refusal-requires c = refusal-fits _ c.args.n c.args.m c.args.xs.now c.args.zs.now c.args.out.now c.requires _ _

pub returns-in-Err : goal.returns-in-Err
returns-in-Err c = line_refused _ _ _ _ _ _ _ _ c.in-Err.is c.from_one.ensures c.write_refusal.ensures

pub write_answer-requires : goal.write_answer-requires
write_answer-requires c = x-line-fits _ c.args.n c.args.m c.args.xs.now c.args.zs.now c.args.out.now c.requires true

pub write_answer-requires-in-Ok-Closed : goal.write_answer-requires-in-Ok-Closed
write_answer-requires-in-Ok-Closed c = z-line-fits _ c.args.n c.args.m c.args.xs.now c.args.zs.now c.args.out.now c.requires false
