-- `contradict` meets its contract: row i is taken away before the substitution, and the 1 is written after it. Assumes nothing.
use mathlib.Core.Path.{◌∙◌}
use native.Mathlib.Omega.{arith}
use Rattle.answer_slots.proofs.ContradictionLaws.{take-ready, slot-inside, long-w, contradicted}
use Rattle.answer_slots.proofs.contradiction.contradict.Goals as goal

pub subtract_row-requires : goal.subtract_row-requires
subtract_row-requires c = take-ready c.args.q.p c.args.i _ _ _ _ c.requires

pub bounds-w-slot : goal.bounds-w-slot
bounds-w-slot c =
    omega (
      arith,
      slot-inside c.args.q.p c.args.i _ _ _ _ c.requires _ (c.index-slot.ensures ∙ c.at.ensures.value),
      long-w c.args.q.p c.args.i _ _ _ _ c.requires _ c.subtract_row.ensures _ c.solve_lower.ensures.list,
    )

pub returns : goal.returns
returns c =
    record {
      list =
          contradicted c.args.q.p c.args.i _ _ _ _ c.requires _ c.subtract_row.ensures _ c.solve_lower.ensures.list c.index-slot.result
          (c.index-slot.ensures ∙ c.at.ensures.value);
      row = c.solve_lower.ensures.row;
    }
