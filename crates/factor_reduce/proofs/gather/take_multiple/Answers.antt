-- `take_multiple` meets its contract. Assumes nothing.
use Prim.Native.Nat.{◌*◌}
use mathlib.Core.Path.{sym, subst}
use native.Mathlib.Omega.{arith}
use Rattle.sparse.specs.Matrix.{compressed, matrix}
use Rattle.sparse.specs.WorkingRow.{Subtracted}
use Rattle.factor_reduce.proofs.Multiples.{subtracted-zero, multiple-taken}
use Rattle.factor_reduce.proofs.gather.take_multiple.Goals as goal
use Rattle.factor_reduce.proofs.gather.take_multiple.Goals.{then-x-ne0, else-x-ne0}

-- On either way the working row is less the multiple of the row of U.
taken : (c : goal.Joined-x-ne0) → Subtracted c.args.q.p (λ j. c.reduce-x.result * matrix (compressed c.args.us.now c.args.uc.now c.args.uv.now) c.args.k j) c.args.work.now c.if-x-ne0.work
taken c = elim c.if-x-ne0.branch [
  | then-x-ne0 w ↦ subst (Subtracted c.args.q.p (λ j. c.reduce-x.result * matrix (compressed c.args.us.now c.args.uc.now c.args.uv.now) c.args.k j) c.args.work.now) (sym w.work-is) w.subtract_list_row.ensures
  | else-x-ne0 w ↦ subst (Subtracted c.args.q.p (λ j. c.reduce-x.result * matrix (compressed c.args.us.now c.args.uc.now c.args.uv.now) c.args.k j) c.args.work.now) (sym w.work-is) (subtracted-zero c.args.q.p c.reduce-x.result _ _ w.if-x-ne0.false c.requires.below)
]

pub bounds-work-c-2 : goal.bounds-work-c-2
bounds-work-c-2 c = omega (arith, (taken c).long, c.requires.column)

pub returns : goal.returns
returns c = multiple-taken c.args.q.p c.args.c _ _ _ _ c.requires.column c.requires.unit c.reduce-x.ensures (taken c)
