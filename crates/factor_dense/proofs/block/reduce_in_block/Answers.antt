-- `reduce_in_block` meets its contract, row after row. Assumes nothing.
use Prim.Native.Nat.{ℕ, ◌*◌, ◌%◌}
use mathlib.Core.Path.{◌≡◌, refl, sym, subst}
use mathlib.Core.List.{List}
use borrow.Author.Rules.{rules}
use native.Mathlib.Omega.{arith}
use lib.ListN.{length, get_or}
use Rattle.residue.specs.Arithmetic.{Residue}
use Rattle.sparse.specs.WorkingRow.{Subtracted}
use Rattle.factor_reduce.proofs.Multiples.{subtracted-zero}
use Rattle.factor_dense.specs.Block.{cells_of}
use Rattle.factor_dense.proofs.BlockSteps.{going_start, going-turn, going_end}
use Rattle.factor_dense.proofs.block.reduce_in_block.Goals as goal
use Rattle.factor_dense.proofs.block.reduce_in_block.Goals.{then-x-ne0, else-x-ne0}

pub loop-t-init : goal.loop-t-init
loop-t-init c =
    let long : length c.args.row ≡ 32 = search rules in
    going_start _ _ _ _ _ c.requires _ (long) refl

pub loop-t-preserved : goal.loop-t-preserved
loop-t-preserved c =
    let Less : List ℕ → Type 0 = λ w. Subtracted c.args.q.p (λ j. c.reduce_cell-x.result * cells_of c.args.block.now c.loop-t.t j) c.loop-t.rest w in
    let less : Less c.if-x-ne0.rest = elim c.if-x-ne0.branch [
      | then-x-ne0 w ↦ subst Less (sym w.rest-is) w.take_block_row-rest.ensures
      | else-x-ne0 w ↦ subst Less (sym w.rest-is) (subtracted-zero c.args.q.p c.reduce_cell-x.result _ _ w.if-x-ne0.false c.loop-t.invariant.remainder.below)
    ] in
    let value : Residue c.args.q.p (get_or c.loop-t.rest (get_or c.args.ks.now c.loop-t.t 0) 0 % c.args.q.p) c.reduce_cell-x.result = subst (λ (k : ℕ). Residue c.args.q.p (get_or c.loop-t.rest k 0 % c.args.q.p) c.reduce_cell-x.result) c.index-k.ensures c.reduce_cell-x.ensures in
    going-turn _ _ _ _ _ c.requires _ _ _ _ _ c.loop-t-test.true (value) (less) c.loop-t.invariant

pub returns : goal.returns
returns c = going_end _ _ _ _ _ c.requires _ _ _ (omega (arith, c.loop-t-test.false)) c.loop-t.invariant
