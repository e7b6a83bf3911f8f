-- `subtract_numbers` meets its contract; the loop's invariant is `Lowering`.
use Rattle.std.proofs.Common.{◌<◌, length, ◌∙◌, arith}
use Rattle.sparse.proofs.Entries.{row-columns, row-values}
use Rattle.sparse.proofs.Subtraction.{lowering-turn, lowering-ends}
use Rattle.sparse.proofs.kernel.subtract_numbers.Goals as goal

pub number-v-requires : goal.number-v-requires
number-v-requires g c = omega (arith, c.requires.row.paired, c.count-t-end.ensures)

pub bounds-work-j : goal.bounds-work-j
bounds-work-j g c = rw (c.index-j.ensures ∙ c.number.ensures, c.loop-t.invariant.long) (row-columns _ _ _ _ c.requires.row c.loop-t.t (omega (arith, c.count-t-end.ensures)))

pub less-requires : goal.less-requires
less-requires g c =
    record {
      left = c.requires.residue;
      right = rw c.number-v.ensures (row-values _ _ _ _ c.requires.row c.loop-t.t (omega (arith, c.requires.row.paired, c.count-t-end.ensures)));
    }

pub bounds-work-j-in-loop-t : goal.bounds-work-j-in-loop-t
bounds-work-j-in-loop-t g c = rw (c.index-j.ensures ∙ c.number.ensures, c.loop-t.invariant.long) (row-columns _ _ _ _ c.requires.row c.loop-t.t (omega (arith, c.count-t-end.ensures)))

pub loop-t-preserved : goal.loop-t-preserved
loop-t-preserved g c =
    let place = c.index-j.ensures ∙ c.number.ensures in
    let column : c.index-j.result < length c.loop-t.work = rw (place, c.loop-t.invariant.long) (row-columns _ _ _ _ c.requires.row c.loop-t.t (omega (arith, c.count-t-end.ensures))) in
    let i = c.loop-t in
    lowering-turn _ _ _ _ _ _ i.t c.index-j.result c.number-v.result _ (omega (arith, c.count-t-end.ensures)) (omega (arith, c.requires.row.paired, c.count-t-end.ensures)) place c.number-v.ensures column i.invariant c.less.ensures

pub shape_of-work : goal.shape_of-work
shape_of-work g c = c.loop-t.invariant.long

pub returns : goal.returns
returns g c = lowering-ends _ _ _ _ _ _ _ (omega (arith, c.count-t-end.ensures)) c.loop-t.invariant
