use Prim.Native.Nat.{◌+◌, ◌*◌, ◌^◌, ◌<◌}
use mathlib.Core.Path.{◌≡◌}
use native.Mathlib.Omega.{arith}
use lib.ListN.{length, get_or}
use Rattle.sparse.specs.WorkingRow.{growth}
use Rattle.sparse.proofs.Entries.{row-columns, values-at}
use Rattle.sparse.proofs.Subtraction.{combining-turn, combining-ends, subtracted-more}
use Rattle.sparse.proofs.RunLaws.{growth-room, row-place}
use Rattle.check_product.proofs.subtract_rows.Goals as goal

pub grow_row-requires : goal.grow_row-requires
grow_row-requires c =
    let value : let v = get_or c.args.row.now.vals c.loop-t.t 0 in (0 < v) × (v < c.args.q.p) = values-at c.args.q.p _ c.requires.row.nonzero c.loop-t.t (omega (arith, c.requires.row.paired)) in
    let few : c.loop-t.t < 2 ^ 32 = omega (arith, row-place _ _ _ _ c.requires.row c.loop-t.t (omega arith), c.requires.narrow) in
    let l = c.loop-t in
    record {
      formed = rw l.invariant.long c.requires.U-form;
      inside = omega (arith, c.requires.U-rows, c.index_at-k.ensures, row-columns _ _ _ _ c.requires.row l.t (omega arith));
      residue = rw c.at-v.ensures.value (value).1;
      some = rw c.at-v.ensures.value (value).0;
      room = λ small i h. omega (arith, l.invariant.below i h, growth-room c.args.q.p l.t (few) small);
    }

pub loop-t-preserved : goal.loop-t-preserved
loop-t-preserved c =
    let l = c.loop-t in
    combining-turn c.args.q.p _ _ _ _ _ _ l.t c.index_at-k.result c.at-v.result (omega arith) (omega (arith, c.requires.row.paired)) c.index_at-k.ensures c.at-v.ensures.value l.invariant
    (subtracted-more _ _ _ _ _ _ (omega arith) (c.grow_row.ensures (c.args.q.p * c.args.q.p + l.t * growth c.args.q.p) (omega arith) l.invariant.below))

pub returns : goal.returns
returns c =
    let l = c.loop-t in let all : l.t ≡ length c.args.row.now.cols = omega (arith, l.invariant.inside) in
    rw all at (combining-ends _ _ _ _ _ _ l.t (omega arith) l.invariant)
