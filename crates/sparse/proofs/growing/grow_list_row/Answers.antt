-- `grow_list_row` meets its contract: the parts that it hands on are row k. Assumes nothing.
use Prim.Native.Nat.{◌≤◌}
use mathlib.Core.Path.{◌≡◌, ◌∙◌}
use native.Mathlib.Omega.{arith}
use lib.ListN.{length}
use lib.Seq.{slice}
use Rattle.sparse.specs.Matrix.{row_of}
use Rattle.sparse.proofs.Rows.{form-starts, form-paired, form-row}
use Rattle.sparse.proofs.growing.grow_list_row.Goals as goal

pub part-requires : goal.part-requires
part-requires c =
    let bounds : (c.index-a.result ≤ c.index-e.result)
    × (c.index-e.result ≤ length c.args.cols.now)
    × (c.index-e.result ≤ length c.args.vals.now) = let b = form-starts c.args.q.p _ _ _ _ c.requires.formed c.args.k c.requires.inside in
    let e = form-paired c.args.q.p _ _ _ _ c.requires.formed in
    (omega (arith, b.0, c.index-a.ensures, c.index-e.ensures), omega (arith, b.1, c.index-e.ensures), omega (arith, b.1, c.index-e.ensures, e)) in
    let b = bounds in (b.0, b.1)

pub part-requires-2 : goal.part-requires-2
part-requires-2 c =
    let bounds : (c.index-a.result ≤ c.index-e.result)
    × (c.index-e.result ≤ length c.args.cols.now)
    × (c.index-e.result ≤ length c.args.vals.now) = let b = form-starts c.args.q.p _ _ _ _ c.requires.formed c.args.k c.requires.inside in
    let e = form-paired c.args.q.p _ _ _ _ c.requires.formed in
    (omega (arith, b.0, c.index-a.ensures, c.index-e.ensures), omega (arith, b.1, c.index-e.ensures), omega (arith, b.1, c.index-e.ensures, e)) in
    let b = bounds in (b.0, b.2)

pub grow_numbers-requires : goal.grow_numbers-requires
grow_numbers-requires c =
    let columns : c.part.result.now ≡ row_of c.args.starts.now c.args.k c.args.cols.now = c.part.ensures ∙ (λ j. slice (c.index-a.ensures j) (c.index-e.ensures j) c.args.cols.now) in
    let numbers : c.part-2.result.now ≡ row_of c.args.starts.now c.args.k c.args.vals.now = c.part-2.ensures ∙ (λ j. slice (c.index-a.ensures j) (c.index-e.ensures j) c.args.vals.now) in
    record {
      row = rw (columns, numbers) (form-row c.args.q.p _ _ _ _ c.requires.formed c.args.k);
      residue = c.requires.residue;
      some = c.requires.some;
      room = c.requires.room;
    }

pub returns : goal.returns
returns c =
    let columns : c.part.result.now ≡ row_of c.args.starts.now c.args.k c.args.cols.now = c.part.ensures ∙ (λ j. slice (c.index-a.ensures j) (c.index-e.ensures j) c.args.cols.now) in
    let numbers : c.part-2.result.now ≡ row_of c.args.starts.now c.args.k c.args.vals.now = c.part-2.ensures ∙ (λ j. slice (c.index-a.ensures j) (c.index-e.ensures j) c.args.vals.now) in
    rw (columns, numbers) at c.grow_numbers.ensures
