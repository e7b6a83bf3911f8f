-- `store` meets its contract: the rows up to the entry's are reached, then a value that is not 0 is appended. Assumes nothing.
use native.Mathlib.Omega.{arith}
use Prim.Native.Nat.{◌<◌}
use lib.ListN.{length}
use Rattle.text_opening.specs.Reading.{kept}
use Rattle.text_plan.proofs.Storing.{stored-zero, stored_more}
use Rattle.text_plan.proofs.filling.store.Goals as goal

pub returns-then-v-eq0 : goal.returns-then-v-eq0
returns-then-v-eq0 c seen h = stored-zero seen h _ c.requires.order (c.extend_starts.ensures (kept seen) h.rows h.number h.starts-are) c.if-v-eq0.true

pub bounds-cols-at : goal.bounds-cols-at
bounds-cols-at c =
    let space : c.args.count < length c.args.cols.now = c.requires.room c.if-v-eq0.false in
    omega (arith, c.index-at.ensures, space)

pub bounds-vals-at : goal.bounds-vals-at
bounds-vals-at c =
    let space : c.args.count < length c.args.cols.now = c.requires.room c.if-v-eq0.false in
    omega (arith, c.index-at.ensures, space, c.requires.lists)

pub returns : goal.returns
returns c seen h =
    let space : c.args.count < length c.args.cols.now = c.requires.room c.if-v-eq0.false in
    stored_more seen h _ c.requires.order (c.extend_starts.ensures (kept seen) h.rows h.number h.starts-are) c.if-v-eq0.false c.requires.first-row (space) _ c.index-at.ensures
