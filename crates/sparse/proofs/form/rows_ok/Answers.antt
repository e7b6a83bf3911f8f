-- `rows_ok` meets its contract.
use Prim.Native.Nat.{◌≤◌, ◌+◌}
use mathlib.Core.Bool.{true}
use mathlib.Core.Path.{◌≡◌, refl, sym, ◌∙◌}
use native.Mathlib.Omega.{arith}
use lib.ListN.{length, drop}
use Rattle.sparse.specs.Form.{starts_from}
use Rattle.sparse.proofs.Forms.{starts-true, starts-next, starts-le, rows-fail, rows_on, rows_end}
use Rattle.sparse.proofs.form.rows_ok.Goals as goal

pub loop-i-init : goal.loop-i-init
loop-i-init c =
    let t = starts-true (length c.args.rows.now.cols) c.args.rows.now.starts c.requires in
    (t.1, refl)

pub rises-requires : goal.rises-requires
rises-requires c =
    let next : (c.loop-i.from ≤ c.at-s.result)
    × (starts_from (length c.args.rows.now.cols) c.at-s.result
    (drop (c.loop-i.i + 1) c.args.rows.now.starts) ≡ true) = starts-next (length c.args.rows.now.cols) c.loop-i.from c.args.rows.now.starts c.loop-i.i c.at-s.result (omega arith) c.at-s.ensures.value c.loop-i.invariant.0 in
    ((next).0, starts-le _ _ _ (next).1)

pub returns-then-not-rises : goal.returns-then-not-rises
returns-then-not-rises c = sym (rows-fail c.args.width c.args.rows.now.cols c.loop-i.from c.args.rows.now.starts c.loop-i.i c.at-s.result (omega arith) c.at-s.ensures.value c.rises.result c.rises.ensures (cc)) ∙ c.loop-i.invariant.1

pub loop-i-preserved : goal.loop-i-preserved
loop-i-preserved c =
    let next : (c.loop-i.from ≤ c.at-s.result)
    × (starts_from (length c.args.rows.now.cols) c.at-s.result
    (drop (c.loop-i.i + 1) c.args.rows.now.starts) ≡ true) = starts-next (length c.args.rows.now.cols) c.loop-i.from c.args.rows.now.starts c.loop-i.i c.at-s.result (omega arith) c.at-s.ensures.value c.loop-i.invariant.0 in
    ((next).1, sym (rows_on c.args.width c.args.rows.now.cols c.loop-i.from c.args.rows.now.starts c.loop-i.i c.at-s.result (omega arith) c.at-s.ensures.value c.rises.result c.rises.ensures (cc)) ∙ c.loop-i.invariant.1)

pub returns : goal.returns
returns c =
    let some = (starts-true (length c.args.rows.now.cols) c.args.rows.now.starts c.requires).0 in
    sym (rows_end c.args.width c.args.rows.now.cols c.loop-i.from c.args.rows.now.starts c.loop-i.i (omega (arith, some, c.len-i-end.ensures)) (omega (arith, some, c.len-i-end.ensures))) ∙ c.loop-i.invariant.1
