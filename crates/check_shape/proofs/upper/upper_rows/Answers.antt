use Prim.Native.Nat.{◌<◌}
use mathlib.Core.Path.{◌≡◌, refl, sym, ap, ◌∙◌}
use native.Mathlib.Omega.{arith}
use lib.ListN.{length, get_or}
use Rattle.lists.proofs.Tests.{all_pass, all-fail}
use Rattle.algebra.specs.Matrix.{vector}
use Rattle.sparse.specs.Matrix.{matrix}
use Rattle.sparse.proofs.Rows.{form-row}
use Rattle.pluq.specs.Shape.{upper_row, upper}
use Rattle.check_shape.proofs.RowTests.{marks-none, upper-marked, unit-turn}
use Rattle.check_shape.proofs.upper.upper_rows.Goals as goal

pub loop-k-init : goal.loop-k-init
loop-k-init c = record { long = refl; marks = marks-none _ _ c.requires.cleared; passed = λ i h. absurd (omega arith) }

pub returns-then-not-unit_row : goal.returns-then-not-unit_row
unfolding upper
returns-then-not-unit_row c =
    let test : c.unit_row.result ≡ upper_row (vector c.args.co.now) ((matrix c.args.u.now) c.loop-k.k) c.loop-k.k = let l = c.loop-k in
    c.unit_row.ensures.0
    ∙ upper-marked c.args.p _ _ _ (vector c.args.co.now) l.k c.at-j.result l.work (form-row c.args.p _ _ _ _ c.requires.formed l.k) l.invariant.marks c.at-j.ensures.value in
    let l = c.loop-k in
    (sym (all-fail _ _ l.k (omega arith) (sym (test) ∙ c.if-not-unit_row.true)), ap length c.unit_row.ensures.1 ∙ l.invariant.long)

pub loop-k-preserved : goal.loop-k-preserved
loop-k-preserved c =
    let place : c.index-c.result ≡ get_or c.args.co.now c.loop-k.k 0 = c.index-c.ensures ∙ c.at-j.ensures.value in
    let column : c.index-c.result < length c.loop-k.work = let l = c.loop-k in
    rw (place, l.invariant.long) (c.requires.places l.k (omega (arith, c.requires.order))) in
    let test : c.unit_row.result ≡ upper_row (vector c.args.co.now) ((matrix c.args.u.now) c.loop-k.k) c.loop-k.k = let l = c.loop-k in
    c.unit_row.ensures.0
    ∙ upper-marked c.args.p _ _ _ (vector c.args.co.now) l.k c.at-j.result l.work (form-row c.args.p _ _ _ _ c.requires.formed l.k) l.invariant.marks c.at-j.ensures.value in
    let l = c.loop-k in
    unit-turn _ _ _ _ l.work _ l.k c.index-c.result c.unit_row.result (omega arith) c.unit_row.ensures.1 (place) (column) (test) c.if-not-unit_row.false-raw l.invariant

pub returns : goal.returns
unfolding upper
returns c = let l = c.loop-k in (sym (all_pass _ _ (λ i h. l.invariant.passed i (omega arith))), l.invariant.long)
