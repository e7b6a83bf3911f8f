-- `release` meets its contract; the loop's invariant is `Releasing`: the first t columns of row k are passed. Assumes nothing.
use Prim.Native.Nat.{ℕ, ◌-◌, ◌<◌}
use mathlib.Core.Path.{◌≡◌, refl, ap, ◌∙◌}
use mathlib.Core.List.{List}
use native.Mathlib.Omega.{arith}
use lib.ListN.{length, get_or}
use Rattle.sparse.specs.Matrix.{row_of}
use Rattle.factor_names.proofs.RowEntries.{row-stored}
use Rattle.factor_arrange.proofs.Counting.{column-inside}
use Rattle.factor_arrange.proofs.Releasing.{releasing-over, releasing-ready, releasing-turn, releasing-ends}
use Rattle.factor_arrange.proofs.release.release.Goals as goal
use Rattle.factor_arrange.proofs.release.release.Goals.{then-cell-ne0+then-cell-own, else-cell-ne0, else-cell-ne0-via-then-cell-ne0+else-cell-own, else-cell-ne0-via-else-cell-ne0}

pub columns_of-row-requires : goal.columns_of-row-requires
columns_of-row-requires c = let r = c.requires in row-stored _ _ _ _ r.stage.sized _ r.row

pub bounds-work-index : goal.bounds-work-index
bounds-work-index c =
    let row : List ℕ = row_of c.args.starts.now c.args.k c.args.cols.now in
    let place : c.index.result ≡ get_or (row) c.loop-j.j-index 0 = c.index.ensures ∙ ap (λ (r : List ℕ). get_or r c.loop-j.j-index 0) c.columns_of-row.ensures in
    let inside : c.loop-j.j-index < length (row) = omega (arith, c.loop-j-test.true, ap length c.columns_of-row.ensures) in
    let column : c.index.result < length c.args.work.now = let g = c.requires.stage in column-inside _ _ _ _ _ g.sized g.named _ _ _ (inside) (place) in
    column

pub lower-low-requires : goal.lower-low-requires
lower-low-requires c =
    let row : List ℕ = row_of c.args.starts.now c.args.k c.args.cols.now in
    let place : c.index.result ≡ get_or (row) c.loop-j.j-index 0 = c.index.ensures ∙ ap (λ (r : List ℕ). get_or r c.loop-j.j-index 0) c.columns_of-row.ensures in
    let inside : c.loop-j.j-index < length (row) = omega (arith, c.loop-j-test.true, ap length c.columns_of-row.ensures) in
    releasing-ready _ _ _ _ _ _ _ _ _ c.requires c.loop-j.j-index c.index.result (inside) (place) _ _ c.loop-j.low c.loop-j.invariant _ (omega (arith, c.if-cell-ne0.true)) (λ e. c.if-cell-own.true (omega (arith, c.if-cell-ne0.true)))

pub loop-j-preserved : goal.loop-j-preserved
loop-j-preserved c =
    let row : List ℕ = row_of c.args.starts.now c.args.k c.args.cols.now in
    let place : c.index.result ≡ get_or (row) c.loop-j.j-index 0 = c.index.ensures ∙ ap (λ (r : List ℕ). get_or r c.loop-j.j-index 0) c.columns_of-row.ensures in
    let inside : c.loop-j.j-index < length (row) = omega (arith, c.loop-j-test.true, ap length c.columns_of-row.ensures) in
    let cell : ℕ = get_or c.args.work.now c.index.result 0 in
    elim c.if-cell-ne0.branch [
      | then-cell-ne0+then-cell-own w ↦ rw (w.degrees-is, w.ready-is, w.low-is)
          (releasing-turn _ _ _ _ _ _ _ _ _ c.requires c.loop-j.j-index c.index.result inside place _ _ c.loop-j.low c.loop-j.invariant (cell - 1) (omega (arith, w.if-cell-ne0.true)) (λ e. w.if-cell-own.true (omega (arith, w.if-cell-ne0.true)))
          _ _ _ w.lower-low.ensures)
      | else-cell-ne0 w ↦ rw (w.degrees-is, w.ready-is, w.low-is) (releasing-over _ _ _ _ _ _ _ _ _ c.requires c.loop-j.j-index c.index.result inside place _ _ c.loop-j.low c.loop-j.invariant (λ q e. elim w.else-cell-ne0.branch [
        | else-cell-ne0-via-then-cell-ne0+else-cell-own v ↦ omega (arith, v.if-cell-own.false)
        | else-cell-ne0-via-else-cell-ne0 v ↦ absurd (omega (arith, v.if-cell-ne0.false))
      ]))
    ]

pub returns : goal.returns
returns c = (refl, releasing-ends _ _ _ _ _ _ _ _ _ c.requires c.loop-j.j-index _ _ _ (omega (arith, c.loop-j-test.false, ap length c.columns_of-row.ensures)) c.loop-j.invariant)
