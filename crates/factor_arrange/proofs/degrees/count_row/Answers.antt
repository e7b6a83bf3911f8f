-- `count_row` meets its contract; the loop's invariant is `Passed`: the pivots to which row k leads by its first t columns are counted. Assumes nothing.
use Prim.Native.Nat.{ℕ, ◌-◌, ◌<◌}
use mathlib.Core.Path.{◌≡◌, ap, ◌∙◌}
use mathlib.Core.List.{List}
use native.Mathlib.Omega.{arith}
use lib.ListN.{length, get_or, length-set}
use Rattle.sparse.specs.Matrix.{row_of}
use Rattle.factor_names.proofs.RowEntries.{row-stored}
use Rattle.factor_arrange.proofs.Counting.{column-inside, named-row, count_small, count-over, count_turn, count-ends}
use Rattle.factor_arrange.proofs.degrees.count_row.Goals as goal
use Rattle.factor_arrange.proofs.degrees.count_row.Goals.{then-cell-ne0+then-cell-own, else-cell-ne0, else-cell-ne0-via-then-cell-ne0+else-cell-own, else-cell-ne0-via-else-cell-ne0}

pub columns_of-row-requires : goal.columns_of-row-requires
columns_of-row-requires c = row-stored _ _ _ _ c.requires.sized _ c.requires.row

pub bounds-work-index : goal.bounds-work-index
bounds-work-index c =
    let row : List ℕ = row_of c.args.starts.now c.args.k c.args.cols.now in
    let place : c.index.result ≡ get_or (row) c.loop-j.j-index 0 = c.index.ensures ∙ ap (λ (r : List ℕ). get_or r c.loop-j.j-index 0) c.columns_of-row.ensures in
    let inside : c.loop-j.j-index < length (row) = omega (arith, c.loop-j-test.true, ap length c.columns_of-row.ensures) in
    let column : c.index.result < length c.args.work.now = let r = c.requires in column-inside _ _ _ _ _ r.sized r.named _ _ _ (inside) (place) in
    column

pub offset_bounds-degrees-q : goal.offset_bounds-degrees-q
offset_bounds-degrees-q c =
    let cell : ℕ = get_or c.args.work.now c.index.result 0 in
    let row-of : ¬ (cell ≡ 0) → cell - 1 < length c.loop-j.degrees = λ d. let r = c.requires in
    omega (arith, c.loop-j.invariant.0, named-row _ _ _ _ _ r.sized r.named c.index.result (cell - 1) (omega arith)) in
    omega (arith, row-of c.if-cell-ne0.true, c.loop-j.invariant.0, c.requires.sized.n-small)

pub bounds-degrees-q : goal.bounds-degrees-q
bounds-degrees-q c =
    let cell : ℕ = get_or c.args.work.now c.index.result 0 in
    let row-of : ¬ (cell ≡ 0) → cell - 1 < length c.loop-j.degrees = λ d. let r = c.requires in
    omega (arith, c.loop-j.invariant.0, named-row _ _ _ _ _ r.sized r.named c.index.result (cell - 1) (omega arith)) in
    row-of c.if-cell-ne0.true

pub overflow_add-degrees : goal.overflow_add-degrees
overflow_add-degrees c =
    let row : List ℕ = row_of c.args.starts.now c.args.k c.args.cols.now in
    let place : c.index.result ≡ get_or (row) c.loop-j.j-index 0 = c.index.ensures ∙ ap (λ (r : List ℕ). get_or r c.loop-j.j-index 0) c.columns_of-row.ensures in
    let inside : c.loop-j.j-index < length (row) = omega (arith, c.loop-j-test.true, ap length c.columns_of-row.ensures) in
    let cell : ℕ = get_or c.args.work.now c.index.result 0 in
    omega (
      arith,
      count_small _ _ _ _ _ _ _ c.requires c.loop-j.j-index c.index.result (inside) (place) c.loop-j.degrees c.loop-j.invariant.1 (cell - 1) (omega (arith, c.if-cell-ne0.true)),
    )

pub bounds-degrees-q-then-cell-own : goal.bounds-degrees-q-then-cell-own
bounds-degrees-q-then-cell-own c =
    let cell : ℕ = get_or c.args.work.now c.index.result 0 in
    let row-of : ¬ (cell ≡ 0) → cell - 1 < length c.loop-j.degrees = λ d. let r = c.requires in
    omega (arith, c.loop-j.invariant.0, named-row _ _ _ _ _ r.sized r.named c.index.result (cell - 1) (omega arith)) in
    row-of c.if-cell-ne0.true

pub loop-j-preserved : goal.loop-j-preserved
loop-j-preserved c =
    let row : List ℕ = row_of c.args.starts.now c.args.k c.args.cols.now in
    let place : c.index.result ≡ get_or (row) c.loop-j.j-index 0 = c.index.ensures ∙ ap (λ (r : List ℕ). get_or r c.loop-j.j-index 0) c.columns_of-row.ensures in
    let inside : c.loop-j.j-index < length (row) = omega (arith, c.loop-j-test.true, ap length c.columns_of-row.ensures) in
    elim c.if-cell-ne0.branch [
      | then-cell-ne0+then-cell-own w ↦ rw w.degrees-is (
        length-set c.loop-j.degrees _ _ ∙ c.loop-j.invariant.0,
        count_turn _ _ _ _ _ _ _ c.requires c.loop-j.j-index c.index.result inside place c.loop-j.degrees c.loop-j.invariant.1 c.loop-j.invariant.0 _ (omega (arith, w.if-cell-ne0.true)) (λ e. w.if-cell-own.true (omega (arith, w.if-cell-ne0.true))),
      )
      | else-cell-ne0 w ↦ rw w.degrees-is (
        c.loop-j.invariant.0,
        count-over _ _ _ _ _ _ _ c.requires c.loop-j.j-index c.index.result inside place c.loop-j.degrees c.loop-j.invariant.1 (λ q e. elim w.else-cell-ne0.branch [
          | else-cell-ne0-via-then-cell-ne0+else-cell-own v ↦ omega (arith, v.if-cell-own.false)
          | else-cell-ne0-via-else-cell-ne0 v ↦ absurd (omega (arith, v.if-cell-ne0.false))
        ]),
      )
    ]

pub returns : goal.returns
returns c = count-ends _ _ _ _ _ _ _ c.requires c.loop-j.j-index _ (omega (arith, c.loop-j-test.false, ap length c.columns_of-row.ensures)) c.loop-j.invariant.1
