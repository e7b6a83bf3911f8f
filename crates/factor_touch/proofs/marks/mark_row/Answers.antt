-- `mark_row` meets its contract; the loop's invariant is `Marking`, for the cells and for the pivots. Assumes nothing.
use Prim.Native.Nat.{ℕ, ◌/◌}
use mathlib.Core.Path.{◌≡◌, sym, ap, ◌∙◌}
use native.Mathlib.Omega.{arith}
use lib.ListN.{get_or}
use Rattle.factor_touch.specs.Touched.{free_block}
use Rattle.factor_touch.proofs.Marking.{free-here, free-shared, marking-turn}
use Rattle.factor_touch.proofs.marks.mark_row.Goals as goal
use Rattle.factor_touch.proofs.marks.mark_row.Goals.{then-k-eq2048, else-k-eq2048}

pub bounds-touched-b : goal.bounds-touched-b
bounds-touched-b c =
    let pivot : let s = c.args in c.index-k.result ≡ get_or s.place.now (get_or s.cols.now c.loop-column.column-index 0) 0 = c.index-k.ensures ∙ ap (λ (j : ℕ). get_or c.args.place.now j 0) c.index-j.ensures in
    let block : let s = c.args in c.if-k-eq2048.b ≡ free_block s.place.now (get_or s.cols.now c.loop-column.column-index 0) = let s = c.args in
    elim c.if-k-eq2048.branch [
      | then-k-eq2048 w ↦ w.b-is ∙ ap (λ (j : ℕ). j / 16) c.index-j.ensures ∙ sym (free-here s.place.now _ (sym (pivot) ∙ w.if-k-eq2048.true))
      | else-k-eq2048 w ↦ w.b-is ∙ sym (free-shared s.place.now _ (λ e. w.if-k-eq2048.false (pivot ∙ e)))
    ] in
    omega (arith, block, c.requires.cells _ c.loop-column-test.true, c.loop-column.invariant.0.long)

pub loop-column-preserved : goal.loop-column-preserved
loop-column-preserved c =
    let pivot : let s = c.args in c.index-k.result ≡ get_or s.place.now (get_or s.cols.now c.loop-column.column-index 0) 0 = c.index-k.ensures ∙ ap (λ (j : ℕ). get_or c.args.place.now j 0) c.index-j.ensures in
    let block : let s = c.args in c.if-k-eq2048.b ≡ free_block s.place.now (get_or s.cols.now c.loop-column.column-index 0) = let s = c.args in
    elim c.if-k-eq2048.branch [
      | then-k-eq2048 w ↦ w.b-is ∙ ap (λ (j : ℕ). j / 16) c.index-j.ensures ∙ sym (free-here s.place.now _ (sym (pivot) ∙ w.if-k-eq2048.true))
      | else-k-eq2048 w ↦ w.b-is ∙ sym (free-shared s.place.now _ (λ e. w.if-k-eq2048.false (pivot ∙ e)))
    ] in
    let h = c.loop-column in
    (marking-turn _ _ _ _ _ (block) (omega (arith, block, c.requires.cells _ c.loop-column-test.true, c.loop-column.invariant.0.long)) h.invariant.0, marking-turn _ _ _ _ _ (ap (λ (k : ℕ). k / 16) (pivot)) (omega (arith, pivot, c.requires.pivots _ c.loop-column-test.true, c.loop-column.invariant.1.long)) h.invariant.1)
