-- `hold_row` meets its contract: a row that is not copied has no copy, and one that is copied has the row's cells. Assumes nothing.
use Prim.Native.Nat.{◌<◌}
use mathlib.Core.Path.{◌≡◌, ◌∙◌}
use native.Mathlib.Omega.{arith}
use lib.Seq.{slice}
use Rattle.sparse.specs.Matrix.{row_of}
use Rattle.factor_copies.proofs.HoldLaws.{hold-none, hold-ready, hold-copied}
use Rattle.factor_copies.proofs.holding.hold_row.Goals as goal

pub returns-then-found-r : goal.returns-then-found-r
returns-then-found-r c = hold-none _ _ _ _ _ _ _ c.requires

pub bounds-starts-r : goal.bounds-starts-r
bounds-starts-r c = omega (arith, c.requires.starts (omega (arith, c.if-found-r.false)))

pub bounds-starts-r-2 : goal.bounds-starts-r-2
bounds-starts-r-2 c = c.requires.starts (omega (arith, c.if-found-r.false))

pub part-row-requires : goal.part-row-requires
part-row-requires c =
    let some : c.args.r < c.args.found = omega (arith, c.if-found-r.false) in
    let b = c.requires.lies (some) in
    (omega (arith, b.0, c.index-a.ensures, c.index-e.ensures), omega (arith, b.1.0, c.index-e.ensures))

pub returns-then-not-is_worth : goal.returns-then-not-is_worth
returns-then-not-is_worth c = hold-none _ _ _ _ _ _ _ c.requires

pub part-requires : goal.part-requires
part-requires c =
    let some : c.args.r < c.args.found = omega (arith, c.if-found-r.false) in
    let b = c.requires.lies (some) in
    (omega (arith, b.0, c.index-a.ensures, c.index-e.ensures), omega (arith, b.1.1, c.index-e.ensures))

pub copy_row-requires : goal.copy_row-requires
copy_row-requires c =
    let some : c.args.r < c.args.found = omega (arith, c.if-found-r.false) in
    let columns : c.part-row.result.now ≡ row_of c.args.starts.now c.args.r c.args.cols.now = c.part-row.ensures ∙ (λ j. slice (c.index-a.ensures j) (c.index-e.ensures j) c.args.cols.now) in
    let numbers : c.part.result.now ≡ row_of c.args.starts.now c.args.r c.args.vals.now = c.part.ensures ∙ (λ j. slice (c.index-a.ensures j) (c.index-e.ensures j) c.args.vals.now) in
    hold-ready _ _ _ _ _ _ _ c.requires (some) _ _ (columns) (numbers) (c.is_worth.ensures c.if-not-is_worth.false)

pub returns : goal.returns
returns c =
    let some : c.args.r < c.args.found = omega (arith, c.if-found-r.false) in
    let columns : c.part-row.result.now ≡ row_of c.args.starts.now c.args.r c.args.cols.now = c.part-row.ensures ∙ (λ j. slice (c.index-a.ensures j) (c.index-e.ensures j) c.args.cols.now) in
    let numbers : c.part.result.now ≡ row_of c.args.starts.now c.args.r c.args.vals.now = c.part.ensures ∙ (λ j. slice (c.index-a.ensures j) (c.index-e.ensures j) c.args.vals.now) in
    hold-copied _ _ _ _ _ _ _ c.requires (some) _ _ (columns) (numbers) (c.is_worth.ensures c.if-not-is_worth.false) _ _ c.copy_row.ensures
