-- `consider` meets its contract: a row without entries leads nowhere, another at its first column. Assumes nothing.
use Prim.Native.Nat.{◌<◌}
use mathlib.Core.Path.{◌≡◌, sym, ap, ◌∙◌}
use native.Mathlib.Omega.{arith}
use lib.ListN.{length, get_or}
use Rattle.sparse.specs.Matrix.{Compressed, compressed}
use Rattle.elimination.specs.Structural.{size}
use Rattle.factor_order.proofs.Choosing.{row_within, leftmost-stored, leftmost-below, prefer-ready, consider-empty, consider-row}
use Rattle.factor_order.proofs.pairs.consider.Goals as goal

pub entries-requires : goal.entries-requires
entries-requires c =
    let A : Compressed = compressed c.args.starts.now c.args.cols.now c.args.vals.now in
    row_within _ _ (A) c.requires.formed c.args.i c.requires.inside

pub returns-then-entries-eq0 : goal.returns-then-entries-eq0
returns-then-entries-eq0 c =
    let A : Compressed = compressed c.args.starts.now c.args.cols.now c.args.vals.now in
    consider-empty (A) c.args.i _ c.requires.before (sym c.entries.ensures ∙ c.if-entries-eq0.true)

pub bounds-cols-start : goal.bounds-cols-start
bounds-cols-start c =
    let A : Compressed = compressed c.args.starts.now c.args.cols.now c.args.vals.now in
    let some-entry : 0 < size (A) c.args.i = omega (arith, c.entries.ensures, c.if-entries-eq0.false) in
    let stored : c.index-start.result < length c.args.cols.now = omega (arith, c.index-start.ensures, leftmost-stored _ _ (A) c.requires.formed c.args.i c.requires.inside (some-entry)) in
    stored

pub bounds-work-c : goal.bounds-work-c
bounds-work-c c =
    let A : Compressed = compressed c.args.starts.now c.args.cols.now c.args.vals.now in
    let some-entry : 0 < size (A) c.args.i = omega (arith, c.entries.ensures, c.if-entries-eq0.false) in
    let column : c.index-c.result ≡ get_or c.args.cols.now (get_or c.args.starts.now c.args.i 0) 0 = c.index-c.ensures ∙ ap (λ k. get_or c.args.cols.now k 0) c.index-start.ensures in
    let inside : c.index-c.result < length c.args.work.now = omega (arith, column, leftmost-below _ _ (A) c.requires.formed c.args.i c.requires.inside (some-entry)) in
    inside

pub preferred-requires : goal.preferred-requires
preferred-requires c =
    let A : Compressed = compressed c.args.starts.now c.args.cols.now c.args.vals.now in
    prefer-ready _ _ (A) c.requires.formed c.args.i c.requires.inside _ (c.requires.before.below c.index-c.result)

pub bounds-work-c-2 : goal.bounds-work-c-2
bounds-work-c-2 c =
    let A : Compressed = compressed c.args.starts.now c.args.cols.now c.args.vals.now in
    let some-entry : 0 < size (A) c.args.i = omega (arith, c.entries.ensures, c.if-entries-eq0.false) in
    let column : c.index-c.result ≡ get_or c.args.cols.now (get_or c.args.starts.now c.args.i 0) 0 = c.index-c.ensures ∙ ap (λ k. get_or c.args.cols.now k 0) c.index-start.ensures in
    let inside : c.index-c.result < length c.args.work.now = omega (arith, column, leftmost-below _ _ (A) c.requires.formed c.args.i c.requires.inside (some-entry)) in
    inside

pub returns : goal.returns
returns c =
    let A : Compressed = compressed c.args.starts.now c.args.cols.now c.args.vals.now in
    let some-entry : 0 < size (A) c.args.i = omega (arith, c.entries.ensures, c.if-entries-eq0.false) in
    let column : c.index-c.result ≡ get_or c.args.cols.now (get_or c.args.starts.now c.args.i 0) 0 = c.index-c.ensures ∙ ap (λ k. get_or c.args.cols.now k 0) c.index-start.ensures in
    let inside : c.index-c.result < length c.args.work.now = omega (arith, column, leftmost-below _ _ (A) c.requires.formed c.args.i c.requires.inside (some-entry)) in
    consider-row (A) c.args.i _ c.requires.before c.index-c.result (some-entry) (column) _ (inside) c.preferred.ensures
