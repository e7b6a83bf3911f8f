use Prim.Native.Nat.{ℕ, ◌+◌, ◌-◌, ◌≤◌, ◌<◌}
use mathlib.Core.Path.{◌≡◌, sym, ap, ◌∙◌}
use mathlib.Core.Bool.{◌&&◌}
use native.Mathlib.Omega.{arith}
use lib.ListN.{length, get_or}
use lib.Dec.{eqb, ltb}
use borrow.Author.Tests.{lt-ltb, le-ltb}
use Rattle.sparse.specs.Matrix.{matrix}
use Rattle.sparse.proofs.Rows.{form-starts}
use Rattle.pluq.specs.Shape.{lower_row}
use Rattle.check_shape.proofs.RowTests.{lower-by-last}
use Rattle.check_shape.proofs.lower.lower_row.Goals as goal

pub returns-then-e-a : goal.returns-then-e-a
returns-then-e-a c =
    let upto : c.index-e.result ≡ get_or c.args.l.now.starts (c.args.k + 1) 0 = c.index-e.ensures ∙ c.at-2.ensures.value in
    let inside : c.args.k + 1 < length c.args.l.now.starts = omega (arith, c.requires.0, c.requires.1.many) in
    let law : (ltb c.index-a.result c.index-e.result && eqb (get_or c.args.l.now.cols (c.index-e.result - 1) 0) c.args.k)
    ≡ lower_row c.args.r (matrix c.args.l.now c.args.k) c.args.k = lower-by-last c.args.p c.args.r c.args.l.now.starts c.args.l.now.cols c.args.l.now.vals c.args.k c.index-a.result c.index-e.result
    c.requires.1.formed (inside) (c.index-a.ensures ∙ c.at.ensures.value) (upto) in
    let h : c.index-e.result ≤ c.index-a.result = omega arith in
    sym (λ i. le-ltb c.index-a.result c.index-e.result h i && eqb (get_or c.args.l.now.cols (c.index-e.result - 1) 0) c.args.k) ∙ law

pub at-requires-3 : goal.at-requires-3
at-requires-3 c =
    let upto : c.index-e.result ≡ get_or c.args.l.now.starts (c.args.k + 1) 0 = c.index-e.ensures ∙ c.at-2.ensures.value in
    let inside : c.args.k + 1 < length c.args.l.now.starts = omega (arith, c.requires.0, c.requires.1.many) in
    omega (arith, (form-starts c.args.p _ _ _ _ c.requires.1.formed c.args.k (inside)).1, upto)

pub returns : goal.returns
returns c =
    let upto : c.index-e.result ≡ get_or c.args.l.now.starts (c.args.k + 1) 0 = c.index-e.ensures ∙ c.at-2.ensures.value in
    let inside : c.args.k + 1 < length c.args.l.now.starts = omega (arith, c.requires.0, c.requires.1.many) in
    let law : (ltb c.index-a.result c.index-e.result && eqb (get_or c.args.l.now.cols (c.index-e.result - 1) 0) c.args.k)
    ≡ lower_row c.args.r (matrix c.args.l.now c.args.k) c.args.k = lower-by-last c.args.p c.args.r c.args.l.now.starts c.args.l.now.cols c.args.l.now.vals c.args.k c.index-a.result c.index-e.result
    c.requires.1.formed (inside) (c.index-a.ensures ∙ c.at.ensures.value) (upto) in
    let h : c.index-a.result < c.index-e.result = omega arith in
    ap (λ (x : ℕ). eqb x c.args.k) (c.index.ensures ∙ c.at-3.ensures.value)
    ∙ sym (λ i. lt-ltb c.index-a.result c.index-e.result h i && eqb (get_or c.args.l.now.cols (c.index-e.result - 1) 0) c.args.k) ∙ law
