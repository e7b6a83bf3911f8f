-- `solve_lower` meets its contract; the loop's invariant is `Lowering`: the rows from k on have their values in x. Assumes nothing.
use Prim.Native.Nat.{ℕ, ◌-◌, ◌<◌}
use mathlib.Core.Path.{◌≡◌, sym, ap, ◌∙◌}
use mathlib.Core.List.{List}
use native.Mathlib.Omega.{arith}
use lib.ListN.{length, get_or}
use Rattle.lists.specs.Filled.{zeros}
use Rattle.lists.proofs.Filled.{length-zeros}
use Rattle.row_space.proofs.LowerLoop.{lowering-next, lowering-ends, place-below}
use Rattle.row_space.proofs.lower.solve_lower.Goals as goal

pub bounds-x-t : goal.bounds-x-t
bounds-x-t c =
    let R : List ℕ = c.args.ro.now in
    let place : c.index-t.result ≡ get_or (R) (c.loop-k.k - 1) 0 = c.index-t.ensures ∙ c.at.ensures.value in
    let row : c.index-t.result < length c.loop-k.x = let l = c.loop-k in
    omega (arith, place, l.invariant.long-x, place-below c.args.q.p _ (R) _ _ c.requires (l.k - 1) (omega arith)) in
    row

pub loop-k-preserved : goal.loop-k-preserved
loop-k-preserved c =
    let R : List ℕ = c.args.ro.now in
    let place : c.index-t.result ≡ get_or (R) (c.loop-k.k - 1) 0 = c.index-t.ensures ∙ c.at.ensures.value in
    let l = c.loop-k in lowering-next c.args.q.p _ (R) _ _ c.requires _ l.x _ l.k c.take_quotient.result c.index-t.result (omega arith) (omega arith) (place) c.take_quotient.ensures l.invariant

pub returns : goal.returns
returns c =
    let l = c.loop-k in let R : List ℕ = c.args.ro.now in
    record {
      list = lowering-ends c.args.q.p _ R _ _ c.requires _ l.x l.k (omega arith) l.invariant;
      row = c.clear_row.ensures ∙ ap zeros (sym (ap length c.clear_row.ensures ∙ length-zeros (length l.work)));
    }
