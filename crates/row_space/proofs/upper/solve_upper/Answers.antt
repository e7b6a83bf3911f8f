-- `solve_upper` meets its contract; the loop's invariant is `Filling`: the pivot cells of the rows from k on are filled. Assumes nothing.
use Prim.Native.Nat.{ℕ, ◌-◌, ◌<◌}
use mathlib.Core.Path.{◌≡◌, ◌∙◌}
use mathlib.Core.List.{List}
use native.Mathlib.Omega.{arith}
use lib.ListN.{length, get_or}
use Rattle.row_space.proofs.UpperLoop.{filling-turn, filling-ends}
use Rattle.row_space.proofs.upper.solve_upper.Goals as goal

pub loop-k-preserved : goal.loop-k-preserved
loop-k-preserved c =
    let C : List ℕ = c.args.co.now in
    let place : c.index-t.result ≡ get_or (C) (c.loop-k.k - 1) 0 = c.index-t.ensures ∙ c.at.ensures.value in
    let column : c.index-t.result < length c.loop-k.z = let l = c.loop-k in
    omega (arith, place, l.invariant.long, c.requires.places (l.k - 1) (omega (arith, c.requires.order))) in
    let l = c.loop-k in
    filling-turn c.args.q.p _ _ _ _ l.z l.k c.missing_value.result c.index-t.result c.requires.positive (omega arith) (place) (column) c.missing_value.ensures l.invariant

pub returns : goal.returns
returns c = let l = c.loop-k in filling-ends _ _ _ _ _ l.z l.k (omega arith) l.invariant
