-- `grow_run` meets its contract: the part that is lent has the cells of the row.
use mathlib.Core.Path.{◌≡◌, ◌∙◌}
use Prim.Native.Nat.{ℕ, ◌+◌, ◌-◌, ◌≤◌}
use native.Mathlib.Omega.{arith}
use lib.ListN.{length, get_or}
use Rattle.sparse.proofs.RunLaws.{run_inside, run-ready, run-grown}
use Rattle.sparse.proofs.growing.grow_run.Goals as goal

pub number-requires : goal.number-requires
number-requires g c = c.requires.1.some

pub overflow_add-end : goal.overflow_add-end
overflow_add-end g c =
    let place : c.index-first.result ≡ get_or (g.N.Numbers.numbers c.args.cols.now) 0 0 = c.index-first.ensures ∙ c.number.ensures in
    let room : c.index-first.result + c.count.result ≤ length c.args.work.now = omega (arith, place, c.count.ensures, run_inside _ _ _ _ _ c.requires.0 c.requires.1) in
    omega (arith, room, c.well_formed)

pub offset_bounds-work-first : goal.offset_bounds-work-first
offset_bounds-work-first g c =
    let place : c.index-first.result ≡ get_or (g.N.Numbers.numbers c.args.cols.now) 0 0 = c.index-first.ensures ∙ c.number.ensures in
    let room : c.index-first.result + c.count.result ≤ length c.args.work.now = omega (arith, place, c.count.ensures, run_inside _ _ _ _ _ c.requires.0 c.requires.1) in
    omega (arith, room, c.well_formed)

pub slice_bounds-cells-end : goal.slice_bounds-cells-end
slice_bounds-cells-end g c =
    let place : c.index-first.result ≡ get_or (g.N.Numbers.numbers c.args.cols.now) 0 0 = c.index-first.ensures ∙ c.number.ensures in
    let room : c.index-first.result + c.count.result ≤ length c.args.work.now = omega (arith, place, c.count.ensures, run_inside _ _ _ _ _ c.requires.0 c.requires.1) in
    room

pub overflow_sub-q : goal.overflow_sub-q
overflow_sub-q g c = omega (arith, c.requires.0.residue)

pub add_run-requires : goal.add_run-requires
add_run-requires g c =
    let cells : ℕ = c.index-first.result + c.count.result - c.index-first.result in
    let place : c.index-first.result ≡ get_or (g.N.Numbers.numbers c.args.cols.now) 0 0 = c.index-first.ensures ∙ c.number.ensures in
    run-ready _ _ _ _ _ c.requires.0 c.requires.1 c.index-first.result (cells) _ (place) (omega (arith, c.count.ensures)) (omega (arith, c.requires.0.residue))

pub returns : goal.returns
returns g c =
    let cells : ℕ = c.index-first.result + c.count.result - c.index-first.result in
    let place : c.index-first.result ≡ get_or (g.N.Numbers.numbers c.args.cols.now) 0 0 = c.index-first.ensures ∙ c.number.ensures in
    run-grown _ _ _ _ _ c.requires.0 c.requires.1 c.index-first.result (cells) _ (place) (omega (arith, c.count.ensures)) (omega (arith, c.requires.0.residue)) _ c.add_run.ensures
