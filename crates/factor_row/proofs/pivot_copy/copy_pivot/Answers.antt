-- `copy_pivot` meets its contract: each way out is a law of `PairRows`. Assumes nothing.
use Prim.Native.Nat.{◌+◌, ◌≤◌}
use mathlib.Core.Path.{◌≡◌, refl}
use mathlib.Core.Bool.{true}
use native.Mathlib.Omega.{arith}
use lib.ListN.{length}
use Rattle.factor_row.proofs.PairRows.{lookup-ready, value-invertible, copy-over, one_entry, copy-ready, copy_done}
use Rattle.factor_row.proofs.pivot_copy.copy_pivot.Goals as goal

pub fits-requires : goal.fits-requires
fits-requires c = (c.requires.lists.L-room, c.requires.lists.U-room)

pub returns-then-not-fits : goal.returns-then-not-fits
returns-then-not-fits c =
    let a = c.args in
    (refl, copy-over _ _ _ _ _ _ _ _ _ _ _ _ _ c.requires _ c.fits.ensures c.if-not-fits.true a.at a.l a.total)

pub value_at-v-requires : goal.value_at-v-requires
value_at-v-requires c = lookup-ready _ _ _ _ _ _ _ _ _ _ _ _ _ c.requires

pub bounds-lc-l : goal.bounds-lc-l
bounds-lc-l c =
    let fitting : c.fits.result ≡ true = c.if-not-fits.false in
    let room : c.args.total + 1 ≤ length c.args.lc.now = one_entry _ _ _ _ _ _ _ _ _ _ _ _ _ c.requires _ c.fits.ensures (fitting) in
    omega (arith, c.requires.lists.L-place, room)

pub bounds-lv-l : goal.bounds-lv-l
bounds-lv-l c =
    let fitting : c.fits.result ≡ true = c.if-not-fits.false in
    let room : c.args.total + 1 ≤ length c.args.lc.now = one_entry _ _ _ _ _ _ _ _ _ _ _ _ _ c.requires _ c.fits.ensures (fitting) in
    omega (arith, c.requires.lists.L-place, c.requires.lists.L-paired, room)

pub invert-requires : goal.invert-requires
invert-requires c = value-invertible _ _ _ _ _ _ _ _ _ _ _ _ _ c.requires _ c.value_at-v.ensures

pub copy_scaled-next-requires : goal.copy_scaled-next-requires
copy_scaled-next-requires c =
    let fitting : c.fits.result ≡ true = c.if-not-fits.false in
    copy-ready _ _ _ _ _ _ _ _ _ _ _ _ _ c.requires _ c.fits.ensures (fitting) _ c.invert.ensures.below

pub overflow_add-result : goal.overflow_add-result
overflow_add-result c =
    let fitting : c.fits.result ≡ true = c.if-not-fits.false in
    let room : c.args.total + 1 ≤ length c.args.lc.now = one_entry _ _ _ _ _ _ _ _ _ _ _ _ _ c.requires _ c.fits.ensures (fitting) in
    omega (arith, c.requires.lists.L-place, room, c.well_formed)

pub overflow_add-result-2 : goal.overflow_add-result-2
overflow_add-result-2 c =
    let fitting : c.fits.result ≡ true = c.if-not-fits.false in
    let room : c.args.total + 1 ≤ length c.args.lc.now = one_entry _ _ _ _ _ _ _ _ _ _ _ _ _ c.requires _ c.fits.ensures (fitting) in
    omega (arith, room, c.well_formed)

pub returns : goal.returns
returns c =
    let fitting : c.fits.result ≡ true = c.if-not-fits.false in
    (refl, copy_done _ _ _ _ _ _ _ _ _ _ _ _ _ c.requires _ c.fits.ensures (fitting) _ _ c.value_at-v.ensures c.invert.ensures.value _ _ _ c.copy_scaled-next.ensures)
