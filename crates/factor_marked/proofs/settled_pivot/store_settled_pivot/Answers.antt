-- `store_settled_pivot` meets its contract: each way out is a law of `PivotRows` of a row that is not settled. Assumes nothing.
use mathlib.Core.Path.{◌≡◌}
use mathlib.Core.Bool.{true}
use Rattle.factor_marked.proofs.SettledRows.{pivot-storable}
use Rattle.factor_marked.proofs.settled_pivot.store_settled_pivot.Goals as goal

pub store_settled-next-requires : goal.store_settled-next-requires
store_settled-next-requires c =
    let fitting : c.fits.result ≡ true = c.if-not-fits.false in
    let v = c.invert.ensures in
    pivot-storable _ _ _ _ _ _ _ _ _ _ _ _ _ c.requires _ c.fits.ensures (fitting) _ _ c.reduce-v.ensures.value v.value v.below
