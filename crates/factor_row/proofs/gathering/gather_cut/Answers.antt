-- `gather_cut` meets its contract: the row is loaded, and what is gathered of it by `gather_multiples` is the row of L. Assumes nothing.
use native.Mathlib.Omega.{arith}
use Rattle.factor_row.proofs.GatheredRows.{gather-ready, gathered-done}
use Rattle.factor_row.proofs.gathering.gather_cut.Goals as goal

pub gather_multiples-requires : goal.gather_multiples-requires
gather_multiples-requires c = gather-ready _ c.args.i c.args.l c.args.total _ _ _ _ _ _ c.requires _ c.load_row.ensures _ (omega arith) (omega (arith, c.requires.place, c.requires.room))

pub returns : goal.returns
returns c = gathered-done _ c.args.i c.args.l c.args.total _ _ _ _ _ _ c.requires _ c.load_row.ensures _ (omega arith) _ _ _ _ c.gather_multiples.ensures
