-- `plq_time_factor` meets its contract.
use Rattle.bench_stored.proofs.plq_time_factor.Goals as goal

pub returns : goal.returns
returns c = record { factored = _; left = c.factor-factored.ensures; rank = c.rank_of.ensures }
