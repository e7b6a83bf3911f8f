-- `plq_time_factoring` meets its contract. Assumes nothing.
use mathlib.Core.Path.{◌∙◌}
use Rattle.sparse.specs.Matrix.{compressed}
use Rattle.sparse.specs.Set.{storage_of}
use Rattle.bench_calls.proofs.Ranked.{rank_is}
use Rattle.bench_calls.proofs.plq_time_factoring.Goals as goal

pub returns : goal.returns
returns c = c.rank_staged.ensures ∙ rank_is _ _ (compressed _ _ _) _ (storage_of _ _ (compressed _ _ _) (compressed _ _ _) _) c.factor_text-staged.ensures
