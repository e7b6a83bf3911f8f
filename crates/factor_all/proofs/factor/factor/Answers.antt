-- `factor` meets its contract: the structural pivots are pairs, from which factoring goes on.
use Rattle.std.proofs.Common.{◌∙◌}
use Rattle.factor_all.proofs.StructuralStart.{columns-part, search-ready, start-long, start-from, start-leaves}
use Rattle.factor_all.proofs.factor.factor.Goals as goal

pub slice_bounds-structural_pairs-end-2 : goal.slice_bounds-structural_pairs-end-2
slice_bounds-structural_pairs-end-2 c = columns-part _ _ _ _ _ c.requires

pub structural_pairs-s-requires : goal.structural_pairs-s-requires
structural_pairs-s-requires c = search-ready _ _ _ _ _ c.requires

pub factor_from-requires : goal.factor_from-requires
factor_from-requires c = start-from _ _ _ _ _ c.requires _ _ _ _ c.structural_pairs-s.ensures c.structural_pairs-s.auto.ro c.structural_pairs-s.auto.co

pub shape_of-work : goal.shape_of-work
shape_of-work c = c.factor_from.auto.work ∙ start-long _ _ _ _ _ c.requires _ _ _ _ c.structural_pairs-s.ensures c.structural_pairs-s.auto.ro c.structural_pairs-s.auto.co

pub returns : goal.returns
returns c = start-leaves _ _ _ _ _ c.requires _ _ _ _ c.structural_pairs-s.ensures c.structural_pairs-s.auto.ro c.structural_pairs-s.auto.co _ _ c.factor_from.ensures
