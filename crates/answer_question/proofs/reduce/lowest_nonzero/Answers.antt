-- `lowest_nonzero` meets its contract: it is the first cell that stands for another residue than 0. Assumes nothing.
use Rattle.row_space.specs.Solve.{lowest_of}
use Rattle.answer_question.proofs.reduce.lowest_nonzero.Goals as goal

pub returns : goal.returns
unfolding lowest_of
returns c = c.first_nonzero.ensures
