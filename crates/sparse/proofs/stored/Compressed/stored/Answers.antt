-- `Compressed::stored` meets its contract.
use Rattle.sparse.specs.Matrix.{compressed}
use Rattle.sparse.proofs.stored.Compressed.stored.Goals as goal

pub returns : goal.returns
returns c = λ j. compressed (c.stored.ensures j) (c.stored-2.ensures j) (c.stored-3.ensures j)
