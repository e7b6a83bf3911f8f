-- `add_product` meets its contract, by the law of each arm. Assumes nothing.
use Prim.Native.Nat.{◌*◌}
use Rattle.sparse.proofs.Subtraction.{product-below}
use Rattle.sparse.proofs.DenseSteps.{cell-over}
use Rattle.sparse.proofs.dense.add_product.Goals as goal

pub returns-else-s-rest : goal.returns-else-s-rest
returns-else-s-rest c = cell-over c.args.q.p c.args.s (c.args.v * c.args.x) c.requires.0 (product-below c.requires.1.left c.requires.1.right) c.if-s-rest.false
