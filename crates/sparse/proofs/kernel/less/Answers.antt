-- `less` meets its contract, by the law of each arm. Assumes nothing.
use Prim.Native.Nat.{◌*◌}
use native.Mathlib.Omega.{arith}
use Rattle.sparse.proofs.Subtraction.{product-below, cell-wraps}
use Rattle.sparse.proofs.kernel.less.Goals as goal

pub returns-else-u-x : goal.returns-else-u-x
returns-else-u-x c =
    rw (c.product-u.ensures, c.product-square.ensures)
    (cell-wraps c.args.q.p c.args.x (c.args.c * c.args.v) (product-below c.requires.left c.requires.right) (omega arith))
