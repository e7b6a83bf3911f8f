-- `keep` meets its contract: each list has one cell set. Assumes nothing.
use mathlib.Core.Path.{ap}
use Prim.Native.Nat.{ℕ}
use lib.ListN.{set}
use Rattle.text_plan.proofs.collecting.keep.Goals as goal

pub returns : goal.returns
returns c =
    let e = c.index-at.ensures in
    (ap (λ (n : ℕ). set c.args.rows.now n c.args.i) e, ap (λ (n : ℕ). set c.args.columns.now n c.args.j) e, ap (λ (n : ℕ). set c.args.values.now n c.args.v) e)
