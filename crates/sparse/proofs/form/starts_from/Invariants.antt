-- `starts_from` meets its contract.
use Prim.Native.Nat.{◌<◌, ◌^◌}
use mathlib.Core.Path.{◌≡◌}
use lib.ListN.{drop}
use Rattle.sparse.specs.Form.{starts_from}
use Rattle.sparse.proofs.form.starts_from.Given as goal

abbrev pub invariant-loop-i : goal.invariant-loop-i
invariant-loop-i l = (l.from < 2 ^ 32) × (starts_from l.total l.from (drop l.i l.starts) ≡ starts_from l.total 0 (drop 1 l.starts))
