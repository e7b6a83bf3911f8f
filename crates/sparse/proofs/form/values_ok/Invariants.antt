-- `values_ok` meets its contract.
use mathlib.Core.Path.{◌≡◌}
use lib.ListN.{drop}
use Rattle.sparse.specs.Form.{values_ok}
use Rattle.sparse.proofs.form.values_ok.Given as goal

abbrev pub invariant-loop-i : goal.invariant-loop-i
invariant-loop-i l = (values_ok l.p (drop l.i l.vals) ≡ values_ok l.p l.vals)
