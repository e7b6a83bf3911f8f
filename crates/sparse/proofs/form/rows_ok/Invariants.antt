-- `rows_ok` meets its contract.
use mathlib.Core.Bool.{true}
use mathlib.Core.Path.{◌≡◌}
use lib.ListN.{length, drop}
use Rattle.sparse.specs.Form.{rows_from, starts_from}
use Rattle.sparse.proofs.form.rows_ok.Given as goal

abbrev pub invariant-loop-i : goal.invariant-loop-i
invariant-loop-i l = (starts_from (length l.rows.cols) l.from (drop l.i l.rows.starts) ≡ true) × (rows_from l.width l.rows.cols l.from (drop l.i l.rows.starts) ≡ rows_from l.width l.rows.cols 0 (drop 1 l.rows.starts))
