-- What the call that factors a stored plan returns and leaves.
--   unless_refused o g    the refusal that o is, else g
--   factor_call_of ..      9, 1, 2, 8, then what factoring gives: 7 at a row, or the factors
use Rattle.std.specs.Prelude.{ℕ}
use Rattle.refusals.specs.Outcome.{Outcome}
use Rattle.refusals.specs.Outcome.{Passed, Refused}
use Rattle.sparse.specs.Matrix.{Compressed}
use Rattle.factor_all.specs.Factorization.{Factorization, refusal, factoring}
use Rattle.call_factor.specs.Lengths.{lent_outcome}
use Rattle.call_factor.specs.declared.Lent.{Lent}

abbrev pub unless_refused : Outcome → Factorization → Factorization
unless_refused Passed g = g
unless_refused (Refused number detail) g = refusal number detail

unfoldable pub factor_call_of : (p n m : ℕ) → Compressed → Lent → Factorization
factor_call_of p n m A l = unless_refused (lent_outcome p n m A l) (factoring p n m A l.lc l.uc)
