-- `accepts` meets its contract: a number past 32 bits is no modulus. Assumes nothing.
use mathlib.Core.Path.{sym}
use Rattle.text_opening.proofs.Moduli.{not-modulus}
use Rattle.text_opening.proofs.opening.accepts.Goals as goal

pub returns-then-p-gt4294967295 : goal.returns-then-p-gt4294967295
returns-then-p-gt4294967295 c = sym (not-modulus _ c.if-p-gt4294967295.true)
