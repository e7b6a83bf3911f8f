-- `place_past` meets its contract: the line and its line feed are passed, and the number is one higher. Assumes nothing.
use native.Mathlib.Omega.{arith}
use Rattle.text_lines.proofs.place_past.Goals as goal

pub returns : goal.returns
returns c = (omega arith, omega arith)
