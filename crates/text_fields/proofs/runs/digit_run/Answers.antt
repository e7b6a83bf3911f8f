-- `digit_run` meets its contract. The invariant: the piece from `from` on is the digits read and the piece from `end` on. Assumes nothing.
use mathlib.Core.Path.{subst, sym}
use Prim.Native.Nat.{ℕ, ◌+◌, ◌*◌}
use native.Mathlib.Omega.{arith}
use Rattle.text_fields.proofs.RunLaws.{Reading, reading-digit}
use Rattle.text_fields.proofs.runs.digit_run.Goals as goal

pub loop-end-preserved : goal.loop-end-preserved
loop-end-preserved c =
    let at = c.loop-end in
    let a = c.args in
    let digit = c.if-not-is_ascii_digit.ensures.cases in (
      at.invariant.0,
      subst (λ (d : ℕ). Reading a.line.now a.from (at.value * 10 + d) (at.end + 1)) (sym c.from.ensures)
          (reading-digit _ _ _ _ at.invariant.1 (omega (arith, at.invariant.0.inside)) (omega arith, omega arith)),
    )
