-- `digits` meets its contract. The invariant: the whole field says what `v` and the digits that are left say. Assumes nothing.
use mathlib.Core.Path.{ap, ◌∙◌, sym}
use Prim.Native.Nat.{ℕ, ◌+◌, ◌*◌}
use native.Mathlib.Omega.{arith}
use lib.ListN.{drop}
use Rattle.text_fields.specs.Number.{digits_from}
use Rattle.text_fields.proofs.Values.{digits-stop, digits_more, digits-none, ten-more}
use Rattle.text_fields.proofs.numbers.digits.Goals as goal

pub returns-then-not-is_ascii_digit : goal.returns-then-not-is_ascii_digit
returns-then-not-is_ascii_digit c =
    let at = c.loop-b in
    let other = c.if-not-is_ascii_digit.ensures.cases in
    sym (at.invariant.1 ∙ digits-stop at.v c.args.field.now at.b-index (omega arith) (λ d. omega arith))

pub loop-b-preserved : goal.loop-b-preserved
loop-b-preserved c =
    let l = c.args.field.now in
    let at = c.loop-b in
    let digit = c.if-not-is_ascii_digit.ensures.cases in (
      ten-more at.v c.from.result at.b-index at.invariant.0 (omega arith),
      at.invariant.1 ∙ digits_more at.v l at.b-index (omega arith) (omega arith, omega arith) ∙ ap (λ (d : ℕ). digits_from (at.v * 10 + d) (drop (at.b-index + 1) l)) (sym c.from.ensures),
    )

pub returns : goal.returns
returns c = let at = c.loop-b in sym (at.invariant.1 ∙ digits-none at.v c.args.field.now at.b-index (omega arith))
