-- `number_of` meets its contract: each test picks a case of `number_in`. Assumes nothing.
use mathlib.Core.Path.{sym, ◌∙◌}
use Rattle.text_fields.proofs.Values.{number-empty, number-long, number-zero, number-lead, number-else}
use Rattle.text_fields.proofs.numbers.number_of.Goals.{then-n-eq0-via-then-n-eq0, then-n-eq0-via-else-n-eq0+then-n-gt10}
use Rattle.text_fields.proofs.numbers.number_of.Goals as goal

pub returns-then-n-eq0 : goal.returns-then-n-eq0
returns-then-n-eq0 c =
    elim c.then-n-eq0.branch [
      | then-n-eq0-via-then-n-eq0 w ↦ sym (number-empty _ w.if-n-eq0.true)
      | then-n-eq0-via-else-n-eq0+then-n-gt10 w ↦ sym (number-long _ w.if-n-gt10.true)
    ]

pub returns-then-field-ne-ZERO : goal.returns-then-field-ne-ZERO
returns-then-field-ne-ZERO c = c.digits.ensures ∙ sym (number-else _ c.if-n-eq0.false c.if-n-gt10.false c.if-field-ne-ZERO.true)

pub returns-then-n-eq1 : goal.returns-then-n-eq1
returns-then-n-eq1 c = sym (number-zero _ c.if-n-eq1.true c.if-field-ne-ZERO.false)

pub returns-else-n-eq1 : goal.returns-else-n-eq1
returns-else-n-eq1 c = sym (number-lead _ c.if-n-eq1.false c.if-field-ne-ZERO.false)
