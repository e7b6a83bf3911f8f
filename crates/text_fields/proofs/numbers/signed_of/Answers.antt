-- `signed_of` meets its contract: the first byte picks a case of `signed_of`. Assumes nothing.
use mathlib.Core.Path.{◌≡◌, sym, ap, ◌∙◌}
use borrow.Author.Tests.{eqb-true, eqb-false, eq-eqb, ne_eqb}
use Rattle.std.specs.Prelude.{Some}
use Rattle.text_fields.specs.Number.{negative, positive, number_in, signed_of}
use Rattle.text_fields.proofs.Values.{signed-empty, signed-minus, signed-plus, take_rest}
use Rattle.text_fields.proofs.numbers.signed_of.Goals as goal

pub returns-then-is_empty : goal.returns-then-is_empty
returns-then-is_empty c = sym (signed-empty _ (eqb-true _ 0 (sym c.if-is_empty.ensures)))

pub returns-in_err-number_of : goal.returns-in_err-number_of
returns-in_err-number_of c =
    c.from_residual.ensures ∙ ap positive c.in_err-number_of.ensures ∙ sym (signed-plus _ (eqb-false _ 0 (sym c.if-is_empty.ensures)) c.if-field-ne-MINUS.true)

pub returns-then-field-ne-MINUS : goal.returns-then-field-ne-MINUS
returns-then-field-ne-MINUS c = ap positive c.in_ok-number_of.ensures ∙ sym (signed-plus _ (eqb-false _ 0 (sym c.if-is_empty.ensures)) c.if-field-ne-MINUS.true)

pub returns-in_err-n : goal.returns-in_err-n
returns-in_err-n c =
    let l = c.args.field.now in
    c.from_residual-in_err-n.ensures ∙ ap negative (c.in_err-n.ensures ∙ ap number_in (take_rest 1 l)) ∙ sym (signed-minus l (eqb-false _ 0 (sym c.if-is_empty.ensures)) c.if-field-ne-MINUS.false)

pub returns-then-n-eq0 : goal.returns-then-n-eq0
returns-then-n-eq0 c =
    let l = c.args.field.now in
    let said : negative (Some c.in_ok-n.n) ≡ signed_of l =
    ap negative (c.in_ok-n.ensures ∙ ap number_in (take_rest 1 l)) ∙ sym (signed-minus l (eqb-false _ 0 (sym c.if-is_empty.ensures)) c.if-field-ne-MINUS.false) in
    rw (eq-eqb c.in_ok-n.n 0 c.if-n-eq0.true) at said

pub returns-else-n-eq0 : goal.returns-else-n-eq0
returns-else-n-eq0 c =
    let l = c.args.field.now in
    let said : negative (Some c.in_ok-n.n) ≡ signed_of l =
    ap negative (c.in_ok-n.ensures ∙ ap number_in (take_rest 1 l)) ∙ sym (signed-minus l (eqb-false _ 0 (sym c.if-is_empty.ensures)) c.if-field-ne-MINUS.false) in
    rw (ne_eqb c.in_ok-n.n 0 c.if-n-eq0.false) at said
