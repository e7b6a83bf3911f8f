-- `header_of` meets its contract: its fields are the parts of the line between the spaces. Assumes nothing.
use mathlib.Core.Path.{◌≡◌, sym, ap, ◌∙◌}
use mathlib.Core.Bool.{true, false}
use lib.ListN.{take, drop}
use Prim.Native.Nat.{◌+◌, ◌-◌}
use Rattle.text_fields.specs.Number.{number_in}
use Rattle.text_fields.proofs.Values.{take_rest}
use Rattle.text_judge.specs.Line.{header_in, header_of, header_with, is_m}
use Rattle.text_judge.proofs.header.header_of.Goals as goal

pub returns-in_err-first : goal.returns-in_err-first
unfolding header_of
returns-in_err-first c = c.from_residual.ensures ∙ sym (ap header_in c.in_err-first.ensures.fields)

pub returns-in_err-n : goal.returns-in_err-n
unfolding header_of
returns-in_err-n c =
    let at = c.in_ok-first.field-0 in
    let l = c.args.line.now in
    c.from_residual-in_err-n.ensures
    ∙ (λ k. header_with (c.in_err-n.ensures k) (number_in (take (at.second - (at.first + 1)) (drop (at.first + 1) l))) (is_m (drop (at.second + 1) l)))
    ∙ sym (ap header_in c.in_ok-first.ensures.fields)

pub returns-in_err-m : goal.returns-in_err-m
unfolding header_of
returns-in_err-m c =
    c.from_residual-in_err-m.ensures
    ∙ (λ k. header_with (c.in_ok-n.ensures k) (c.in_err-m.ensures k) (is_m (drop (c.in_ok-first.field-0.second + 1) c.args.line.now)))
    ∙ sym (ap header_in c.in_ok-first.ensures.fields)

pub returns-then-is_m : goal.returns-then-is_m
unfolding header_of
returns-then-is_m c =
    let l = c.args.line.now in
    let letter : true ≡ is_m (drop (c.in_ok-first.field-0.second + 1) l) = sym c.if-is_m.true ∙ c.is_m.ensures ∙ ap is_m (take_rest _ l) in
    (λ k. header_with (c.in_ok-n.ensures k) (c.in_ok-m.ensures k) (letter k)) ∙ sym (ap header_in c.in_ok-first.ensures.fields)

pub returns-else-is_m : goal.returns-else-is_m
unfolding header_of
returns-else-is_m c =
    let l = c.args.line.now in
    let letter : false ≡ is_m (drop (c.in_ok-first.field-0.second + 1) l) = sym c.if-is_m.false ∙ c.is_m.ensures ∙ ap is_m (take_rest _ l) in
    (λ k. header_with (c.in_ok-n.ensures k) (c.in_ok-m.ensures k) (letter k)) ∙ sym (ap header_in c.in_ok-first.ensures.fields)
