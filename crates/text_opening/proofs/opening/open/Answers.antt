-- `open` meets its contract: the first line picks a case of `read_of`, and the second is left to `open_second`. Assumes nothing.
use mathlib.Core.Path.{refl, sym, ◌∙◌}
use lib.ListN.{length}
use borrow.Author.Tests.{leb-false, leb-true}
use Rattle.refusals.proofs.Results.{held}
use Rattle.text_opening.specs.Reading.{read_by}
use Rattle.text_opening.proofs.Moduli.{modulus-fits}
use Rattle.text_opening.proofs.FirstLines.{too_long, first-none, first_ends, first-bad, first-composite, first-ready, first-second, handed_on}
use borrow.Author.Rules.{rules}
use Rattle.text_opening.proofs.opening.open.Goals as goal

pub returns-in_err-demand : goal.returns-in_err-demand
returns-in_err-demand c =
    let text = c.args.text.now in
    handed_on text _ _ _ 2 (λ rule room. read_by rule room text) c.from_residual.ensures.1 c.in_err-demand.ensures (λ z. too_long text (leb-false _ _ z))

pub returns-then-first-l : goal.returns-then-first-l
returns-then-first-l c =
    let text = c.args.text.now in
    let short = leb-true (length text) 65536 (held _ _ _ _ c.in_ok-demand.ensures refl) in
    (first-none text short c.line_from-l.ensures c.if-first-l.true, tt)

pub next_from-second-requires : goal.next_from-second-requires
next_from-second-requires c =
    let short = leb-true (length c.args.text.now) 65536 (held _ _ _ _ c.in_ok-demand.ensures refl) in
    first_ends _ short c.line_from-l.ensures c.if-first-l.false

pub returns-in_default : goal.returns-in_default
returns-in_default c =
    let text = c.args.text.now in
    let short = leb-true (length text) 65536 (held _ _ _ _ c.in_ok-demand.ensures refl) in
    let ends = first_ends _ short c.line_from-l.ensures c.if-first-l.false in
    (first-bad text short c.line_from-l.ensures c.next_from-second.result ends c.next_from-second.ensures c.number_of.ensures c.in_default.is, tt)

pub returns-in_err-demand-2 : goal.returns-in_err-demand-2
returns-in_err-demand-2 c =
    let text = c.args.text.now in
    let short = leb-true (length text) 65536 (held _ _ _ _ c.in_ok-demand.ensures refl) in
    let ends = first_ends _ short c.line_from-l.ensures c.if-first-l.false in
    handed_on text _ _ _ 1 (λ rule room. read_by rule room text) c.from_residual-in_err-demand-2.ensures.1 c.in_err-demand-2.ensures
    (λ z. first-composite text short c.line_from-l.ensures c.next_from-second.result ends c.next_from-second.ensures c.number_of.ensures c.in-Some.is (sym c.accepts.ensures ∙ z))

pub overflow_cast-p : goal.overflow_cast-p
overflow_cast-p c = search (rules, modulus-fits _ (held _ _ _ _ c.in_ok-demand-2.ensures c.accepts.ensures))

pub open_second-requires : goal.open_second-requires
open_second-requires c =
    let text = c.args.text.now in
    let short = leb-true (length text) 65536 (held _ _ _ _ c.in_ok-demand.ensures refl) in
    let ends = first_ends _ short c.line_from-l.ensures c.if-first-l.false in
    first-second text short c.line_from-l.ensures c.next_from-second.result ends c.next_from-second.ensures c.number_of.ensures
    (held _ _ _ _ c.in_ok-demand-2.ensures c.accepts.ensures)

pub returns : goal.returns
returns c =
    let text = c.args.text.now in
    let short = leb-true (length text) 65536 (held _ _ _ _ c.in_ok-demand.ensures refl) in
    let ends = first_ends _ short c.line_from-l.ensures c.if-first-l.false in
    let accepted = held _ _ _ _ c.in_ok-demand-2.ensures c.accepts.ensures in (
      (λ rule room. first-ready text short c.line_from-l.ensures c.next_from-second.result ends c.next_from-second.ensures c.number_of.ensures c.in-Some.is accepted rule room ∙ c.open_second.ensures.0 rule room),
      c.open_second.ensures.1,
    )
