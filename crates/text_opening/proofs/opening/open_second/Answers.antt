-- `open_second` meets its contract: the second line picks a case of `from_second`. Assumes nothing.
use borrow.Author.Tests.{leb-false, leb-true}
use Rattle.refusals.proofs.Results.{held}
use Rattle.text_opening.specs.Reading.{from_second}
use Rattle.text_fields.specs.Pieces.{pieces}
use lib.ListN.{drop}
use mathlib.Core.Path.{refl}
use Rattle.text_opening.proofs.FirstLines.{second_none, second-ends, second-bad, second-n, second-m, second-ready, second-limits, handed_on}
use Rattle.text_opening.proofs.opening.open_second.Goals as goal

pub returns-then-second-l : goal.returns-then-second-l
returns-then-second-l c = (second_none c.args.text.now c.args.second c.args.modulus.p c.requires c.line_from-l.ensures c.if-second-l.true, tt)

pub next_from-third-requires : goal.next_from-third-requires
next_from-third-requires c = second-ends c.args.text.now c.args.second c.args.modulus.p c.requires c.line_from-l.ensures c.if-second-l.false

pub returns-in_default : goal.returns-in_default
returns-in_default c =
    let a = c.args in
    let ends = second-ends a.text.now a.second a.modulus.p c.requires c.line_from-l.ensures c.if-second-l.false in
    (second-bad a.text.now a.second a.modulus.p c.requires c.line_from-l.ensures c.next_from-third.result ends c.next_from-third.ensures c.header_of.ensures c.in_default.is, tt)

pub returns-in_err-demand : goal.returns-in_err-demand
returns-in_err-demand c =
    let a = c.args in
    let ends = second-ends a.text.now a.second a.modulus.p c.requires c.line_from-l.ensures c.if-second-l.false in
    handed_on a.text.now _ _ _ 2 (λ rule room. from_second rule a.modulus.p room (pieces 10 (drop a.second.at a.text.now))) c.from_residual.ensures.1 c.in_err-demand.ensures
    (λ z. second-n a.text.now a.second a.modulus.p c.requires c.line_from-l.ensures c.next_from-third.result ends c.next_from-third.ensures c.header_of.ensures c.in-Some.is (leb-false _ _ z))

pub returns-in_err-demand-2 : goal.returns-in_err-demand-2
returns-in_err-demand-2 c =
    let a = c.args in
    let ends = second-ends a.text.now a.second a.modulus.p c.requires c.line_from-l.ensures c.if-second-l.false in
    let n = leb-true c.in-Some.field-0.n 2048 (held _ _ _ _ c.in_ok-demand.ensures refl) in
    handed_on a.text.now _ _ _ 2 (λ rule room. from_second rule a.modulus.p room (pieces 10 (drop a.second.at a.text.now))) c.from_residual-in_err-demand-2.ensures.1 c.in_err-demand-2.ensures
    (λ z. second-m a.text.now a.second a.modulus.p c.requires c.line_from-l.ensures c.next_from-third.result ends c.next_from-third.ensures c.header_of.ensures c.in-Some.is n (leb-false _ _ z))

pub returns : goal.returns
returns c =
    let a = c.args in
    let ends = second-ends a.text.now a.second a.modulus.p c.requires c.line_from-l.ensures c.if-second-l.false in
    let n = leb-true c.in-Some.field-0.n 2048 (held _ _ _ _ c.in_ok-demand.ensures refl) in
    let m = leb-true c.in-Some.field-0.m 2048 (held _ _ _ _ c.in_ok-demand-2.ensures refl) in (
      second-ready a.text.now a.second a.modulus.p c.requires c.line_from-l.ensures c.next_from-third.result ends c.next_from-third.ensures c.header_of.ensures n m c.in-Some.is,
      second-limits a.text.now a.second a.modulus.p c.requires c.line_from-l.ensures c.next_from-third.result ends c.next_from-third.ensures c.header_of.ensures n m,
    )
