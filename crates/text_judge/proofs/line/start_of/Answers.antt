-- `start_of` meets its contract: each field that is read is a piece of the line, and a number. Assumes nothing.
use mathlib.Core.Path.{sym, subst}
use Prim.Native.Nat.{◌+◌}
use native.Mathlib.Omega.{arith}
use Rattle.text_fields.proofs.RunLaws.{field-said, field-unsaid}
use Rattle.text_judge.specs.Starts.{Starts}
use Rattle.text_judge.proofs.StartLaws.{no-first, first-last, first-inside, no_second, second-last, second-inside, both}
use Rattle.text_judge.proofs.line.start_of.Goals as goal

pub returns-in_err-first : goal.returns-in_err-first
returns-in_err-first c = subst (Starts _) (sym c.from_residual.ensures) (no-first _ (field-unsaid 32 _ 0 (sym c.in_err-first.ensures)))

pub returns-then-first-line : goal.returns-then-first-line
returns-then-first-line c =
    let first = field-said 32 c.args.line.now 0 _ (sym c.in_ok-first.ensures) in
    first-last _ _ _ first c.if-first-line.true

pub overflow_add-first : goal.overflow_add-first
overflow_add-first c =
    let first = field-said 32 c.args.line.now 0 _ (sym c.in_ok-first.ensures) in
    omega (arith, first-inside _ _ _ first c.if-first-line.false)

pub field_from-requires-2 : goal.field_from-requires-2
field_from-requires-2 c =
    let first = field-said 32 c.args.line.now 0 _ (sym c.in_ok-first.ensures) in
    (first-inside _ _ _ first c.if-first-line.false, omega arith)

pub returns-in_err-second : goal.returns-in_err-second
returns-in_err-second c =
    let first = field-said 32 c.args.line.now 0 _ (sym c.in_ok-first.ensures) in
    subst (Starts _) (sym c.from_residual-in_err-second.ensures)
    (no_second _ _ _ first c.if-first-line.false (field-unsaid 32 _ (c.in_ok-first.first.end + 1) (sym c.in_err-second.ensures)))

pub returns-then-second-line : goal.returns-then-second-line
returns-then-second-line c =
    let first = field-said 32 c.args.line.now 0 _ (sym c.in_ok-first.ensures) in
    let second = field-said 32 c.args.line.now (c.in_ok-first.first.end + 1) _ (sym c.in_ok-second.ensures) in
    second-last _ _ _ first c.if-first-line.false _ _ second c.if-second-line.true

pub overflow_add-result : goal.overflow_add-result
overflow_add-result c =
    let first = field-said 32 c.args.line.now 0 _ (sym c.in_ok-first.ensures) in
    let second = field-said 32 c.args.line.now (c.in_ok-first.first.end + 1) _ (sym c.in_ok-second.ensures) in
    omega (arith, second-inside _ _ _ first c.if-first-line.false _ _ second c.if-second-line.false)

pub returns : goal.returns
returns c =
    let first = field-said 32 c.args.line.now 0 _ (sym c.in_ok-first.ensures) in
    let second = field-said 32 c.args.line.now (c.in_ok-first.first.end + 1) _ (sym c.in_ok-second.ensures) in
    both _ _ _ first c.if-first-line.false _ _ second c.if-second-line.false
