-- `is_run` meets its contract.
use Rattle.std.proofs.Common.{ℕ, ◌-◌, sym, ap, ◌∙◌, get_or, arith}
use mathlib.Core.Bool.{true≢false}
use borrow.Author.Tests.{eqb-true}
use Rattle.sparse.proofs.growing.is_run.Goals as goal

pub returns-then-q-gt65535 : goal.returns-then-q-gt65535
returns-then-q-gt65535 g c = λ e. absurd (true≢false (sym e))

pub number-requires : goal.number-requires
number-requires g c = omega (arith, c.if-n-lt8.false, c.count-n.ensures)

pub overflow_sub-n : goal.overflow_sub-n
overflow_sub-n g c = omega arith

pub number-requires-2 : goal.number-requires-2
number-requires-2 g c = omega (arith, c.if-n-lt8.false, c.count-n.ensures)

pub returns-then-last-first : goal.returns-then-last-first
returns-then-last-first g c = λ e. absurd (true≢false (sym e))

pub returns : goal.returns
returns g c =
    let n = c.count-n in
    let first = c.index-first.ensures ∙ c.number.ensures in
    let last = c.index-last.ensures ∙ c.number-2.ensures ∙ ap (λ (k : ℕ). get_or (g.N.Numbers.numbers c.args.cols.now) (k - 1) 0) n.ensures in
    λ e.
    record {
      small = omega (arith, c.if-q-gt65535.false);
      some = omega (arith, c.if-n-lt8.false, n.ensures);
      ends = omega (arith, eqb-true (c.index-last.result - c.index-first.result) (n.result - 1) e, c.if-last-first.false, c.if-n-lt8.false, n.ensures, last, first);
    }
