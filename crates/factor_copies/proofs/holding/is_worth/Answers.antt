-- `is_worth` meets its contract. Assumes nothing.
use Prim.Native.Nat.{◌-◌}
use mathlib.Core.Path.{sym}
use mathlib.Core.Bool.{true≢false}
use native.Mathlib.Omega.{arith}
use borrow.Author.Tests.{leb-true}
use Rattle.factor_copies.proofs.holding.is_worth.Goals as goal

pub returns-then-p-gt65535 : goal.returns-then-p-gt65535
returns-then-p-gt65535 c = λ e. absurd (true≢false (sym e))

pub returns-then-n-lt16 : goal.returns-then-n-lt16
returns-then-n-lt16 c = λ e. absurd (true≢false (sym e))

pub returns-then-m-low : goal.returns-then-m-low
returns-then-m-low c = λ e. absurd (true≢false (sym e))

pub returns-then-n-width : goal.returns-then-n-width
returns-then-n-width c = λ e. absurd (true≢false (sym e))

pub returns : goal.returns
returns c =
    λ e. record {
      small = omega (arith, c.if-p-gt65535.false);
      some = omega (arith, c.if-n-lt16.false);
      fits = omega (arith, c.index-low.ensures, leb-true (c.args.m - c.index-low.result) c.args.room e);
    }
