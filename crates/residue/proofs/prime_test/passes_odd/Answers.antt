-- `passes_odd` meets its contract. The loop's invariant: d is odd, and no prime below it up to the square root of p divides p. Assumes nothing.
use mathlib.Core.Path.{refl, sym}
use native.Mathlib.Omega.{arith}
use Rattle.residue.proofs.Divisors.{table-undivided, odd-undivided, undivided-prime, root-divided}
use Rattle.residue.proofs.prime_test.passes_odd.Goals as goal

pub loop-d-init : goal.loop-d-init
loop-d-init c = record { odd = refl; undivided = table-undivided _ c.requires.passed }

pub returns-then-p-d-eq0 : goal.returns-then-p-d-eq0
returns-then-p-d-eq0 c = sym (root-divided _ _ _ (omega arith) c.isqrt-d-end.ensures.square_le c.loop-d-test.true c.if-p-d-eq0.true)

pub loop-d-preserved : goal.loop-d-preserved
loop-d-preserved c =
    let i = c.loop-d.invariant in
    record { odd = omega arith; undivided = odd-undivided _ _ (omega arith) i.odd i.undivided c.if-p-d-eq0.false }

pub returns-then-p-lt66049 : goal.returns-then-p-lt66049
returns-then-p-lt66049 c =
    sym (undivided-prime _ 256 257 c.requires.two c.if-p-lt66049.true (omega arith) (table-undivided _ c.requires.passed))

pub returns-else-p-lt66049 : goal.returns-else-p-lt66049
returns-else-p-lt66049 c =
    sym (undivided-prime _ _ c.loop-d.d c.requires.two c.isqrt-d-end.ensures.next_square_gt (omega arith) c.loop-d.invariant.undivided)

pub returns-else-p-d-eq0 : goal.returns-else-p-d-eq0
returns-else-p-d-eq0 c =
    let i = c.loop-d.invariant in
    sym (undivided-prime _ _ _ c.requires.two c.isqrt-d-end.ensures.next_square_gt (omega arith) (odd-undivided _ c.loop-d.d (omega arith) i.odd i.undivided c.if-p-d-eq0.false))
