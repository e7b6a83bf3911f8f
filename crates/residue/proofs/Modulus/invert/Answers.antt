-- `Modulus::invert` meets its contract. The loop's invariant: t1 * x0 + t0 * x1 = p, and t1 * a is x1 or its negative modulo p. The measure is x1.
-- Assumes nothing.
use Prim.Native.Nat.{◌+◌, ◌-◌, ◌*◌, ◌/◌, ◌%◌, ◌<◌}
use mathlib.Core.Path.{◌≡◌}
use native.Mathlib.Nat.{mod-lt, mod-add-div'}
use native.Mathlib.Omega.{arith}
use Rattle.residue.proofs.Inverse.{euclid-starts, euclid-turn, euclid-even, euclid-odd}
use Rattle.residue.proofs.Modulus.invert.Goals as goal

pub loop-x1-init : goal.loop-x1-init
loop-x1-init c = euclid-starts c.requires

pub loop-x1-preserved : goal.loop-x1-preserved
loop-x1-preserved c =
    let whole : let l = c.loop-x1 in l.x0 % l.x1 + l.x0 / l.x1 * l.x1 ≡ l.x0 = let l = c.loop-x1 in mod-add-div' l.x0 l.x1 in
    let rest : let l = c.loop-x1 in l.x0 - l.x0 / l.x1 * l.x1 + l.x0 / l.x1 * l.x1 ≡ l.x0 = omega (arith, whole) in
    let low : let l = c.loop-x1 in l.x0 - l.x0 / l.x1 * l.x1 < l.x1 = let l = c.loop-x1 in omega (arith, whole, mod-lt l.x0 l.invariant.nonzero) in
    euclid-turn c.loop-x1.invariant _ _ (rest) (low) c.requires.prime c.loop-x1-test.true

pub returns-then-odd : goal.returns-then-odd
returns-then-odd c = euclid-odd c.requires.prime.two c.loop-x1-test.false c.if-odd.true c.loop-x1.invariant

pub returns-else-odd : goal.returns-else-odd
returns-else-odd c = euclid-even c.requires.prime.two c.loop-x1-test.false c.if-odd.false c.loop-x1.invariant
