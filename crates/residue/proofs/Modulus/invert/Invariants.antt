-- `Modulus::invert` meets its contract. The loop's invariant: t1 * x0 + t0 * x1 = p, and t1 * a is x1 or its negative modulo p. The measure is x1.
-- Assumes nothing.
use Rattle.residue.proofs.Inverse.{Euclid}
use Rattle.residue.proofs.Modulus.invert.Given as goal

abbrev pub invariant-loop-x1 : goal.invariant-loop-x1
invariant-loop-x1 l = Euclid l.p l.a l.odd l.x0 l.x1 l.t0 l.t1

abbrev pub decreases-loop-x1 : goal.decreases-loop-x1
decreases-loop-x1 l = l.x1
