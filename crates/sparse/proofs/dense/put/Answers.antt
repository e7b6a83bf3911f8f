-- `put` meets its contract. Assumes nothing.
use native.Mathlib.Omega.{arith}
use mathlib.Core.List.{[]}
use Rattle.sparse.proofs.Nonzeros.{nonzeros-one, stored-zero, stored_one}
use Rattle.sparse.proofs.dense.put.Goals as goal

pub returns-then-v-eq0 : goal.returns-then-v-eq0
returns-then-v-eq0 c = let a = c.args in stored-zero a.j a.at a.v _ _ c.if-v-eq0.true

pub bounds-cols-at : goal.bounds-cols-at
bounds-cols-at c = omega (arith, nonzeros-one c.args.v [] c.if-v-eq0.false)

pub bounds-vals-at : goal.bounds-vals-at
bounds-vals-at c = omega (arith, nonzeros-one c.args.v [] c.if-v-eq0.false)

pub returns : goal.returns
returns c = let a = c.args in stored_one a.j a.at a.v _ _ c.if-v-eq0.false
