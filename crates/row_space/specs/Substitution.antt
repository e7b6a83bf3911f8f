-- The two substitutions that give x and z from L and U.
--   put z c v               z with v at place c
--   less p d v row          d less v times a row, modulo p
--   quotient p L k d        the value that row k of L gets: d[k] divided by L[k][k]
--   back_l p L k d           v with v L = d on the first k positions, from row k - 1 of L down
--   through_l p n r R L d    x of n cells by substitution through r rows of L: that v, each value at the place that R gives its row
--   missing p m row z       what row z lacks to be 0 modulo p
--   back_u p m C U k z       z with its pivot cells filled so that U z = 0 on the first k rows, from row k - 1 of U down
--   through_u p m r C U z    z of m cells by substitution through r rows of U
use Rattle.std.specs.Prelude.{ℕ, zero, suc, ◌+◌, ◌-◌, ◌*◌, ◌%◌, cond, List, eqb}
use Rattle.lists.specs.Tabulate.{tabulate}
use Rattle.algebra.specs.Sum.{dot, place}
use Rattle.algebra.specs.Matrix.{Vector, Matrix}
use Rattle.residue.specs.Inverse.{inv_mod}

abbrev pub put : Vector → ℕ → ℕ → Vector
put z c v = λ t. cond (eqb t c) v (z t)

abbrev pub less : ℕ → Vector → ℕ → Vector → Vector
less p d v row = λ l. (d l + (p - v) * row l) % p

abbrev pub quotient : ℕ → Matrix → ℕ → Vector → ℕ
quotient p L k d = (d k * inv_mod p (L k k)) % p

unfoldable pub back_l : ℕ → Matrix → ℕ → Vector → Vector
back_l p L zero d = λ i. 0
back_l p L (suc k) d = put (back_l p L k (less p d (quotient p L k d) (L k))) k (quotient p L k d)

abbrev pub through_l : (p n r : ℕ) (R : Vector) (L : Matrix) (d : Vector) → List ℕ
through_l p n r R L d = tabulate n (place r R (back_l p L r d))

abbrev pub missing : ℕ → ℕ → Vector → Vector → ℕ
missing p m row z = (p - dot m row z % p) % p

unfoldable pub back_u : ℕ → ℕ → Vector → Matrix → ℕ → Vector → Vector
back_u p m C U zero z = z
back_u p m C U (suc k) z = back_u p m C U k (put z (C k) (missing p m (U k) z))

abbrev pub through_u : (p m r : ℕ) (C : Vector) (U : Matrix) (z : Vector) → List ℕ
through_u p m r C U z = tabulate m (back_u p m C U r z)
