-- The two substitutions that give a setting from slot values: through L from its first row down, and through U from its last row up.
--   lacking p k row t d        d less the row times t, whose first k values count, modulo p
--   forward p L k d            t with L t = d on the first k rows, from row 0 of L down: t[k] = (d[k] - the sum over l < k of L[k][l] t[l]) / L[k][k]
--   settle p m C U t k s       s with its pivot cells filled so that U s = t on the first k rows, from row k - 1 of U up
use Rattle.std.specs.Prelude.{ℕ, zero, suc, ◌+◌, ◌*◌, ◌%◌}
use Rattle.algebra.specs.Matrix.{Vector, Matrix}
use Rattle.residue.specs.Inverse.{inv_mod}
use Rattle.row_space.specs.Substitution.{put, missing}

abbrev pub lacking : (p k : ℕ) (row t : Vector) → ℕ → ℕ
lacking p k row t d = (d + missing p k row t) % p

unfoldable pub forward : ℕ → Matrix → ℕ → Vector → Vector
forward p L zero d = λ k. 0
forward p L (suc k) d = put (forward p L k d) k ((lacking p k (L k) (forward p L k d) (d k) * inv_mod p (L k k)) % p)

unfoldable pub settle : ℕ → ℕ → Vector → Matrix → Vector → ℕ → Vector → Vector
settle p m C U t zero s = s
settle p m C U t (suc k) s = settle p m C U t k (put s (C k) (lacking p m (U k) s (t k)))
