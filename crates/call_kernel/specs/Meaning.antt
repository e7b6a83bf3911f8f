-- What the settings that a call left mean.
--   SettingsRight p n m A s l    for the set s that passed, the list l, as it was left:
--     count, rising, free        the free columns are the m - r columns that are no pivot columns, rising
--     long, residues             m (m - r) residues
--     block                      block l is in the kernel, 1 at free column l, 0 at the other free columns
--     only                       no other list is so
--     alike                      two settings, of any numbers, give the same slots exactly if one is the other and a combination of these
--     one, unique                and then by one combination only: its factors are the differences at the free columns, and two such combinations agree
use Rattle.std.specs.Prelude.{ℕ, ◌+◌, ◌-◌, ◌*◌, ◌<◌, ◌≡◌, ◌↔◌, true, List, length, get_or}
use Rattle.lists.specs.Tests.{among}
use Rattle.algebra.specs.Congruence.{◌≈⟨◌⟩◌}
use Rattle.algebra.specs.Matrix.{Vector, vector}
use Rattle.algebra.specs.Answer.{ClosedAnswer}
use Rattle.sparse.specs.Row.{Below}
use Rattle.sparse.specs.Matrix.{Compressed, matrix}
use Rattle.sparse.specs.Set.{Set}
use Rattle.row_space.specs.Kernel.{free_columns, GiveAlike, Shifted}

pub record SettingsRight (p n m : ℕ) (A : Compressed) (s : Set) (basis : List ℕ) : Type 0 where
  pub count : length (free_columns m s) ≡ m - s.r
  pub rising : (a b : ℕ) → a < b → b < m - s.r → get_or (free_columns m s) a 0 < get_or (free_columns m s) b 0
  pub free : (c : ℕ) → c < m → (among c (free_columns m s) ≡ true) ↔ ((l : ℕ) → l < s.r → ¬ (vector s.C l ≡ c))
  pub long : length basis ≡ m * (m - s.r)
  pub residues : Below p basis
  pub block : (l : ℕ) → l < m - s.r → ClosedAnswer p n m s.r (matrix A) (vector s.C) (get_or (free_columns m s) l 0) (λ j. get_or basis (l * m + j) 0)
  pub only : (l : ℕ) → l < m - s.r → (z : List ℕ) → length z ≡ m → ClosedAnswer p n m s.r (matrix A) (vector s.C) (get_or (free_columns m s) l 0) (vector z)
      → (j : ℕ) → j < m → get_or z j 0 ≡ get_or basis (l * m + j) 0
  pub alike : (a b : Vector) → GiveAlike p n m (matrix A) a b ↔ ((c : Vector) × Shifted p m (m - s.r) basis c a b)
  pub one : (a b c : Vector) → Shifted p m (m - s.r) basis c a b → (l : ℕ) → l < m - s.r
      → c l + b (get_or (free_columns m s) l 0) ≈⟨ p ⟩ a (get_or (free_columns m s) l 0)
  pub unique : (a b c c' : Vector) → Shifted p m (m - s.r) basis c a b → Shifted p m (m - s.r) basis c' a b → (l : ℕ) → l < m - s.r → c l ≈⟨ p ⟩ c' l
