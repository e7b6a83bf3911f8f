-- The dense working row. A cell stands for its residue modulo p and is reduced only when it is read: below p * p, or below a bound that
-- grows with each row that is taken away.
--   Cell p u x r              r is a cell below p * p that stands for x less u
--   Lessened p u x r          the same, where the cell x itself is left if u is 0
--   Lowered p u x r           r stands for x less u, is x if u is 0, and is below each bound of p * p or more that x is below
--   SubtractedTo p b f w₀ w   w is w₀ with f j taken away from each cell j, modulo p, its cells below b; where f j is 0 the cell is left as it is
--   Subtracted p f w₀ w       the same, below p * p
--   GrownBy p g f w₀ w        the same, below b + g where the cells were below b, for each b of p * p or more
--   growth p                  how much taking a row away may add to the bound of the cells: nothing for a p of 2 ^ 16 or more
--   RowReady ..               what taking a sparse row away from the working row needs
--   GrowReady ..              what it needs where the cells may grow: c is not 0, and there is room in 64 bits
--   MatrixReady ..            what taking row k of a stored matrix away needs
--   GrowMatrixReady ..        what it needs where the cells may grow
use Rattle.std.specs.Prelude.{ℕ, ◌+◌, ◌-◌, ◌*◌, ◌^◌, ◌≤◌, ◌<◌, ◌≡◌, true, cond, List, ltb, length, get_or}
use Rattle.algebra.specs.Congruence.{◌≈⟨◌⟩◌}
use Rattle.sparse.specs.Row.{Below, Row}
use Rattle.sparse.specs.Matrix.{Compressed, form}

pub record Cell (p u x r : ℕ) : Type 0 where
  pub below : r < p * p
  pub less : r + u ≈⟨ p ⟩ x

pub record Lessened (p u x r : ℕ) : Type 0 where
  pub cell : Cell p u x r
  pub still : u ≡ 0 → r ≡ x

pub record Lowered (p u x r : ℕ) : Type 0 where
  pub within : (b : ℕ) → p * p ≤ b → x < b → r < b
  pub less : r + u ≈⟨ p ⟩ x
  pub still : u ≡ 0 → r ≡ x

pub record SubtractedTo (p b : ℕ) (f : ℕ → ℕ) (w₀ w : List ℕ) : Type 0 where
  pub long : length w ≡ length w₀
  pub below : Below b w
  pub cells : (j : ℕ) → j < length w₀ → get_or w j 0 + f j ≈⟨ p ⟩ get_or w₀ j 0
  pub kept : (j : ℕ) → j < length w₀ → f j ≡ 0 → get_or w j 0 ≡ get_or w₀ j 0

abbrev pub Subtracted : ℕ → (ℕ → ℕ) → List ℕ → List ℕ → Type 0
Subtracted p f w₀ w = SubtractedTo p (p * p) f w₀ w

abbrev pub GrownBy : ℕ → ℕ → (ℕ → ℕ) → List ℕ → List ℕ → Type 0
GrownBy p g f w₀ w = (b : ℕ) → p * p ≤ b → Below b w₀ → SubtractedTo p (b + g) f w₀ w

unfoldable pub growth : ℕ → ℕ
growth p = cond (ltb p 65536) (p * p) 0

pub record RowReady (p c : ℕ) (cols vals w : List ℕ) : Type 0 where
  pub row : Row p (length w) cols vals
  pub residue : c < p

pub record GrowReady (p c : ℕ) (cols vals w : List ℕ) : Type 0 where
  pub row : Row p (length w) cols vals
  pub residue : c < p
  pub some : 0 < c
  pub room : p < 65536 → Below (2 ^ 64 - 2 ^ 32) w

pub record MatrixReady (p k c : ℕ) (h : Compressed) (w : List ℕ) : Type 0 where
  pub formed : form p (length w) h ≡ true
  pub inside : k + 1 < length h.starts
  pub residue : c < p
  pub below : Below (p * p) w

pub record GrowMatrixReady (p k c : ℕ) (h : Compressed) (w : List ℕ) : Type 0 where
  pub formed : form p (length w) h ≡ true
  pub inside : k + 1 < length h.starts
  pub residue : c < p
  pub some : 0 < c
  pub room : p < 65536 → Below (2 ^ 64 - 2 ^ 32) w
