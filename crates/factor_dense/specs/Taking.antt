-- A row of 32 cells less multiples of the rows of a block. The row stands for the residues of its cells, which are below p * p.
--   residues_of p row             the vector that the cells stand for
--   LeftCells width js w r       r has the cells of the working row at the first columns of js, and 0 past them
--   BlockReduced p b ks ..       the cells stand for what remains, and xs begins with the multiples that were taken away
use Rattle.std.specs.Prelude.{ℕ, ◌%◌, ◌≤◌, ◌<◌, ◌≡◌, List, length, get_or, take}
use Rattle.algebra.specs.Reduction.{multiples}
use Rattle.algebra.specs.Matrix.{Vector, vector}
use Rattle.factor_reduce.specs.InPlace.{RemainderRow}
use Rattle.factor_dense.specs.Block.{cells_of}

abbrev pub residues_of : ℕ → List ℕ → Vector
residues_of p row = λ l. get_or row l 0 % p

pub record BlockReduced (p b : ℕ) (ks : List ℕ) (block : List (List ℕ)) (row₀ row xs : List ℕ) : Type 0 where
  pub remainder : RemainderRow p 32 b (vector ks) (cells_of block) (residues_of p row₀) row
  pub taken : take b xs ≡ multiples p b (vector ks) (cells_of block) (residues_of p row₀)

pub record LeftCells (width : ℕ) (js w r : List ℕ) : Type 0 where
  pub long : length r ≡ 32
  pub cells : (l : ℕ) → l < width → get_or r l 0 ≡ get_or w (get_or js l 0) 0
  pub past : (l : ℕ) → width ≤ l → get_or r l 0 ≡ 0
