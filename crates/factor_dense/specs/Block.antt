-- The rows of U after the first s, held in a block at the columns that are no structural pivots.
--   cells_of block               the block as a matrix, 0 past its ends
--   LeftColumns m s C width js  js 0, .., js (width - 1) are the columns below m other than C 0, .., C (s - 1), rising
--   BlockHolds s b width ..     for t < b row t of the block is row s + t of U at the columns js, and 0 past them; its pivot
--                               column C (s + t) is js (ks t)
--   Upper p m r C U             r rows of U with their pivot columns C: residues, 1 at the own column, 0 at those before
--   where_nonzero cs vs          those of cs whose number in vs is not 0
use Rattle.std.specs.Prelude.{ℕ, zero, suc, ◌+◌, ◌≤◌, ◌<◌, ◌≡◌, ◌⊎◌, List, [], ◌∷◌, get_or}
use Rattle.algebra.specs.Matrix.{Vector, Matrix}

abbrev pub cells_of : List (List ℕ) → Matrix
cells_of block = λ t l. get_or (get_or block t []) l 0

pub record LeftColumns (m s : ℕ) (C : Vector) (width : ℕ) (js : Vector) : Type 0 where
  pub inside : (l : ℕ) → l < width → js l < m
  pub rising : (a b : ℕ) → a < b → b < width → js a < js b
  pub covers : (j : ℕ) → j < m → ((k : ℕ) × (k < s) × (C k ≡ j)) ⊎ ((l : ℕ) × (l < width) × (js l ≡ j))

pub record BlockHolds (s b width : ℕ) (js ks C : Vector) (U : Matrix) (block : List (List ℕ)) : Type 0 where
  pub within : (t : ℕ) → t < b → ks t < width
  pub pivot : (t : ℕ) → t < b → js (ks t) ≡ C (s + t)
  pub cells : (t l : ℕ) → t < b → l < width → cells_of block t l ≡ U (s + t) (js l)
  pub past : (t l : ℕ) → t < b → width ≤ l → cells_of block t l ≡ 0

pub record Upper (p m r : ℕ) (C : Vector) (U : Matrix) : Type 0 where
  pub positive : 0 < p
  pub inside : (k : ℕ) → k < r → C k < m
  pub residues : (k j : ℕ) → k < r → U k j < p
  pub left : (k j : ℕ) → j < k → k < r → U k (C j) ≡ 0
  pub unit : (k : ℕ) → k < r → U k (C k) ≡ 1

unfoldable pub where_nonzero : List ℕ → List ℕ → List ℕ
where_nonzero [] vs = []
where_nonzero (c ∷ cs) [] = []
where_nonzero (c ∷ cs) (zero ∷ vs) = where_nonzero cs vs
where_nonzero (c ∷ cs) (suc v ∷ vs) = c ∷ where_nonzero cs vs
