-- The working row, tested for 0 and cleared: whole, or only in the columns that a row has touched.
--   Some e Q                some number below e has the property Q
--   Among cols j            column j is one of the columns cols
--   AmongRows ks Us Uc j    column j is stored in U's row k for some k of ks
--   Swept p P z₀ w₀ w z     the cells at the columns P are 0 now, and a cell that was 0 is; z is true only if z₀ is and no cell
--                           changed the residue that it stands for, and is true if z₀ is and every cell stood for 0
--   TestedAndCleared ..     z says whether every cell of w₀ stood for 0, and w is w₀ cleared
use Rattle.std.specs.Prelude.{ℕ, ◌%◌, ◌<◌, ◌≡◌, Bool, true, List, eqb, length, get_or}
use Rattle.lists.specs.Filled.{zeros}
use Rattle.lists.specs.Tests.{all}
use Rattle.sparse.specs.Matrix.{row_of}

pub record Some (e : ℕ) (Q : ℕ → Type 0) : Type 0 where
  pub place : ℕ
  pub upto : place < e
  pub holds : Q place

abbrev pub Among : List ℕ → ℕ → Type 0
Among cols j = Some (length cols) (λ t. get_or cols t 0 ≡ j)

abbrev pub AmongRows : List ℕ → List ℕ → List ℕ → ℕ → Type 0
AmongRows ks Us Uc j = Some (length ks) (λ t. Among (row_of Us (get_or ks t 0) Uc) j)

pub record Swept (p : ℕ) (P : ℕ → Type 0) (z₀ : Bool) (w₀ w : List ℕ) (z : Bool) : Type 0 where
  pub long : length w ≡ length w₀
  pub cleared : (j : ℕ) → P j → get_or w j 0 ≡ 0
  pub still : (j : ℕ) → get_or w₀ j 0 ≡ 0 → get_or w j 0 ≡ 0
  pub passed : z ≡ true → (z₀ ≡ true) × ((j : ℕ) → get_or w₀ j 0 % p ≡ get_or w j 0 % p)
  pub passes : z₀ ≡ true → ((j : ℕ) → j < length w₀ → get_or w₀ j 0 % p ≡ 0) → z ≡ true

pub record TestedAndCleared (p : ℕ) (w₀ w : List ℕ) (z : Bool) : Type 0 where
  pub tested : z ≡ all (length w₀) (λ j. eqb (get_or w₀ j 0 % p) 0)
  pub cleared : w ≡ zeros (length w₀)
