-- The block grows by one row where U does.
use mathlib.Core.Path.{◌≡◌, ◌∙◌}
use mathlib.Core.List.{List, []}
use Prim.Native.Nat.{ℕ, suc, ◌+◌, ◌≤◌, ◌<◌}
use native.Mathlib.Decide.{ℕ_discrete}
use native.Mathlib.Omega.{arith}
use lib.ListN.{length, get_or, set}
use lib.Seq.{get_or-set_same, get_or-set_other}
use Rattle.algebra.specs.Matrix.{Vector, Matrix, vector}
use Rattle.factor_dense.specs.Block.{cells_of, BlockHolds}

-- an empty block holds no row
pub holds-none : (s width : ℕ) (js ks C : Vector) (U : Matrix) (block : List (List ℕ)) → BlockHolds s 0 width js ks C U block
holds-none s width js ks C U block =
    record {
      within = λ t h. absurd (omega arith);
      pivot = λ t h. absurd (omega arith);
      cells = λ t l h g. absurd (omega arith);
      past = λ t l h g. absurd (omega arith);
    }

-- the same rows of another U
pub holds_same : (s b width : ℕ) (js ks C C' : Vector) (U U' : Matrix) (block : List (List ℕ)) → ((t : ℕ) → t < b → C (s + t) ≡ C' (s + t)) → ((t j : ℕ) → t < b → U (s + t) j ≡ U' (s + t) j)
    → BlockHolds s b width js ks C U block → BlockHolds s b width js ks C' U' block
holds_same s b width js ks C C' U U' block c u h =
    record {
      within = h.within;
      pivot = λ t lt. h.pivot t lt ∙ c t lt;
      cells = λ t l lt w. h.cells t l lt w ∙ u t (js l) lt;
      past = h.past;
    }

-- row b is replaced by row s + b of U, whose pivot column is js c
module _ (s b width c : ℕ) (js : Vector) (ks : List ℕ) (C : Vector) (U : Matrix) (block : List (List ℕ)) (row : List ℕ)
    (h : BlockHolds s b width js (vector ks) C U block) (room : b < length block) (places : b < length ks) (within : c < width) (pivot : js c ≡ C (s + b))
    (cells : (l : ℕ) → l < width → get_or row l 0 ≡ U (s + b) (js l)) (past : (l : ℕ) → width ≤ l → get_or row l 0 ≡ 0) where
  pub holds_more : BlockHolds s (suc b) width js (vector (set ks b c)) C U (set block b row)
  holds_more =
      record {
        within = λ t lt. place-within t lt (ℕ_discrete t b);
        pivot = λ t lt. place-pivot t lt (ℕ_discrete t b);
        cells = λ t l lt g. cell t l lt g (ℕ_discrete t b);
        past = λ t l lt g. none t l lt g (ℕ_discrete t b);
      }
    where
      place-within : (t : ℕ) → t < suc b → Dec (t ≡ b) → get_or (set ks b c) t 0 < width
      place-within t lt (yes e) = rw (e, get_or-set_same ks b c 0 places) within
      place-within t lt (no e) = rw (get_or-set_other ks b t c 0 e) (h.within t (omega arith))

      place-pivot : (t : ℕ) → t < suc b → Dec (t ≡ b) → js (get_or (set ks b c) t 0) ≡ C (s + t)
      place-pivot t lt (yes e) = rw (e, get_or-set_same ks b c 0 places) pivot
      place-pivot t lt (no e) = rw (get_or-set_other ks b t c 0 e) (h.pivot t (omega arith))

      cell : (t l : ℕ) → t < suc b → l < width → Dec (t ≡ b) → cells_of (set block b row) t l ≡ U (s + t) (js l)
      cell t l lt g (yes e) = rw (e, get_or-set_same block b row [] room) (cells l g)
      cell t l lt g (no e) = rw (get_or-set_other block b t row [] e) (h.cells t l (omega arith) g)

      none : (t l : ℕ) → t < suc b → width ≤ l → Dec (t ≡ b) → cells_of (set block b row) t l ≡ 0
      none t l lt g (yes e) = rw (e, get_or-set_same block b row [] room) (past l g)
      none t l lt g (no e) = rw (get_or-set_other block b t row [] e) (h.past t l (omega arith) g)
