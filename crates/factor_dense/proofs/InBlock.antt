-- A row reduced by the first s rows of U and then in the block is the row reduced by s + b rows of U: its row of L, its pivot column, and what is stored of it.
use mathlib.Core.Path.{◌≡◌, sym, ap, ◌∙◌}
use mathlib.Core.Bool.{Bool, true≢false}
use mathlib.Core.List.{List, ◌++◌}
use Prim.Native.Nat.{ℕ, ◌+◌, ◌*◌, ◌%◌, ◌≤◌, ◌<◌}
use native.Mathlib.Decide.{dec_lt}
use native.Mathlib.Nat.{zero-mod, zero-add}
use native.Mathlib.Omega.{arith}
use borrow.Author.Tests.{eq-eqb}
use lib.Dec.{eqb}
use lib.ListN.{length, get_or, take, get_or-eq_default}
use Rattle.lists.specs.Tabulate.{tabulate}
use Rattle.lists.specs.Tests.{first}
use Rattle.lists.proofs.Tests.{first-all, first-fails, first-before, first-here, first-ext}
use Rattle.lists.proofs.Tabulate.{tabulate-ext, length-tabulate}
use Rattle.algebra.specs.Matrix.{Vector, Matrix, vector}
use Rattle.algebra.specs.Reduction.{reduced, multiples}
use Rattle.algebra.proofs.Reduction.{reduced-pivot}
use Rattle.sparse.specs.Dense.{columns_from, nonzeros}
use Rattle.sparse.specs.Storing.{DenseStored}
use Rattle.sparse.proofs.Nonzeros.{count-append, stored-then}
use Rattle.factor_reduce.specs.InPlace.{RemainderRow}
use Rattle.factor_dense.specs.Block.{LeftColumns, BlockHolds, Upper, where_nonzero}
use Rattle.factor_dense.specs.Taking.{residues_of, LeftCells, BlockReduced}
use Rattle.factor_dense.specs.Storing.{RowScaled}
use Rattle.factor_dense.proofs.Reduction.{reduced-block, reduced-past, multiples-block}
use Rattle.factor_dense.proofs.Columns.{row-columns, row-values, first-column, first-none}

-- the first failure below a smaller bound
narrower : (n k : ℕ) (f : ℕ → Bool) → k ≤ n → first n f < k → first k f ≡ first n f
narrower n k f h lt = first-fails k f (first n f) lt (first-before n f) (first-here n f (omega arith))

-- the block row that the cells begin with: what the first s rows left at the columns js, and 0 past them
pub record Begun (p s width : ℕ) (js C : Vector) (U : Matrix) (y : Vector) (row : List ℕ) : Type 0 where
  pub cells : (l : ℕ) → l < width → residues_of p row l ≡ reduced p C U s y (js l)
  pub past : (l : ℕ) → width ≤ l → residues_of p row l ≡ 0

-- so they are, copied from the working row that stands for what the first s rows left
pub begun-from : (p m s width : ℕ) (js : List ℕ) (C : Vector) (U : Matrix) (y : Vector) (work row : List ℕ) → ((l : ℕ) → l < width → get_or js l 0 < m)
    → RemainderRow p m s C U y work → LeftCells width js work row → Begun p s width (vector js) C U y row
begun-from p m s width js C U y work row inside w r =
    record {
      cells = λ l h. ap (λ (z : ℕ). z % p) (r.cells l h) ∙ w.cells (get_or js l 0) (inside l h);
      past = λ l h. ap (λ (z : ℕ). z % p) (r.past l h) ∙ zero-mod p;
    }

module _ (p m s b width : ℕ) (js C : Vector) (ks : List ℕ) (U : Matrix) (block : List (List ℕ)) (y : Vector) (row₀ row xs : List ℕ)
    (upper : Upper p m (s + b) C U) (small : (j : ℕ) → j < m → y j < p) (cols : LeftColumns m s C width js) (narrow : width ≤ 32)
    (holds : BlockHolds s b width js (vector ks) C U block) (begun : Begun p s width js C U y row₀) (done : BlockReduced p b ks block row₀ row xs) where
  -- the remainder of the whole row
  abbrev w : Vector
  w = reduced p C U (s + b) y

  pub block-cell : (l : ℕ) → l < width → residues_of p row l ≡ w (js l)
  block-cell l h =
      done.remainder.cells l (omega arith)
      ∙ reduced-block p s b width js (vector ks) C U block holds y (residues_of p row₀) begun.cells b (omega arith) l h

  pub block-past : (l : ℕ) → width ≤ l → l < 32 → residues_of p row l ≡ 0
  block-past l h g =
      done.remainder.cells l g
      ∙ reduced-past p s b width js (vector ks) C U block holds y (residues_of p row₀) begun.past b (omega arith) l h

  pub structural-zero : (k : ℕ) → k < s → w (C k) ≡ 0
  structural-zero k h = reduced-pivot p upper.positive m (s + b) C U upper.inside y small upper.left upper.unit k (omega arith)

  -- the row of L: what the first s rows gave, and then the block's multiples
  pub block-lower : multiples p (s + b) C U y ≡ multiples p s C U y ++ take b xs
  block-lower =
      multiples-block p s b width js (vector ks) C U block holds y (residues_of p row₀) begun.cells
      ∙ ap (λ (l : List ℕ). multiples p s C U y ++ l) (sym done.taken)

  -- stored in two parts
  pub lower-stored : (l : ℕ) (lc₀ lv₀ lc₁ lv₁ lc₂ lv₂ : List ℕ) (next₁ next₂ : ℕ) → DenseStored 0 l (multiples p s C U y) lc₀ lv₀ lc₁ lv₁ next₁
      → DenseStored s next₁ (take b xs) lc₁ lv₁ lc₂ lv₂ next₂ → DenseStored 0 l (multiples p (s + b) C U y) lc₀ lv₀ lc₂ lv₂ next₂
  unfolding multiples
  lower-stored l lc₀ lv₀ lc₁ lv₁ lc₂ lv₂ next₁ next₂ a d =
      rw block-lower (stored-then 0 l (multiples p s C U y) (take b xs) lc₀ lv₀ lc₁ lv₁ lc₂ lv₂ next₁ next₂ a (rw passed d))
    where
      passed : 0 + length (multiples p s C U y) ≡ s
      passed = zero-add (length (multiples p s C U y)) ∙ length-tabulate s (λ k. reduced p C U k y (C k))

  -- and as many entries as both parts
  pub lower-count : length (nonzeros (multiples p (s + b) C U y)) ≡ length (nonzeros (multiples p s C U y)) + length (nonzeros (take b xs))
  lower-count = ap (λ (l : List ℕ). length (nonzeros l)) block-lower ∙ count-append (multiples p s C U y) (take b xs)

  -- the pivot column
  abbrev found : ℕ
  found = first 32 (λ l. eqb (residues_of p row l) 0)

  at_left : first width (λ l. eqb (w (js l)) 0) ≡ first width (λ l. eqb (residues_of p row l) 0)
  at_left = first-ext width (λ l. eqb (w (js l)) 0) (λ l. eqb (residues_of p row l) 0) (λ l h. ap (λ (z : ℕ). eqb z 0) (sym (block-cell l h)))

  pub found_within : found < 32 → found < width
  found_within h = go (dec_lt found width)
    where
      go : Dec (found < width) → found < width
      go (yes g) = g
      go (no g) = absurd (true≢false (sym (eq-eqb (residues_of p row found) 0 (block-past found (omega arith) h)) ∙ first-here 32 (λ l. eqb (residues_of p row l) 0) h))

  pub block-pivot : found < 32 → first m (λ j. eqb (w j) 0) ≡ js found
  block-pivot h =
      let same : first width (λ l. eqb (w (js l)) 0) ≡ found = at_left ∙ narrower 32 width (λ l. eqb (residues_of p row l) 0) narrow (found_within h) in
      first-column m s C width js cols w structural-zero (rw same (found_within h)) ∙ ap js same

  pub block-dependent : found ≡ 32 → first m (λ j. eqb (w j) 0) ≡ m
  block-dependent e =
      let all : first width (λ l. eqb (residues_of p row l) 0) ≡ width = first-all width (λ l. eqb (residues_of p row l) 0) (λ l h. first-before 32 (λ l. eqb (residues_of p row l) 0) l (omega arith)) in
      first-none m s C width js cols w structural-zero (omega (arith, at_left ∙ all))

  -- the row of U: what is stored of the row times c is what is stored of the block row times c, under the columns js
  module _ (c : ℕ) (r : List ℕ) (scaled : RowScaled p c row r) where
    clear : (k : ℕ) → k < s → c * w (C k) % p ≡ 0
    clear k h = ap (λ (z : ℕ). z % p) {x = c * w (C k)} {y = 0} (omega (arith, ap (λ (z : ℕ). c * z) (structural-zero k h))) ∙ zero-mod p

    pub scaled-cell : (l : ℕ) → l < width → get_or r l 0 ≡ c * w (js l) % p
    scaled-cell l h = scaled.cells l (omega arith) ∙ ap (λ (z : ℕ). c * z % p) (block-cell l h)

    -- the block row that replaces row b of the block is 0 past the columns, too
    pub scaled-past : (l : ℕ) → width ≤ l → get_or r l 0 ≡ 0
    scaled-past l h = go (dec_lt l 32)
      where
        go : Dec (l < 32) → get_or r l 0 ≡ 0
        go (yes g) =
            scaled.cells l g
            ∙ ap (λ (z : ℕ). z % p) {x = c * residues_of p row l} {y = 0} (omega (arith, ap (λ (z : ℕ). c * z) (block-past l h g))) ∙ zero-mod p
        go (no g) = get_or-eq_default r 0 (omega (arith, scaled.long))

    same-cells : tabulate width (λ l. c * w (js l) % p) ≡ tabulate width (λ l. get_or r l 0)
    same-cells = tabulate-ext width (λ l. c * w (js l) % p) (λ l. get_or r l 0) (λ l h. sym (scaled-cell l h))

    pub upper-columns : columns_from 0 (tabulate m (λ j. c * w j % p)) ≡ where_nonzero (tabulate width js) (tabulate width (λ l. get_or r l 0))
    upper-columns = row-columns m s C width js cols (λ j. c * w j % p) clear ∙ ap (where_nonzero (tabulate width js)) same-cells

    pub upper-values : nonzeros (tabulate m (λ j. c * w j % p)) ≡ nonzeros (tabulate width (λ l. get_or r l 0))
    upper-values = row-values m s C width js cols (λ j. c * w j % p) clear ∙ ap nonzeros same-cells
