-- The block with one cell set after a turn holds what the turn finds: one row more, or the same rows where the row is dependent.
use mathlib.Core.Path.{◌≡◌, sym, ap, ◌∙◌, subst}
use mathlib.Core.Logic.{◌⊎◌, inl, inr}
use mathlib.Core.List.{List, [], ◌∷◌, ◌++◌}
use Prim.Native.Nat.{ℕ, suc, ◌+◌, ◌-◌, ◌<◌}
use native.Mathlib.Omega.{arith}
use lib.ListN.{length, get_or, take, set, get_or-append}
use lib.Seq.{take-append-le, get_or-set_other, get_or_at}
use Rattle.algebra.specs.Matrix.{Vector, Matrix, vector}
use Rattle.elimination.specs.Pivots.{Found, columns_of, uppers_of, upper_of, rank_of, with_pivot, with_dependent}
use Rattle.elimination.specs.Factoring.{entries}
use Rattle.elimination.proofs.Invariant.{columns-many, uppers-many}
use Rattle.factor_row.specs.Taking.{next_upper_row}
use Rattle.factor_dense.specs.Block.{LeftColumns, BlockHolds}
use Rattle.factor_dense.specs.Turn.{NextRow}
use Rattle.factor_dense.proofs.Growing.{holds_same, holds_more}
use Rattle.factor_turn.proofs.Steps.{rank-more, columns-more, uppers-more}
use Rattle.factor_first.specs.Dense.{DenseState}

-- ---- what does not change

-- the columns left depend on the first s of C alone
left-same-pivots : (m s : ℕ) (C C' : Vector) (width : ℕ) (js : Vector) → ((k : ℕ) → k < s → C k ≡ C' k) → LeftColumns m s C width js → LeftColumns m s C' width js
left-same-pivots m s C C' width js e h = record { inside = h.inside; rising = h.rising; covers = λ j b. go j (h.covers j b) }
  where
    go : (j : ℕ) → ((k : ℕ) × (k < s) × (C k ≡ j)) ⊎ ((l : ℕ) × (l < width) × (js l ≡ j)) → ((k : ℕ) × (k < s) × (C' k ≡ j)) ⊎ ((l : ℕ) × (l < width) × (js l ≡ j))
    go j (inl (k, b, q)) = inl (k, b, sym (e k b) ∙ q)
    go j (inr t) = inr t

-- the first b rows of the block are not those at place b
holds-beside : (s b width c : ℕ) (js : Vector) (ks : List ℕ) (C : Vector) (U : Matrix) (block : List (List ℕ)) (row : List ℕ) → BlockHolds s b width js (vector ks) C U block
    → BlockHolds s b width js (vector (set ks b c)) C U (set block b row)
holds-beside s b width c js ks C U block row h =
    record {
      within = λ t lt. rw (get_or-set_other ks b t c 0 (λ e. omega arith)) (h.within t lt);
      pivot = λ t lt. rw (get_or-set_other ks b t c 0 (λ e. omega arith)) (h.pivot t lt);
      cells = λ t l lt g. rw (get_or-set_other block b t row [] (λ e. omega arith)) (h.cells t l lt g);
      past = λ t l lt g. rw (get_or-set_other block b t row [] (λ e. omega arith)) (h.past t l lt g);
    }

-- ---- after a turn

module _ (s first width : ℕ) (js ks : List ℕ) (block : List (List ℕ)) (m : ℕ) (f : Found) (d : DenseState s first width js ks block m f) (r : ℕ) (er : r ≡ rank_of f) (place : ℕ) (row : List ℕ) where
  -- the row is dependent
  pub block-beside : (i : ℕ) (cs : List ℕ) → DenseState s first width js (set ks (r - s) place) (set block (r - s) row) m (with_dependent f i cs)
  unfolding with_dependent columns_of uppers_of
  block-beside i cs =
      record {
        low = d.low;
        start = d.start;
        left = d.left;
        holds = rw er (holds-beside s (rank_of f - s) width place (vector js) ks (vector (columns_of f)) (upper_of f) block row d.holds);
      }

  -- it is a pivot row
  module _ (p i c : ℕ) (cs : List ℕ) (w : Vector) (places : r - s < length ks) (room : r - s < length block) (n : NextRow p m width js w c place row) where
    abbrev after : Found
    after = with_pivot p m f i c cs w

    abbrev u : List ℕ
    u = next_upper_row p m c w

    many : rank_of after ≡ suc (rank_of f)
    many = rank-more p m f i c cs w

    columns-are : columns_of after ≡ columns_of f ++ (c ∷ [])
    columns-are = columns-more p m f i c cs w

    uppers-are : uppers_of after ≡ uppers_of f ++ (u ∷ [])
    uppers-are = uppers-more p m f i c cs w

    columns-before : (k : ℕ) → k < rank_of f → get_or (columns_of f) k 0 ≡ get_or (columns_of after) k 0
    columns-before k b = sym (ap (λ (z : List ℕ). get_or z k 0) columns-are ∙ get_or-append (columns_of f) (c ∷ []) 0 k (omega (arith, columns-many f)))

    rows_before : (k j : ℕ) → k < rank_of f → upper_of f k j ≡ upper_of after k j
    rows_before k j b =
        ap (λ (z : List ℕ). get_or z j 0) (sym (ap (λ (z : List (List ℕ)). get_or z k []) uppers-are ∙ get_or-append (uppers_of f) (u ∷ []) [] k (omega (arith, uppers-many f))))

    place_is : s + (r - s) ≡ rank_of f
    place_is = omega (arith, d.low)

    column-next : c ≡ get_or (columns_of after) (s + (r - s)) 0
    column-next = sym (ap (λ (z : List ℕ). get_or z (s + (r - s)) 0) columns-are ∙ get_or_at (columns_of f) c [] 0 (s + (r - s)) (omega (arith, columns-many f, place_is)))

    row_next : u ≡ get_or (uppers_of after) (s + (r - s)) []
    row_next = sym (ap (λ (z : List (List ℕ)). get_or z (s + (r - s)) []) uppers-are ∙ get_or_at (uppers_of f) u [] [] (s + (r - s)) (omega (arith, uppers-many f, place_is)))

    held : BlockHolds s (r - s) width (vector js) (vector ks) (vector (columns_of after)) (upper_of after) block
    held =
        holds_same s (r - s) width (vector js) (vector ks) (vector (columns_of f)) (vector (columns_of after)) (upper_of f) (upper_of after) block
        (λ t b. columns-before (s + t) (omega (arith, place_is))) (λ t j b. rows_before (s + t) j (omega (arith, place_is))) (rw er d.holds)

    pub block_more : DenseState s first width js (set ks (r - s) place) (set block (r - s) row) m after
    block_more =
        record {
          low = omega (arith, d.low, many);
          start = d.start ∙ ap entries (sym (ap (take s) uppers-are ∙ take-append-le s (uppers_of f) (u ∷ []) (omega (arith, d.low, uppers-many f))));
          left = left-same-pivots m s (vector (columns_of f)) (vector (columns_of after)) width (vector js) (λ k b. columns-before k (omega (arith, d.low))) d.left;
          holds = subst (λ (b : ℕ). BlockHolds s b width (vector js) (vector (set ks (r - s) place)) (vector (columns_of after)) (upper_of after) (set block (r - s) row))
              (let e : suc (r - s) ≡ rank_of after - s = omega (arith, d.low, many) in e)
              (holds_more s (r - s) width place (vector js) ks (vector (columns_of after)) (upper_of after) block row held room places n.within (n.pivot ∙ column-next)
              (λ l b. n.cells l b ∙ ap (λ (z : List ℕ). get_or z (get_or js l 0) 0) row_next) n.past);
        }
