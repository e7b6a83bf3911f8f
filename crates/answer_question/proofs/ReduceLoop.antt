-- The loops that reduce the working row by the rows of U.
use mathlib.Core.Path.{◌≡◌, refl, sym, ap, ◌∙◌}
use mathlib.Core.List.{List}
use Prim.Native.Nat.{ℕ, ◌+◌, ◌-◌, ◌*◌, ◌%◌, ◌≤◌, ◌<◌}
use native.Mathlib.Nat.{mod-lt, mod-eq_of_lt, mul-le-mul_left}
use native.Mathlib.Numerals.{add-one}
use native.Mathlib.Omega.{arith}
use lib.Dec.{eqb}
use lib.ListN.{length, get_or, set, length-set}
use lib.Seq.{get_or-set_same, get_or-set_other}
use borrow.Author.Count.{below_more}
use Rattle.lists.proofs.Tests.{first-ext}
use Rattle.algebra.specs.Matrix.{Vector, Matrix, vector}
use Rattle.algebra.specs.Reduction.{reduced}
use Rattle.sparse.specs.Row.{Below}
use Rattle.sparse.specs.Matrix.{Compressed, matrix}
use Rattle.sparse.specs.WorkingRow.{Subtracted}
use Rattle.row_space.specs.Solving.{residues}
use Rattle.row_space.proofs.LowerLoop.{subtracted-less}
use Rattle.answer_question.specs.Reducing.{Eliminated, Remains, Multiples}
use Rattle.row_space.specs.Solve.{lowest_of}

-- a residue is a cell
pub residue-cell : (p x : ℕ) → x < p → x < p * p
residue-cell p x h = omega (arith, mul-le-mul_left {m = 1} {n = p} p (omega arith))

-- ---- the working row stands for y reduced by the first k rows

module _ (p : ℕ) (C : Vector) (U : Matrix) (y : Vector) where
  pub record Reducing (w₀ w : List ℕ) (k : ℕ) : Type 0 where
    pub long : length w ≡ length w₀
    pub below : Below (p * p) w
    pub remains : Remains p C U k y w

  pub reducing-turn : (w₀ w w' : List ℕ) (k c v : ℕ) → 0 < p → c ≡ C k → c < length w → v ≡ get_or w c 0 % p → Subtracted p (λ j. v * U k j) w w'
      → Reducing w₀ w k → Reducing w₀ w' (k + 1)
  unfolding reduced
  reducing-turn w₀ w w' k c v pos ec hc ev t s =
      record {
        long = t.long ∙ s.long;
        below = t.below;
        remains = λ j b.
            let g : j < length w = omega (arith, t.long) in
            subtracted-less p v (U k) w w' j (omega (arith, ev, mod-lt (get_or w c 0) pos)) g t
            ∙ (λ i. (s.remains j g i + (p - value i) * U k j) % p)
            ∙ ap (λ (n : ℕ). reduced p C U n y j) (sym (add-one k));
      }
    where
      value : v ≡ reduced p C U k y (C k)
      value = ev ∙ s.remains c hc ∙ ap (reduced p C U k y) ec

-- with the multiples kept in the list a
pub record Collecting (p : ℕ) (C : Vector) (U : Matrix) (a₀ a w₀ w : List ℕ) (k : ℕ) : Type 0 where
  pub row : Reducing p C U (vector w₀) w₀ w k
  pub long : length a ≡ length a₀
  pub multiples : Multiples p C U k (vector w₀) a

pub collecting-starts : (p : ℕ) (C : Vector) (U : Matrix) (a w : List ℕ) → Below p w → Collecting p C U a a w w 0
unfolding reduced
collecting-starts p C U a w h =
    record {
      row = record { long = refl; below = λ j b. residue-cell p (get_or w j 0) (h j b); remains = λ j b. mod-eq_of_lt (h j b) };
      long = refl;
      multiples = λ i b. absurd (omega arith);
    }

pub collecting-turn : (p r : ℕ) (C : Vector) (U : Compressed) (a₀ a w₀ w w' : List ℕ) (k c v : ℕ) → 0 < p → k < r → r ≤ length a₀ → c ≡ C k → c < length w
    → Eliminated p U k c w w' v → Collecting p C (matrix U) a₀ a w₀ w k → Collecting p C (matrix U) a₀ (set a k v) w₀ w' (k + 1)
collecting-turn p r C U a₀ a w₀ w w' k c v pos h room ec hc t s =
    record {
      row = reducing-turn p C (matrix U) (vector w₀) w₀ w w' k c v pos ec hc t.value t.taken s.row;
      long = length-set a k v ∙ s.long;
      multiples =
          below_more (λ i. get_or (set a k v) i 0 ≡ reduced p C (matrix U) i (vector w₀) (C i)) k
          (λ i b. get_or-set_other a k i v 0 (λ q. omega arith) ∙ s.multiples i b)
          (get_or-set_same a k v 0 (omega (arith, s.long)) ∙ t.value ∙ s.row.remains c hc ∙ ap (reduced p C (matrix U) k (vector w₀)) ec);
    }

-- the lowest place of what remains
pub lowest-remains : (p : ℕ) (C : Vector) (U : Matrix) (k : ℕ) (y : Vector) (w : List ℕ) → Remains p C U k y w
    → lowest_of (length w) (residues p w) ≡ lowest_of (length w) (reduced p C U k y)
unfolding lowest_of
lowest-remains p C U k y w h = first-ext (length w) (λ j. eqb (residues p w j) 0) (λ j. eqb (reduced p C U k y j) 0) (λ j b. ap (λ (x : ℕ). eqb x 0) (h j b))
