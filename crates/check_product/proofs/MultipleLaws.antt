-- A sparse row that is a multiple of another one, and a row of L with one entry.
use mathlib.Core.Path.{◌≡◌, sym, ap, ◌∙◌}
use mathlib.Core.Bool.{true}
use mathlib.Core.List.{List, [], ◌∷◌}
use Prim.Native.Nat.{ℕ, suc, ◌+◌, ◌-◌, ◌*◌, ◌%◌, ◌≤◌, ◌<◌}
use native.Mathlib.Omega.{arith}
use lib.Dec.{eqb}
use lib.ListN.{length, get_or}
use lib.Seq.{length-slice, ext_get_or}
use borrow.Author.Tests.{eq-eqb}
use Rattle.lists.proofs.Steps.{get_d-slice}
use Rattle.lists.proofs.Tests.{all_pass}
use Rattle.algebra.specs.Congruence.{◌≈⟨◌⟩◌}
use Rattle.algebra.specs.Matrix.{Vector}
use Rattle.algebra.specs.Sum.{dot, δ}
use Rattle.algebra.proofs.Congruence.{exact, ◌⊙◌, ◌⊕◌, ◌⊗◌, same_refl, same-mod}
use Rattle.sparse.specs.Matrix.{Compressed, row_of, matrix, form}
use Rattle.sparse.specs.Row.{weigh, entry, Row}
use Rattle.sparse.proofs.Entries.{weigh-dot, row-columns, row-values}
use Rattle.sparse.proofs.Rows.{form-starts, form-paired, form-row}
use Rattle.pluq.specs.Judge.{agrees}
use Rattle.check_product.specs.Combination.{MultipleOf}

-- each value c times the other one: so is the sum
weigh-multiple : (p c : ℕ) (f : ℕ → ℕ) (cols vals vals' : List ℕ) → length vals ≡ length vals' → ((s : ℕ) → s < length vals → (c * get_or vals' s 0) % p ≡ get_or vals s 0)
    → weigh cols vals f ≈⟨ p ⟩ c * weigh cols vals' f
unfolding weigh
weigh-multiple p c f [] vs us q h = exact (omega arith)
weigh-multiple p c f (k ∷ ks) [] [] q h = exact (omega arith)
weigh-multiple p c f (k ∷ ks) [] (u ∷ us) q h = absurd (omega arith)
weigh-multiple p c f (k ∷ ks) (v ∷ vs) [] q h = absurd (omega arith)
weigh-multiple p c f (k ∷ ks) (v ∷ vs) (u ∷ us) q h =
    (exact (sym (h 0 (omega arith))) ⊙ same-mod (c * u)) ⊗ same_refl (f k) ⊕ weigh-multiple p c f ks vs us (omega arith) (λ s g. h (suc s) (omega arith))
    ⊙ exact (omega arith)

-- ---- the loop over the places of two rows

pub record Matching (p c : ℕ) (cols vals cols' vals' : List ℕ) (t : ℕ) : Type 0 where
  pub long : length cols' ≡ length cols
  pub columns : (s : ℕ) → s < t → get_or cols' s 0 ≡ get_or cols s 0
  pub values : (s : ℕ) → s < t → (c * get_or vals' s 0) % p ≡ get_or vals s 0

pub matching-ends : (p c : ℕ) (cols vals cols' vals' : List ℕ) (t : ℕ) → length cols ≤ t → length cols ≡ length vals → length cols' ≡ length vals'
    → Matching p c cols vals cols' vals' t → MultipleOf p c cols vals cols' vals'
matching-ends p c cols vals cols' vals' t h paired paired' m =
    record {
      entries = λ j.
          weigh-multiple p c (λ k. δ k j) cols vals vals' (omega (arith, m.long)) (λ s g. m.values s (omega arith))
          ⊙ exact (ap (λ (l : List ℕ). c * weigh l vals' (λ k. δ k j)) (sym same));
    }
  where
    same : cols' ≡ cols
    same = ext_get_or 0 cols' cols m.long (λ s g. m.columns s (omega (arith, m.long)))

-- ---- a row with one entry

weigh-one : (cols vals : List ℕ) (f : ℕ → ℕ) → length cols ≡ 1 → length vals ≡ 1 → weigh cols vals f ≡ get_or vals 0 0 * f (get_or cols 0 0)
unfolding weigh
weigh-one [] vals f h g = absurd (omega arith)
weigh-one (k ∷ ks) [] f h g = absurd (omega arith)
weigh-one (k ∷ []) (v ∷ vs) f h g = omega arith
weigh-one (k ∷ l ∷ ks) (v ∷ vs) f h g = absurd (omega arith)

-- row i of a stored matrix has one entry, which stands at place `at` of the lists
pub record OneEntry (p width : ℕ) (L : Compressed) (i at : ℕ) : Type 0 where
  pub inside : at < length L.cols
  pub paired : at < length L.vals
  pub column : get_or L.cols at 0 < width
  pub value : get_or L.vals at 0 < p
  pub sum : (f : ℕ → ℕ) → weigh (row_of L.starts i L.cols) (row_of L.starts i L.vals) f ≡ get_or L.vals at 0 * f (get_or L.cols at 0)

pub one_entry : (p width : ℕ) (L : Compressed) (i at : ℕ) → form p width L ≡ true → i + 1 < length L.starts → at ≡ get_or L.starts i 0
    → get_or L.starts (i + 1) 0 - get_or L.starts i 0 ≡ 1 → OneEntry p width L i at
one_entry p width L i at f h e one =
    record {
      inside = omega (arith, bounds);
      paired = omega (arith, bounds, pairs);
      column = omega (arith, first L.cols, row-columns p width _ _ row 0 (omega (arith, long L.cols (omega (arith, bounds)))));
      value = omega (arith, first L.vals, row-values p width _ _ row 0 (omega (arith, long L.vals (omega (arith, bounds, pairs)))));
      sum = λ g.
          weigh-one _ _ g (long L.cols (omega (arith, bounds))) (long L.vals (omega (arith, bounds, pairs)))
          ∙ (λ x. first L.vals x * g (first L.cols x));
    }
  where
    bounds : (get_or L.starts i 0 ≤ get_or L.starts (i + 1) 0) × (get_or L.starts (i + 1) 0 ≤ length L.cols)
    bounds = form-starts p width L.starts L.cols L.vals f i h

    pairs : length L.cols ≡ length L.vals
    pairs = form-paired p width L.starts L.cols L.vals f

    row : Row p width (row_of L.starts i L.cols) (row_of L.starts i L.vals)
    row = form-row p width L.starts L.cols L.vals f i

    long : (xs : List ℕ) → get_or L.starts (i + 1) 0 ≤ length xs → length (row_of L.starts i xs) ≡ 1
    long xs b = length-slice (get_or L.starts i 0) (get_or L.starts (i + 1) 0) xs b ∙ one

    first : (xs : List ℕ) → get_or (row_of L.starts i xs) 0 0 ≡ get_or xs at 0
    first xs =
        get_d-slice (get_or L.starts i 0) (get_or L.starts (i + 1) 0) xs 0 (omega (arith, one))
        ∙ ap (λ (n : ℕ). get_or xs n 0) (let q : get_or L.starts i 0 + 0 ≡ at = omega (arith, e) in q)

-- where L's row i has one entry, and A's row R[i] is that multiple of the row of U that it names, they agree
pub copied-agrees : (p r m : ℕ) (A : Compressed) (R : Vector) (L U : Compressed) (i at k l v : ℕ) (cols vals cols' vals' : List ℕ) → form p r L ≡ true → OneEntry p r L i at
    → k ≡ R i → cols ≡ row_of A.starts k A.cols → vals ≡ row_of A.starts k A.vals
    → l ≡ get_or L.cols at 0 → cols' ≡ row_of U.starts l U.cols → vals' ≡ row_of U.starts l U.vals
    → v ≡ get_or L.vals at 0 → MultipleOf p v cols vals cols' vals' → agrees p m r (matrix A) R (matrix L) (matrix U) i ≡ true
unfolding agrees
copied-agrees p r m A R L U i at k l v cols vals cols' vals' f one ek ec es el ec' es' ev h =
    all_pass m (λ j. eqb (matrix A (R i) j % p) (dot r (matrix L i) (λ u. matrix U u j) % p))
    (λ j g. eq-eqb _ _ (sym (ap (λ (x : ℕ). x % p) (own j)) ∙ (h.entries j).same ∙ ap (λ (x : ℕ). x % p) (product j)))
  where
    own : (j : ℕ) → entry cols vals j ≡ matrix A (R i) j
    own j = (λ x. entry (ec x) (es x) j) ∙ ap (λ (u : ℕ). matrix A u j) ek

    product : (j : ℕ) → v * entry cols' vals' j ≡ dot r (matrix L i) (λ u. matrix U u j)
    product j =
        (λ x. v * entry (ec' x) (es' x) j)
        ∙ (λ x. ev x * matrix U (el x) j)
        ∙ sym (one.sum (λ u. matrix U u j))
        ∙ weigh-dot r (row_of L.starts i L.cols) (row_of L.starts i L.vals) (λ u. matrix U u j)
        (row-columns p r (row_of L.starts i L.cols) (row_of L.starts i L.vals) (form-row p r L.starts L.cols L.vals f i))
