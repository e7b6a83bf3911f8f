-- The dense rows of a matrix that is given by a function.
--   dense_rows n m f     the first n rows of f, cut to m columns
use mathlib.Core.Path.{◌≡◌, refl, ap, ap₂, ◌∙◌}
use mathlib.Core.List.{List, [], ◌∷◌, ◌++◌}
use Prim.Native.Nat.{ℕ, zero, suc, ◌+◌, ◌≤◌, ◌<◌}
use native.Mathlib.Omega.{arith}
use native.Mathlib.Decide.{dec_lt}
use lib.ListN.{length, get_or, length-append, get_or-eq_default}
use Rattle.lists.specs.Tabulate.{tabulate}
use Rattle.lists.proofs.Tabulate.{length-tabulate, tabulate-at, tabulate-ext}
use Rattle.sparse.specs.Dense.{nonzeros, starts_after, all_values}
use Rattle.sparse.proofs.DenseForm.{DenseRows}

unfoldable pub dense_rows : ℕ → ℕ → (ℕ → ℕ → ℕ) → List (List ℕ)
dense_rows zero m f = []
dense_rows (suc n) m f = tabulate m (f 0) ∷ dense_rows n m (λ i. f (suc i))

pub dense-count : (n m : ℕ) (f : ℕ → ℕ → ℕ) → length (dense_rows n m f) ≡ n
unfolding dense_rows
dense-count zero m f = refl
dense-count (suc n) m f = ap suc (dense-count n m (λ i. f (suc i)))

pub dense-row : (n m : ℕ) (f : ℕ → ℕ → ℕ) (i : ℕ) → i < n → get_or (dense_rows n m f) i [] ≡ tabulate m (f i)
unfolding dense_rows
dense-row zero m f i h = absurd (omega arith)
dense-row (suc n) m f zero h = refl
dense-row (suc n) m f (suc i) h = dense-row n m (λ i. f (suc i)) i (omega arith)

pub dense-cell : (n m : ℕ) (f : ℕ → ℕ → ℕ) (i j : ℕ) → i < n → j < m → get_or (get_or (dense_rows n m f) i []) j 0 ≡ f i j
dense-cell n m f i j h g = ap (λ (l : List ℕ). get_or l j 0) (dense-row n m f i h) ∙ tabulate-at m (f i) j g

pub dense-ext : (n m : ℕ) (f g : ℕ → ℕ → ℕ) → ((i j : ℕ) → i < n → f i j ≡ g i j) → dense_rows n m f ≡ dense_rows n m g
unfolding dense_rows
dense-ext zero m f g h = refl
dense-ext (suc n) m f g h =
    ap₂ {C = List (List ℕ)} (λ (x : List ℕ) (l : List (List ℕ)). x ∷ l) (tabulate-ext m (f 0) (g 0) (λ j b. h 0 j (omega arith)))
    (dense-ext n m (λ i. f (suc i)) (λ i. g (suc i)) (λ i j b. h (suc i) j (omega arith)))

-- rows of residues
pub dense-residues : (p n m : ℕ) (f : ℕ → ℕ → ℕ) → ((i j : ℕ) → f i j < p) → DenseRows p m (dense_rows n m f)
dense-residues p n m f h =
    record {
      narrow = λ i b. omega (arith, ap length (dense-row n m f i (within i b)), length-tabulate m (f i));
      residues = λ i j b. rw (dense-row n m f i (within i b)) (below i j (dec_lt j m));
    }
  where
    within : (i : ℕ) → i < length (dense_rows n m f) → i < n
    within i b = omega (arith, dense-count n m f)

    below : (i j : ℕ) → Dec (j < m) → get_or (tabulate m (f i)) j 0 < p
    below i j (yes b) = rw (tabulate-at m (f i) j b) (h i j)
    below i j (no b) =
        let past : length (tabulate m (f i)) ≤ j = omega (arith, length-tabulate m (f i)) in
        omega (arith, h i j, get_or-eq_default (tabulate m (f i)) 0 past)

-- one row more at the end
pub dense-more : (n m : ℕ) (f : ℕ → ℕ → ℕ) → dense_rows (suc n) m f ≡ dense_rows n m f ++ (tabulate m (f n) ∷ [])
unfolding dense_rows
dense-more zero m f = refl
dense-more (suc n) m f = ap (λ (l : List (List ℕ)). tabulate m (f 0) ∷ l) (dense-more n m (λ i. f (suc i)))

-- ---- the row starts: how many values stand in the rows before
pub dense-starts : (at n m : ℕ) (f : ℕ → ℕ → ℕ) → starts_after at (dense_rows n m f) ≡ tabulate n (λ k. at + length (all_values (dense_rows (suc k) m f)))
unfolding starts_after all_values dense_rows tabulate
dense-starts at zero m f = refl
dense-starts at (suc n) m f =
    ap₂ {C = List ℕ} (λ (x : ℕ) (l : List ℕ). x ∷ l)
    (let e : at + length row ≡ at + length (row ++ []) = omega (arith, length-append row []) in e)
    (dense-starts (at + length row) n m (λ i. f (suc i))
    ∙ tabulate-ext n (λ k. at + length row + length (all_values (dense_rows (suc k) m (λ i. f (suc i))))) (λ k. at + length (row ++ all_values (dense_rows (suc k) m (λ i. f (suc i)))))
    (λ k h. omega (arith, length-append row (all_values (dense_rows (suc k) m (λ i. f (suc i)))))))
  where
    row : List ℕ
    row = nonzeros (tabulate m (f 0))
