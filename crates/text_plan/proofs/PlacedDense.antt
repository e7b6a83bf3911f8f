-- What is stored, the entries by row and then by column, is the stored form of the dense rows: `placed-dense`.
--   entry_at es i j        the value that the entries have at row i + 1 and column j + 1, 0 where none stands
--   columns_in, values_in   the columns, from 0, and the values of entries
use mathlib.Core.Path.{◌≡◌, refl, sym, ap, ◌∙◌, subst}
use mathlib.Core.List.{List, [], ◌∷◌, ◌++◌, map, map-append}
use mathlib.Core.Bool.{Bool, true, false, cond, ◌&&◌}
use mathlib.Core.Logic.{◌⊎◌, inl, inr}
use Prim.Native.Nat.{ℕ, zero, suc, ◌+◌, ◌-◌, ◌≤◌, ◌<◌}
use native.Mathlib.Nat.{eq-or-lt_of_le, le_of_suc-le-suc}
use native.Mathlib.Numerals.{add-one}
use native.Mathlib.Omega.{arith}
use lib.Dec.{eqb, leb}
use lib.ListN.{length, length-map}
use borrow.Author.Tests.{eq-eqb, eqb-true, le-leb, lt-leb}
use Rattle.lists.specs.Tabulate.{tabulate}
use Rattle.lists.proofs.Bools.{and_both}
use Rattle.lists.proofs.Tabulate.{length-tabulate, tabulate-more, tabulate-ext}
use Rattle.sparse.specs.Matrix.{compressed}
use Rattle.sparse.specs.Dense.{columns_from, nonzeros, starts_after, all_columns, all_values, compress}
use Rattle.sparse.proofs.Nonzeros.{columns-append, nonzeros-append}
use Rattle.sparse.proofs.DenseLaws.{compress-append}
use Rattle.sparse.proofs.DenseTable.{dense_rows, dense-more, dense-starts}
use Rattle.grouping.specs.Grouping.{picked, grouped}
use Rattle.grouping.proofs.Every.{All, Pairwise, all_map, picked_all, picked-key, grouped-all, grouped-below}
use Rattle.grouping.proofs.Groups.{picked_none, picked-grouped}
use Rattle.text_judge.specs.declared.judge.Sizes.{Sizes}
use Rattle.text_opening.specs.Reading.{Entry, kept, placed}
use Rattle.text_plan.specs.Stored.{count_to}
use Rattle.text_plan.proofs.Kept.{kept-some}
use Rattle.text_plan.proofs.Scattered.{row_of, column_of, Sits, Elsewhere, Differ, Scattered, kept-differ, kept-sits}

unfoldable pub entry_at : List Entry → ℕ → ℕ → ℕ
entry_at [] i j = 0
entry_at (t ∷ ts) i j = cond (eqb t.row (i + 1) && eqb t.column (j + 1)) t.value (entry_at ts i j)

abbrev pub columns_in : List Entry → List ℕ
columns_in es = map (λ (t : Entry). t.column - 1) es

abbrev pub values_in : List Entry → List ℕ
values_in es = map (λ (t : Entry). t.value) es

-- ---- the test of a place
pub place-yes : (a b i j : ℕ) → a ≡ i → b ≡ j → (eqb a i && eqb b j) ≡ true
place-yes a b i j e f = and_both (eqb a i) (eqb b j) (eq-eqb a i e) (eq-eqb b j f)

pub place-no : (a b i j : ℕ) → (a ≡ i → b ≡ j → ⊥) → (eqb a i && eqb b j) ≡ false
place-no a b i j h = go (eqb a i) (eqb b j) refl refl
  where
    go : (x y : Bool) → eqb a i ≡ x → eqb b j ≡ y → (x && y) ≡ false
    go true true e f = absurd (h (eqb-true a i e) (eqb-true b j f))
    go true false e f = refl
    go false y e f = refl

entry-none : (es : List Entry) (i j : ℕ) → All (Elsewhere (i + 1) (j + 1)) es → entry_at es i j ≡ 0
unfolding entry_at
entry-none [] i j h = refl
entry-none (t ∷ ts) i j h = rw (place-no t.row t.column (i + 1) (j + 1) h.0) (entry-none ts i j h.1)

-- ---- a cell with the value v: no entry is picked for it, or the one that has that value
abbrev Cell : ℕ → ℕ → List Entry → Type 0
Cell j v part = ((part ≡ []) × (v ≡ 0)) ⊎ ((t : Entry) × (part ≡ (t ∷ [])) × (t.column ≡ j + 1) × (v ≡ t.value) × (0 < v))

cells : (es : List Entry) → Pairwise Differ es → All (λ t. 0 < t.value) es → (i j : ℕ) → Cell j (entry_at es i j) (picked column_of (suc j) (picked row_of (suc i) es))
unfolding picked entry_at
cells [] d p i j = inl (refl, refl)
cells (t ∷ ts) d p i j = go (eqb t.row (suc i)) (eqb t.column (suc j)) refl refl (cells ts d.1 p.1 i j)
  where
    rest : List Entry
    rest = picked row_of (suc i) ts

    go : (x y : Bool) → eqb t.row (suc i) ≡ x → eqb t.column (suc j) ≡ y → Cell j (entry_at ts i j) (picked column_of (suc j) rest)
        → Cell j (cond (eqb t.row (i + 1) && eqb t.column (j + 1)) t.value (entry_at ts i j)) (picked column_of (suc j) (cond x (t ∷ rest) rest))
    go true true e q ih = one (omega (arith, eqb-true t.row (suc i) e)) (omega (arith, eqb-true t.column (suc j) q)) ih
      where
        one : t.row ≡ i + 1 → t.column ≡ j + 1 → Cell j (entry_at ts i j) (picked column_of (suc j) rest)
            → Cell j (cond (eqb t.row (i + 1) && eqb t.column (j + 1)) t.value (entry_at ts i j)) (picked column_of (suc j) (t ∷ rest))
        one row column (inl (none, z)) = rw (q, place-yes t.row t.column (i + 1) (j + 1) row column) (inr (t, ap (λ (l : List Entry). t ∷ l) none, column, refl, p.0))
        one row column (inr (u, is, at, same, some)) =
            absurd (omega (arith, some, entry-none ts i j (all_map (Differ t) (Elsewhere (i + 1) (j + 1)) (λ u h a b. h (row ∙ sym a) (column ∙ sym b)) ts d.0)))
    go true false e q ih = rw (q, ap (eqb t.row) (add-one i) ∙ e, ap (eqb t.column) (add-one j) ∙ q) ih
    go false y e q ih = rw (ap (eqb t.row) (add-one i) ∙ e) ih

cell-lists : (j v : ℕ) (part : List Entry) → Cell j v part → (columns_from j (v ∷ []) ≡ columns_in part) × (nonzeros (v ∷ []) ≡ values_in part)
unfolding columns_from nonzeros
cell-lists j zero part (inl (e, z)) = (ap columns_in (sym e), ap values_in (sym e))
cell-lists j (suc v) part (inl (e, z)) = absurd (omega arith)
cell-lists j zero part (inr (t, e, c, q, h)) = absurd (omega arith)
cell-lists j (suc v) part (inr (t, e, c, q, h)) = (
  ap (λ (k : ℕ). k ∷ []) (let x : j ≡ t.column - 1 = omega arith in x) ∙ ap columns_in (sym e),
  ap (λ (k : ℕ). k ∷ []) q ∙ ap values_in (sym e),
)

-- ---- a row, one cell more at a time
row-lists : (m : ℕ) (g : ℕ → ℕ) (part : List Entry) → picked column_of 0 part ≡ [] → ((j : ℕ) → Cell j (g j) (picked column_of (suc j) part))
    → (columns_from 0 (tabulate m g) ≡ columns_in (grouped column_of (suc m) part)) × (nonzeros (tabulate m g) ≡ values_in (grouped column_of (suc m) part))
unfolding grouped columns_from nonzeros tabulate
row-lists zero g part none cs = (ap columns_in (sym none), ap values_in (sym none))
row-lists (suc m) g part none cs =
    let ih = row-lists m g part none cs in
    let here = cell-lists m (g m) (picked column_of (suc m) part) (cs m) in
    let at : 0 + length (tabulate m g) ≡ m = omega (arith, length-tabulate m g) in (
      ap (columns_from 0) (tabulate-more m g) ∙ columns-append 0 (tabulate m g) (g m ∷ []) ∙ (λ t. ih.0 t ++ columns_from (at t) (g m ∷ []))
          ∙ ap (λ (l : List ℕ). columns_in (grouped column_of (suc m) part) ++ l) here.0 ∙ sym (map-append (λ (t : Entry). t.column - 1) (grouped column_of (suc m) part) (picked column_of (suc m) part)),
      ap nonzeros (tabulate-more m g) ∙ nonzeros-append (tabulate m g) (g m ∷ []) ∙ (λ t. ih.1 t ++ here.1 t)
          ∙ sym (map-append (λ (t : Entry). t.value) (grouped column_of (suc m) part) (picked column_of (suc m) part)),
    )

-- ---- the row starts: how many entries stand in the first rows
count-append : (k : ℕ) (xs ys : List Entry) → count_to k (xs ++ ys) ≡ count_to k xs + count_to k ys
unfolding count_to
count-append k [] ys = omega arith
count-append k (x ∷ xs) ys = go (leb x.row k) (count-append k xs ys)
  where
    go : (t : Bool) → count_to k (xs ++ ys) ≡ count_to k xs + count_to k ys → cond t (count_to k (xs ++ ys) + 1) (count_to k (xs ++ ys)) ≡ cond t (count_to k xs + 1) (count_to k xs) + count_to k ys
    go true e = omega arith
    go false e = e

count-whole : (k : ℕ) (xs : List Entry) → All (λ t. t.row < suc k) xs → count_to k xs ≡ length xs
unfolding count_to
count-whole k [] h = refl
count-whole k (x ∷ xs) h = rw (le-leb x.row k (omega (arith, h.0))) (ap (λ (y : ℕ). y + 1) (count-whole k xs h.1) ∙ add-one (length xs))

count_none : (k : ℕ) (xs : List Entry) → All (λ t. k < t.row) xs → count_to k xs ≡ 0
unfolding count_to
count_none k [] h = refl
count_none k (x ∷ xs) h = rw (lt-leb x.row k h.0) (count_none k xs h.1)

count-upto : (k n : ℕ) (xs : List Entry) → k ≡ n → count_to k (grouped row_of (suc n) xs) ≡ length (grouped row_of (suc k) xs)
count-upto k n xs e = ap (λ (b : ℕ). count_to k (grouped row_of (suc b) xs)) (sym e) ∙ count-whole k (grouped row_of (suc k) xs) (grouped-below row_of (suc k) xs)

-- the groups of the rows past k do not count
count-grouped : (k n : ℕ) (xs : List Entry) → k ≤ n → count_to k (grouped row_of (suc n) xs) ≡ length (grouped row_of (suc k) xs)
unfolding grouped
count-grouped k zero xs h = count-upto k 0 xs (omega arith)
count-grouped k (suc n) xs h = go (eq-or-lt_of_le h) (count-grouped k n xs)
  where
    next : List Entry
    next = picked row_of (suc n) xs

    go : (k ≡ suc n) ⊎ (k < suc n) → (k ≤ n → count_to k (grouped row_of (suc n) xs) ≡ length (grouped row_of (suc k) xs)) → count_to k (grouped row_of (suc n) xs ++ next) ≡ length (grouped row_of (suc k) xs)
    go (inl e) ih = count-upto k (suc n) xs e
    go (inr l) ih =
        let past = count_none k next (all_map (λ t. t.row ≡ suc n) (λ t. k < t.row) (λ t e. omega arith) next (picked-key row_of (suc n) xs)) in
        count-append k (grouped row_of (suc n) xs) next ∙ omega (arith, ih (le_of_suc-le-suc l), past)

-- ---- all rows
abbrev sorted_in : ℕ → ℕ → List Entry → List Entry
sorted_in n m es = grouped row_of (suc n) (grouped column_of (suc m) es)

module _ (m : ℕ) (es : List Entry) (differ : Pairwise Differ es) (some : All (λ t. 0 < t.value) es) (rows : All (λ t. 0 < t.row) es) (columns : All (λ t. 0 < t.column) es) where
  dense-lists : (n : ℕ) → (all_columns (dense_rows n m (entry_at es)) ≡ columns_in (sorted_in n m es)) × (all_values (dense_rows n m (entry_at es)) ≡ values_in (sorted_in n m es))
  unfolding grouped dense_rows all_columns all_values compress
  dense-lists zero =
      let none = picked_none row_of 0 (grouped column_of (suc m) es) (grouped-all column_of (λ t. 0 < t.row) (suc m) es rows) in
      (ap columns_in (sym none), ap values_in (sym none))
  dense-lists (suc n) =
      let ih = dense-lists n in
      let part = picked row_of (suc n) es in
      let next = picked row_of (suc n) (grouped column_of (suc m) es) in
      let row = row-lists m (entry_at es n) part (picked_none column_of 0 part (picked_all row_of (λ t. 0 < t.column) (suc n) es columns)) (cells es differ some n) in
      let same : grouped column_of (suc m) part ≡ next = sym (picked-grouped row_of column_of (suc n) (suc m) es) in
      let more = compress-append (dense_rows n m (entry_at es)) (tabulate m (entry_at es n)) in (
        ap all_columns (dense-more n m (entry_at es)) ∙ more.cols ∙ (λ t. ih.0 t ++ (row.0 ∙ ap columns_in same) t) ∙ sym (map-append (λ (t : Entry). t.column - 1) (sorted_in n m es) next),
        ap all_values (dense-more n m (entry_at es)) ∙ more.vals ∙ (λ t. ih.1 t ++ (row.1 ∙ ap values_in same) t) ∙ sym (map-append (λ (t : Entry). t.value) (sorted_in n m es) next),
      )

  dense-before : (n k : ℕ) → k ≤ n → count_to k (sorted_in n m es) ≡ length (all_values (dense_rows k m (entry_at es)))
  dense-before n k h =
      count-grouped k n (grouped column_of (suc m) es) h
      ∙ sym (length-map (sorted_in k m es) (λ (t : Entry). t.value))
      ∙ sym (ap length (dense-lists k).1)

  sorted-dense : (n : ℕ) → compressed (tabulate (n + 1) (λ k. count_to k (sorted_in n m es))) (columns_in (sorted_in n m es)) (values_in (sorted_in n m es)) ≡ compress (dense_rows n m (entry_at es))
  unfolding compress tabulate dense_rows all_values
  sorted-dense n =
      let lists = dense-lists n in
      let none : count_to 0 (sorted_in n m es) ≡ 0 = dense-before n 0 (omega arith) in
      let later : tabulate n (λ k. count_to (suc k) (sorted_in n m es)) ≡ starts_after 0 (dense_rows n m (entry_at es)) =
      tabulate-ext n (λ k. count_to (suc k) (sorted_in n m es)) (λ k. 0 + length (all_values (dense_rows (suc k) m (entry_at es)))) (λ k h. omega (arith, dense-before n (suc k) (omega arith)))
      ∙ sym (dense-starts 0 n m (entry_at es)) in
      rw (add-one n) (λ t. compressed (none t ∷ later t) (sym lists.0 t) (sym lists.1 t))

pub placed-dense : (s : Sizes) (seen : List Entry) → Scattered s seen
    → compressed (tabulate (s.n + 1) (λ k. count_to k (placed s seen))) (columns_in (placed s seen)) (values_in (placed s seen)) ≡ compress (dense_rows s.n s.m (entry_at (kept seen)))
unfolding placed
placed-dense s seen u =
    subst (λ (es : List Entry). compressed (tabulate (s.n + 1) (λ k. count_to k es)) (columns_in es) (values_in es) ≡ compress (dense_rows s.n s.m (entry_at (kept seen))))
    (λ t. grouped row_of (sym (add-one s.n) t) (grouped column_of (sym (add-one s.m) t) (kept seen)))
    (sorted-dense s.m (kept seen) (kept-differ s seen u) (kept-some seen)
    (all_map (Sits s) (λ t. 0 < t.row) (λ t h. h.row_low) (kept seen) (kept-sits s seen u))
    (all_map (Sits s) (λ t. 0 < t.column) (λ t h. h.column-low) (kept seen) (kept-sits s seen u))
    s.n)
