-- Laws of dense rows and of the stored lists that hold them: the entries, the lengths, and one row more.
use mathlib.Core.Path.{◌≡◌, refl, sym, ap, ◌∙◌}
use mathlib.Core.List.{List, [], ◌∷◌, ◌++◌, append-nil, append_assoc}
use Prim.Native.Nat.{ℕ, zero, suc, ◌+◌, ◌-◌, ◌*◌, ◌<◌}
use native.Mathlib.Omega.{arith}
use native.Mathlib.Numerals.{add-one}
use lib.ListN.{length, get_or, take, drop, length-append}
use lib.Seq.{slice, drop-nil, drop-drop, drop-append_seam, take-append_seam}
use Rattle.lists.proofs.Steps.{drop-take}
use Rattle.algebra.specs.Sum.{sum, δ}
use Rattle.algebra.proofs.Dot.{δ-same, δ-other}
use Rattle.sparse.specs.Row.{weigh, entry}
use Rattle.sparse.specs.Matrix.{compressed, row_of, matrix}
use Rattle.sparse.specs.Dense.{columns_from, nonzeros, starts_after, all_columns, all_values, compress}

-- ---- one row: the entry at a column is the cell

dense-before : (at : ℕ) (row : List ℕ) (j : ℕ) → j < at → entry (columns_from at row) (nonzeros row) j ≡ 0
unfolding columns_from nonzeros weigh
dense-before at [] j h = refl
dense-before at (zero ∷ row) j h = dense-before (suc at) row j (omega arith)
dense-before at (suc v ∷ row) j h = omega (arith, ap (λ (z : ℕ). suc v * z) (δ-other at j (λ e. omega arith)), dense-before (suc at) row j (omega arith))

dense-from : (at : ℕ) (row : List ℕ) (j : ℕ) → entry (columns_from at row) (nonzeros row) (at + j) ≡ get_or row j 0
unfolding columns_from nonzeros weigh
dense-from at [] j = refl
dense-from at (zero ∷ row) zero = dense-before (suc at) row (at + 0) (omega arith)
dense-from at (zero ∷ row) (suc j) = ap (entry (columns_from (suc at) row) (nonzeros row)) (let e : at + suc j ≡ suc at + j = omega arith in e) ∙ dense-from (suc at) row j
dense-from at (suc v ∷ row) zero =
    omega (arith, ap (λ (z : ℕ). suc v * z) (ap (δ at) (let e : at + 0 ≡ at = omega arith in e) ∙ δ-same at), dense-before (suc at) row (at + 0) (omega arith))
dense-from at (suc v ∷ row) (suc j) =
    omega (
      arith,
      ap (λ (z : ℕ). suc v * z) (δ-other at (at + suc j) (λ e. omega arith)),
      ap (entry (columns_from (suc at) row) (nonzeros row)) (let e : at + suc j ≡ suc at + j = omega arith in e) ∙ dense-from (suc at) row j,
    )

pub dense-entry : (row : List ℕ) (j : ℕ) → entry (columns_from 0 row) (nonzeros row) j ≡ get_or row j 0
dense-entry row j = ap (entry (columns_from 0 row) (nonzeros row)) (let e : j ≡ 0 + j = omega arith in e) ∙ dense-from 0 row j

-- as many columns as values
pub columns-length : (at : ℕ) (row : List ℕ) → length (columns_from at row) ≡ length (nonzeros row)
unfolding columns_from nonzeros
columns-length at [] = refl
columns-length at (zero ∷ row) = columns-length (suc at) row
columns-length at (suc v ∷ row) = ap suc (columns-length (suc at) row)

-- ---- rows one after another: `parts rows` is a list that joins a part of each row

module _ (part : List ℕ → List ℕ) (parts : List (List ℕ) → List ℕ) (none : part [] ≡ []) (many : (row : List ℕ) → length (part row) ≡ length (nonzeros row))
    (end : parts [] ≡ []) (next : (row : List ℕ) (rows : List (List ℕ)) → parts (row ∷ rows) ≡ part row ++ parts rows) where
  -- where `at` cells stand before them
  pub parts-later : (at : ℕ) (l row : List ℕ) (rows : List (List ℕ)) → drop at l ≡ parts (row ∷ rows) → drop (at + length (nonzeros row)) l ≡ parts rows
  parts-later at l row rows h =
      ap (λ (k : ℕ). drop (at + k) l) (sym (many row))
      ∙ sym (drop-drop (length (part row)) at l)
      ∙ ap (drop (length (part row))) (h ∙ next row rows)
      ∙ drop-append_seam (part row) (parts rows)

  pub parts_first : (at : ℕ) (l row : List ℕ) (rows : List (List ℕ)) → drop at l ≡ parts (row ∷ rows) → slice at (at + length (nonzeros row)) l ≡ part row
  parts_first at l row rows h =
      drop-take at (at + length (nonzeros row)) l
      ∙ ap (λ (k : ℕ). take k (drop at l)) (let e : at + length (nonzeros row) - at ≡ length (part row) = omega (arith, many row) in e)
      ∙ ap (take (length (part row))) (h ∙ next row rows)
      ∙ take-append_seam (part row) (parts rows)

  parts_at : (at : ℕ) (l : List ℕ) (rows : List (List ℕ)) (i : ℕ) → drop at l ≡ parts rows
      → slice (get_or (at ∷ starts_after at rows) i 0) (get_or (starts_after at rows) i 0) l ≡ part (get_or rows i [])
  unfolding starts_after
  parts_at at l [] i h = drop-nil (get_or (at ∷ []) i 0) ∙ sym none
  parts_at at l (row ∷ rows) zero h = parts_first at l row rows h
  parts_at at l (row ∷ rows) (suc i) h = parts_at (at + length (nonzeros row)) l rows i (parts-later at l row rows h)

  pub parts-row : (rows : List (List ℕ)) (i : ℕ) → row_of (compress rows).starts i (parts rows) ≡ part (get_or rows i [])
  unfolding compress
  parts-row rows i = ap (λ (k : ℕ). slice (get_or (0 ∷ starts_after 0 rows) i 0) (get_or (0 ∷ starts_after 0 rows) k 0) (parts rows)) (add-one i) ∙ parts_at 0 (parts rows) rows i refl

  parts-length : (rows : List (List ℕ)) → length (parts rows) ≡ length (all_values rows)
  unfolding all_values
  parts-length [] = ap length end
  parts-length (row ∷ rows) =
      ap length (next row rows)
      ∙ omega (arith, length-append (part row) (parts rows), many row, parts-length rows, length-append (nonzeros row) (all_values rows))

  pub parts-append : (rows more : List (List ℕ)) → parts (rows ++ more) ≡ parts rows ++ parts more
  parts-append [] more = ap (λ (l : List ℕ). l ++ parts more) (sym end)
  parts-append (row ∷ rows) more =
      next row (rows ++ more)
      ∙ ap (λ (l : List ℕ). part row ++ l) (parts-append rows more)
      ∙ sym (append_assoc (part row) (parts rows) (parts more))
      ∙ ap (λ (l : List ℕ). l ++ parts more) (sym (next row rows))

-- ---- the stored lists: rows, entries, lengths, and one row more

pub compress-columns : (rows : List (List ℕ)) (i : ℕ) → row_of (compress rows).starts i (all_columns rows) ≡ columns_from 0 (get_or rows i [])
unfolding columns_from all_columns
compress-columns = parts-row (columns_from 0) all_columns refl (columns-length 0) refl (λ row rows. refl)

pub compress-values : (rows : List (List ℕ)) (i : ℕ) → row_of (compress rows).starts i (all_values rows) ≡ nonzeros (get_or rows i [])
unfolding nonzeros all_values
compress-values = parts-row nonzeros all_values refl (λ row. refl) refl (λ row rows. refl)

pub compress-matrix : (rows : List (List ℕ)) (i j : ℕ) → matrix (compress rows) i j ≡ get_or (get_or rows i []) j 0
unfolding compress
compress-matrix rows i j = (λ t. entry (compress-columns rows i t) (compress-values rows i t) j) ∙ dense-entry (get_or rows i []) j

pub compress-paired : (rows : List (List ℕ)) → length (all_columns rows) ≡ length (all_values rows)
unfolding columns_from all_columns
compress-paired = parts-length (columns_from 0) all_columns refl (columns-length 0) refl (λ row rows. refl)

starts-length : (at : ℕ) (rows : List (List ℕ)) → length (starts_after at rows) ≡ length rows
unfolding starts_after
starts-length at [] = refl
starts-length at (row ∷ rows) = ap suc (starts-length (at + length (nonzeros row)) rows)

-- the last start is the entry count
starts-last : (at : ℕ) (rows : List (List ℕ)) → get_or (at ∷ starts_after at rows) (length rows) 0 ≡ at + length (all_values rows)
unfolding starts_after all_values
starts-last at [] = omega arith
starts-last at (row ∷ rows) = starts-last (at + length (nonzeros row)) rows ∙ omega (arith, length-append (nonzeros row) (all_values rows))

starts-append : (at : ℕ) (rows more : List (List ℕ)) → starts_after at (rows ++ more) ≡ starts_after at rows ++ starts_after (at + length (all_values rows)) more
unfolding starts_after all_values
starts-append at [] more = ap (λ (k : ℕ). starts_after k more) (let e : at ≡ at + 0 = omega arith in e)
starts-append at (row ∷ rows) more =
    let s : ℕ = at + length (nonzeros row) in
    ap (λ (l : List ℕ). s ∷ l) (starts-append s rows more)
    ∙ ap (λ (k : ℕ). s ∷ starts_after s rows ++ starts_after k more)
    (let e : s + length (all_values rows) ≡ at + length (nonzeros row ++ all_values rows) = omega (arith, length-append (nonzeros row) (all_values rows)) in e)

sum_first : (n : ℕ) (f : ℕ → ℕ) → sum (suc n) f ≡ f 0 + sum n (λ i. f (suc i))
unfolding sum
sum_first zero f = omega arith
sum_first (suc n) f = omega (arith, sum_first n f)

pub values-count : (rows : List (List ℕ)) → length (all_values rows) ≡ sum (length rows) (λ i. length (nonzeros (get_or rows i [])))
unfolding all_values sum
values-count [] = refl
values-count (row ∷ rows) =
    length-append (nonzeros row) (all_values rows)
    ∙ omega (arith, values-count rows, sum_first (length rows) (λ i. length (nonzeros (get_or (row ∷ rows) i []))))

-- how long the lists are
pub record Lengths (rows : List (List ℕ)) : Type 0 where
  pub starts-are : length (compress rows).starts ≡ length rows + 1
  pub paired : length (compress rows).cols ≡ length (compress rows).vals
  pub last-start : get_or (compress rows).starts (length rows) 0 ≡ length (compress rows).vals
  pub entry-count : length (compress rows).vals ≡ sum (length rows) (λ i. length (nonzeros (get_or rows i [])))

pub compress-lengths : (rows : List (List ℕ)) → Lengths rows
unfolding compress
compress-lengths rows =
    record {
      starts-are = ap suc (starts-length 0 rows) ∙ omega arith;
      paired = compress-paired rows;
      last-start = starts-last 0 rows ∙ omega arith;
      entry-count = values-count rows;
    }

-- the lists with one more row at the end
pub record Appended (rows : List (List ℕ)) (row : List ℕ) : Type 0 where
  pub starts : (compress (rows ++ (row ∷ []))).starts ≡ (compress rows).starts ++ ((length (compress rows).vals + length (nonzeros row)) ∷ [])
  pub cols : (compress (rows ++ (row ∷ []))).cols ≡ (compress rows).cols ++ columns_from 0 row
  pub vals : (compress (rows ++ (row ∷ []))).vals ≡ (compress rows).vals ++ nonzeros row

pub compress-append : (rows : List (List ℕ)) (row : List ℕ) → Appended rows row
unfolding compress columns_from nonzeros all_columns all_values starts_after
compress-append rows row =
    record {
      starts = ap (λ (l : List ℕ). 0 ∷ l) (starts-append 0 rows (row ∷ []) ∙ ap (λ (k : ℕ). starts_after 0 rows ++ ((k + length (nonzeros row)) ∷ [])) from_zero);
      cols =
          parts-append (columns_from 0) all_columns refl (columns-length 0) refl (λ r rs. refl) rows (row ∷ [])
          ∙ ap (λ (l : List ℕ). all_columns rows ++ l) (append-nil (columns_from 0 row));
      vals =
          parts-append nonzeros all_values refl (λ r. refl) refl (λ r rs. refl) rows (row ∷ [])
          ∙ ap (λ (l : List ℕ). all_values rows ++ l) (append-nil (nonzeros row));
    }
  where
    from_zero : 0 + length (all_values rows) ≡ length (all_values rows)
    from_zero = omega arith

-- ---- rows with the same cells are stored alike, however many zeros end them

pub values_same : (xs ys : List ℕ) → ((j : ℕ) → get_or xs j 0 ≡ get_or ys j 0) → nonzeros xs ≡ nonzeros ys
unfolding nonzeros
values_same [] [] h = refl
values_same [] (zero ∷ ys) h = values_same [] ys (λ j. h (suc j))
values_same [] (suc w ∷ ys) h = absurd (omega (arith, h 0))
values_same (zero ∷ xs) [] h = values_same xs [] (λ j. h (suc j))
values_same (suc v ∷ xs) [] h = absurd (omega (arith, h 0))
values_same (zero ∷ xs) (zero ∷ ys) h = values_same xs ys (λ j. h (suc j))
values_same (zero ∷ xs) (suc w ∷ ys) h = absurd (omega (arith, h 0))
values_same (suc v ∷ xs) (zero ∷ ys) h = absurd (omega (arith, h 0))
values_same (suc v ∷ xs) (suc w ∷ ys) h = (λ t. h 0 t ∷ values_same xs ys (λ j. h (suc j)) t)

pub columns-same : (at : ℕ) (xs ys : List ℕ) → ((j : ℕ) → get_or xs j 0 ≡ get_or ys j 0) → columns_from at xs ≡ columns_from at ys
unfolding columns_from
columns-same at [] [] h = refl
columns-same at [] (zero ∷ ys) h = columns-same (suc at) [] ys (λ j. h (suc j))
columns-same at [] (suc w ∷ ys) h = absurd (omega (arith, h 0))
columns-same at (zero ∷ xs) [] h = columns-same (suc at) xs [] (λ j. h (suc j))
columns-same at (suc v ∷ xs) [] h = absurd (omega (arith, h 0))
columns-same at (zero ∷ xs) (zero ∷ ys) h = columns-same (suc at) xs ys (λ j. h (suc j))
columns-same at (zero ∷ xs) (suc w ∷ ys) h = absurd (omega (arith, h 0))
columns-same at (suc v ∷ xs) (zero ∷ ys) h = absurd (omega (arith, h 0))
columns-same at (suc v ∷ xs) (suc w ∷ ys) h = ap (λ (l : List ℕ). at ∷ l) (columns-same (suc at) xs ys (λ j. h (suc j)))

-- lists of as many rows, with the same cells
pub record SameCells (rows rows' : List (List ℕ)) : Type 0 where
  pub as_many : length rows ≡ length rows'
  pub cells : (i j : ℕ) → i < length rows → get_or (get_or rows i []) j 0 ≡ get_or (get_or rows' i []) j 0

lists-same : (rows rows' : List (List ℕ)) → SameCells rows rows'
    → ((at : ℕ) → starts_after at rows ≡ starts_after at rows') × (all_columns rows ≡ all_columns rows') × (all_values rows ≡ all_values rows')
unfolding starts_after all_columns all_values
lists-same [] [] s = (λ at. refl, refl, refl)
lists-same [] (row' ∷ rows') s = absurd (omega (arith, s.as_many))
lists-same (row ∷ rows) [] s = absurd (omega (arith, s.as_many))
lists-same (row ∷ rows) (row' ∷ rows') s =
    let ih = lists-same rows rows' (record { as_many = omega (arith, s.as_many); cells = λ i j h. s.cells (suc i) j (omega arith) }) in
    let v : nonzeros row ≡ nonzeros row' = values_same row row' (λ j. s.cells 0 j (omega arith)) in
    let c : columns_from 0 row ≡ columns_from 0 row' = columns-same 0 row row' (λ j. s.cells 0 j (omega arith)) in (
      λ at. ap (λ (l : List ℕ). (at + length l) ∷ starts_after (at + length l) rows) v ∙ ap (λ (l : List ℕ). (at + length (nonzeros row')) ∷ l) (ih.0 (at + length (nonzeros row'))),
      (λ t. c t ++ ih.1 t),
      (λ t. v t ++ ih.2 t),
    )

pub compress-same : (rows rows' : List (List ℕ)) → SameCells rows rows' → compress rows ≡ compress rows'
unfolding compress
compress-same rows rows' s = let e = lists-same rows rows' s in (λ t. compressed (0 ∷ e.0 0 t) (e.1 t) (e.2 t))
