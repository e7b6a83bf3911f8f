-- The stored lists of dense rows of residues are well formed.
use mathlib.Core.Path.{◌≡◌, refl, sym, ap, ◌∙◌}
use mathlib.Core.Bool.{true, ◌&&◌}
use mathlib.Core.List.{List, [], ◌∷◌, ◌++◌}
use Prim.Native.Nat.{ℕ, zero, suc, ◌+◌, ◌≤◌, ◌<◌}
use native.Mathlib.Omega.{arith}
use native.Mathlib.Numerals.{add-one}
use lib.Dec.{leb, ltb, eqb}
use lib.ListN.{length, get_or, drop, length-append}
use lib.Seq.{slice}
use borrow.Author.Tests.{le-leb, lt-ltb, eq-eqb, leb-true}
use Rattle.lists.proofs.Bools.{and_both, and_left, and_right}
use Rattle.sparse.specs.Form.{starts_from, starts_ok, rises_from, rows_from, values_ok, well_formed}
use Rattle.sparse.specs.Matrix.{form}
use Rattle.sparse.specs.Dense.{columns_from, nonzeros, starts_after, all_columns, all_values, compress}
use Rattle.sparse.proofs.DenseLaws.{columns-length, parts_first, parts-later, compress-paired}

-- rows of residues, none longer than `width`
pub record DenseRows (p width : ℕ) (rows : List (List ℕ)) : Type 0 where
  pub narrow : (i : ℕ) → i < length rows → length (get_or rows i []) ≤ width
  pub residues : (i j : ℕ) → i < length rows → get_or (get_or rows i []) j 0 < p

dense-rest : (p width : ℕ) (row : List ℕ) (rows : List (List ℕ)) → DenseRows p width (row ∷ rows) → DenseRows p width rows
dense-rest p width row rows d = record { narrow = λ i h. d.narrow (suc i) (omega arith); residues = λ i j h. d.residues (suc i) j (omega arith) }

rises-lower : (width low : ℕ) (cs : List ℕ) → rises_from width (suc low) cs ≡ true → rises_from width low cs ≡ true
unfolding rises_from
rises-lower width low [] h = refl
rises-lower width low (c ∷ cs) h =
    let b = and_left (leb (suc low) c && ltb c width) (rises_from width (c + 1) cs) h in
    let le : suc low ≤ c = leb-true (suc low) c (and_left (leb (suc low) c) (ltb c width) b) in
    and_both (leb low c && ltb c width) (rises_from width (c + 1) cs)
    (and_both (leb low c) (ltb c width) (le-leb low c (omega arith)) (and_right (leb (suc low) c) (ltb c width) b))
    (and_right (leb (suc low) c && ltb c width) (rises_from width (c + 1) cs) h)

dense-rises : (width at : ℕ) (row : List ℕ) → at + length row ≤ width → rises_from width at (columns_from at row) ≡ true
unfolding rises_from columns_from
dense-rises width at [] h = refl
dense-rises width at (zero ∷ row) h = rises-lower width at (columns_from (suc at) row) (dense-rises width (suc at) row (omega arith))
dense-rises width at (suc v ∷ row) h =
    and_both (leb at at && ltb at width) (rises_from width (at + 1) (columns_from (suc at) row))
    (and_both (leb at at) (ltb at width) (le-leb at at (omega arith)) (lt-ltb at width (omega arith)))
    (ap (λ (k : ℕ). rises_from width k (columns_from (suc at) row)) (add-one at) ∙ dense-rises width (suc at) row (omega arith))

dense-values : (p : ℕ) (row : List ℕ) → ((j : ℕ) → get_or row j 0 < p) → values_ok p (nonzeros row) ≡ true
unfolding values_ok nonzeros
dense-values p [] h = refl
dense-values p (zero ∷ row) h = dense-values p row (λ j. h (suc j))
dense-values p (suc v ∷ row) h =
    and_both (ltb 0 (suc v) && ltb (suc v) p) (values_ok p (nonzeros row))
    (and_both (ltb 0 (suc v)) (ltb (suc v) p) (lt-ltb 0 (suc v) (omega arith)) (lt-ltb (suc v) p (h 0)))
    (dense-values p row (λ j. h (suc j)))

values-append : (p : ℕ) (us vs : List ℕ) → values_ok p us ≡ true → values_ok p vs ≡ true → values_ok p (us ++ vs) ≡ true
unfolding values_ok
values-append p [] vs h k = k
values-append p (u ∷ us) vs h k =
    and_both (ltb 0 u && ltb u p) (values_ok p (us ++ vs)) (and_left (ltb 0 u && ltb u p) (values_ok p us) h) (values-append p us vs (and_right (ltb 0 u && ltb u p) (values_ok p us) h) k)

values_of : (p width : ℕ) (rows : List (List ℕ)) → DenseRows p width rows → values_ok p (all_values rows) ≡ true
unfolding values_ok all_values
values_of p width [] d = refl
values_of p width (row ∷ rows) d =
    values-append p (nonzeros row) (all_values rows) (dense-values p row (λ j. d.residues 0 j (omega arith))) (values_of p width rows (dense-rest p width row rows d))

starts-of : (at : ℕ) (rows : List (List ℕ)) → starts_from (at + length (all_values rows)) at (starts_after at rows) ≡ true
unfolding starts_from starts_after all_values
starts-of at [] = eq-eqb at (at + 0) (omega arith)
starts-of at (row ∷ rows) =
    let s : ℕ = at + length (nonzeros row) in
    and_both (leb at s) (starts_from (at + length (nonzeros row ++ all_values rows)) s (starts_after s rows)) (le-leb at s (omega arith))
    (ap (λ (k : ℕ). starts_from k s (starts_after s rows)) (let e : at + length (nonzeros row ++ all_values rows) ≡ s + length (all_values rows) = omega (arith, length-append (nonzeros row) (all_values rows)) in e)
    ∙ starts-of s rows)

rows_of : (p width at : ℕ) (cols : List ℕ) (rows : List (List ℕ)) → DenseRows p width rows → drop at cols ≡ all_columns rows → rows_from width cols at (starts_after at rows) ≡ true
unfolding rows_from starts_after columns_from all_columns
rows_of p width at cols [] d h = refl
rows_of p width at cols (row ∷ rows) d h =
    and_both (rises_from width 0 (slice at s cols)) (rows_from width cols s (starts_after s rows))
    (ap (rises_from width 0) (parts_first (columns_from 0) all_columns refl (columns-length 0) refl (λ r rs. refl) at cols row rows h) ∙ dense-rises width 0 row (omega (arith, d.narrow 0 (omega arith))))
    (rows_of p width s cols rows (dense-rest p width row rows d) (parts-later (columns_from 0) all_columns refl (columns-length 0) refl (λ r rs. refl) at cols row rows h))
  where
    s : ℕ
    s = at + length (nonzeros row)

pub compress-form : (p width : ℕ) (rows : List (List ℕ)) → DenseRows p width rows → form p width (compress rows) ≡ true
unfolding well_formed starts_ok compress
compress-form p width rows d =
    and_both (starts_ok (length (all_columns rows)) (0 ∷ starts_after 0 rows)) (eqb (length (all_values rows)) (length (all_columns rows)) && (rows_from width (all_columns rows) 0 (starts_after 0 rows) && values_ok p (all_values rows)))
    (ap (λ (k : ℕ). starts_from k 0 (starts_after 0 rows)) (compress-paired rows ∙ (let e : length (all_values rows) ≡ 0 + length (all_values rows) = omega arith in e)) ∙ starts-of 0 rows)
    (and_both (eqb (length (all_values rows)) (length (all_columns rows))) (rows_from width (all_columns rows) 0 (starts_after 0 rows) && values_ok p (all_values rows))
    (eq-eqb (length (all_values rows)) (length (all_columns rows)) (sym (compress-paired rows)))
    (and_both (rows_from width (all_columns rows) 0 (starts_after 0 rows)) (values_ok p (all_values rows)) (rows_of p width 0 (all_columns rows) rows d refl) (values_of p width rows d)))
