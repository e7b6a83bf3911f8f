-- Lists that hold some rows at their beginning and others at their end, in reverse: one row more at either, and at last all rows one after another.
use mathlib.Core.Path.{◌≡◌, refl, sym, ap, ◌∙◌}
use mathlib.Core.List.{List, [], ◌∷◌, ◌++◌, append-nil, map}
use Prim.Native.Nat.{ℕ, ◌+◌, ◌-◌, ◌≤◌, ◌<◌, zero, suc}
use native.Mathlib.Omega.{arith}
use lib.ListN.{length, get_or, drop, set, length-append}
use lib.Seq.{sets, take_at, drop_at}
use Rattle.lists.specs.Filled.{zeros, filled}
use Rattle.lists.proofs.Filled.{filled-whole}
use Rattle.sparse.specs.Matrix.{Compressed, compressed}
use Rattle.sparse.specs.Dense.{columns_from, nonzeros, starts_after, all_columns, all_values, compress}
use Rattle.sparse.specs.Storing.{DenseStored}
use Rattle.sparse.proofs.DenseLaws.{compress-lengths, compress-append, columns-length, parts-append}
use Rattle.elimination.specs.Factoring.{entries}
use Rattle.factor_turn.specs.State.{Ends, HoldsEnds}
use Rattle.factor_turn.specs.Keeping.{turned_part, PartReady, moved_from}
use Rattle.factor_turn.proofs.Ends.{ends-none, ends-front, back-ready, ends-back, ends-one, ends_turned}

-- ---- the starts without the first

starts-many : (rows : List (List ℕ)) → length (starts_after 0 rows) ≡ length rows
unfolding compress
starts-many rows = omega (arith, (compress-lengths rows).starts-are)

starts_more : (rows : List (List ℕ)) (row : List ℕ) → starts_after 0 (rows ++ (row ∷ [])) ≡ starts_after 0 rows ++ ((length (compress rows).vals + length (nonzeros row)) ∷ [])
unfolding compress
starts_more rows row = ap (drop 1) (compress-append rows row).starts

-- ---- one row more

module _ (rows others : List (List ℕ)) (h : Compressed) (s : HoldsEnds rows others h) (row cols vals : List ℕ) (at next : ℕ) (ea : at ≡ length (compress rows).vals)
    (d : DenseStored 0 at row h.cols h.vals cols vals next) (paired : length h.cols ≡ length h.vals)
    (fit : length (compress rows).vals + length (compress others).vals + length (nonzeros row) ≤ length h.cols) where
  columns-fit : length (compress rows).cols + length (columns_from 0 row) + length (compress others).cols ≤ length h.cols
  columns-fit = omega (arith, fit, columns-length 0 row, (compress-lengths rows).paired, (compress-lengths others).paired)

  values-fit : length (compress rows).vals + length (nonzeros row) + length (compress others).vals ≤ length h.vals
  values-fit = omega (arith, fit, paired)

  columns-written : cols ≡ sets h.cols (length (compress rows).cols) (columns_from 0 row)
  columns-written = d.columns ∙ ap (λ (i : ℕ). sets h.cols i (columns_from 0 row)) (ea ∙ sym (compress-lengths rows).paired)

  values-written : vals ≡ sets h.vals (length (compress rows).vals) (nonzeros row)
  values-written = d.values ∙ ap (λ (i : ℕ). sets h.vals i (nonzeros row)) ea

  -- at the beginning
  pub ends-pivot : (i : ℕ) → i ≡ length rows + 1 → length rows + length others + 1 < length h.starts → HoldsEnds (rows ++ (row ∷ [])) others (compressed (set h.starts i next) cols vals)
  ends-pivot i ei inside =
      let a = compress-append rows row in
      record {
        starts = rw (a.starts, place, ei ∙ sym (compress-lengths rows).starts-are)
            (ends-front (compress rows).starts (starts_after 0 others) h.starts s.starts ((length (compress rows).vals + length (nonzeros row)) ∷ [])
            (omega (arith, (compress-lengths rows).starts-are, starts-many others)));
        columns = rw (a.cols, columns-written) (ends-front (compress rows).cols (compress others).cols h.cols s.columns (columns_from 0 row) columns-fit);
        values = rw (a.vals, values-written) (ends-front (compress rows).vals (compress others).vals h.vals s.values (nonzeros row) values-fit);
      }
    where
      place : next ≡ length (compress rows).vals + length (nonzeros row)
      place = d.place ∙ ap (λ (k : ℕ). k + length (nonzeros row)) ea

  -- at the end, when what stands before it is turned round
  module _ (e : ℕ) (ee : e ≡ length h.cols - length (compress others).vals) where
    columns-end : e ≡ length h.cols - length (compress others).cols
    columns-end = omega (arith, ee, (compress-lengths others).paired)

    values-end : e ≡ length h.vals - length (compress others).vals
    values-end = omega (arith, ee, paired)

    columns-begin : at ≡ length (compress rows).cols
    columns-begin = ea ∙ sym (compress-lengths rows).paired

    pub columns-ready : (k : ℕ) → k ≡ length (nonzeros row) → PartReady at e k cols
    columns-ready k ek =
        rw columns-written (back-ready (compress rows).cols (compress others).cols h.cols s.columns (columns_from 0 row) columns-fit at e columns-begin columns-end k (ek ∙ sym (columns-length 0 row)))

    pub values-ready : (k : ℕ) → k ≡ length (nonzeros row) → PartReady at e k vals
    values-ready k ek =
        rw values-written (back-ready (compress rows).vals (compress others).vals h.vals s.values (nonzeros row) values-fit at e ea values-end k ek)

    pub ends-dependent : (place v : ℕ) → place + (length others + 1) ≡ length h.starts → length rows + length others + 1 < length h.starts → v ≡ length (compress others).vals + length (nonzeros row)
        → HoldsEnds rows (others ++ (row ∷ [])) (compressed (set h.starts place v) (turned_part at e cols) (turned_part at e vals))
    ends-dependent place v ep inside ev =
        let a = compress-append others row in
        record {
          starts = rw (starts_more others row, ev)
              (ends-one (compress rows).starts (starts_after 0 others) h.starts s.starts (length (compress others).vals + length (nonzeros row)) place
              (omega (arith, (compress-lengths rows).starts-are, starts-many others)) (omega (arith, starts-many others)));
          columns = rw (a.cols, columns-written) (ends-back (compress rows).cols (compress others).cols h.cols s.columns (columns_from 0 row) columns-fit at e columns-begin columns-end);
          values = rw (a.vals, values-written) (ends-back (compress rows).vals (compress others).vals h.vals s.values (nonzeros row) values-fit at e ea values-end);
        }

-- before the first row the lists are all zero
pub ends-clear : (h : Compressed) → 0 < length h.starts → h.starts ≡ zeros (length h.starts) → h.cols ≡ zeros (length h.cols) → h.vals ≡ zeros (length h.vals) → HoldsEnds [] [] h
unfolding compress starts_after all_columns all_values zeros
ends-clear h some ss cs vs = record { starts = one h.starts some ss; columns = ends-none h.cols cs; values = ends-none h.vals vs }
  where
    one : (l : List ℕ) → 0 < length l → l ≡ zeros (length l) → Ends (0 ∷ []) [] l
    one [] some e = absurd (omega arith)
    one (x ∷ l) some e = record { gap = length l; whole = e ∙ ap (λ (z : List ℕ). 0 ∷ z) (sym (append-nil (zeros (length l)))) }

-- ---- all rows, one after another

starts-moved : (at k : ℕ) (rows : List (List ℕ)) → starts_after (at + k) rows ≡ map (λ x. x + k) (starts_after at rows)
unfolding starts_after
starts-moved at k [] = refl
starts-moved at k (row ∷ rows) =
    ap (λ (j : ℕ). j ∷ starts_after j rows) (let e : at + k + length (nonzeros row) ≡ at + length (nonzeros row) + k = omega arith in e)
    ∙ ap (λ (l : List ℕ). (at + length (nonzeros row) + k) ∷ l) (starts-moved (at + length (nonzeros row)) k rows)

starts-both : (at : ℕ) (rows others : List (List ℕ)) → starts_after at (rows ++ others) ≡ starts_after at rows ++ map (λ x. x + (at + entries rows)) (starts_after 0 others)
unfolding starts_after entries
starts-both at [] others =
    ap (λ (k : ℕ). starts_after k others) (let e : at ≡ 0 + at = omega arith in e)
    ∙ starts-moved 0 at others
    ∙ ap (λ (k : ℕ). map (λ x. x + k) (starts_after 0 others)) (let e : at ≡ at + 0 = omega arith in e)
starts-both at (row ∷ rows) others =
    let s : ℕ = at + length (nonzeros row) in
    ap (λ (l : List ℕ). s ∷ l) (starts-both s rows others)
    ∙ ap (λ (k : ℕ). s ∷ starts_after s rows ++ map (λ x. x + k) (starts_after 0 others)) (let e : s + entries rows ≡ at + (length (nonzeros row) + entries rows) = omega arith in e)

pub starts-most : (at : ℕ) (rows : List (List ℕ)) (i : ℕ) → get_or (starts_after at rows) i 0 ≤ at + entries rows
unfolding starts_after entries
starts-most at [] i = omega arith
starts-most at (row ∷ rows) zero = omega arith
starts-most at (row ∷ rows) (suc i) = omega (arith, starts-most (at + length (nonzeros row)) rows i)

module _ (rows others : List (List ℕ)) where
  pub both-starts : (compress (rows ++ others)).starts ≡ (compress rows).starts ++ map (λ x. x + entries rows) (starts_after 0 others)
  unfolding compress
  both-starts = ap (λ (l : List ℕ). 0 ∷ l) (starts-both 0 rows others ∙ ap (λ (k : ℕ). starts_after 0 rows ++ map (λ x. x + k) (starts_after 0 others)) (let e : 0 + entries rows ≡ entries rows = omega arith in e))

  pub both-columns : (compress (rows ++ others)).cols ≡ (compress rows).cols ++ (compress others).cols
  unfolding compress columns_from all_columns
  both-columns = parts-append (columns_from 0) all_columns refl (columns-length 0) refl (λ r rs. refl) rows others

  pub both_values : (compress (rows ++ others)).vals ≡ (compress rows).vals ++ (compress others).vals
  unfolding compress nonzeros all_values
  both_values = parts-append nonzeros all_values refl (λ r. refl) refl (λ r rs. refl) rows others

-- where the lists hold some at the beginning and others at the end, and nothing between the starts
module _ (rows others : List (List ℕ)) (h : Compressed) (s : HoldsEnds rows others h) where
  pub turned-columns : (at : ℕ) → at ≡ length (compress rows).cols → turned_part at (length h.cols) h.cols ≡ filled (length h.cols) (compress (rows ++ others)).cols
  turned-columns at ea = ends_turned (compress rows).cols (compress others).cols h.cols s.columns at ea ∙ ap (filled (length h.cols)) (sym (both-columns rows others))

  pub turned-values : (at : ℕ) → at ≡ length (compress rows).vals → turned_part at (length h.vals) h.vals ≡ filled (length h.vals) (compress (rows ++ others)).vals
  turned-values at ea = ends_turned (compress rows).vals (compress others).vals h.vals s.values at ea ∙ ap (filled (length h.vals)) (sym (both_values rows others))

  module _ (i : ℕ) (ei : i ≡ length rows + 1) (whole : length h.starts ≡ length rows + length others + 1) where
    starts-begin : i ≡ length (compress rows).starts
    starts-begin = omega (arith, (compress-lengths rows).starts-are)

    pub turned-starts : turned_part i (length h.starts) h.starts ≡ (compress rows).starts ++ starts_after 0 others
    turned-starts =
        ends_turned (compress rows).starts (starts_after 0 others) h.starts s.starts i starts-begin
        ∙ filled-whole (length h.starts) ((compress rows).starts ++ starts_after 0 others)
        (omega (arith, whole, length-append (compress rows).starts (starts_after 0 others), (compress-lengths rows).starts-are, starts-many others))

    pub moved-starts : (l : ℕ) → l ≡ entries rows → moved_from i l (turned_part i (length h.starts) h.starts) ≡ filled (length h.starts) (compress (rows ++ others)).starts
    moved-starts l el =
        ap (moved_from i l) turned-starts
        ∙ (λ t. take_at (compress rows).starts (starts_after 0 others) i (sym starts-begin) t ++ map (λ x. x + el t) (drop_at (compress rows).starts (starts_after 0 others) i (sym starts-begin) t))
        ∙ sym (both-starts rows others)
        ∙ sym (filled-whole (length h.starts) (compress (rows ++ others)).starts (omega (arith, whole, (compress-lengths (rows ++ others)).starts-are, length-append rows others)))
