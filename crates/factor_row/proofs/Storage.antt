-- Laws of lists that are being filled: more is written at the end of what they begin with, and at last they are filled.
use mathlib.Core.Path.{◌≡◌, refl, sym, ap, ◌∙◌, subst, subst₂}
use mathlib.Core.List.{List, [], ◌∷◌, ◌++◌}
use Prim.Native.Nat.{ℕ, zero, suc, ◌+◌, ◌-◌, ◌≤◌, ◌<◌}
use native.Mathlib.Omega.{arith}
use lib.ListN.{length, get_or, take, drop, set, replicate, length-append, length-take, take-append-drop}
use lib.Seq.{sets, sets-eq, length-sets, length-take-le, drop-drop, take_at, drop_at}
use Rattle.lists.specs.Filled.{zeros, filled}
use Rattle.sparse.specs.Matrix.{Compressed, compressed}
use Rattle.sparse.specs.Dense.{columns_from, nonzeros, starts_after, all_columns, all_values, compress}
use Rattle.sparse.specs.Storing.{DenseStored}
use Rattle.sparse.proofs.DenseLaws.{compress-lengths, Appended, compress-append, columns-length}
use Rattle.factor_row.specs.Storage.{Begins, Holds}

-- ---- zeros, and lists written in the middle

zeros-drop : (n k : ℕ) → drop k (zeros n) ≡ zeros (n - k)
unfolding zeros
zeros-drop n zero = ap (λ (j : ℕ). replicate j 0) (let e : n ≡ n - 0 = omega arith in e)
zeros-drop zero (suc k) = ap (λ (j : ℕ). replicate j 0) (let e : 0 ≡ 0 - suc k = omega arith in e)
zeros-drop (suc n) (suc k) = zeros-drop n k ∙ ap (λ (j : ℕ). replicate j 0) (let e : n - k ≡ suc n - suc k = omega arith in e)

sets-front : (l : List ℕ) (i : ℕ) (ys : List ℕ) → i + length ys ≤ length l → take (i + length ys) (sets l i ys) ≡ take i l ++ ys
sets-front l i ys h =
    ap (take (i + length ys)) (sets-eq ys l i h)
    ∙ take_at (take i l ++ ys) (drop (i + length ys) l) (i + length ys) (omega (arith, length-append (take i l) ys, length-take-le i l (omega arith)))

sets-after : (l : List ℕ) (i : ℕ) (ys : List ℕ) (b : ℕ) → i + length ys ≤ b → b ≤ length l → drop b (sets l i ys) ≡ drop b l
sets-after l i ys b h g =
    ap (λ (k : ℕ). drop k (sets l i ys)) split
    ∙ sym (drop-drop (b - (i + length ys)) (i + length ys) (sets l i ys))
    ∙ ap (drop (b - (i + length ys))) end
    ∙ drop-drop (b - (i + length ys)) (i + length ys) l
    ∙ ap (λ (k : ℕ). drop k l) (sym split)
  where
    split : b ≡ i + length ys + (b - (i + length ys))
    split = omega arith

    end : drop (i + length ys) (sets l i ys) ≡ drop (i + length ys) l
    end =
        ap (drop (i + length ys)) (sets-eq ys l i (omega arith))
        ∙ drop_at (take i l ++ ys) (drop (i + length ys) l) (i + length ys) (omega (arith, length-append (take i l) ys, length-take-le i l (omega arith)))

-- ---- a list that begins with xs

module _ (xs : List ℕ) (b : ℕ) (l : List ℕ) (h : Begins xs b l) where
  pub begins-long : length xs ≤ length l
  begins-long = omega (arith, ap length h.front, length-take (length xs) l)

  later-zero : (b' : ℕ) → b ≤ b' → drop b' l ≡ zeros (length l - b')
  later-zero b' g =
      ap (λ (k : ℕ). drop k l) (let e : b' ≡ b + (b' - b) = omega arith in e)
      ∙ sym (drop-drop (b' - b) b l)
      ∙ ap (drop (b' - b)) h.back
      ∙ zeros-drop (length l - b) (b' - b)
      ∙ ap zeros (let e : length l - b - (b' - b) ≡ length l - b' = omega arith in e)

  back-written : (ys : List ℕ) (b' : ℕ) → length xs + length ys ≤ b' → b ≤ b' → b' ≤ length l → drop b' (sets l (length xs) ys) ≡ zeros (length (sets l (length xs) ys) - b')
  back-written ys b' g k e =
      sets-after l (length xs) ys b' g e ∙ later-zero b' k ∙ ap (λ (n : ℕ). zeros (n - b')) (sym (length-sets l (length xs) ys))

  -- ys are written after xs
  pub begins-more : (ys : List ℕ) (b' : ℕ) → length xs + length ys ≤ b' → b ≤ b' → b' ≤ length l → Begins (xs ++ ys) b' (sets l (length xs) ys)
  begins-more ys b' g k e =
      record {
        front = ap (λ (n : ℕ). take n (sets l (length xs) ys)) (length-append xs ys)
            ∙ sets-front l (length xs) ys (omega arith)
            ∙ ap (λ (z : List ℕ). z ++ ys) h.front;
        inside = omega (arith, length-append xs ys);
        back = back-written ys b' g k e;
      }

  -- nothing stands between
  pub begins-filled : length xs ≡ b → l ≡ filled (length l) xs
  unfolding filled
  begins-filled e =
      sym (take-append-drop (length xs) l)
      ∙ (λ t. h.front t ++ drop (e t) l)
      ∙ ap (λ (z : List ℕ). xs ++ z) h.back
      ∙ ap (λ (k : ℕ). xs ++ zeros (length l - k)) (sym e)

pub begins-none : (l : List ℕ) → l ≡ zeros (length l) → Begins [] 0 l
begins-none l h = record { front = refl; inside = omega arith; back = h ∙ ap zeros (let e : length l ≡ length l - 0 = omega arith in e) }

-- ---- lists that hold rows

module _ (rows : List (List ℕ)) (b : ℕ) (h : Compressed) (s : Holds rows b h) where
  pub starts-long : length (compress rows).starts ≡ length rows + 1
  starts-long = (compress-lengths rows).starts-are

  columns-long : length (compress rows).cols ≡ length (compress rows).vals
  columns-long = (compress-lengths rows).paired

  -- the rows in the lists cut to their lengths
  pub holds-cut : (r at : ℕ) → r ≡ length rows → at ≡ length (compress rows).vals
      → compressed (take (r + 1) h.starts) (take at h.cols) (take at h.vals) ≡ compress rows
  unfolding compress
  holds-cut r at er ea t = compressed (first t) (second t) (third t)
    where
      first : take (r + 1) h.starts ≡ (compress rows).starts
      first = ap (λ (k : ℕ). take k h.starts) (let e : r + 1 ≡ length (compress rows).starts = omega (arith, starts-long) in e) ∙ s.starts.front

      second : take at h.cols ≡ (compress rows).cols
      second = ap (λ (k : ℕ). take k h.cols) (ea ∙ sym columns-long) ∙ s.columns.front

      third : take at h.vals ≡ (compress rows).vals
      third = ap (λ (k : ℕ). take k h.vals) ea ∙ s.values.front

  module _ (row cols vals : List ℕ) (at next b' : ℕ) (ea : at ≡ length (compress rows).vals) (d : DenseStored 0 at row h.cols h.vals cols vals next)
      (g : next ≤ b') (k : b ≤ b') (ec : b' ≤ length h.cols) (ev : b' ≤ length h.vals) where
    columns-fit : length (compress rows).cols + length (columns_from 0 row) ≤ b'
    columns-fit = omega (arith, d.place, columns-long, columns-length 0 row)

    values-fit : length (compress rows).vals + length (nonzeros row) ≤ b'
    values-fit = omega (arith, d.place)

    columns-written : cols ≡ sets h.cols (length (compress rows).cols) (columns_from 0 row)
    columns-written = d.columns ∙ ap (λ (i : ℕ). sets h.cols i (columns_from 0 row)) (ea ∙ sym columns-long)

    values-written : vals ≡ sets h.vals (length (compress rows).vals) (nonzeros row)
    values-written = d.values ∙ ap (λ (i : ℕ). sets h.vals i (nonzeros row)) ea

    -- one row more
    pub holds_more : (i : ℕ) → i ≡ length rows + 1 → i < length h.starts → Holds (rows ++ (row ∷ [])) b' (compressed (set h.starts i next) cols vals)
    holds_more i ei inside =
        record {
          starts = subst₂ (λ (xs : List ℕ) (n : ℕ). Begins xs n (set h.starts i next)) (sym all) (let e : length rows + 2 ≡ length (rows ++ (row ∷ [])) + 1 = omega (arith, length-append rows (row ∷ [])) in e) start;
          columns = rw (a.cols, columns-written) (begins-more (compress rows).cols b h.cols s.columns (columns_from 0 row) b' columns-fit k ec);
          values = rw (a.vals, values-written) (begins-more (compress rows).vals b h.vals s.values (nonzeros row) b' values-fit k ev);
        }
      where
        a : Appended rows row
        a = compress-append rows row

        all : (compress (rows ++ (row ∷ []))).starts ≡ (compress rows).starts ++ (next ∷ [])
        all = a.starts ∙ ap (λ (x : ℕ). (compress rows).starts ++ (x ∷ [])) (let e : length (compress rows).vals + length (nonzeros row) ≡ next = omega (arith, d.place) in e)

        start : Begins ((compress rows).starts ++ (next ∷ [])) (length rows + 2) (set h.starts i next)
        start =
            subst (λ (n : ℕ). Begins ((compress rows).starts ++ (next ∷ [])) (length rows + 2) (set h.starts n next)) (starts-long ∙ sym ei)
            (begins-more (compress rows).starts (length rows + 1) h.starts s.starts (next ∷ []) (length rows + 2) (omega (arith, starts-long)) (omega arith) (omega arith))

-- before the first row the lists are all zero
pub holds-none : (h : Compressed) → 0 < length h.starts → h.starts ≡ zeros (length h.starts) → h.cols ≡ zeros (length h.cols) → h.vals ≡ zeros (length h.vals) → Holds [] 0 h
unfolding compress starts_after all_columns all_values zeros
holds-none h some ss cs vs = record { starts = one h.starts some ss; columns = begins-none h.cols cs; values = begins-none h.vals vs }
  where
    one : (l : List ℕ) → 0 < length l → l ≡ zeros (length l) → Begins (0 ∷ []) 1 l
    one [] some e = absurd (omega arith)
    one (x ∷ l) some e =
        record {
          front = ap (λ (y : ℕ). y ∷ []) (ap (λ (z : List ℕ). get_or z 0 0) e);
          inside = omega arith;
          back = ap (drop 1) e ∙ ap zeros (let q : length l ≡ suc (length l) - 1 = omega arith in q);
        }

-- after the last row they are filled with the stored form
pub record FilledWith (c h : Compressed) : Type 0 where
  pub starts : h.starts ≡ filled (length h.starts) c.starts
  pub columns : h.cols ≡ filled (length h.cols) c.cols
  pub values : h.vals ≡ filled (length h.vals) c.vals

pub holds-filled : (rows : List (List ℕ)) (b : ℕ) (h : Compressed) → Holds rows b h → b ≡ length (compress rows).vals → FilledWith (compress rows) h
holds-filled rows b h s e =
    let n = compress-lengths rows in
    record {
      starts = begins-filled (compress rows).starts (length rows + 1) h.starts s.starts n.starts-are;
      columns = begins-filled (compress rows).cols b h.cols s.columns (n.paired ∙ sym e);
      values = begins-filled (compress rows).vals b h.vals s.values (sym e);
    }
