-- The numbers of a well-formed stored matrix: how large they are, and how many.
--   stored-few       there are at most as many entries as rows times columns
--   starts-small     starts, columns and values below a bound that the entry count, the width and the modulus keep
--   columns-small
--   values-small
use mathlib.Core.Path.{◌≡◌, sym, ap, ◌∙◌, subst}
use mathlib.Core.Bool.{true, ◌&&◌}
use mathlib.Core.List.{List, [], ◌∷◌, ◌++◌}
use Prim.Native.Nat.{ℕ, ◌+◌, ◌-◌, ◌*◌, ◌≤◌, ◌<◌}
use native.Mathlib.Omega.{arith}
use lib.Dec.{eqb, leb, ltb}
use lib.ListN.{length, drop, length-drop, take-append-drop}
use lib.Seq.{slice, drop-drop, length-take-le}
use borrow.Author.Tests.{eqb-true, leb-true, ltb-true}
use Rattle.lists.proofs.Bools.{and_left, and_right}
use Rattle.lists.proofs.Steps.{drop-take, drop-end}
use Rattle.sparse.specs.Form.{starts_from, starts_ok, rises_from, rows_from, values_ok, well_formed}
use Rattle.sparse.specs.Matrix.{Compressed, form}
use Rattle.sparse.specs.Row.{Below}
use Rattle.sparse.proofs.Forms.{starts-le, starts-true}
use Rattle.sparse.proofs.Bounds.{below_none, below-cons, below-append, below_wider}

-- ---- each list of a stored matrix

values-below : (p : ℕ) (vs : List ℕ) → values_ok p vs ≡ true → Below p vs
unfolding values_ok
values-below p [] e = below_none p
values-below p (v ∷ vs) e =
    below-cons p v vs (ltb-true v p (and_right (ltb 0 v) (ltb v p) (and_left (ltb 0 v && ltb v p) (values_ok p vs) e))) (values-below p vs (and_right (ltb 0 v && ltb v p) (values_ok p vs) e))

starts-below : (b count from : ℕ) (ss : List ℕ) → starts_from count from ss ≡ true → count < b → Below b ss
unfolding starts_from
starts-below b count from [] e h = below_none b
starts-below b count from (s ∷ ss) e h =
    let rest = and_right (leb from s) (starts_from count s ss) e in
    below-cons b s ss (omega (arith, starts-le count s ss rest)) (starts-below b count s ss rest h)

-- a row has at most as many columns as the matrix is wide
module _ (width : ℕ) where
  rises-below : (low : ℕ) (cs : List ℕ) → rises_from width low cs ≡ true → Below width cs
  unfolding rises_from
  rises-below low [] e = below_none width
  rises-below low (c ∷ cs) e =
      below-cons width c cs (ltb-true c width (and_right (leb low c) (ltb c width) (and_left (leb low c && ltb c width) (rises_from width (c + 1) cs) e)))
      (rises-below (c + 1) cs (and_right (leb low c && ltb c width) (rises_from width (c + 1) cs) e))

  rises-short : (low : ℕ) (cs : List ℕ) → rises_from width low cs ≡ true → low ≤ width → low + length cs ≤ width
  unfolding rises_from
  rises-short low [] e h = omega arith
  rises-short low (c ∷ cs) e h =
      let here = and_left (leb low c && ltb c width) (rises_from width (c + 1) cs) e in
      let low-c = leb-true low c (and_left (leb low c) (ltb c width) here) in
      let c-width = ltb-true c width (and_right (leb low c) (ltb c width) here) in
      omega (arith, low-c, rises-short (c + 1) cs (and_right (leb low c && ltb c width) (rises_from width (c + 1) cs) e) (omega arith))

  module _ (cols : List ℕ) where
    split : (from s : ℕ) → from ≤ s → drop from cols ≡ slice from s cols ++ drop s cols
    split from s h =
        sym (take-append-drop (s - from) (drop from cols))
        ∙ ap (λ (l : List ℕ). l ++ drop (s - from) (drop from cols)) (sym (drop-take from s cols))
        ∙ ap (λ (l : List ℕ). slice from s cols ++ l) (drop-drop (s - from) from cols ∙ ap (λ (k : ℕ). drop k cols) (let e : from + (s - from) ≡ s = omega arith in e))

    columns-below : (from : ℕ) (ss : List ℕ) → starts_from (length cols) from ss ≡ true → rows_from width cols from ss ≡ true → Below width (drop from cols)
    unfolding starts_from rows_from
    columns-below from [] e q =
        let at : from ≡ length cols = eqb-true from (length cols) e in
        subst (Below width) (sym (drop-end cols from (omega arith) (omega arith))) (below_none width)
    columns-below from (s ∷ ss) e q =
        subst (Below width) (sym (split from s (leb-true from s (and_left (leb from s) (starts_from (length cols) s ss) e))))
        (below-append width (slice from s cols) (drop s cols) (rises-below 0 (slice from s cols) (and_left (rises_from width 0 (slice from s cols)) (rows_from width cols s ss) q))
        (columns-below s ss (and_right (leb from s) (starts_from (length cols) s ss) e) (and_right (rises_from width 0 (slice from s cols)) (rows_from width cols s ss) q)))

    row-long : (from s : ℕ) → from ≤ s → s ≤ length cols → length (slice from s cols) ≡ s - from
    row-long from s h k = ap length (drop-take from s cols) ∙ length-take-le (s - from) (drop from cols) (omega (arith, length-drop from cols))

    entries-few : (from : ℕ) (ss : List ℕ) → starts_from (length cols) from ss ≡ true → rows_from width cols from ss ≡ true → length cols ≤ from + length ss * width
    unfolding starts_from rows_from
    entries-few from [] e q = omega (arith, eqb-true from (length cols) e)
    entries-few from (s ∷ ss) e q =
        let here = leb-true from s (and_left (leb from s) (starts_from (length cols) s ss) e) in
        let rest = and_right (leb from s) (starts_from (length cols) s ss) e in
        omega (
          arith,
          here,
          row-long from s here (starts-le (length cols) s ss rest),
          rises-short 0 (slice from s cols) (and_left (rises_from width 0 (slice from s cols)) (rows_from width cols s ss) q) (omega arith),
          entries-few s ss rest (and_right (rises_from width 0 (slice from s cols)) (rows_from width cols s ss) q),
        )

starts-all : (b count : ℕ) (ss : List ℕ) → starts_ok count ss ≡ true → count < b → Below b ss
unfolding starts_ok
starts-all b count [] e h = below_none b
starts-all b count (s ∷ ss) e h =
    let first : s ≡ 0 = eqb-true s 0 (and_left (eqb s 0) (starts_from count 0 ss) e) in
    below-cons b s ss (omega arith) (starts-below b count 0 ss (and_right (eqb s 0) (starts_from count 0 ss) e) h)

module _ (p width : ℕ) (h : Compressed) (formed : form p width h ≡ true) where
  first : starts_ok (length h.cols) h.starts ≡ true
  unfolding well_formed
  first = and_left (starts_ok (length h.cols) h.starts) _ formed

  later : (rows_from width h.cols 0 (drop 1 h.starts) ≡ true) × (values_ok p h.vals ≡ true)
  unfolding well_formed
  later =
      let both = and_right (eqb (length h.vals) (length h.cols)) _ (and_right (starts_ok (length h.cols) h.starts) _ formed) in
      (and_left (rows_from width h.cols 0 (drop 1 h.starts)) (values_ok p h.vals) both, and_right (rows_from width h.cols 0 (drop 1 h.starts)) (values_ok p h.vals) both)

  pub stored-few : length h.cols ≤ length (drop 1 h.starts) * width
  stored-few = omega (arith, entries-few width h.cols 0 (drop 1 h.starts) (starts-true (length h.cols) h.starts first).1 later.0)

  pub starts-small : (b : ℕ) → length h.cols < b → Below b h.starts
  starts-small b few = starts-all b (length h.cols) h.starts first few

  pub columns-small : (b : ℕ) → width ≤ b → Below b h.cols
  columns-small b narrow =
      below_wider width b h.cols narrow (columns-below width h.cols 0 (drop 1 h.starts) (starts-true (length h.cols) h.starts first).1 later.0)

  pub values-small : (b : ℕ) → p ≤ b → Below b h.vals
  values-small b small = below_wider p b h.vals small (values-below p h.vals later.1)
