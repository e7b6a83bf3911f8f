-- The structural pivots of document 01 of a well-formed matrix can be pivots of it as it stands.
use mathlib.Core.Path.{◌≡◌, sym, ap, ◌∙◌, subst}
use mathlib.Core.Bool.{true, ◌&&◌}
use mathlib.Core.List.{List, [], ◌∷◌, ◌++◌, append-nil}
use mathlib.Core.Option.{Option, none, some}
use Prim.Native.Nat.{ℕ, zero, suc, ◌+◌, ◌≤◌, ◌<◌}
use native.Mathlib.Decide.{dec_lt}
use native.Mathlib.Omega.{arith}
use lib.Dec.{eqb, leb, ltb}
use lib.ListN.{length, get_or, get_or-map, get_or-append}
use lib.Seq.{slice, slice-cons}
use borrow.Author.Tests.{eqb-true, ltb-true, le-leb}
use Rattle.lists.proofs.Bools.{and_both, and_left, and_right}
use Rattle.sparse.specs.Form.{rises_from}
use Rattle.sparse.specs.Row.{entry, Row}
use Rattle.sparse.specs.Matrix.{Compressed, row_of, matrix, form}
use Rattle.sparse.proofs.Entries.{entry-low, entry_at, values-at}
use Rattle.sparse.proofs.Rows.{form-row, form-starts}
use Rattle.elimination.specs.Structural.{size, leads, chosen, Pair, paired, leading}
use Rattle.elimination.specs.Pairs.{pair_rows, pair_columns, Pairs}
use Rattle.algebra.proofs.Listed.{snoc-each}
use Rattle.elimination.proofs.Choice.{Choice, Chosen, chosen-right}

-- ---- a row that leads at a column is not 0 there, and 0 before it

rises-head : (width low c : ℕ) (cs : List ℕ) → rises_from width low (c ∷ cs) ≡ true → rises_from width c (c ∷ cs) ≡ true
unfolding rises_from
rises-head width low c cs h =
    and_both (leb c c && ltb c width) (rises_from width (c + 1) cs)
    (and_both (leb c c) (ltb c width) (le-leb c c (omega arith)) (and_right (leb low c) (ltb c width) (and_left (leb low c && ltb c width) (rises_from width (c + 1) cs) h)))
    (and_right (leb low c && ltb c width) (rises_from width (c + 1) cs) h)

module _ (p n m : ℕ) (A : Compressed) (formed : form p m A ≡ true) (many : length A.starts ≡ n + 1) (i c : ℕ) (row : i < n) (led : leads A i c ≡ true) where
  abbrev start : ℕ
  start = get_or A.starts i 0

  abbrev stop : ℕ
  stop = get_or A.starts (i + 1) 0

  good : Row p m (row_of A.starts i A.cols) (row_of A.starts i A.vals)
  good = form-row p m A.starts A.cols A.vals formed i

  fits : (start < stop) × (stop ≤ length A.cols)
  unfolding leads
  fits =
      let s = form-starts p m A.starts A.cols A.vals formed i (omega arith) in
      (omega (arith, ltb-true 0 (size A i) (and_left (ltb 0 (size A i)) (eqb (get_or A.cols start 0) c) led)), s.1)

  leftmost : row_of A.starts i A.cols ≡ c ∷ slice (suc start) stop A.cols
  unfolding leads
  leftmost =
      slice-cons start stop A.cols 0 fits.0 fits.1
      ∙ ap (λ (x : ℕ). x ∷ slice (suc start) stop A.cols) (eqb-true (get_or A.cols start 0) c (and_right (ltb 0 (size A i)) (eqb (get_or A.cols start 0) c) led))

  pub leads-before : (j : ℕ) → j < c → matrix A i j ≡ 0
  leads-before j l =
      ap (λ (cs : List ℕ). entry cs (row_of A.starts i A.vals) j) leftmost
      ∙ entry-low m c j (c ∷ slice (suc start) stop A.cols) (row_of A.starts i A.vals)
      (rises-head m 0 c (slice (suc start) stop A.cols) (subst (λ (cs : List ℕ). rises_from m 0 cs ≡ true) leftmost good.rising)) l

  pub leads-here : ¬ (matrix A i c ≡ 0)
  leads-here e =
      omega (
        arith,
        e,
        ap (λ (j : ℕ). matrix A i j) (ap (λ (cs : List ℕ). get_or cs 0 0) leftmost),
        entry_at m 0 (row_of A.starts i A.cols) (row_of A.starts i A.vals) good.rising 0 long (omega (arith, long, good.paired)),
        (values-at p (row_of A.starts i A.vals) good.nonzero 0 (omega (arith, long, good.paired))).0,
      )
    where
      long : 0 < length (row_of A.starts i A.cols)
      long = omega (arith, ap length leftmost)

-- ---- the pairs, by rising column

-- read past the end of a list
abbrev pub no_pair : Pair
no_pair = record { row = 0; column = 0 }

-- pair l is the choice for its column, which is below `bound`, and the pairs before it have smaller columns
record Rising (A : Compressed) (n bound : ℕ) (ps : List Pair) (l : ℕ) (q : Pair) : Type 0 where
  choice : Choice A q.column n q.row
  below : q.column < bound
  above : (k : ℕ) → k < l → (get_or ps k no_pair).column < q.column

rising-more : (A : Compressed) (n c : ℕ) (ps qs : List Pair) (l : ℕ) (q : Pair) → l ≤ length ps → Rising A n c ps l q → Rising A n (suc c) (ps ++ qs) l q
rising-more A n c ps qs l q long r =
    record {
      choice = r.choice;
      below = omega (arith, r.below);
      above = λ k h. omega (arith, r.above k h, ap (λ (x : Pair). x.column) (get_or-append ps qs no_pair k (omega arith)));
    }

leading-rising : (A : Compressed) (n c : ℕ) (l : ℕ) → l < length (leading A n c) → Rising A n c (leading A n c) l (get_or (leading A n c) l no_pair)
unfolding leading
leading-rising A n zero l h = absurd (omega arith)
leading-rising A n (suc c) l h = go (chosen A c n) (chosen-right A c n) (leading-rising A n c) l h
  where
    ps : List Pair
    ps = leading A n c

    go : (o : Option ℕ) → Chosen A c n o → ((l : ℕ) → l < length ps → Rising A n c ps l (get_or ps l no_pair))
        → (l : ℕ) → l < length (ps ++ paired c o) → Rising A n (suc c) (ps ++ paired c o) l (get_or (ps ++ paired c o) l no_pair)
    go none o ih l h =
        let s : length (ps ++ []) ≡ length ps = ap length (append-nil ps) in
        subst (λ (q : Pair). Rising A n (suc c) (ps ++ []) l q) (sym (get_or-append ps [] no_pair l (omega arith))) (rising-more A n c ps [] l (get_or ps l no_pair) (omega arith) (ih l (omega arith)))
    go (some i) o ih l h =
        snoc-each no_pair ps q (λ l x. Rising A n (suc c) (ps ++ (q ∷ [])) l x) (λ l b. rising-more A n c ps (q ∷ []) l (get_or ps l no_pair) (omega arith) (ih l b))
        (record { choice = o; below = omega arith; above = λ k b. omega (arith, (ih k b).below, ap (λ (x : Pair). x.column) (get_or-append ps (q ∷ []) no_pair k b)) }) l h
      where
        q : Pair
        q = record { row = i; column = c }

-- ---- they have the property that rule 2 asks for

module _ (p n m : ℕ) (A : Compressed) (formed : form p m A ≡ true) (many : length A.starts ≡ n + 1) where
  abbrev pairs : List Pair
  pairs = leading A n m

  row_at : (k : ℕ) → get_or (pair_rows pairs) k 0 ≡ (get_or pairs k no_pair).row
  row_at k = get_or-map (λ q. q.row) pairs k no_pair

  column-at : (k : ℕ) → get_or (pair_columns pairs) k 0 ≡ (get_or pairs k no_pair).column
  column-at k = get_or-map (λ q. q.column) pairs k no_pair

  here : (k : ℕ) → k < length pairs → ¬ (matrix A (get_or (pair_rows pairs) k 0) (get_or (pair_columns pairs) k 0) ≡ 0)
  here k h =
      let r = leading-rising A n m k h in
      rw (row_at k, column-at k) (leads-here p n m A formed many (get_or pairs k no_pair).row (get_or pairs k no_pair).column r.choice.row r.choice.led)

  before : (k l : ℕ) → k < l → l < length pairs → matrix A (get_or (pair_rows pairs) l 0) (get_or (pair_columns pairs) k 0) ≡ 0
  before k l b h =
      let r = leading-rising A n m l h in
      rw (row_at l, column-at k)
      (leads-before p n m A formed many (get_or pairs l no_pair).row (get_or pairs l no_pair).column r.choice.row r.choice.led (get_or pairs k no_pair).column (r.above k b))

  -- one row does not come twice, since it is not 0 at its own column
  apart : (a b : ℕ) → a < length pairs → b < length pairs → get_or (pair_rows pairs) a 0 ≡ get_or (pair_rows pairs) b 0 → a ≡ b
  apart a b h g e = go (dec_lt a b) (dec_lt b a)
    where
      never : (k l : ℕ) → k < l → l < length pairs → get_or (pair_rows pairs) k 0 ≡ get_or (pair_rows pairs) l 0 → ⊥
      never k l b h e = here k (omega arith) (ap (λ (i : ℕ). matrix A i (get_or (pair_columns pairs) k 0)) e ∙ before k l b h)

      go : Dec (a < b) → Dec (b < a) → a ≡ b
      go (yes l) t = absurd (never a b l g e)
      go (no l) (yes r) = absurd (never b a r h (sym e))
      go (no l) (no r) = omega arith

  pub leading-pairs : Pairs n m (matrix A) pairs
  leading-pairs =
      record {
        rows = record { below = λ k h. omega (arith, row_at k, (leading-rising A n m k h).choice.row); apart = apart };
        columns = λ k h. omega (arith, column-at k, (leading-rising A n m k h).below);
        here = here;
        before = before;
      }
