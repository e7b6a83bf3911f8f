-- A pass over the columns of row k, which changes the degrees of the pivots to which the row leads by one.
--   leads-own, leads-other, leads-none    whether a row leads to a pair
--   degree-snoc, degree-short             one waiting row more, and at most one for each
--   named-there, named_back               the cell of a column and the cell of a row name the same pair
--   Passed has k w row t low high         the first t columns are passed: there `high` is one more than `low` where row k leads, elsewhere they agree
--   CountedTo n A w v degrees k           the rows below k are counted
use Prim.Native.Nat.{ℕ, suc, ◌+◌, ◌≤◌, ◌<◌}
use mathlib.Core.Path.{◌≡◌, refl, sym, ap, ◌∙◌, subst}
use mathlib.Core.Bool.{Bool, true, false, cond, not, ◌||◌, true≢false}
use mathlib.Core.List.{List, [], ◌∷◌, ◌++◌}
use native.Mathlib.Decide.{ℕ_discrete}
use native.Mathlib.Omega.{arith}
use lib.Dec.{eqb}
use lib.ListN.{length, get_or, set}
use lib.Seq.{get_or-set_same, get_or-set_other}
use borrow.Author.Tests.{eq-eqb, ne_eqb}
use Rattle.lists.proofs.Filled.{length-zeros, zeros-at}
use Rattle.sparse.specs.Matrix.{Compressed, matrix, row_of}
use Rattle.sparse.proofs.Entries.{rises-apart}
use Rattle.sparse.proofs.Rows.{form-row}
use Rattle.elimination.specs.Structural.{Pair}
use Rattle.elimination.specs.Selection.{nonzero, pair_at, leads_to, degree}
use Rattle.factor_names.specs.Named.{Named}
use Rattle.factor_names.specs.Sized.{SmallMatrix}
use Rattle.factor_names.proofs.RowEntries.{row_inside, row_has, has-row}
use Rattle.factor_arrange.specs.Waiting.{waiting_to, DegreesCounted}
use Rattle.factor_arrange.specs.Needs.{DegreesReady, DegreeRowReady}
use Rattle.factor_arrange.proofs.Cells.{cell-inside, named}
use Rattle.factor_arrange.proofs.Waits.{waiting-more, waiting-same, waiting-short}

-- ---- whether a row leads to a pair

module _ (has : ℕ → ℕ → Bool) where
  pub leads-own : (k : ℕ) (q : Pair) → k ≡ q.row → leads_to has k q ≡ 0
  unfolding leads_to
  leads-own k q e = ap (λ (t : Bool). cond (t || not (has k q.column)) 0 1) (eq-eqb k q.row e)

  leads-by : (k : ℕ) (q : Pair) → ¬ (k ≡ q.row) → (t : Bool) → has k q.column ≡ t → leads_to has k q ≡ cond (not t) 0 1
  unfolding leads_to
  leads-by k q d t e = ap (λ (b : Bool). cond (b || not (has k q.column)) 0 1) (ne_eqb k q.row d) ∙ ap (λ (b : Bool). cond (not b) 0 1) e

  pub leads-other : (k : ℕ) (q : Pair) → ¬ (k ≡ q.row) → has k q.column ≡ true → leads_to has k q ≡ 1
  leads-other k q d e = leads-by k q d true e

  pub leads-none : (k : ℕ) (q : Pair) → has k q.column ≡ false → leads_to has k q ≡ 0
  leads-none k q e = go (ℕ_discrete k q.row)
    where
      go : Dec (k ≡ q.row) → leads_to has k q ≡ 0
      go (yes s) = leads-own k q s
      go (no d) = leads-by k q d false e

  leads-most : (k : ℕ) (q : Pair) → leads_to has k q ≤ 1
  unfolding leads_to
  leads-most k q = go (eqb k q.row || not (has k q.column))
    where
      go : (t : Bool) → cond t 0 1 ≤ 1
      go true = omega arith
      go false = omega arith

  pub degree-snoc : (ws : List Pair) (b q : Pair) → degree has (ws ++ (b ∷ [])) q ≡ leads_to has b.row q + degree has ws q
  unfolding degree
  degree-snoc [] b q = refl
  degree-snoc (a ∷ ws) b q = omega (arith, degree-snoc ws b q)

  pub degree-short : (ws : List Pair) (q : Pair) → degree has ws q ≤ length ws
  unfolding degree
  degree-short [] q = omega arith
  degree-short (a ∷ ws) q = omega (arith, leads-most a.row q, degree-short ws q)

-- ---- the columns of one row, one after another

pub record Passed (has : ℕ → ℕ → Bool) (k : ℕ) (w row : List ℕ) (t : ℕ) (low high : List ℕ) : Type 0 where
  pub inside : t ≤ length row
  pub done : (s i : ℕ) → s < t → get_or w (get_or row s 0) 0 ≡ suc i → get_or high i 0 ≡ leads_to has k (pair_at i (get_or row s 0)) + get_or low i 0
  pub rest : (c i : ℕ) → get_or w c 0 ≡ suc i → ((s : ℕ) → s < t → ¬ (get_or row s 0 ≡ c)) → get_or high i 0 ≡ get_or low i 0

pub passed-starts : (has : ℕ → ℕ → Bool) (k : ℕ) (w row degrees : List ℕ) → Passed has k w row 0 degrees degrees
passed-starts has k w row degrees = record { inside = omega arith; done = λ s i l. absurd (omega arith); rest = λ c i e f. refl }

module _ (p n : ℕ) (A : Compressed) (w v : List ℕ) (z : SmallMatrix p n (length w) A) (g : Named A n (length w) n w v) where
  pub named-there : (c i : ℕ) → get_or w c 0 ≡ suc i → get_or v i 0 ≡ suc c
  named-there c i e = g.by_row.all (pair_at i c) (g.by-column.right c i e)

  pub named_back : (i c : ℕ) → get_or v i 0 ≡ suc c → get_or w c 0 ≡ suc i
  named_back i c e = g.by-column.all (pair_at i c) (g.by_row.right i c e)

  -- its row is a row
  pub named-row : (c i : ℕ) → get_or w c 0 ≡ suc i → i < n
  named-row c i e = omega (arith, cell-inside v i (λ z. absurd (omega (arith, named-there c i e))), g.rows_long)

  -- a turn: x is the column of row k at place t
  module _ (k t x : ℕ) (turn : t < length (row_of A.starts k A.cols)) (at : x ≡ get_or (row_of A.starts k A.cols) t 0) where
    abbrev has : ℕ → ℕ → Bool
    has = nonzero (matrix A)

    abbrev row : List ℕ
    row = row_of A.starts k A.cols

    pub column-inside : x < length w
    column-inside = omega (arith, row_inside p n (length w) A z k t turn)

    -- the columns rise
    new : (s : ℕ) → s < t → ¬ (get_or row s 0 ≡ x)
    new s l e = absurd (omega (arith, rises-apart (length w) 0 row s t (form-row p (length w) A.starts A.cols A.vals z.formed k).rising l turn))

    -- the cell at place t is that of column x
    here : (s i : ℕ) → s ≡ t → get_or w (get_or row s 0) 0 ≡ suc i → get_or w x 0 ≡ suc i
    here s i r e = ap (λ (c : ℕ). get_or w c 0) (at ∙ ap (λ (u : ℕ). get_or row u 0) (sym r)) ∙ e

    module _ (low high : List ℕ) (h : Passed has k w row t low high) where
      -- the pair of this column is as it was
      pub passed-new : (i : ℕ) → get_or w x 0 ≡ suc i → get_or high i 0 ≡ get_or low i 0
      passed-new i e = h.rest x i e new

      -- no pair has this column, or row k's own has it
      pub passed_over : ((i : ℕ) → get_or w x 0 ≡ suc i → i ≡ k) → Passed has k w row (t + 1) low high
      passed_over own = record { inside = omega arith; done = λ s i l e. go s i l e (ℕ_discrete s t); rest = λ c i e f. h.rest c i e (λ s l. f s (omega arith)) }
        where
          go : (s i : ℕ) → s < t + 1 → get_or w (get_or row s 0) 0 ≡ suc i → Dec (s ≡ t) → get_or high i 0 ≡ leads_to has k (pair_at i (get_or row s 0)) + get_or low i 0
          go s i l e (yes r) = omega (arith, passed-new i (here s i r e), leads-own has k (pair_at i (get_or row s 0)) (sym (own i (here s i r e))))
          go s i l e (no r) = h.done s i (omega arith) e

      -- the degree of this column's pair is changed, and no other
      pub passed-turn : (q : ℕ) → get_or w x 0 ≡ suc q → ¬ (q ≡ k) → (low' high' : List ℕ) → get_or high' q 0 ≡ 1 + get_or low' q 0
          → ((i : ℕ) → ¬ (i ≡ q) → (get_or low' i 0 ≡ get_or low i 0) × (get_or high' i 0 ≡ get_or high i 0)) → Passed has k w row (t + 1) low' high'
      passed-turn q named other low' high' changed kept =
          record {
            inside = omega arith;
            done = λ s i l e. go s i l e (ℕ_discrete s t);
            rest = λ c i e f. let o = kept i (λ s. f t (omega arith) (sym at ∙ only i c e s)) in o.1 ∙ h.rest c i e (λ s l. f s (omega arith)) ∙ sym o.0;
          }
        where
          -- pair q has no other column
          only : (i c : ℕ) → get_or w c 0 ≡ suc i → i ≡ q → x ≡ c
          only i c e s = omega (arith, named-there x q named, ap (λ (j : ℕ). get_or v j 0) s, named-there c i e)

          go : (s i : ℕ) → s < t + 1 → get_or w (get_or row s 0) 0 ≡ suc i → Dec (s ≡ t) → get_or high' i 0 ≡ leads_to has k (pair_at i (get_or row s 0)) + get_or low' i 0
          go s i l e (yes r) =
              let same : i ≡ q = omega (arith, here s i r e) in
              omega (
                arith,
                ap (λ (j : ℕ). get_or high' j 0) same,
                ap (λ (j : ℕ). get_or low' j 0) same,
                changed,
                leads-other has k (pair_at i (get_or row s 0)) (λ y. other (sym same ∙ sym y)) (row_has p n (length w) A z k s (omega arith)),
              )
          go s i l e (no r) =
              let o = kept i (λ y. new s (omega arith) (sym (only i (get_or row s 0) e y))) in
              o.1 ∙ h.done s i (omega arith) e ∙ ap (λ (y : ℕ). leads_to has k (pair_at i (get_or row s 0)) + y) (sym o.0)

  -- all columns are passed
  pub passed-ends : (k t : ℕ) (low high : List ℕ) → length (row_of A.starts k A.cols) ≤ t → Passed (nonzero (matrix A)) k w (row_of A.starts k A.cols) t low high
      → (c i : ℕ) → get_or w c 0 ≡ suc i → get_or high i 0 ≡ leads_to (nonzero (matrix A)) k (pair_at i c) + get_or low i 0
  passed-ends k t low high l h c i e = go (nonzero (matrix A) k c) refl
    where
      go : (b : Bool) → nonzero (matrix A) k c ≡ b → get_or high i 0 ≡ leads_to (nonzero (matrix A)) k (pair_at i c) + get_or low i 0
      go true f =
          let s = has-row p n (length w) A z k c f in
          h.done s.0 i (omega (arith, s.1)) (ap (λ (j : ℕ). get_or w j 0) s.2 ∙ e)
          ∙ ap (λ (j : ℕ). leads_to (nonzero (matrix A)) k (pair_at i j) + get_or low i 0) s.2
      go false f = omega (arith, leads-none (nonzero (matrix A)) k (pair_at i c) f, h.rest c i e (λ s g r. true≢false (sym (row_has p n (length w) A z k s (omega (arith, h.inside))) ∙ ap (nonzero (matrix A) k) r ∙ f)))

-- ---- counting row k

module _ (p n k : ℕ) (A : Compressed) (w v degrees₀ : List ℕ) (s : DegreeRowReady p n k A w v degrees₀) where
  -- a pair's degree so far is at most the number of rows passed
  module _ (t x : ℕ) (turn : t < length (row_of A.starts k A.cols)) (at : x ≡ get_or (row_of A.starts k A.cols) t 0) (degrees : List ℕ)
      (h : Passed (nonzero (matrix A)) k w (row_of A.starts k A.cols) t degrees₀ degrees) where
    pub count_small : (q : ℕ) → get_or w x 0 ≡ suc q → get_or degrees q 0 ≤ 2048
    count_small q e =
        omega (
          arith,
          passed-new p n A w v s.sized s.named k t x turn at degrees₀ degrees h q e,
          s.before.cells x q e,
          degree-short (nonzero (matrix A)) (waiting_to v k) (pair_at q x),
          waiting-short v k,
          s.row,
          s.sized.n-small,
        )

    pub count-over : ((i : ℕ) → get_or w x 0 ≡ suc i → i ≡ k) → Passed (nonzero (matrix A)) k w (row_of A.starts k A.cols) (t + 1) degrees₀ degrees
    count-over = passed_over p n A w v s.sized s.named k t x turn at degrees₀ degrees h

    pub count_turn : length degrees ≡ n → (q : ℕ) → get_or w x 0 ≡ suc q → ¬ (q ≡ k)
        → Passed (nonzero (matrix A)) k w (row_of A.starts k A.cols) (t + 1) degrees₀ (set degrees q (get_or degrees q 0 + 1))
    count_turn long q e other =
        passed-turn p n A w v s.sized s.named k t x turn at degrees₀ degrees h q e other degrees₀ (set degrees q (get_or degrees q 0 + 1))
        (omega (
          arith,
          get_or-set_same degrees q (get_or degrees q 0 + 1) 0 (omega (arith, named-row p n A w v s.sized s.named x q e)),
          passed-new p n A w v s.sized s.named k t x turn at degrees₀ degrees h q e,
        ))
        (λ i d. (refl, get_or-set_other degrees q i (get_or degrees q 0 + 1) 0 d))

  pub count-ends : (t : ℕ) (degrees : List ℕ) → length (row_of A.starts k A.cols) ≤ t → Passed (nonzero (matrix A)) k w (row_of A.starts k A.cols) t degrees₀ degrees
      → DegreesCounted A w (waiting_to v (k + 1)) degrees
  count-ends t degrees l h =
      let c = named (get_or v k 0) s.chosen in
      record {
        cells = λ j i e.
            passed-ends p n A w v s.sized s.named k t degrees₀ degrees l h j i e
            ∙ ap (λ (d : ℕ). leads_to (nonzero (matrix A)) k (pair_at i j) + d) (s.before.cells j i e)
            ∙ sym (degree-snoc (nonzero (matrix A)) (waiting_to v k) (pair_at k c.0) (pair_at i j))
            ∙ ap (λ (ws : List Pair). degree (nonzero (matrix A)) ws (pair_at i j)) (sym (waiting-more v k c.0 c.1));
      }

-- ---- all rows: those below k are counted

pub record CountedTo (n : ℕ) (A : Compressed) (w v degrees : List ℕ) (k : ℕ) : Type 0 where
  pub inside : k ≤ n
  pub long : length degrees ≡ n
  pub rows : DegreesCounted A w (waiting_to v k) degrees

module _ (p n : ℕ) (A : Compressed) (w v degrees₀ : List ℕ) (r : DegreesReady p n A w v degrees₀) where
  pub counted-starts : CountedTo n A w v degrees₀ 0
  unfolding waiting_to degree
  counted-starts =
      record {
        inside = omega arith;
        long = ap length r.clear ∙ length-zeros n;
        rows = record { cells = λ c i e. ap (λ (l : List ℕ). get_or l i 0) r.clear ∙ zeros-at n i };
      }

  module _ (degrees : List ℕ) (k : ℕ) (s : CountedTo n A w v degrees k) where
    pub counted-over : k < n → get_or v k 0 ≡ 0 → CountedTo n A w v degrees (k + 1)
    counted-over h e = record { inside = omega arith; long = s.long; rows = subst (λ (ws : List Pair). DegreesCounted A w ws degrees) (sym (waiting-same v k e)) s.rows }
