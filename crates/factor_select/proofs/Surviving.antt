-- The column that the search answers: which columns a row cannot take, and the lowest that is left.
--   absent-unfit ..     what makes a column unfit
--   column-used ..      a cell says whether its column is used
--   none-survives       each column of the row is used or stamped: it takes none
--   one-survives        the queue is empty: it takes the first that is neither
use Prim.Native.Nat.{ℕ, ◌-◌, ◌≤◌, ◌<◌}
use mathlib.Core.Path.{◌≡◌, refl, sym, ap, ◌∙◌, subst}
use mathlib.Core.Bool.{Bool, true, false, not, ◌||◌}
use mathlib.Core.Logic.{inl, inr}
use mathlib.Core.List.{List}
use native.Mathlib.Decide.{dec_lt, ℕ_discrete}
use native.Mathlib.Omega.{arith}
use lib.ListN.{length, get_or}
use borrow.Author.Tests.{ne_eqb}
use Rattle.lists.specs.Tests.{first, among}
use Rattle.lists.proofs.Bools.{or_right}
use Rattle.lists.proofs.Tests.{first-all, first-fails}
use Rattle.sparse.specs.Matrix.{Compressed, matrix, row_of}
use Rattle.elimination.specs.Structural.{Pair}
use Rattle.elimination.specs.Pairs.{pair_columns}
use Rattle.elimination.specs.Chains.{closes}
use Rattle.elimination.specs.Selection.{nonzero, pair_at, unfit}
use Rattle.elimination.specs.Rules.{pivots_to}
use Rattle.elimination.proofs.Members.{in-named, none_named}
use Rattle.elimination.proofs.Paths.{back-closes}
use Rattle.factor_names.specs.Named.{ByColumn}
use Rattle.factor_names.proofs.RowEntries.{row_inside, row-rises, row_has, has-row}
use Rattle.factor_select.specs.Search.{Used, Passed, NextFit, Visited, Survivor}
use Rattle.factor_select.specs.Needs.{FitReady, SearchReady}
use Rattle.factor_select.proofs.Trails.{visited-kept}
use Rattle.factor_select.proofs.Reaching.{Reaching, kept_then, reaching-ends}

module _ (has : ℕ → ℕ → Bool) (ps : List Pair) (i j : ℕ) where
  absent-unfit : has i j ≡ false → unfit has ps i j ≡ true
  unfolding unfit
  absent-unfit e = ap (λ (t : Bool). not t || (among j (pair_columns ps) || closes has ps i j)) e

  pub used-unfit : among j (pair_columns ps) ≡ true → unfit has ps i j ≡ true
  unfolding unfit
  used-unfit e = or_right (not (has i j)) (ap (λ (t : Bool). t || closes has ps i j) e)

  closing-unfit : closes has ps i j ≡ true → unfit has ps i j ≡ true
  unfolding unfit
  closing-unfit e = or_right (not (has i j)) (or_right (among j (pair_columns ps)) e)

  fit-here : has i j ≡ true → among j (pair_columns ps) ≡ false → closes has ps i j ≡ false → unfit has ps i j ≡ false
  unfolding unfit
  fit-here e f g = λ t. not (e t) || (f t || g t)

module _ (w : List ℕ) (ps : List Pair) (named : ByColumn w ps) (j : ℕ) where
  pub column-used : Used w j → among j (pair_columns ps) ≡ true
  column-used h = in-named (λ q. q.column) ps (pair_at (get_or w j 0 - 1) j) (named.right j (get_or w j 0 - 1) (omega arith))

  column-unused : get_or w j 0 ≡ 0 → among j (pair_columns ps) ≡ false
  column-unused e = none_named (λ q. q.column) ps j (λ q h r. omega (arith, named.all q h, ap (λ (t : ℕ). get_or w t 0) r, e))

module _ {p n i : ℕ} {A : Compressed} {w v stamps₀ queue₀ : List ℕ} {mark : ℕ} (h : SearchReady p n i A w v stamps₀ queue₀ mark) where
  abbrev m : ℕ
  m = length w

  abbrev has : ℕ → ℕ → Bool
  has = nonzero (matrix A)

  abbrev ps : List Pair
  ps = pivots_to A n m i

  abbrev own : List ℕ
  own = row_of A.starts i A.cols

  module _ (r : List ℕ) (of : r ≡ own) where
    pub fit-ready : (stamps : List ℕ) → length stamps ≡ length w → FitReady r w stamps
    fit-ready stamps long = record { inside = rw of (row_inside p n m A h.sized i); stamps-long = long }

    module _ {stamps₁ queue₁ : List ℕ} {tail₁ : ℕ} (u : Visited true r w stamps₀ queue₀ mark 0 stamps₁ queue₁ tail₁)
        {stamps queue : List ℕ} {tail head : ℕ} (g : Reaching A n i mark w stamps₁ stamps queue tail head) {t : ℕ} (f : NextFit r w stamps mark 0 t) where
      own-fit : NextFit own w stamps mark 0 t
      own-fit = rw of at f

      passed-unfit : (j : ℕ) → Passed w stamps mark j → unfit has ps i j ≡ true
      passed-unfit j (inl a) = used-unfit has ps i j (column-used w ps h.named.by-column j a)
      passed-unfit j (inr e) = closing-unfit has ps i j (back-closes has ps i j (g.back j e))

      -- a column that can stand only before the place
      before-unfit : (j : ℕ) → ((k : ℕ) → k < length own → get_or own k 0 ≡ j → k < t) → unfit has ps i j ≡ true
      before-unfit j early = go (has i j) refl
        where
          go : (b : Bool) → has i j ≡ b → unfit has ps i j ≡ true
          go true e = let s = has-row p n m A h.sized i j e in
              passed-unfit j (subst (Passed w stamps mark) s.2 (own-fit.before s.0 (early s.0 s.1 s.2) (omega arith)))
          go false e = absent-unfit has ps i j e

      survivor : (c : ℕ) → c ≡ first m (unfit has ps i) → Survivor A n m i mark stamps₀ stamps c
      survivor c e = record { lowest = e; kept = λ j. kept_then (visited-kept u j) (g.kept j) }

      pub none-survives : length r ≤ t → Survivor A n m i mark stamps₀ stamps m
      none-survives past = survivor m (sym (first-all m (unfit has ps i) (λ j l. before-unfit j (λ k b e. omega (arith, ap length of)))))

      module _ (inside : t < length r) (over : tail ≤ head) (c : ℕ) (stands : c ≡ get_or r t 0) where
        place : t < length own
        place = omega (arith, ap length of)

        at_own : c ≡ get_or own t 0
        at_own = stands ∙ ap (λ (l : List ℕ). get_or l t 0) of

        -- the columns rise, so that those before the place are the lower ones
        lower-early : (j : ℕ) → j < c → (k : ℕ) → k < length own → get_or own k 0 ≡ j → k < t
        lower-early j l k b e = go (dec_lt t k) (ℕ_discrete k t)
          where
            go : Dec (t < k) → Dec (k ≡ t) → k < t
            go (yes a) d = absurd (omega (arith, row-rises p n m A h.sized i t k a b, at_own))
            go (no a) (yes s) = absurd (omega (arith, ap (λ (x : ℕ). get_or own x 0) s, at_own))
            go (no a) (no s) = omega arith

        fit : unfit has ps i c ≡ false
        fit =
            let s : (get_or w c 0 ≡ 0) × ¬ (get_or stamps c 0 ≡ mark) = subst (λ (x : ℕ). (get_or w x 0 ≡ 0) × ¬ (get_or stamps x 0 ≡ mark)) (sym at_own) (own-fit.here place) in
            fit-here has ps i c
            (subst (λ (j : ℕ). has i j ≡ true) (sym at_own) (row_has p n m A h.sized i t place))
            (column-unused w ps h.named.by-column c s.0)
            (sym (reaching-ends h g over c) ∙ ne_eqb (get_or stamps c 0) mark s.1)

        pub one-survives : Survivor A n m i mark stamps₀ stamps c
        one-survives = survivor c (sym (first-fails m (unfit has ps i) c (omega (arith, row_inside p n m A h.sized i t place, at_own)) (λ j l. before-unfit j (lower-early j l)) fit))
