-- The pairs chosen can be put in order: they are ranked so that a pivot leads to pivots of higher rank only. Each row added keeps this.
--   Sound has n m ps    the pairs ps are entries of an n by m matrix, no two in the same row, and have such a rank
--   pairs-sound         pairs that can be pivots in their order are
--   extended-sound      and one pair more, where it closes no cycle; so are all
use Prim.Native.Nat.{ℕ, zero, suc, ◌+◌, ◌≤◌, ◌<◌}
use mathlib.Core.Path.{◌≡◌, refl, sym, ap, ◌∙◌, subst}
use mathlib.Core.Bool.{Bool, true, false, cond, not, ◌||◌, true≢false}
use mathlib.Core.Logic.{◌⊎◌, inl, inr}
use mathlib.Core.List.{List, [], ◌∷◌, ◌++◌}
use native.Mathlib.Omega.{arith}
use lib.Dec.{eqb, leb}
use lib.ListN.{length, get_or, get_or-map}
use borrow.Author.Tests.{eq-eqb, ne_eqb, leb-true, leb-false}
use Rattle.lists.specs.Tests.{first, among}
use Rattle.lists.proofs.Tests.{first-before, first-here}
use Rattle.algebra.specs.Matrix.{Matrix}
use Rattle.elimination.specs.Structural.{Pair}
use Rattle.elimination.specs.Pairs.{Pairs, pair_rows, pair_columns}
use Rattle.lists.specs.Members.{Member}
use Rattle.elimination.proofs.Pairs.{no_pair}
use Rattle.elimination.specs.Chains.{chain, closes}
use Rattle.elimination.specs.Selection.{nonzero, pair_at, unfit, extended, extended_to, Apart}
use Rattle.elimination.proofs.Members.{in-snoc, in_place, not_named, apart_snoc, at-apart}
use Rattle.elimination.proofs.Paths.{chain-join, closes-join, entry-chain}

pub record Sound (has : ℕ → ℕ → Bool) (n m : ℕ) (ps : List Pair) : Type 0 where
  pub row : (q : Pair) → Member q ps → q.row < n
  pub column : (q : Pair) → Member q ps → q.column < m
  pub entry : (q : Pair) → Member q ps → has q.row q.column ≡ true
  pub apart : Apart ps
  pub rank : Pair → ℕ
  pub bound : ℕ
  pub below : (q : Pair) → Member q ps → rank q < bound
  pub rising : (b q : Pair) → Member b ps → Member q ps → ¬ (b.row ≡ q.row) → has b.row q.column ≡ true → rank b < rank q

-- ---- pairs in a list of which each row has no entry in the columns before it: the rank is the place

place : List Pair → Pair → ℕ
place [] q = 0
place (b ∷ bs) q = cond (eqb b.row q.row) 0 (suc (place bs q))

place-own : (b : Pair) (bs : List Pair) (q : Pair) → q ≡ b → place (b ∷ bs) q ≡ 0
unfolding place
place-own b bs q e = ap (λ (t : Bool). cond t 0 (suc (place bs q))) (eq-eqb b.row q.row (ap (λ (x : Pair). x.row) (sym e)))

place_other : (b : Pair) (bs : List Pair) (q : Pair) → ¬ (b.row ≡ q.row) → place (b ∷ bs) q ≡ suc (place bs q)
unfolding place
place_other b bs q h = ap (λ (t : Bool). cond t 0 (suc (place bs q))) (ne_eqb b.row q.row h)

place-most : (ps : List Pair) (q : Pair) → place ps q ≤ length ps
unfolding place
place-most [] q = omega arith
place-most (b ∷ bs) q = go (eqb b.row q.row) (place-most bs q)
  where
    go : (t : Bool) → place bs q ≤ length bs → cond t 0 (suc (place bs q)) ≤ suc (length bs)
    go true ih = omega arith
    go false ih = omega arith

module _ (has : ℕ → ℕ → Bool) where
  place-rising : (ps : List Pair) → Apart ps → ((k l : ℕ) → k < l → l < length ps → has (get_or ps l no_pair).row (get_or ps k no_pair).column ≡ false)
      → (b q : Pair) → Member b ps → Member q ps → ¬ (b.row ≡ q.row) → has b.row q.column ≡ true → place ps b < place ps q
  unfolding Apart
  place-rising [] a h b q m l d e = absurd m
  place-rising (p ∷ ps) a h b q (inl s) (inl t) d e = absurd (d (ap (λ (x : Pair). x.row) (s ∙ sym t)))
  place-rising (p ∷ ps) a h b q (inl s) (inr l) d e = omega (arith, place-own p ps b s, place_other p ps q (λ r. a.0 q l (sym r)))
  place-rising (p ∷ ps) a h b q (inr m) (inl t) d e =
      let r = in_place ps b m in
      absurd (true≢false (sym e ∙ (λ i. has (sym r.2 i).row (t i).column) ∙ h 0 (suc r.0) (omega arith) (omega (arith, r.1))))
  place-rising (p ∷ ps) a h b q (inr m) (inr l) d e =
      omega (
        arith,
        place-rising ps a.1 (λ k l g r. h (suc k) (suc l) (omega arith) (omega arith)) b q m l d e,
        place_other p ps b (λ r. a.0 b m (sym r)),
        place_other p ps q (λ r. a.0 q l (sym r)),
      )

nonzero-true : (A : Matrix) (i j : ℕ) → ¬ (A i j ≡ 0) → nonzero A i j ≡ true
nonzero-true A i j h = ap not (ne_eqb (A i j) 0 h)

nonzero-false : (A : Matrix) (i j : ℕ) → A i j ≡ 0 → nonzero A i j ≡ false
nonzero-false A i j h = ap not (eq-eqb (A i j) 0 h)

module _ (n m : ℕ) (A : Matrix) (ps : List Pair) (h : Pairs n m A ps) where
  row_at : (k : ℕ) → get_or (pair_rows ps) k 0 ≡ (get_or ps k no_pair).row
  row_at k = get_or-map (λ q. q.row) ps k no_pair

  column-at : (k : ℕ) → get_or (pair_columns ps) k 0 ≡ (get_or ps k no_pair).column
  column-at k = get_or-map (λ q. q.column) ps k no_pair

  pub pairs-sound : Sound (nonzero A) n m ps
  pairs-sound =
      record {
        row = λ q m. let s = in_place ps q m in omega (arith, h.rows.below s.0 s.1, row_at s.0, ap (λ (x : Pair). x.row) s.2);
        column = λ q m. let s = in_place ps q m in omega (arith, h.columns s.0 s.1, column-at s.0, ap (λ (x : Pair). x.column) s.2);
        entry = λ q m. let s = in_place ps q m in
            nonzero-true A q.row q.column (λ z. h.here s.0 s.1 ((λ t. A (row_at s.0 t) (column-at s.0 t)) ∙ (λ t. A (s.2 t).row (s.2 t).column) ∙ z));
        apart = distinct;
        rank = place ps;
        bound = suc (length ps);
        below = λ q m. omega (arith, place-most ps q);
        rising = place-rising (nonzero A) ps distinct (λ k l b g. nonzero-false A (get_or ps l no_pair).row (get_or ps k no_pair).column ((λ t. A (sym (row_at l) t) (sym (column-at k) t)) ∙ h.before k l b g));
      }
    where
      distinct : Apart ps
      distinct = at-apart ps (λ k l b g e. absurd (omega (arith, h.rows.apart k l (omega arith) g (row_at k ∙ sym e ∙ sym (row_at l)))))

-- ---- one pair more

module _ (has : ℕ → ℕ → Bool) where
  -- row i is left, or has a pair
  pub extended-either : (m : ℕ) (ps : List Pair) (i : ℕ) (P : List Pair → Type 0)
      → (among i (pair_rows ps) ≡ true → P ps)
      → (among i (pair_rows ps) ≡ false → ((j : ℕ) → j < m → unfit has ps i j ≡ true) → P ps)
      → (among i (pair_rows ps) ≡ false → (c : ℕ) → c < m → unfit has ps i c ≡ false → ((j : ℕ) → j < c → unfit has ps i j ≡ true) → P (ps ++ (pair_at i c ∷ [])))
      → P (extended has m ps i)
  unfolding extended
  extended-either m ps i P is none one = go (among i (pair_rows ps)) refl (leb m c) refl
    where
      c : ℕ
      c = first m (unfit has ps i)

      go : (s : Bool) → among i (pair_rows ps) ≡ s → (t : Bool) → leb m c ≡ t → P (cond (s || t) ps (ps ++ (pair_at i c ∷ [])))
      go true e t f = is e
      go false e true f = none e (λ j l. first-before m (unfit has ps i) j (omega (arith, leb-true m c f)))
      go false e false f = one e c (leb-false m c f) (first-here m (unfit has ps i) (leb-false m c f)) (λ j l. first-before m (unfit has ps i) j l)

  -- what is fit
  pub record Fit (ps : List Pair) (i j : ℕ) : Type 0 where
    pub entry : has i j ≡ true
    pub unused : among j (pair_columns ps) ≡ false
    pub closes_none : closes has ps i j ≡ false

  pub fit : (ps : List Pair) (i j : ℕ) → unfit has ps i j ≡ false → Fit ps i j
  unfolding unfit
  fit ps i j e = go (has i j) refl (among j (pair_columns ps)) refl (closes has ps i j) refl e
    where
      go : (a : Bool) → has i j ≡ a → (b : Bool) → among j (pair_columns ps) ≡ b → (c : Bool) → closes has ps i j ≡ c → (not a || (b || c)) ≡ false → Fit ps i j
      go true s true t c u e = absurd (true≢false e)
      go true s false t true u e = absurd (true≢false e)
      go true s false t false u e = record { entry = s; unused = t; closes_none = u }
      go false s b t c u e = absurd (true≢false e)

  module _ (n m : ℕ) (ps : List Pair) (h : Sound has n m ps) (i c : ℕ) (row : i < n) (column : c < m) (new : (b : Pair) → Member b ps → ¬ (b.row ≡ i)) (entry : has i c ≡ true) (not-closed : closes has ps i c ≡ false) where
    -- those that row i reaches come after it, the others before it
    rank : Pair → ℕ
    rank q = cond (eqb q.row i) h.bound (cond (chain has ps i q.column) (h.bound + 1 + h.rank q) (h.rank q))

    rank-new : rank (pair_at i c) ≡ h.bound
    unfolding rank
    rank-new = ap (λ (t : Bool). cond t h.bound (cond (chain has ps i c) (h.bound + 1 + h.rank (pair_at i c)) (h.rank (pair_at i c)))) (eq-eqb i i refl)

    rank-old : (q : Pair) → Member q ps → (t : Bool) → chain has ps i q.column ≡ t → rank q ≡ cond t (h.bound + 1 + h.rank q) (h.rank q)
    unfolding rank
    rank-old q m t e =
        ap (λ (s : Bool). cond s h.bound (cond (chain has ps i q.column) (h.bound + 1 + h.rank q) (h.rank q))) (ne_eqb q.row i (new q m))
        ∙ ap (λ (s : Bool). cond s (h.bound + 1 + h.rank q) (h.rank q)) e

    old-rising : (b q : Pair) → Member b ps → Member q ps → ¬ (b.row ≡ q.row) → has b.row q.column ≡ true → rank b < rank q
    old-rising b q m l d e = go (chain has ps i b.column) refl (chain has ps i q.column) refl
      where
        go : (s : Bool) → chain has ps i b.column ≡ s → (t : Bool) → chain has ps i q.column ≡ t → rank b < rank q
        go true f true g = omega (arith, rank-old b m true f, rank-old q l true g, h.rising b q m l d e)
        go true f false g = absurd (true≢false (sym (chain-join has b ps i q.column m f (entry-chain has ps b.row q.column e)) ∙ g))
        go false f true g = omega (arith, rank-old b m false f, rank-old q l true g, h.below b m)
        go false f false g = omega (arith, rank-old b m false f, rank-old q l false g, h.rising b q m l d e)

    -- row i leads to what it reaches
    new-first : (q : Pair) → Member q ps → has i q.column ≡ true → h.bound < rank q
    new-first q m e = omega (arith, rank-old q m true (entry-chain has ps i q.column e))

    -- and what leads to it is not reached
    new-last : (b : Pair) → Member b ps → has b.row c ≡ true → rank b < h.bound
    new-last b m e = go (chain has ps i b.column) refl
      where
        go : (s : Bool) → chain has ps i b.column ≡ s → rank b < h.bound
        go true f = absurd (true≢false (sym (closes-join has b ps i c m f (entry-chain has ps b.row c e)) ∙ not-closed))
        go false f = omega (arith, rank-old b m false f, h.below b m)

    each : (P : Pair → Type 0) → ((q : Pair) → Member q ps → P q) → P (pair_at i c) → (q : Pair) → Member q (ps ++ (pair_at i c ∷ [])) → P q
    each P old last q m = go (in-snoc ps (pair_at i c) q m)
      where
        go : Member q ps ⊎ (q ≡ pair_at i c) → P q
        go (inl l) = old q l
        go (inr e) = subst P (sym e) last

    old_below : (q : Pair) → Member q ps → rank q < h.bound + h.bound + 1
    old_below q m = go (chain has ps i q.column) refl
      where
        go : (s : Bool) → chain has ps i q.column ≡ s → rank q < h.bound + h.bound + 1
        go true f = omega (arith, rank-old q m true f, h.below q m)
        go false f = omega (arith, rank-old q m false f, h.below q m)

    pub added-sound : Sound has n m (ps ++ (pair_at i c ∷ []))
    added-sound =
        record {
          row = each (λ q. q.row < n) h.row row;
          column = each (λ q. q.column < m) h.column column;
          entry = each (λ q. has q.row q.column ≡ true) h.entry entry;
          apart = apart_snoc ps (pair_at i c) h.apart new;
          rank = rank;
          bound = h.bound + h.bound + 1;
          below = each (λ q. rank q < h.bound + h.bound + 1) old_below (omega (arith, rank-new));
          rising = λ b q m l.
              each (λ b. ¬ (b.row ≡ q.row) → has b.row q.column ≡ true → rank b < rank q)
              (λ b m. each (λ q. ¬ (b.row ≡ q.row) → has b.row q.column ≡ true → rank b < rank q) (λ q l. old-rising b q m l) (λ d e. omega (arith, rank-new, new-last b m e)) q l)
              (each (λ q. ¬ (i ≡ q.row) → has i q.column ≡ true → rank (pair_at i c) < rank q) (λ q l d e. omega (arith, rank-new, new-first q l e)) (λ d e. absurd (d refl)) q l)
              b m;
        }

  -- ---- row after row

  pub extended-sound : (n m : ℕ) (ps : List Pair) (i : ℕ) → i < n → Sound has n m ps → Sound has n m (extended has m ps i)
  extended-sound n m ps i l h =
      extended-either m ps i (Sound has n m) (λ e. h) (λ e g. h)
      (λ e c b f g. let t = fit ps i c f in added-sound n m ps h i c l b (not_named (λ q. q.row) ps i e) t.entry t.closes_none)

  pub extended_to-sound : (n m : ℕ) (ps : List Pair) (k : ℕ) → k ≤ n → Sound has n m ps → Sound has n m (extended_to has m ps k)
  unfolding extended_to
  extended_to-sound n m ps zero l h = h
  extended_to-sound n m ps (suc k) l h = extended-sound n m (extended_to has m ps k) k (omega arith) (extended_to-sound n m ps k (omega arith) h)
