-- Laws for the code: the search that stands for `closes`, and the counts that stand for `free`.
--   Searched            what a finished search from row i has stamped
--   searched            it is what `closes`
--   extended-left ..    what `extended` adds, by what the search finds
--   free-degree         a pair is free exactly if none of the other waiting rows leads to it
--   degree-without      a row that waits no more lowers the counts of those that it leads to by one
--   ordered_step        the lowest-numbered free row comes next
--   ordered-none        where none is free nothing comes
--   ordered_same        the order depends on which pairs there are, not on how they are listed
use Prim.Native.Nat.{ℕ, zero, suc, ◌+◌, ◌<◌}
use mathlib.Core.Path.{◌≡◌, refl, sym, ap, ◌∙◌}
use mathlib.Core.Bool.{Bool, true, false, cond, not, ◌&&◌, ◌||◌, true≢false}
use mathlib.Core.Logic.{◌⊎◌, inl, inr}
use mathlib.Core.List.{List, [], ◌∷◌, ◌++◌}
use mathlib.Core.Option.{Option, none, some}
use native.Mathlib.Omega.{arith}
use lib.Dec.{eqb, leb}
use lib.ListN.{length}
use borrow.Author.Tests.{eq-eqb, ne_eqb, le-leb, lt-leb}
use Rattle.lists.specs.Tests.{first, among}
use Rattle.lists.proofs.Bools.{or_right}
use Rattle.lists.proofs.Tests.{first-all, first-fails}
use Rattle.elimination.specs.Structural.{Pair}
use Rattle.elimination.specs.Pairs.{pair_rows}
use Rattle.lists.specs.Members.{Member}
use Rattle.elimination.specs.Chains.{Path, one, more, Back, closes}
use Rattle.elimination.specs.Selection.{pair_at, unfit, extended, without, free, lowest, ordered, leads_to, degree, Apart}
use Rattle.elimination.proofs.Members.{apart-same}
use Rattle.elimination.proofs.Paths.{closes-back, back-closes}
use Rattle.elimination.proofs.Ordering.{Least, Lowest, lowest-right, Ranked, ordered-right, order-only}

module _ (has : ℕ → ℕ → Bool) where
  -- ---- the search

  -- what is stamped is reached through a pivot, and whole rows are stamped: of each pivot whose column row i has, or that is stamped
  pub record Searched (ps : List Pair) (i : ℕ) (stamped : ℕ → Bool) : Type 0 where
    pub right : (j : ℕ) → stamped j ≡ true → Back has ps i j
    pub whole : (q : Pair) → Member q ps → (has i q.column ≡ true) ⊎ (stamped q.column ≡ true) → (j : ℕ) → has q.row j ≡ true → stamped j ≡ true

  module _ (ps : List Pair) (i : ℕ) (stamped : ℕ → Bool) (s : Searched ps i stamped) where
    reached : (k j : ℕ) → ((c : ℕ) → has k c ≡ true → stamped c ≡ true) → Path has ps k j → stamped j ≡ true
    reached k j h (one e) = h j e
    reached k j h (more q m e w) = reached q.row j (s.whole q m (inr (h q.column e))) w

    back-stamped : (j : ℕ) → Back has ps i j → stamped j ≡ true
    back-stamped j b = reached b.by.row j (s.whole b.by b.chosen (inl b.leads)) b.onward

    pub searched : (j : ℕ) → stamped j ≡ closes has ps i j
    searched j = go (stamped j) refl (closes has ps i j) refl
      where
        go : (a : Bool) → stamped j ≡ a → (b : Bool) → closes has ps i j ≡ b → a ≡ b
        go true e true f = refl
        go true e false f = absurd (true≢false (sym (back-closes has ps i j (s.right j e)) ∙ f))
        go false e true f = absurd (true≢false (sym (back-stamped j (closes-back has ps i j f)) ∙ e))
        go false e false f = refl

  -- ---- what is added

  pub extended-chosen : (m : ℕ) (ps : List Pair) (i : ℕ) → among i (pair_rows ps) ≡ true → extended has m ps i ≡ ps
  unfolding extended
  extended-chosen m ps i e = ap (λ (t : Bool). cond (t || leb m c) ps (ps ++ (pair_at i c ∷ []))) e
    where
      c : ℕ
      c = first m (unfit has ps i)

  pub extended-left : (m : ℕ) (ps : List Pair) (i : ℕ) → ((j : ℕ) → j < m → unfit has ps i j ≡ true) → extended has m ps i ≡ ps
  unfolding extended
  extended-left m ps i h = ap (λ (t : Bool). cond t ps (ps ++ (pair_at i c ∷ []))) (or_right (among i (pair_rows ps)) (le-leb m c (omega (arith, first-all m (unfit has ps i) h))))
    where
      c : ℕ
      c = first m (unfit has ps i)

  pub extended-taken : (m : ℕ) (ps : List Pair) (i c : ℕ) → among i (pair_rows ps) ≡ false → c < m → ((j : ℕ) → j < c → unfit has ps i j ≡ true) → unfit has ps i c ≡ false
      → extended has m ps i ≡ ps ++ (pair_at i c ∷ [])
  unfolding extended
  extended-taken m ps i c e l before here =
      (λ t. cond (e t || leb m (at t)) ps (ps ++ (pair_at i (at t) ∷ [])))
      ∙ ap (λ (b : Bool). cond b ps (ps ++ (pair_at i c ∷ []))) (lt-leb m c l)
    where
      at : first m (unfit has ps i) ≡ c
      at = first-fails m (unfit has ps i) c l before here

  -- ---- the counts

  pub free-degree : (ws : List Pair) (q : Pair) → free has ws q ≡ eqb (degree has ws q) 0
  unfolding free degree leads_to
  free-degree [] q = refl
  free-degree (b ∷ bs) q = go (eqb b.row q.row || not (has b.row q.column)) (free-degree bs q)
    where
      go : (t : Bool) → free has bs q ≡ eqb (degree has bs q) 0 → (t && free has bs q) ≡ eqb (cond t 0 1 + degree has bs q) 0
      go true ih = ih ∙ ap (λ (d : ℕ). eqb d 0) (let e : degree has bs q ≡ 0 + degree has bs q = omega arith in e)
      go false ih = sym (ne_eqb (1 + degree has bs q) 0 (λ e. absurd (omega arith)))

  degree-none : (i : ℕ) (ws : List Pair) (q : Pair) → ((b : Pair) → Member b ws → ¬ (b.row ≡ i)) → degree has (without i ws) q ≡ degree has ws q
  unfolding degree without
  degree-none i [] q h = refl
  degree-none i (b ∷ bs) q h =
      ap (λ (t : Bool). degree has (cond t (without i bs) (b ∷ without i bs)) q) (ne_eqb b.row i (h b (inl refl)))
      ∙ ap (λ (d : ℕ). leads_to has b.row q + d) (degree-none i bs q (λ x m. h x (inr m)))

  pub degree-without : (ws : List Pair) (a q : Pair) → Apart ws → Member a ws → leads_to has a.row q + degree has (without a.row ws) q ≡ degree has ws q
  unfolding degree without Apart
  degree-without [] a q h m = absurd m
  degree-without (b ∷ bs) a q h (inl s) =
      ap (λ (t : Bool). leads_to has a.row q + degree has (cond t (without a.row bs) (b ∷ without a.row bs)) q) (eq-eqb b.row a.row (ap (λ (x : Pair). x.row) (sym s)))
      ∙ ap (λ (d : ℕ). leads_to has a.row q + d) (degree-none a.row bs q (λ x m e. h.0 x m (e ∙ ap (λ (x : Pair). x.row) s)))
      ∙ ap (λ (x : Pair). leads_to has x.row q + degree has bs q) s
  degree-without (b ∷ bs) a q h (inr m) =
      ap (λ (t : Bool). leads_to has a.row q + degree has (cond t (without a.row bs) (b ∷ without a.row bs)) q) (ne_eqb b.row a.row (λ e. h.0 a m (sym e)))
      ∙ omega (arith, degree-without bs a q h.1 m)

  -- ---- the order

  pub ordered_step : (k : ℕ) (ws : List Pair) (a : Pair) → Apart ws → Least has ws ws a → ordered has (suc k) ws ≡ a ∷ ordered has k (without a.row ws)
  unfolding ordered
  ordered_step k ws a h l = go (lowest has ws ws) (lowest-right has ws ws)
    where
      go : (o : Option Pair) → Lowest has ws ws o → elim o [ none ↦ [] | some q ↦ q ∷ ordered has k (without q.row ws) ] ≡ a ∷ ordered has k (without a.row ws)
      go none g = absurd (true≢false (sym l.is_free ∙ g a l.inside))
      go (some b) g =
          ap (λ (q : Pair). q ∷ ordered has k (without q.row ws))
          (apart-same ws h b a g.inside l.inside (omega (arith, g.least a l.inside l.is_free, l.least b g.inside g.is_free)))

  pub ordered-none : (k : ℕ) (ws : List Pair) → ((a : Pair) → ¬ Least has ws ws a) → ordered has k ws ≡ []
  unfolding ordered
  ordered-none zero ws h = refl
  ordered-none (suc k) ws h = go (lowest has ws ws) (lowest-right has ws ws)
    where
      go : (o : Option Pair) → Lowest has ws ws o → ◌≡◌ {A = List Pair} (elim o [ none ↦ [] | some q ↦ q ∷ ordered has k (without q.row ws) ]) []
      go none g = refl
      go (some a) g = absurd (h a g)

  pub ordered_same : (rank : Pair → ℕ) (ps qs : List Pair) → Apart ps → Apart qs → Ranked has rank ps → ((b : Pair) → Member b ps → Member b qs) → ((b : Pair) → Member b qs → Member b ps)
      → ordered has (length ps) ps ≡ ordered has (length qs) qs
  ordered_same rank ps qs h g r f u =
      let a = ordered-right has rank (length ps) ps refl h r in
      let b = ordered-right has rank (length qs) qs refl g (λ x y m l. r x y (u x m) (u y l)) in
      order-only has (ordered has (length ps) ps) (ordered has (length qs) qs) a.apart b.apart (λ x m. b.all x (f x (a.from x m))) (λ x m. a.all x (u x (b.from x m))) a.obeys b.obeys
