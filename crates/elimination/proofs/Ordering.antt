-- The order: it lists every pair once, obeys the rule, and is the only one that does.
--   free-right, free-holds    `free` says that no other waiting row leads there
--   lowest-right              `lowest` is the lowest-numbered free row, or there is none that is free
--   some-free                 among ranked pairs one is free: one of lowest rank
--   ordered-right             `ordered` lists ranked pairs, no two in the same row, as the rule asks
--   order-only                no other list of the same pairs obeys the rule
use Prim.Native.Nat.{ℕ, zero, suc, ◌≤◌, ◌<◌}
use mathlib.Core.Path.{◌≡◌, refl, sym, ap, ap₂, ◌∙◌, subst}
use mathlib.Core.Bool.{Bool, true, false, cond, not, ◌||◌, true≢false, false≢true}
use mathlib.Core.Logic.{◌⊎◌, inl, inr}
use mathlib.Core.List.{List, [], ◌∷◌}
use mathlib.Core.Option.{Option, none, some}
use native.Mathlib.Omega.{arith}
use native.Mathlib.Decide.{dec_lt}
use lib.Dec.{eqb, leb}
use lib.ListN.{length, get_or}
use borrow.Author.Tests.{eqb-true, eqb-false, eq-eqb, ne_eqb, leb-true, leb-false}
use Rattle.lists.proofs.Bools.{and_both, and_left, and_right}
use Rattle.elimination.specs.Structural.{Pair}
use Rattle.elimination.proofs.Pairs.{no_pair}
use Rattle.lists.specs.Members.{Member}
use Rattle.elimination.specs.Selection.{lower_pair, without, free, lowest, ordered, Free, Next, Obeys, Apart, Ordering}
use Rattle.elimination.proofs.Members.{in-at, apart-same}

-- ---- without one row

pub without_in : (i : ℕ) (ps : List Pair) (b : Pair) → Member b (without i ps) → Member b ps × ¬ (b.row ≡ i)
unfolding without
without_in i [] b m = absurd m
without_in i (p ∷ ps) b m = go (eqb p.row i) refl m (without_in i ps b)
  where
    go : (t : Bool) → eqb p.row i ≡ t → Member b (cond t (without i ps) (p ∷ without i ps)) → (Member b (without i ps) → Member b ps × ¬ (b.row ≡ i)) → ((b ≡ p) ⊎ Member b ps) × ¬ (b.row ≡ i)
    go true e m ih = let r = ih m in (inr r.0, r.1)
    go false e (inl s) ih = (inl s, λ q. eqb-false p.row i e (ap (λ (x : Pair). x.row) (sym s) ∙ q))
    go false e (inr m) ih = let r = ih m in (inr r.0, r.1)

in_without : (i : ℕ) (ps : List Pair) (b : Pair) → Member b ps → ¬ (b.row ≡ i) → Member b (without i ps)
unfolding without
in_without i [] b m d = absurd m
in_without i (p ∷ ps) b m d = go (eqb p.row i) refl m (λ l. in_without i ps b l d)
  where
    go : (t : Bool) → eqb p.row i ≡ t → (b ≡ p) ⊎ Member b ps → (Member b ps → Member b (without i ps)) → Member b (cond t (without i ps) (p ∷ without i ps))
    go true e (inl s) ih = absurd (d (ap (λ (x : Pair). x.row) s ∙ eqb-true p.row i e))
    go true e (inr l) ih = ih l
    go false e (inl s) ih = inl s
    go false e (inr l) ih = inr (ih l)

without-apart : (i : ℕ) (ps : List Pair) → Apart ps → Apart (without i ps)
unfolding without Apart
without-apart i [] h = tt
without-apart i (p ∷ ps) h = go (eqb p.row i) (without-apart i ps h.1)
  where
    go : (t : Bool) → Apart (without i ps) → Apart (cond t (without i ps) (p ∷ without i ps))
    go true ih = ih
    go false ih = ((λ b m. h.0 b (without_in i ps b m).0), ih)

-- where the row is not there, nothing goes
without-none : (i : ℕ) (ps : List Pair) → ((b : Pair) → Member b ps → ¬ (b.row ≡ i)) → length (without i ps) ≡ length ps
unfolding without
without-none i [] h = refl
without-none i (p ∷ ps) h =
    ap (λ (t : Bool). length (cond t (without i ps) (p ∷ without i ps))) (ne_eqb p.row i (h p (inl refl)))
    ∙ ap suc (without-none i ps (λ b m. h b (inr m)))

pub without-one : (ps : List Pair) (a : Pair) → Apart ps → Member a ps → suc (length (without a.row ps)) ≡ length ps
unfolding without Apart
without-one [] a h m = absurd m
without-one (p ∷ ps) a h (inl s) =
    ap (λ (t : Bool). suc (length (cond t (without a.row ps) (p ∷ without a.row ps)))) (eq-eqb p.row a.row (ap (λ (x : Pair). x.row) (sym s)))
    ∙ ap suc (without-none a.row ps (λ b m e. h.0 b m (e ∙ ap (λ (x : Pair). x.row) s)))
without-one (p ∷ ps) a h (inr m) =
    ap (λ (t : Bool). suc (length (cond t (without a.row ps) (p ∷ without a.row ps)))) (ne_eqb p.row a.row (λ e. h.0 a m (sym e)))
    ∙ ap suc (without-one ps a h.1 m)

module _ (has : ℕ → ℕ → Bool) where
  -- ---- the free row of lowest number

  pub free-right : (ws : List Pair) (q : Pair) → free has ws q ≡ true → Free has ws q
  unfolding free
  free-right [] q h b m d = absurd m
  free-right (w ∷ ws) q h b (inr m) d = free-right ws q (and_right (eqb w.row q.row || not (has w.row q.column)) (free has ws q) h) b m d
  free-right (w ∷ ws) q h b (inl s) d =
      ap (λ (x : Pair). has x.row q.column) s
      ∙ go (eqb w.row q.row) refl (has w.row q.column) (and_left (eqb w.row q.row || not (has w.row q.column)) (free has ws q) h)
    where
      go : (t : Bool) → eqb w.row q.row ≡ t → (u : Bool) → (t || not u) ≡ true → u ≡ false
      go true e u f = absurd (d (ap (λ (x : Pair). x.row) s ∙ eqb-true w.row q.row e))
      go false e true f = absurd (false≢true f)
      go false e false f = refl

  pub free-holds : (ws : List Pair) (q : Pair) → Free has ws q → free has ws q ≡ true
  unfolding free
  free-holds [] q h = refl
  free-holds (w ∷ ws) q h = and_both (eqb w.row q.row || not (has w.row q.column)) (free has ws q) (go (eqb w.row q.row) refl) (free-holds ws q (λ b m. h b (inr m)))
    where
      go : (t : Bool) → eqb w.row q.row ≡ t → (t || not (has w.row q.column)) ≡ true
      go true e = refl
      go false e = ap not (h w (inl refl) (eqb-false w.row q.row e))

  pub record Least (ws qs : List Pair) (a : Pair) : Type 0 where
    pub inside : Member a qs
    pub is_free : free has ws a ≡ true
    pub least : (b : Pair) → Member b qs → free has ws b ≡ true → a.row ≤ b.row

  abbrev pub Lowest : List Pair → List Pair → Option Pair → Type 0
  Lowest ws qs none = (b : Pair) → Member b qs → free has ws b ≡ false
  Lowest ws qs (some a) = Least ws qs a

  module _ (ws : List Pair) (q : Pair) (qs : List Pair) where
    lowest-passed : (o : Option Pair) → free has ws q ≡ false → Lowest ws qs o → Lowest ws (q ∷ qs) o
    lowest-passed none e h = go
      where
        go : (b : Pair) → (b ≡ q) ⊎ Member b qs → free has ws b ≡ false
        go b (inl s) = ap (free has ws) s ∙ e
        go b (inr m) = h b m
    lowest-passed (some a) e h = record { inside = inr h.inside; is_free = h.is_free; least = go }
      where
        go : (b : Pair) → (b ≡ q) ⊎ Member b qs → free has ws b ≡ true → a.row ≤ b.row
        go b (inl s) f = absurd (true≢false (sym f ∙ ap (free has ws) s ∙ e))
        go b (inr m) f = h.least b m f

    lowest-taken : (o : Option Pair) → free has ws q ≡ true → Lowest ws qs o → Lowest ws (q ∷ qs) (lower_pair q o)
    unfolding lower_pair
    lowest-taken none e h = record { inside = inl refl; is_free = e; least = go }
      where
        go : (b : Pair) → (b ≡ q) ⊎ Member b qs → free has ws b ≡ true → q.row ≤ b.row
        go b (inl s) f = omega (arith, ap (λ (x : Pair). x.row) s)
        go b (inr m) f = absurd (true≢false (sym f ∙ h b m))
    lowest-taken (some a) e h = pick (leb q.row a.row) refl
      where
        pick : (t : Bool) → leb q.row a.row ≡ t → Lowest ws (q ∷ qs) (cond t (some q) (some a))
        pick true f = record { inside = inl refl; is_free = e; least = go }
          where
            go : (b : Pair) → (b ≡ q) ⊎ Member b qs → free has ws b ≡ true → q.row ≤ b.row
            go b (inl s) g = omega (arith, ap (λ (x : Pair). x.row) s)
            go b (inr m) g = omega (arith, h.least b m g, leb-true q.row a.row f)
        pick false f = record { inside = inr h.inside; is_free = h.is_free; least = go }
          where
            go : (b : Pair) → (b ≡ q) ⊎ Member b qs → free has ws b ≡ true → a.row ≤ b.row
            go b (inl s) g = omega (arith, ap (λ (x : Pair). x.row) s, leb-false q.row a.row f)
            go b (inr m) g = h.least b m g

  pub lowest-right : (ws qs : List Pair) → Lowest ws qs (lowest has ws qs)
  unfolding lowest
  lowest-right ws [] = λ b m. absurd m
  lowest-right ws (q ∷ qs) = go (free has ws q) refl (lowest-right ws qs)
    where
      go : (t : Bool) → free has ws q ≡ t → Lowest ws qs (lowest has ws qs) → Lowest ws (q ∷ qs) (cond t (lower_pair q (lowest has ws qs)) (lowest has ws qs))
      go true e ih = lowest-taken ws q qs (lowest has ws qs) e ih
      go false e ih = lowest-passed ws q qs (lowest has ws qs) e ih

  -- ---- one is free

  abbrev pub Ranked : (Pair → ℕ) → List Pair → Type 0
  Ranked rank ws = (b q : Pair) → Member b ws → Member q ws → ¬ (b.row ≡ q.row) → has b.row q.column ≡ true → rank b < rank q

  lightest : (rank : Pair → ℕ) (p : Pair) (ws : List Pair) → (q : Pair) × Member q (p ∷ ws) × ((b : Pair) → Member b (p ∷ ws) → rank q ≤ rank b)
  lightest rank p [] = (p, inl refl, only)
    where
      only : (b : Pair) → (b ≡ p) ⊎ ⊥ → rank p ≤ rank b
      only b (inl s) = omega (arith, ap rank s)
      only b (inr m) = absurd m
  lightest rank p (w ∷ ws) = go (lightest rank w ws)
    where
      go : (q : Pair) × Member q (w ∷ ws) × ((b : Pair) → Member b (w ∷ ws) → rank q ≤ rank b) → (q : Pair) × ((q ≡ p) ⊎ Member q (w ∷ ws)) × ((b : Pair) → (b ≡ p) ⊎ Member b (w ∷ ws) → rank q ≤ rank b)
      go (q, m, h) = pick (dec_lt (rank p) (rank q))
        where
          pick : Dec (rank p < rank q) → (q : Pair) × ((q ≡ p) ⊎ Member q (w ∷ ws)) × ((b : Pair) → (b ≡ p) ⊎ Member b (w ∷ ws) → rank q ≤ rank b)
          pick (yes l) = (p, inl refl, each)
            where
              each : (b : Pair) → (b ≡ p) ⊎ Member b (w ∷ ws) → rank p ≤ rank b
              each b (inl s) = omega (arith, ap rank s)
              each b (inr k) = omega (arith, h b k)
          pick (no l) = (q, inr m, each)
            where
              each : (b : Pair) → (b ≡ p) ⊎ Member b (w ∷ ws) → rank q ≤ rank b
              each b (inl s) = omega (arith, ap rank s)
              each b (inr k) = h b k

  some-free : (rank : Pair → ℕ) (p : Pair) (ws : List Pair) → Ranked rank (p ∷ ws) → (q : Pair) × Member q (p ∷ ws) × Free has (p ∷ ws) q
  some-free rank p ws r = go (lightest rank p ws)
    where
      go : (q : Pair) × Member q (p ∷ ws) × ((b : Pair) → Member b (p ∷ ws) → rank q ≤ rank b) → (q : Pair) × Member q (p ∷ ws) × Free has (p ∷ ws) q
      go (q, m, h) = (q, m, λ b l d. test b l d (has b.row q.column) refl)
        where
          test : (b : Pair) → Member b (p ∷ ws) → ¬ (b.row ≡ q.row) → (t : Bool) → has b.row q.column ≡ t → t ≡ false
          test b l d true e = absurd (omega (arith, r b q l m d e, h b l))
          test b l d false e = refl

  -- ---- the whole order

  -- what comes next depends on which pairs wait, not on how they are listed
  next-same : (ps qs : List Pair) → ((b : Pair) → Member b ps → Member b qs) → ((b : Pair) → Member b qs → Member b ps) → (q : Pair) → Next has ps q → Next has qs q
  next-same ps qs f g q h = record { free = λ b m. h.free b (g b m); lowest = λ b m k. h.lowest b (g b m) (λ x l. k x (f x l)) }

  -- the lowest-numbered free pair, and the others in order
  ordering-step : (ws : List Pair) → Apart ws → (a : Pair) → Least ws ws a → (qs : List Pair) → Ordering has (without a.row ws) qs → Ordering has ws (a ∷ qs)
  unfolding Apart Obeys
  ordering-step ws h a l qs o =
      record {
        many = ap suc o.many ∙ without-one ws a h l.inside;
        from = from;
        all = all;
        apart = ((λ b m. (without_in a.row ws b (o.from b m)).1), o.apart);
        obeys = (next-same ws (a ∷ qs) all from a (record { free = free-right ws a l.is_free; lowest = λ b m f. l.least b m (free-holds ws b f) }), o.obeys);
      }
    where
      from : (b : Pair) → (b ≡ a) ⊎ Member b qs → Member b ws
      from b (inl s) = subst (λ (x : Pair). Member x ws) (sym s) l.inside
      from b (inr m) = (without_in a.row ws b (o.from b m)).0

      all : (b : Pair) → Member b ws → (b ≡ a) ⊎ Member b qs
      all b m = go (eqb b.row a.row) refl
        where
          go : (t : Bool) → eqb b.row a.row ≡ t → (b ≡ a) ⊎ Member b qs
          go true e = inl (apart-same ws h b a m l.inside (eqb-true b.row a.row e))
          go false e = inr (o.all b (in_without a.row ws b m (eqb-false b.row a.row e)))

  pub ordered-right : (rank : Pair → ℕ) (k : ℕ) (ws : List Pair) → length ws ≡ k → Apart ws → Ranked rank ws → Ordering has ws (ordered has k ws)
  unfolding ordered Apart Obeys
  ordered-right rank zero [] long h r = record { many = refl; from = λ b m. m; all = λ b m. m; apart = tt; obeys = tt }
  ordered-right rank zero (p ∷ ps) long h r = absurd (omega arith)
  ordered-right rank (suc k) [] long h r = absurd (omega arith)
  ordered-right rank (suc k) (p ∷ ps) long h r =
      go (lowest has ws ws) (lowest-right ws ws)
      (λ a m. ordered-right rank k (without a.row ws) (omega (arith, without-one ws a h m, long)) (without-apart a.row ws h)
      (λ b q l n. r b q (without_in a.row ws b l).0 (without_in a.row ws q n).0))
    where
      ws : List Pair
      ws = p ∷ ps

      go : (o : Option Pair) → Lowest ws ws o → ((a : Pair) → Member a ws → Ordering has (without a.row ws) (ordered has k (without a.row ws)))
          → Ordering has ws (elim o [ none ↦ [] | some q ↦ q ∷ ordered has k (without q.row ws) ])
      go none l ih = let s = some-free rank p ps r in absurd (true≢false (sym (free-holds ws s.0 s.2) ∙ l s.0 s.1))
      go (some a) l ih = ordering-step ws h a l (ordered has k (without a.row ws)) (ih a l.inside)

  -- ---- each row has no entry in the columns of the pairs before it

  pub obeys-at : (qs : List Pair) → Apart qs → Obeys has qs → (k l : ℕ) → k < l → l < length qs → has (get_or qs l no_pair).row (get_or qs k no_pair).column ≡ false
  unfolding Apart Obeys
  obeys-at [] a o k l b g = absurd (omega arith)
  obeys-at (q ∷ qs) a o zero zero b g = absurd (omega arith)
  obeys-at (q ∷ qs) a o zero (suc l) b g =
      let m = in-at qs l (omega arith) in
      o.0.free (get_or qs l no_pair) (inr m) (a.0 (get_or qs l no_pair) m)
  obeys-at (q ∷ qs) a o (suc k) zero b g = absurd (omega arith)
  obeys-at (q ∷ qs) a o (suc k) (suc l) b g = obeys-at qs a.1 o.1 k l (omega arith) (omega arith)

  -- ---- only one order obeys the rule

  pub order-only : (qs rs : List Pair) → Apart qs → Apart rs → ((b : Pair) → Member b qs → Member b rs) → ((b : Pair) → Member b rs → Member b qs) → Obeys has qs → Obeys has rs → qs ≡ rs
  unfolding Apart Obeys
  order-only [] [] a c f g o u = refl
  order-only [] (r ∷ rs) a c f g o u = absurd (g r (inl refl))
  order-only (q ∷ qs) [] a c f g o u = absurd (f q (inl refl))
  order-only (q ∷ qs) (r ∷ rs) a c f g o u = ap₂ (λ (x : Pair) (l : List Pair). x ∷ l) same (order-only qs rs a.1 c.1 there back o.1 u.1)
    where
      -- both are the lowest-numbered free row
      same : q ≡ r
      same =
          apart-same (q ∷ qs) a q r (inl refl) (g r (inl refl))
          (omega (
            arith,
            o.0.lowest r (g r (inl refl)) (λ b m. u.0.free b (f b m)),
            u.0.lowest q (f q (inl refl)) (λ b m. o.0.free b (g b m)),
          ))

      there : (b : Pair) → Member b qs → Member b rs
      there b m = go (f b (inr m))
        where
          go : (b ≡ r) ⊎ Member b rs → Member b rs
          go (inl s) = absurd (a.0 b m (ap (λ (x : Pair). x.row) (s ∙ sym same)))
          go (inr l) = l

      back : (b : Pair) → Member b rs → Member b qs
      back b m = go (g b (inr m))
        where
          go : (b ≡ q) ⊎ Member b qs → Member b qs
          go (inl s) = absurd (c.0 b m (ap (λ (x : Pair). x.row) (s ∙ same)))
          go (inr l) = l
