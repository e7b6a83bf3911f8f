-- Pairs in lists.
--   here, later, in-append ..  where a pair of a list stands
--   in-named, named_in         a number is the row (or the column) of one of the pairs
--   apart_snoc ..              no two pairs in the same row
use Prim.Native.Nat.{ℕ, zero, suc, ◌<◌}
use mathlib.Core.Path.{◌≡◌, refl, sym, ap, ◌∙◌, subst}
use mathlib.Core.Bool.{Bool, true, false, ◌||◌, false≢true, true≢false}
use mathlib.Core.Logic.{◌⊎◌, inl, inr}
use mathlib.Core.List.{List, [], ◌∷◌, ◌++◌, map}
use native.Mathlib.Omega.{arith}
use lib.Dec.{eqb}
use lib.ListN.{length, get_or}
use borrow.Author.Tests.{eqb-true, eq-eqb}
use Rattle.lists.proofs.Bools.{or_right}
use Rattle.elimination.specs.Structural.{Pair}
use Rattle.lists.specs.Tests.{among}
use Rattle.lists.specs.Members.{Member}
use Rattle.elimination.proofs.Pairs.{no_pair}
use Rattle.elimination.specs.Selection.{Apart}

pub later : (q : Pair) (qs : List Pair) (b : Pair) → Member b qs → Member b (q ∷ qs)
later q qs b m = inr m

pub here : (q : Pair) (qs : List Pair) → Member q (q ∷ qs)
here q qs = inl refl

pub in-front : (ps qs : List Pair) (b : Pair) → Member b ps → Member b (ps ++ qs)
in-front [] qs b m = absurd m
in-front (p ∷ ps) qs b (inl e) = inl e
in-front (p ∷ ps) qs b (inr m) = inr (in-front ps qs b m)

pub in-last : (ps : List Pair) (q : Pair) → Member q (ps ++ (q ∷ []))
in-last [] q = inl refl
in-last (p ∷ ps) q = inr (in-last ps q)

pub in-snoc : (ps : List Pair) (q b : Pair) → Member b (ps ++ (q ∷ [])) → Member b ps ⊎ (b ≡ q)
in-snoc [] q b (inl e) = inr e
in-snoc [] q b (inr m) = absurd m
in-snoc (p ∷ ps) q b (inl e) = inl (inl e)
in-snoc (p ∷ ps) q b (inr m) = go (in-snoc ps q b m)
  where
    go : Member b ps ⊎ (b ≡ q) → ((b ≡ p) ⊎ Member b ps) ⊎ (b ≡ q)
    go (inl l) = inl (inr l)
    go (inr e) = inr e

pub in-at : (ps : List Pair) (k : ℕ) → k < length ps → Member (get_or ps k no_pair) ps
in-at [] k h = absurd (omega arith)
in-at (p ∷ ps) zero h = inl refl
in-at (p ∷ ps) (suc k) h = inr (in-at ps k (omega arith))

pub in_place : (ps : List Pair) (q : Pair) → Member q ps → (k : ℕ) × (k < length ps) × (get_or ps k no_pair ≡ q)
in_place [] q m = absurd m
in_place (p ∷ ps) q (inl e) = (0, omega arith, sym e)
in_place (p ∷ ps) q (inr m) = let s = in_place ps q m in (suc s.0, omega (arith, s.1), s.2)

-- ---- their rows, or their columns

module _ (f : Pair → ℕ) where
  pub in-named : (ps : List Pair) (q : Pair) → Member q ps → among (f q) (map f ps) ≡ true
  unfolding among
  in-named [] q m = absurd m
  in-named (p ∷ ps) q (inl e) = ap (λ (b : Bool). b || among (f q) (map f ps)) (eq-eqb (f q) (f p) (ap f e))
  in-named (p ∷ ps) q (inr m) = or_right (eqb (f q) (f p)) (in-named ps q m)

  pub named_in : (ps : List Pair) (x : ℕ) → among x (map f ps) ≡ true → (q : Pair) × Member q ps × (f q ≡ x)
  unfolding among
  named_in [] x h = absurd (false≢true h)
  named_in (p ∷ ps) x h = go (eqb x (f p)) refl h (named_in ps x)
    where
      go : (b : Bool) → eqb x (f p) ≡ b → (b || among x (map f ps)) ≡ true → (among x (map f ps) ≡ true → (q : Pair) × Member q ps × (f q ≡ x))
          → (q : Pair) × ((q ≡ p) ⊎ Member q ps) × (f q ≡ x)
      go true e h ih = (p, inl refl, sym (eqb-true x (f p) e))
      go false e h ih = let r = ih h in (r.0, inr r.1, r.2)

  pub not_named : (ps : List Pair) (x : ℕ) → among x (map f ps) ≡ false → (q : Pair) → Member q ps → ¬ (f q ≡ x)
  not_named ps x h q m e = true≢false (sym (subst (λ (y : ℕ). among y (map f ps) ≡ true) e (in-named ps q m)) ∙ h)

  pub none_named : (ps : List Pair) (x : ℕ) → ((q : Pair) → Member q ps → ¬ (f q ≡ x)) → among x (map f ps) ≡ false
  none_named ps x h = go (among x (map f ps)) refl
    where
      go : (b : Bool) → among x (map f ps) ≡ b → b ≡ false
      go true e = let r = named_in ps x e in absurd (h r.0 r.1 r.2)
      go false e = refl

  -- a list with more pairs has more rows
  pub named-fewer : (ps qs : List Pair) → ((q : Pair) → Member q ps → Member q qs) → (x : ℕ) → among x (map f qs) ≡ false → among x (map f ps) ≡ false
  named-fewer ps qs h x e = none_named ps x (λ q m. not_named qs x e q (h q m))

-- ---- no two in the same row

pub apart_snoc : (ps : List Pair) (q : Pair) → Apart ps → ((b : Pair) → Member b ps → ¬ (b.row ≡ q.row)) → Apart (ps ++ (q ∷ []))
unfolding Apart
apart_snoc [] q h g = ((λ b m. absurd m), tt)
apart_snoc (p ∷ ps) q h g = ((λ b m. go b (in-snoc ps q b m)), apart_snoc ps q h.1 (λ b m. g b (inr m)))
  where
    go : (b : Pair) → Member b ps ⊎ (b ≡ q) → ¬ (b.row ≡ p.row)
    go b (inl m) e = h.0 b m e
    go b (inr s) e = g p (inl refl) (sym e ∙ ap (λ (x : Pair). x.row) s)

pub apart-same : (ps : List Pair) → Apart ps → (a b : Pair) → Member a ps → Member b ps → a.row ≡ b.row → a ≡ b
unfolding Apart
apart-same [] h a b m l e = absurd m
apart-same (p ∷ ps) h a b (inl s) (inl t) e = s ∙ sym t
apart-same (p ∷ ps) h a b (inl s) (inr l) e = absurd (h.0 b l (sym e ∙ ap (λ (x : Pair). x.row) s))
apart-same (p ∷ ps) h a b (inr m) (inl t) e = absurd (h.0 a m (e ∙ ap (λ (x : Pair). x.row) t))
apart-same (p ∷ ps) h a b (inr m) (inr l) e = apart-same ps h.1 a b m l e

pub apart-at : (ps : List Pair) → Apart ps → (k l : ℕ) → k < l → l < length ps → ¬ ((get_or ps l no_pair).row ≡ (get_or ps k no_pair).row)
unfolding Apart
apart-at [] h k l b g e = absurd (omega arith)
apart-at (p ∷ ps) h zero zero b g e = absurd (omega arith)
apart-at (p ∷ ps) h zero (suc l) b g e = h.0 (get_or ps l no_pair) (in-at ps l (omega arith)) e
apart-at (p ∷ ps) h (suc k) zero b g e = absurd (omega arith)
apart-at (p ∷ ps) h (suc k) (suc l) b g e = apart-at ps h.1 k l (omega arith) (omega arith) e

-- the other way: from the places
pub at-apart : (ps : List Pair) → ((k l : ℕ) → k < l → l < length ps → ¬ ((get_or ps l no_pair).row ≡ (get_or ps k no_pair).row)) → Apart ps
unfolding Apart
at-apart [] h = tt
at-apart (p ∷ ps) h =
    ((λ b m e. let s = in_place ps b m in h 0 (suc s.0) (omega arith) (omega (arith, s.1)) (ap (λ (x : Pair). x.row) s.2 ∙ e)), at-apart ps (λ k l b g. h (suc k) (suc l) (omega arith) (omega arith)))
