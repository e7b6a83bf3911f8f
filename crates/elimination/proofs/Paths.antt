-- `chain` and `closes` say that there is a chain, and that there is one that comes back.
use Prim.Native.Nat.{ℕ}
use mathlib.Core.Path.{◌≡◌, refl, sym, ap, subst}
use mathlib.Core.Bool.{Bool, true, ◌&&◌, ◌||◌, false≢true}
use mathlib.Core.Logic.{◌⊎◌, inl, inr}
use mathlib.Core.List.{List, [], ◌∷◌}
use Rattle.lists.proofs.Bools.{and_both, and_left, and_right, or_cases, or_right}
use Rattle.elimination.specs.Structural.{Pair}
use Rattle.lists.specs.Members.{Member}
use Rattle.elimination.specs.Chains.{Path, one, more, Back, chain, closes}
use Rattle.elimination.proofs.Members.{here, later}

or_left : (a b : Bool) → a ≡ true → (a || b) ≡ true
or_left a b e = ap (λ (t : Bool). t || b) e

-- one test more, by `closes` and `chain` alike
module _ (s a b : Bool) where
  split : (s || (a && b)) ≡ true → (s ≡ true) ⊎ ((a ≡ true) × (b ≡ true))
  split e = go (or_cases s (a && b) e)
    where
      go : (s ≡ true) ⊎ ((a && b) ≡ true) → (s ≡ true) ⊎ ((a ≡ true) × (b ≡ true))
      go (inl l) = inl l
      go (inr r) = inr (and_left a b r, and_right a b r)

  both : a ≡ true → b ≡ true → (s || (a && b)) ≡ true
  both e f = or_right s (and_both a b e f)

module _ (has : ℕ → ℕ → Bool) where
  -- ---- chains by the test: they join at a pivot

  cases : (q : Pair) (qs : List Pair) (i j : ℕ) → chain has (q ∷ qs) i j ≡ true
      → (chain has qs i j ≡ true) ⊎ ((chain has qs i q.column ≡ true) × (chain has qs q.row j ≡ true))
  unfolding chain
  cases q qs i j e = split (chain has qs i j) (chain has qs i q.column) (chain has qs q.row j) e

  around : (q : Pair) (qs : List Pair) (i j : ℕ) → chain has qs i j ≡ true → chain has (q ∷ qs) i j ≡ true
  unfolding chain
  around q qs i j e = or_left (chain has qs i j) (chain has qs i q.column && chain has qs q.row j) e

  through : (q : Pair) (qs : List Pair) (i j : ℕ) → chain has qs i q.column ≡ true → chain has qs q.row j ≡ true → chain has (q ∷ qs) i j ≡ true
  unfolding chain
  through q qs i j a b = both (chain has qs i j) (chain has qs i q.column) (chain has qs q.row j) a b

  -- q itself is not needed to come to its column, nor to go on from its row
  to-own : (q : Pair) (qs : List Pair) (i : ℕ) → chain has (q ∷ qs) i q.column ≡ true → chain has qs i q.column ≡ true
  to-own q qs i e = go (cases q qs i q.column e)
    where
      go : (chain has qs i q.column ≡ true) ⊎ ((chain has qs i q.column ≡ true) × (chain has qs q.row q.column ≡ true)) → chain has qs i q.column ≡ true
      go (inl a) = a
      go (inr b) = b.0

  from-own : (q : Pair) (qs : List Pair) (j : ℕ) → chain has (q ∷ qs) q.row j ≡ true → chain has qs q.row j ≡ true
  from-own q qs j e = go (cases q qs q.row j e)
    where
      go : (chain has qs q.row j ≡ true) ⊎ ((chain has qs q.row q.column ≡ true) × (chain has qs q.row j ≡ true)) → chain has qs q.row j ≡ true
      go (inl a) = a
      go (inr b) = b.1

  pub chain-join : (q : Pair) (ps : List Pair) (i j : ℕ) → Member q ps → chain has ps i q.column ≡ true → chain has ps q.row j ≡ true → chain has ps i j ≡ true
  chain-join q [] i j m a b = absurd m
  chain-join q (p ∷ qs) i j (inl e) a b =
      let own : (chain has qs i p.column ≡ true) × (chain has qs p.row j ≡ true) = (to-own p qs i (rw e at a), from-own p qs j (rw e at b)) in
      through p qs i j own.0 own.1
  chain-join q (p ∷ qs) i j (inr m) a b = go (cases p qs i q.column a) (cases p qs q.row j b) (chain-join q qs)
    where
      go : (chain has qs i q.column ≡ true) ⊎ ((chain has qs i p.column ≡ true) × (chain has qs p.row q.column ≡ true))
          → (chain has qs q.row j ≡ true) ⊎ ((chain has qs q.row p.column ≡ true) × (chain has qs p.row j ≡ true))
          → ((i j : ℕ) → Member q qs → chain has qs i q.column ≡ true → chain has qs q.row j ≡ true → chain has qs i j ≡ true)
          → chain has (p ∷ qs) i j ≡ true
      go (inl a) (inl b) ih = around p qs i j (ih i j m a b)
      go (inl a) (inr b) ih = through p qs i j (ih i p.column m a b.0) b.1
      go (inr a) (inl b) ih = through p qs i j a.0 (ih p.row j m a.1 b)
      go (inr a) (inr b) ih = through p qs i j a.0 b.1

  -- and what joins at a pivot comes back
  pub closes-join : (q : Pair) (ps : List Pair) (i j : ℕ) → Member q ps → chain has ps i q.column ≡ true → chain has ps q.row j ≡ true → closes has ps i j ≡ true
  unfolding closes
  closes-join q [] i j m a b = absurd m
  closes-join q (p ∷ qs) i j (inl e) a b =
      let own : (chain has qs i p.column ≡ true) × (chain has qs p.row j ≡ true) = (to-own p qs i (rw e at a), from-own p qs j (rw e at b)) in
      both (closes has qs i j) (chain has qs i p.column) (chain has qs p.row j) own.0 own.1
  closes-join q (p ∷ qs) i j (inr m) a b = go (cases p qs i q.column a) (cases p qs q.row j b) (closes-join q qs i j m)
    where
      go : (chain has qs i q.column ≡ true) ⊎ ((chain has qs i p.column ≡ true) × (chain has qs p.row q.column ≡ true))
          → (chain has qs q.row j ≡ true) ⊎ ((chain has qs q.row p.column ≡ true) × (chain has qs p.row j ≡ true))
          → (chain has qs i q.column ≡ true → chain has qs q.row j ≡ true → closes has qs i j ≡ true)
          → (closes has qs i j || (chain has qs i p.column && chain has qs p.row j)) ≡ true
      go (inl a) (inl b) ih = or_left (closes has qs i j) (chain has qs i p.column && chain has qs p.row j) (ih a b)
      go (inl a) (inr b) ih = both (closes has qs i j) (chain has qs i p.column) (chain has qs p.row j) (chain-join q qs i p.column m a b.0) b.1
      go (inr a) (inl b) ih = both (closes has qs i j) (chain has qs i p.column) (chain has qs p.row j) a.0 (chain-join q qs p.row j m a.1 b)
      go (inr a) (inr b) ih = both (closes has qs i j) (chain has qs i p.column) (chain has qs p.row j) a.0 b.1

  pub entry-chain : (ps : List Pair) (i j : ℕ) → has i j ≡ true → chain has ps i j ≡ true
  unfolding chain
  entry-chain [] i j e = e
  entry-chain (q ∷ qs) i j e = around q qs i j (entry-chain qs i j e)

  -- ---- chains as such

  pub path-wider : (ps qs : List Pair) → ((q : Pair) → Member q ps → Member q qs) → {i j : ℕ} → Path has ps i j → Path has qs i j
  path-wider ps qs h (one e) = one e
  path-wider ps qs h (more q m e w) = more q (h q m) e (path-wider ps qs h w)

  path_join : (ps : List Pair) (i c j : ℕ) (q : Pair) → Member q ps → q.column ≡ c → Path has ps i c → Path has ps q.row j → Path has ps i j
  path_join ps i c j q m s (one e) v = more q m (subst (λ (x : ℕ). has i x ≡ true) (sym s) e) v
  path_join ps i c j q m s (more p l e w) v = more p l e (path_join ps p.row c j q m s w v)

  -- ---- the tests are right

  pub path-chain : (ps : List Pair) (i j : ℕ) → Path has ps i j → chain has ps i j ≡ true
  path-chain ps i j (one e) = entry-chain ps i j e
  path-chain ps i j (more q m e w) = chain-join q ps i j m (entry-chain ps i q.column e) (path-chain ps q.row j w)

  pub chain-path : (ps : List Pair) (i j : ℕ) → chain has ps i j ≡ true → Path has ps i j
  unfolding chain
  chain-path [] i j e = one e
  chain-path (q ∷ qs) i j e = go (cases q qs i j e) (chain-path qs)
    where
      wide : (i j : ℕ) → Path has qs i j → Path has (q ∷ qs) i j
      wide i j = path-wider qs (q ∷ qs) (later q qs)

      go : (chain has qs i j ≡ true) ⊎ ((chain has qs i q.column ≡ true) × (chain has qs q.row j ≡ true))
          → ((i j : ℕ) → chain has qs i j ≡ true → Path has qs i j) → Path has (q ∷ qs) i j
      go (inl a) ih = wide i j (ih i j a)
      go (inr b) ih = path_join (q ∷ qs) i q.column j q (here q qs) refl (wide i q.column (ih i q.column b.0)) (wide q.row j (ih q.row j b.1))

  pub back-wider : (ps qs : List Pair) → ((q : Pair) → Member q ps → Member q qs) → (i j : ℕ) → Back has ps i j → Back has qs i j
  back-wider ps qs h i j b = record { by = b.by; chosen = h b.by b.chosen; leads = b.leads; onward = path-wider ps qs h b.onward }

  pub back-closes : (ps : List Pair) (i j : ℕ) → Back has ps i j → closes has ps i j ≡ true
  back-closes ps i j b = closes-join b.by ps i j b.chosen (entry-chain ps i b.by.column b.leads) (path-chain ps b.by.row j b.onward)

  pub closes-back : (ps : List Pair) (i j : ℕ) → closes has ps i j ≡ true → Back has ps i j
  unfolding closes
  closes-back [] i j e = absurd (false≢true e)
  closes-back (q ∷ qs) i j e = go (split (closes has qs i j) (chain has qs i q.column) (chain has qs q.row j) e) (closes-back qs i j)
    where
      wide : (i j : ℕ) → Path has qs i j → Path has (q ∷ qs) i j
      wide i j = path-wider qs (q ∷ qs) (later q qs)

      -- the first step of a chain to q
      begin : (c : ℕ) → q.column ≡ c → Path has (q ∷ qs) i c → Path has (q ∷ qs) q.row j → Back has (q ∷ qs) i j
      begin c s (one e) v = record { by = q; chosen = here q qs; leads = subst (λ (x : ℕ). has i x ≡ true) (sym s) e; onward = v }
      begin c s (more p l e w) v = record { by = p; chosen = l; leads = e; onward = path_join (q ∷ qs) p.row c j q (here q qs) s w v }

      go : (closes has qs i j ≡ true) ⊎ ((chain has qs i q.column ≡ true) × (chain has qs q.row j ≡ true))
          → (closes has qs i j ≡ true → Back has qs i j) → Back has (q ∷ qs) i j
      go (inl a) ih = back-wider qs (q ∷ qs) (later q qs) i j (ih a)
      go (inr b) ih = begin q.column refl (wide i q.column (chain-path qs i q.column b.0)) (wide q.row j (chain-path qs q.row j b.1))

  -- a pair closes a cycle exactly if a chain from its row comes back to its column
  pub closes-exactly : (ps : List Pair) (i j : ℕ) → (closes has ps i j ≡ true → Back has ps i j) × (Back has ps i j → closes has ps i j ≡ true)
  closes-exactly ps i j = (closes-back ps i j, back-closes ps i j)

  -- only which pairs there are matters; with more of them there are more cycles
  pub closes-wider : (ps qs : List Pair) → ((q : Pair) → Member q ps → Member q qs) → (i j : ℕ) → closes has ps i j ≡ true → closes has qs i j ≡ true
  closes-wider ps qs h i j e = back-closes qs i j (back-wider ps qs h i j (closes-back ps i j e))
