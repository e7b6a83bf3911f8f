-- The places of the pivot columns, one pivot at a time.
use mathlib.Core.Path.{◌≡◌, refl, sym, ap, ◌∙◌, subst}
use mathlib.Core.List.{List}
use Prim.Native.Nat.{ℕ, ◌+◌, ◌≤◌, ◌<◌}
use native.Mathlib.Decide.{ℕ_discrete, dec_lt}
use native.Mathlib.Omega.{arith}
use lib.ListN.{length, get_or, set, length-set}
use lib.Seq.{get_or-set_same, get_or-set_other}
use Rattle.algebra.specs.Matrix.{Distinct, vector}
use Rattle.factor_marked.specs.Needs.{PivotOf, Placed}
use Rattle.factor_turn.proofs.OtherRows.{ColumnsGrown}
use Rattle.factor_others.specs.Needs.{EnterReady, PlaceEntered}

-- one pivot more
module _ (r : ℕ) (C place : List ℕ) (m : ℕ) (h : Placed r C place m) (c : ℕ) (ec : c ≡ get_or C r 0) (wide : ℕ) (d : Distinct (r + 1) wide (vector C)) (b : c < length place) (few : r ≤ 2048) where
  pub place_set : Placed (r + 1) C (set place c r) m
  place_set =
      record {
        long = omega (arith, h.long, length-set place c r);
        inside = λ j g. inside j g (ℕ_discrete j c);
        pivots = λ k g. pivots k g (ℕ_discrete k r);
        only = λ j g q. only j g q (ℕ_discrete j c);
      }
    where
      inside : (j : ℕ) → j < m → Dec (j ≡ c) → get_or (set place c r) j 0 ≤ 2048
      inside j g (yes e) = omega (arith, ap (λ (k : ℕ). get_or (set place c r) k 0) e ∙ get_or-set_same place c r 0 b)
      inside j g (no e) = omega (arith, get_or-set_other place c j r 0 e, h.inside j g)

      pivots : (k : ℕ) → k < r + 1 → Dec (k ≡ r) → get_or (set place c r) (get_or C k 0) 0 ≡ k
      pivots k g (yes e) = ap (λ (x : ℕ). get_or (set place c r) (get_or C x 0) 0) e ∙ ap (λ (x : ℕ). get_or (set place c r) x 0) (sym ec) ∙ get_or-set_same place c r 0 b ∙ sym e
      pivots k g (no e) =
          get_or-set_other place c (get_or C k 0) r 0 (λ q. e (d.apart k r g (omega arith) (q ∙ ec)))
          ∙ h.pivots k (omega arith)

      only : (j : ℕ) → j < m → ¬ (get_or (set place c r) j 0 ≡ 2048) → Dec (j ≡ c) → PivotOf (r + 1) C j
      only j g q (yes e) = record { pivot = r; inside = omega arith; column = sym ec ∙ sym e }
      only j g q (no e) = let t = h.only j g (λ z. q (get_or-set_other place c j r 0 e ∙ z)) in record { pivot = t.pivot; inside = omega (arith, t.inside); column = t.column }

-- ---- the structural pivots

module _ (s : ℕ) (C place₀ : List ℕ) where
  pub record Filling (place : List ℕ) (k : ℕ) : Type 0 where
    pub inside : k ≤ s
    pub long : length place ≡ length place₀
    pub placed : Placed k C place (length place₀)

-- ---- a turn

module _ (r r' m : ℕ) (C C' place₀ : List ℕ) (few : r ≤ 2048) (g : ColumnsGrown r r' m C C') (h : Placed r C place₀ m) where
  pub enter-ready : m ≤ length C' → EnterReady r r' C' place₀
  enter-ready wide =
      record {
        narrow = omega (arith, g.high);
        rank = λ b. omega (arith, g.most);
        column = λ b. omega (arith, g.distinct.below r b, h.long);
      }

  -- the pivots found before are where they were
  earlier : Placed r C' place₀ m
  earlier =
      record {
        long = h.long;
        inside = h.inside;
        pivots = λ k b. ap (λ (c : ℕ). get_or place₀ c 0) (g.front k b) ∙ h.pivots k b;
        only = λ j b q. let t = h.only j b q in record { pivot = t.pivot; inside = t.inside; column = g.front t.pivot t.inside ∙ t.column };
      }

  pub places-grown : (place : List ℕ) → PlaceEntered r r' C' place₀ place → Placed r' C' place m
  places-grown place d = go (dec_lt r r')
    where
      go : Dec (r < r') → Placed r' C' place m
      go (yes b) =
          let e : r + 1 ≡ r' = omega (arith, g.high) in
          subst (λ (l : List ℕ). Placed r' C' l m) (sym (d.entered b))
          (subst (λ (x : ℕ). Placed x C' (set place₀ (get_or C' r 0) r) m) e
          (place_set r C' place₀ m earlier (get_or C' r 0) refl m (subst (λ (x : ℕ). Distinct x m (vector C')) (sym e) g.distinct) (omega (arith, g.distinct.below r b, h.long)) few))
      go (no b) =
          subst (λ (l : List ℕ). Placed r' C' l m) (sym (d.same (omega arith)))
          (subst (λ (x : ℕ). Placed x C' place₀ m) (let e : r ≡ r' = omega (arith, g.low) in e) earlier)
