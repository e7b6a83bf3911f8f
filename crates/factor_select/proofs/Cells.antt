-- Cells that name pairs by row or by column: one pair more, and from the columns to the rows.
--   added-column, added-row   a cell that named none names the pair added
--   NamedBelow ps v c         the cells of v name the pairs of ps whose columns are below c
--   Naming A n m v c          document 01's pairs by columns, and v has a cell for each row
use Prim.Native.Nat.{ℕ, suc, ◌+◌, ◌-◌, ◌≤◌, ◌<◌}
use mathlib.Core.Path.{◌≡◌, refl, sym, ap, ◌∙◌, subst}
use mathlib.Core.Logic.{◌⊎◌, inl, inr}
use mathlib.Core.List.{List, [], ◌∷◌, ◌++◌}
use native.Mathlib.Decide.{ℕ_discrete}
use native.Mathlib.Omega.{arith}
use lib.ListN.{length, get_or, set, length-set}
use lib.Seq.{get_or-set_same, get_or-set_other}
use Rattle.lists.specs.Filled.{zeros}
use Rattle.lists.proofs.Filled.{zeros-at, length-zeros}
use Rattle.sparse.specs.Matrix.{Compressed, matrix}
use Rattle.elimination.specs.Structural.{Pair, leading}
use Rattle.lists.specs.Members.{Member}
use Rattle.elimination.specs.Selection.{nonzero, pair_at, Apart}
use Rattle.elimination.proofs.Members.{in-front, in-last, in-snoc, apart-same}
use Rattle.elimination.proofs.Pairs.{leading-pairs}
use Rattle.elimination.proofs.Kept.{Sound, pairs-sound}
use Rattle.factor_names.specs.Named.{ByColumn, ByRow}
use Rattle.factor_select.specs.Needs.{NameReady}

-- ---- one pair more, by columns and by rows alike

module _ (key value : Pair → ℕ) (pair : ℕ → ℕ → Pair) (ps : List Pair) (w : List ℕ) (k x : ℕ) (inside : k < length w) (unnamed : get_or w k 0 ≡ 0) where
  added-right : ((l y : ℕ) → get_or w l 0 ≡ suc y → Member (pair l y) ps) → (l y : ℕ) → get_or (set w k (x + 1)) l 0 ≡ suc y → Member (pair l y) (ps ++ (pair k x ∷ []))
  added-right right l y e = go (ℕ_discrete l k)
    where
      go : Dec (l ≡ k) → Member (pair l y) (ps ++ (pair k x ∷ []))
      go (yes q) =
          let same : x ≡ y = omega (arith, get_or-set_same w k (x + 1) 0 inside, sym (ap (λ (t : ℕ). get_or (set w k (x + 1)) t 0) q) ∙ e) in
          subst (λ (a : Pair). Member a (ps ++ (pair k x ∷ []))) (λ t. pair (sym q t) (same t)) (in-last ps (pair k x))
      go (no q) = in-front ps (pair k x ∷ []) (pair l y) (right l y (sym (get_or-set_other w k l (x + 1) 0 q) ∙ e))

  added-all : ((b : Pair) → Member b ps → get_or w (key b) 0 ≡ suc (value b)) → key (pair k x) ≡ k → value (pair k x) ≡ x
      → (b : Pair) → Member b (ps ++ (pair k x ∷ [])) → get_or (set w k (x + 1)) (key b) 0 ≡ suc (value b)
  added-all all key-is value-is b h = go (in-snoc ps (pair k x) b h)
    where
      go : Member b ps ⊎ (b ≡ pair k x) → get_or (set w k (x + 1)) (key b) 0 ≡ suc (value b)
      go (inl l) = get_or-set_other w k (key b) (x + 1) 0 (λ e. absurd (omega (arith, all b l, ap (λ (t : ℕ). get_or w t 0) e, unnamed))) ∙ all b l
      go (inr e) =
          ap (λ (t : ℕ). get_or (set w k (x + 1)) t 0) (ap key e ∙ key-is)
          ∙ omega (arith, get_or-set_same w k (x + 1) 0 inside, ap value e, value-is)

pub added-column : (ps : List Pair) (w : List ℕ) (i c : ℕ) → c < length w → get_or w c 0 ≡ 0 → ByColumn w ps → ByColumn (set w c (i + 1)) (ps ++ (pair_at i c ∷ []))
added-column ps w i c inside unnamed h =
    record {
      right = added-right (λ b. b.column) (λ b. b.row) (λ d r. pair_at r d) ps w c i inside unnamed h.right;
      all = added-all (λ b. b.column) (λ b. b.row) (λ d r. pair_at r d) ps w c i inside unnamed h.all refl refl;
    }

pub added-row : (ps : List Pair) (v : List ℕ) (i c : ℕ) → i < length v → get_or v i 0 ≡ 0 → ByRow v ps → ByRow (set v i (c + 1)) (ps ++ (pair_at i c ∷ []))
added-row ps v i c inside unnamed h =
    record {
      right = added-right (λ b. b.row) (λ b. b.column) pair_at ps v i c inside unnamed h.right;
      all = added-all (λ b. b.row) (λ b. b.column) pair_at ps v i c inside unnamed h.all refl refl;
    }

-- ---- from the columns to the rows, one column more at a time

pub record NamedBelow (ps : List Pair) (v : List ℕ) (c : ℕ) : Type 0 where
  pub right : (i d : ℕ) → get_or v i 0 ≡ suc d → Member (pair_at i d) ps × (d < c)
  pub all : (b : Pair) → Member b ps → b.column < c → get_or v b.row 0 ≡ suc b.column

pub below-starts : (ps : List Pair) (n : ℕ) (v : List ℕ) → v ≡ zeros n → NamedBelow ps v 0
below-starts ps n v z =
    record {
      right = λ i d e. absurd (omega (arith, e, ap (λ (l : List ℕ). get_or l i 0) z, zeros-at n i));
      all = λ b h l. absurd (omega arith);
    }

module _ (ps : List Pair) (w v : List ℕ) (c : ℕ) (named : ByColumn w ps) (h : NamedBelow ps v c) where
  -- no pair has column c
  pub below_none : get_or w c 0 ≡ 0 → NamedBelow ps v (c + 1)
  below_none e =
      record {
        right = λ i d q. let r = h.right i d q in (r.0, omega (arith, r.1));
        all = λ b l s. h.all b l (lower b l s (ℕ_discrete b.column c));
      }
    where
      lower : (b : Pair) → Member b ps → b.column < c + 1 → Dec (b.column ≡ c) → b.column < c
      lower b l s (yes q) = absurd (omega (arith, named.all b l, ap (λ (t : ℕ). get_or w t 0) q, e))
      lower b l s (no q) = omega arith

  -- the pair of column c has row i, which no pair before it has
  pub below_one : (i : ℕ) → Apart ps → get_or w c 0 ≡ suc i → i < length v → NamedBelow ps (set v i (c + 1)) (c + 1)
  below_one i apart e inside =
      record {
        right = λ k d q. right k d q (ℕ_discrete k i);
        all = λ b l s. all b l s (ℕ_discrete b.row i);
      }
    where
      pair-in : Member (pair_at i c) ps
      pair-in = named.right c i e

      right : (k d : ℕ) → get_or (set v i (c + 1)) k 0 ≡ suc d → Dec (k ≡ i) → Member (pair_at k d) ps × (d < c + 1)
      right k d q (yes r) =
          let same : c ≡ d = omega (arith, get_or-set_same v i (c + 1) 0 inside, sym (ap (λ (t : ℕ). get_or (set v i (c + 1)) t 0) r) ∙ q) in
          (subst (λ (a : Pair). Member a ps) (λ t. pair_at (sym r t) (same t)) pair-in, omega (arith, same))
      right k d q (no r) = let s = h.right k d (sym (get_or-set_other v i k (c + 1) 0 r) ∙ q) in (s.0, omega (arith, s.1))

      all : (b : Pair) → Member b ps → b.column < c + 1 → Dec (b.row ≡ i) → get_or (set v i (c + 1)) b.row 0 ≡ suc b.column
      all b l s (yes r) =
          ap (λ (t : ℕ). get_or (set v i (c + 1)) t 0) r
          ∙ omega (arith, get_or-set_same v i (c + 1) 0 inside, ap (λ (a : Pair). a.column) (apart-same ps apart b (pair_at i c) l pair-in r))
      all b l s (no r) = get_or-set_other v i b.row (c + 1) 0 r ∙ h.all b l (lower (ℕ_discrete b.column c))
        where
          lower : Dec (b.column ≡ c) → b.column < c
          lower (yes q) = absurd (r (omega (arith, named.all b l, ap (λ (t : ℕ). get_or w t 0) q, e)))
          lower (no q) = omega arith

pub below-ends : (ps : List Pair) (v : List ℕ) (m c : ℕ) → m ≤ c → ((b : Pair) → Member b ps → b.column < m) → NamedBelow ps v c → ByRow v ps
below-ends ps v m c past inside h = record { right = λ i d e. (h.right i d e).0; all = λ b l. h.all b l (omega (arith, inside b l)) }

-- ---- document 01's pairs

pub record Naming (A : Compressed) (n m : ℕ) (v : List ℕ) (c : ℕ) : Type 0 where
  pub long : length v ≡ n
  pub below : NamedBelow (leading A n m) v c

module _ (p n : ℕ) (A : Compressed) (w v₀ : List ℕ) (r : NameReady p n A w v₀) where
  leading_sound : Sound (nonzero (matrix A)) n (length w) (leading A n (length w))
  leading_sound = pairs-sound n (length w) (matrix A) (leading A n (length w)) (leading-pairs p n (length w) A r.sized.formed r.sized.rows)

  pub naming-starts : Naming A n (length w) v₀ 0
  naming-starts = record { long = ap length r.clear ∙ length-zeros n; below = below-starts (leading A n (length w)) n v₀ r.clear }

  -- a cell that is not 0 names a row of the matrix
  pub named-row : (c : ℕ) → ¬ (get_or w c 0 ≡ 0) → get_or w c 0 - 1 < n
  named-row c h = leading_sound.row (pair_at (get_or w c 0 - 1) c) (r.leading-named.right c (get_or w c 0 - 1) (omega arith))

  module _ (v : List ℕ) (c : ℕ) (h : Naming A n (length w) v c) where
    pub naming-none : get_or w c 0 ≡ 0 → Naming A n (length w) v (c + 1)
    naming-none e = record { long = h.long; below = below_none (leading A n (length w)) w v c r.leading-named h.below e }

    pub naming-one : ¬ (get_or w c 0 ≡ 0) → Naming A n (length w) (set v (get_or w c 0 - 1) (c + 1)) (c + 1)
    naming-one e =
        record {
          long = length-set v (get_or w c 0 - 1) (c + 1) ∙ h.long;
          below = below_one (leading A n (length w)) w v c r.leading-named h.below (get_or w c 0 - 1) leading_sound.apart (omega arith) (omega (arith, named-row c e, h.long));
        }

    pub naming-ends : length w ≤ c → ByRow v (leading A n (length w))
    naming-ends past = below-ends (leading A n (length w)) v (length w) c past leading_sound.column h.below
