-- Multiples of rows taken away from the working row.
use mathlib.Core.Path.{◌≡◌, refl, sym, ap, ◌∙◌}
use mathlib.Core.List.{List}
use Prim.Native.Nat.{ℕ, suc, ◌+◌, ◌-◌, ◌*◌, ◌≤◌, ◌<◌}
use native.Mathlib.Nat.{mul-le-mul_left, mul-le-mul_right, suc-mul}
use native.Mathlib.Decide.{ℕ_discrete}
use native.Mathlib.Omega.{arith}
use lib.ListN.{length, get_or, drop, set, length-set}
use lib.Seq.{get_or-set_same, get_or-set_other}
use Rattle.algebra.specs.Congruence.{◌≈⟨◌⟩◌}
use Rattle.algebra.specs.Sum.{δ}
use Rattle.algebra.specs.Matrix.{Matrix}
use Rattle.algebra.proofs.Congruence.{exact, ◌⊙◌, ◌⊕◌, same_refl, by-multiples, cancel}
use Rattle.algebra.proofs.Dot.{δ-same, δ-other}
use Rattle.sparse.specs.Row.{weigh, entry, Below}
use Rattle.sparse.specs.WorkingRow.{Lowered, SubtractedTo, Subtracted, GrownBy}
use Rattle.sparse.proofs.Entries.{weigh-scale, weigh-step, weigh-end}

-- ---- one cell

-- a product of two residues is below p * p
pub product-below : {p a b : ℕ} → a < p → b < p → a * b < p * p
product-below {p} {a} {b} ha hb =
    omega (arith, mul-le-mul_left {m = b} {n = p} a (omega arith), mul-le-mul_right {m = suc a} {n = p} p (omega arith), suc-mul a p)

-- u is taken away from the cell x without a division, where it is more than x
pub cell-wraps : (p x u : ℕ) → u < p * p → x < u → Lowered p u x (x + (p * p - u))
cell-wraps p x u h lt =
    record { within = λ b g k. omega arith; less = by-multiples 0 p (omega arith); still = λ e. absurd (omega arith) }

pub below_set : (b : ℕ) (w : List ℕ) (k x : ℕ) → Below b w → x < b → Below b (set w k x)
below_set b w k x h small i g = go (ℕ_discrete i k)
  where
    inside : i < length w
    inside = omega (arith, length-set w k x)

    go : Dec (i ≡ k) → get_or (set w k x) i 0 < b
    go (yes e) = rw (e, get_or-set_same w k x 0 (rw e at inside)) small
    go (no e) = rw (get_or-set_other w k i x 0 e) (h i inside)

-- v times c taken away at place k
pub set-cell : (b p c v k r : ℕ) (w : List ℕ) → p * p ≤ b → k < length w → Below b w → Lowered p (c * v) (get_or w k 0) r
    → SubtractedTo p b (λ j. v * (c * δ k j)) w (set w k r)
set-cell b p c v k r w wide h below cell =
    record {
      long = length-set w k r;
      below = below_set b w k r below (cell.within b wide (below k h));
      cells = λ j g. at j (ℕ_discrete j k);
      kept = λ j g e. same j e (ℕ_discrete j k);
    }
  where
    at : (j : ℕ) → Dec (j ≡ k) → get_or (set w k r) j 0 + v * (c * δ k j) ≈⟨ p ⟩ get_or w j 0
    at j (yes e) =
        rw e (exact (omega (arith, get_or-set_same w k r 0 h, ap (λ (z : ℕ). v * (c * z)) (δ-same k))) ⊙ cell.less)
    at j (no e) = exact (omega (arith, get_or-set_other w k j r 0 e, ap (λ (z : ℕ). v * (c * z)) (δ-other k j (λ q. e (sym q)))))

    same : (j : ℕ) → v * (c * δ k j) ≡ 0 → Dec (j ≡ k) → get_or (set w k r) j 0 ≡ get_or w j 0
    same j z (yes e) =
        rw e (get_or-set_same w k r 0 h ∙ cell.still (omega (arith, rw e at z, ap (λ (y : ℕ). v * (c * y)) (δ-same k))))
    same j z (no e) = get_or-set_other w k j r 0 e

-- ---- one after the other

pub subtracted-none : {b : ℕ} (p : ℕ) (w : List ℕ) → Below b w → SubtractedTo p b (λ j. 0) w w
subtracted-none p w h = record { long = refl; below = h; cells = λ j g. exact (omega arith); kept = λ j g e. refl }

pub subtracted-then : {a b : ℕ} (p : ℕ) (f g : ℕ → ℕ) (w₀ w₁ w₂ : List ℕ) → SubtractedTo p a f w₀ w₁ → SubtractedTo p b g w₁ w₂ → SubtractedTo p b (λ j. g j + f j) w₀ w₂
subtracted-then p f g w₀ w₁ w₂ a b =
    record {
      long = b.long ∙ a.long;
      below = b.below;
      cells = λ j h. exact (omega arith) ⊙ b.cells j (omega (arith, a.long)) ⊕ same_refl (f j) ⊙ a.cells j h;
      kept = λ j h e. b.kept j (omega (arith, a.long)) (omega arith) ∙ a.kept j h (omega arith);
    }

pub subtracted-ext : {b : ℕ} (p : ℕ) (f g : ℕ → ℕ) (w₀ w : List ℕ) → ((j : ℕ) → f j ≡ g j) → SubtractedTo p b f w₀ w → SubtractedTo p b g w₀ w
subtracted-ext p f g w₀ w e s =
    record {
      long = s.long;
      below = s.below;
      cells = λ j h. exact (ap (λ (z : ℕ). get_or w j 0 + z) (sym (e j))) ⊙ s.cells j h;
      kept = λ j h z. s.kept j h (e j ∙ z);
    }

-- a larger bound holds as well
pub subtracted-more : (p a b : ℕ) (f : ℕ → ℕ) (w₀ w : List ℕ) → a ≤ b → SubtractedTo p a f w₀ w → SubtractedTo p b f w₀ w
subtracted-more p a b f w₀ w le s =
    record { long = s.long; below = λ i h. omega (arith, s.below i h); cells = s.cells; kept = s.kept }

-- cells below p * p that do not grow stay below
pub grown-none : (p : ℕ) (f : ℕ → ℕ) (w₀ w : List ℕ) → Below (p * p) w₀ → GrownBy p 0 f w₀ w → Subtracted p f w₀ w
grown-none p f w₀ w below s = subtracted-more p (p * p + 0) (p * p) f w₀ w (omega arith) (s (p * p) (omega arith) below)

pub grown-more : (p g h : ℕ) (f : ℕ → ℕ) (w₀ w : List ℕ) → g ≤ h → GrownBy p g f w₀ w → GrownBy p h f w₀ w
grown-more p g h f w₀ w le s b wide below = subtracted-more p (b + g) (b + h) f w₀ w (omega arith) (s b wide below)

-- ---- a loop over the entries of a sparse row, which takes M's row k away v times for each entry v at column k

pub record Combining (p b : ℕ) (M : Matrix) (cols vals w₀ w : List ℕ) (t : ℕ) : Type 0 where
  pub inside : t ≤ length cols
  pub long : length w ≡ length w₀
  pub below : Below b w
  pub rest : (j : ℕ) → j < length w₀ → get_or w j 0 + weigh cols vals (λ k. M k j) ≈⟨ p ⟩ get_or w₀ j 0 + weigh (drop t cols) (drop t vals) (λ k. M k j)
  pub kept : (j : ℕ) → j < length w₀ → weigh cols vals (λ k. M k j) ≡ 0 → (get_or w j 0 ≡ get_or w₀ j 0) × (weigh (drop t cols) (drop t vals) (λ k. M k j) ≡ 0)

-- the bound may be another one after the turn
pub combining-turn : {a b : ℕ} (p : ℕ) (M : Matrix) (cols vals w₀ w w' : List ℕ) (t k v : ℕ) → t < length cols → t < length vals → k ≡ get_or cols t 0 → v ≡ get_or vals t 0
    → Combining p a M cols vals w₀ w t → SubtractedTo p b (λ j. v * M k j) w w' → Combining p b M cols vals w₀ w' (t + 1)
combining-turn p M cols vals w₀ w w' t k v h g ek ev s d =
    record {
      inside = omega arith;
      long = d.long ∙ s.long;
      below = d.below;
      rest = λ j b.
          cancel (v * M k j)
          (exact (omega arith)
          ⊙ d.cells j (omega (arith, s.long)) ⊕ same_refl (weigh cols vals (λ k. M k j))
          ⊙ s.rest j b
          ⊙ exact (omega (arith, weigh-step cols vals t k v (λ k. M k j) h g ek ev)));
      kept = λ j b e. let before = s.kept j b e in let step = weigh-step cols vals t k v (λ k. M k j) h g ek ev in (
        d.kept j (omega (arith, s.long)) (omega (arith, step, before.1)) ∙ before.0,
        omega (arith, step, before.1),
      );
    }

pub combining-ends : {b : ℕ} (p : ℕ) (M : Matrix) (cols vals w₀ w : List ℕ) (t : ℕ) → length cols ≤ t → Combining p b M cols vals w₀ w t
    → SubtractedTo p b (λ j. weigh cols vals (λ k. M k j)) w₀ w
combining-ends p M cols vals w₀ w t h s =
    record {
      long = s.long;
      below = s.below;
      cells = λ j b. s.rest j b ⊙ exact (omega (arith, weigh-end cols vals t (λ k. M k j) h));
      kept = λ j b e. (s.kept j b e).0;
    }

-- ---- the loop that takes one sparse row away c times is the one with c times the unit matrix, below any bound

pub record Lowering (p c : ℕ) (cols vals w₀ w : List ℕ) (t : ℕ) : Type 0 where
  pub long : length w ≡ length w₀
  pub so_far : (b : ℕ) → p * p ≤ b → Below b w₀ → Combining p b (λ k j. c * δ k j) cols vals w₀ w t

pub lowering-turn : (p c : ℕ) (cols vals w₀ w : List ℕ) (t k v r : ℕ) → t < length cols → t < length vals → k ≡ get_or cols t 0 → v ≡ get_or vals t 0 → k < length w
    → Lowering p c cols vals w₀ w t → Lowered p (c * v) (get_or w k 0) r → Lowering p c cols vals w₀ (set w k r) (t + 1)
lowering-turn p c cols vals w₀ w t k v r h g ek ev inside s cell =
    record {
      long = length-set w k r ∙ s.long;
      so_far = λ b wide below. let d = s.so_far b wide below in
          combining-turn p (λ k j. c * δ k j) cols vals w₀ w (set w k r) t k v h g ek ev d (set-cell b p c v k r w wide inside d.below cell);
    }

pub lowering-ends : (p c : ℕ) (cols vals w₀ w : List ℕ) (t : ℕ) → length cols ≤ t → Lowering p c cols vals w₀ w t
    → GrownBy p 0 (λ j. c * entry cols vals j) w₀ w
lowering-ends p c cols vals w₀ w t h s b wide below =
    subtracted-more p b (b + 0) (λ j. c * entry cols vals j) w₀ w (omega arith)
    (subtracted-ext p (λ j. weigh cols vals (λ k. c * δ k j)) (λ j. c * entry cols vals j) w₀ w (λ j. weigh-scale c cols vals (λ k. δ k j))
    (combining-ends p (λ k j. c * δ k j) cols vals w₀ w t h (s.so_far b wide below)))
