-- The loops between stored rows and the working row, one turn at a time.
use mathlib.Core.Path.{◌≡◌, refl, sym, ap, ◌∙◌}
use mathlib.Core.Bool.{true}
use mathlib.Core.List.{List, [], ◌∷◌, ◌++◌}
use Prim.Native.Nat.{ℕ, ◌+◌, ◌-◌, ◌*◌, ◌%◌, ◌≤◌, ◌<◌}
use native.Mathlib.Nat.{mul-le-mul_left, mul-zero, zero-mod}
use native.Mathlib.Decide.{ℕ_discrete}
use native.Mathlib.Omega.{arith}
use lib.ListN.{length, get_or, take, drop, set, length-set, drop_of_length-le}
use lib.Dec.{eqb}
use lib.Seq.{length-take-le, take_all, get_or-set_same, get_or-set_other, set-get_or}
use borrow.Author.Count.{below_more}
use borrow.Author.Tests.{eq-eqb}
use Rattle.lists.specs.Filled.{zeros}
use Rattle.lists.specs.Tabulate.{tabulate}
use Rattle.lists.proofs.Filled.{Clearing, clearing-starts, clearing-turn, clearing-ends, zeros-at, clearing-cell}
use Rattle.lists.proofs.Tabulate.{length-tabulate, tabulate-at, tabulated}
use Rattle.algebra.specs.Sum.{δ}
use Rattle.algebra.specs.Congruence.{◌≈⟨◌⟩◌}
use Rattle.algebra.proofs.Dot.{δ-same, δ-other}
use Rattle.algebra.proofs.Congruence.{exact, ◌⊙◌, ◌⊕◌, same_refl, by-multiples}
use Rattle.residue.specs.Arithmetic.{Residue}
use Rattle.sparse.specs.Row.{weigh, entry, Below, Row}
use Rattle.sparse.specs.WorkingRow.{Cell}
use Rattle.sparse.specs.Dense.{nonzeros, scaled}
use Rattle.sparse.specs.Storing.{Room, DenseStored, RowStored}
use Rattle.sparse.specs.Scan.{NextNonzero}
use Rattle.sparse.proofs.Scanning.{over_zeros}
use Rattle.sparse.proofs.Entries.{weigh-step, weigh-end, entry-below, row-values}
use Rattle.sparse.proofs.Nonzeros.{count-append, nonzeros-zero, nonzeros-one, stored-none, stored-zero, stored-then, stored-columns, stored-values, length-scaled, scaled-drop, scaled-take, scaled-split, scaled-once}

-- ---- loading a row: each cell and what is still to come for it make its entry

module _ (cols vals w₀ : List ℕ) where
  pub record Loading (w : List ℕ) (t : ℕ) : Type 0 where
    pub inside : t ≤ length cols
    pub long : length w ≡ length w₀
    pub cells : (j : ℕ) → j < length w₀ → get_or w j 0 + entry (drop t cols) (drop t vals) j ≡ entry cols vals j

  pub loading-starts : w₀ ≡ zeros (length w₀) → Loading w₀ 0
  loading-starts z =
      record { inside = omega arith; long = refl; cells = λ j h. omega (arith, ap (λ (l : List ℕ). get_or l j 0) z, zeros-at (length w₀) j) }

  module _ (w : List ℕ) (t k v : ℕ) (h : t < length cols) (g : t < length vals) (ek : k ≡ get_or cols t 0) (ev : v ≡ get_or vals t 0) (s : Loading w t) where
    -- the cell that a value is added to stays a residue
    pub loading-fits : (p width : ℕ) → Row p width cols vals → k < length w → get_or w k 0 + v < p
    loading-fits p width row b =
        let small = row-values p width cols vals row t g in
        omega (
          arith,
          small,
          s.cells k (omega (arith, s.long)),
          weigh-step cols vals t k v (λ c. δ c k) h g ek ev,
          ap (λ (z : ℕ). v * z) (δ-same k),
          entry-below p width 0 k cols vals (omega arith) row.rising row.nonzero,
        )

    pub loading-turn : k < length w → Loading (set w k (get_or w k 0 + v)) (t + 1)
    loading-turn b =
        record { inside = omega arith; long = length-set w k (get_or w k 0 + v) ∙ s.long; cells = λ j l. at j l (ℕ_discrete j k) }
      where
        at : (j : ℕ) → j < length w₀ → Dec (j ≡ k) → get_or (set w k (get_or w k 0 + v)) j 0 + entry (drop (t + 1) cols) (drop (t + 1) vals) j ≡ entry cols vals j
        at j l (yes e) =
            rw e (omega (arith, get_or-set_same w k (get_or w k 0 + v) 0 b, s.cells k (omega (arith, s.long)), weigh-step cols vals t k v (λ c. δ c k) h g ek ev, ap (λ (z : ℕ). v * z) (δ-same k)))
        at j l (no e) =
            omega (arith, get_or-set_other w k j (get_or w k 0 + v) 0 e, s.cells j l, weigh-step cols vals t k v (λ c. δ c j) h g ek ev, ap (λ (z : ℕ). v * z) (δ-other k j (λ q. e (sym q))))

  pub loading-ends : (w : List ℕ) (t : ℕ) → length cols ≤ t → Loading w t → w ≡ tabulate (length w₀) (entry cols vals)
  loading-ends w t h s =
      tabulated (length w₀) (entry cols vals) w s.long (λ j l. omega (arith, s.cells j l, weigh-end cols vals t (λ c. δ c j) h))

-- a row that is loaded can be worked on
pub loaded-below : (p width : ℕ) (cols vals : List ℕ) → 0 < p → Row p width cols vals → Below (p * p) (tabulate width (entry cols vals))
loaded-below p width cols vals pos row j h =
    let b : j < width = omega (arith, length-tabulate width (entry cols vals)) in
    let e = entry-below p width 0 j cols vals pos row.rising row.nonzero in
    omega (arith, tabulate-at width (entry cols vals) j b, e, mul-le-mul_left {m = 1} {n = p} p pos)

-- ---- the product with a vector: the sum and what is still to come make the product

-- u is added to the cell x without a division, past p * p
pub cell-over : (p x u : ℕ) → x < p * p → u < p * p → p * p - u ≤ x → Cell p 0 (x + u) (x - (p * p - u))
cell-over p x u h k le = record { below = omega arith; less = by-multiples p 0 (omega arith) }

module _ (p : ℕ) (cols vals : List ℕ) (f : ℕ → ℕ) where
  pub record Summing (s t : ℕ) : Type 0 where
    pub inside : t ≤ length cols
    pub below : s < p * p
    pub rest : s + weigh (drop t cols) (drop t vals) f ≈⟨ p ⟩ weigh cols vals f

  pub summing-turn : (s s' t k v : ℕ) → t < length cols → t < length vals → k ≡ get_or cols t 0 → v ≡ get_or vals t 0 → Cell p 0 (s + v * f k) s' → Summing s t → Summing s' (t + 1)
  summing-turn s s' t k v h g ek ev c a =
      record {
        inside = omega arith;
        below = c.below;
        rest =
            (exact (omega arith) ⊙ c.less) ⊕ same_refl (weigh (drop (t + 1) cols) (drop (t + 1) vals) f)
            ⊙ exact (omega (arith, weigh-step cols vals t k v f h g ek ev))
            ⊙ a.rest;
      }

  pub summing-ends : (s t r : ℕ) → length cols ≤ t → Summing s t → Residue p (s % p) r → Residue p (weigh cols vals f % p) r
  summing-ends s t r h a q =
      let e : s ≈⟨ p ⟩ weigh cols vals f = exact (omega (arith, weigh-end cols vals t f h)) ⊙ a.rest in
      record { value = q.value ∙ e.same; below = q.below }

-- ---- counting: the count and that of the cells to come make the whole

module _ (p : ℕ) (w : List ℕ) where
  pub record Counting (k j : ℕ) : Type 0 where
    pub inside : j ≤ length w
    pub most : k ≤ j
    pub rest : k + length (nonzeros (scaled p 1 (drop j w))) ≡ length (nonzeros (scaled p 1 w))

  pub counting-starts : Counting 0 0
  counting-starts = record { inside = omega arith; most = omega arith; rest = omega arith }

  module _ (k j : ℕ) (h : j < length w) (s : Counting k j) where
    pub counting-zero : get_or w j 0 % p ≡ 0 → Counting k (j + 1)
    counting-zero e =
        record {
          inside = omega arith;
          most = omega (arith, s.most);
          rest = omega (arith, s.rest, ap (λ (l : List ℕ). length (nonzeros l)) (scaled-drop p 1 w j h), nonzeros-zero (1 * (get_or w j 0 % p) % p) (scaled p 1 (drop (j + 1) w)) (scaled-once p (get_or w j 0) ∙ e));
        }

    pub counting-one : (get_or w j 0 % p ≡ 0 → ⊥) → Counting (k + 1) (j + 1)
    counting-one e =
        record {
          inside = omega arith;
          most = omega (arith, s.most);
          rest = omega (arith, s.rest, ap (λ (l : List ℕ). length (nonzeros l)) (scaled-drop p 1 w j h), nonzeros-one (1 * (get_or w j 0 % p) % p) (scaled p 1 (drop (j + 1) w)) (λ z. e (sym (scaled-once p (get_or w j 0)) ∙ z)));
        }

  -- cells of 0 are passed over
  pub counting-over : (k j r : ℕ) → NextNonzero w j r → Counting k j → Counting k r
  counting-over k j r d s = over_zeros (Counting k) w j r d (λ i h e t. counting-zero k i h t (ap (λ (x : ℕ). x % p) e ∙ zero-mod p)) s

  pub counting-ends : (k j : ℕ) → length w ≤ j → Counting k j → k ≡ length (nonzeros (scaled p 1 w))
  unfolding nonzeros scaled
  counting-ends k j h s = omega (arith, s.rest, ap (λ (l : List ℕ). length (nonzeros (scaled p 1 l))) (drop_of_length-le w h))

-- ---- storing: the cells passed are stored and cleared

-- the next cell that is to be cleared is as it was
module _ (p c start : ℕ) (w₀ cols₀ vals₀ : List ℕ) where
  pub record Storing (w cols vals : List ℕ) (at j : ℕ) : Type 0 where
    pub clearing : Clearing w₀ w j
    pub stored : DenseStored 0 start (scaled p c (take j w₀)) cols₀ vals₀ cols vals at

  pub storing-starts : Storing w₀ cols₀ vals₀ start 0
  unfolding scaled
  storing-starts = record { clearing = clearing-starts w₀; stored = stored-none 0 start cols₀ vals₀ }

  module _ (w cols vals : List ℕ) (at j : ℕ) (s : Storing w cols vals at j) where
    pub storing-columns : length cols ≡ length cols₀
    storing-columns = stored-columns 0 start (scaled p c (take j w₀)) cols₀ vals₀ cols vals at s.stored

    pub storing-values : length vals ≡ length vals₀
    storing-values = stored-values 0 start (scaled p c (take j w₀)) cols₀ vals₀ cols vals at s.stored

    pub storing-ends : length w₀ ≤ j → RowStored p c start w₀ cols₀ vals₀ w cols vals at
    storing-ends h =
        record { stored = rw (take_all j w₀ h) at s.stored; cleared = clearing-ends w₀ w j h s.clearing }

    module _ (v : ℕ) (h : j < length w₀) (ev : v ≡ c * (get_or w j 0 % p) % p) where
      -- the cell is still the first row's
      cell : v ≡ c * (get_or w₀ j 0 % p) % p
      cell = ev ∙ ap (λ (x : ℕ). c * (x % p) % p) (clearing-cell w₀ w j h s.clearing)

      -- there is room for its entry
      pub storing-room : Room start (scaled p c w₀) cols₀ vals₀ → Room at (v ∷ []) cols vals
      storing-room r =
          record {
            fits = omega (arith, r.fits, s.stored.place, storing-columns, parts);
            paired = storing-columns ∙ r.paired ∙ sym storing-values;
          }
        where
          next : scaled p c (drop j w₀) ≡ v ∷ scaled p c (drop (j + 1) w₀)
          next = scaled-drop p c w₀ j h ∙ ap (λ (x : ℕ). x ∷ scaled p c (drop (j + 1) w₀)) (sym cell)

          parts : length (nonzeros (scaled p c w₀)) ≡ length (nonzeros (scaled p c (take j w₀))) + (length (nonzeros (v ∷ [])) + length (nonzeros (scaled p c (drop (j + 1) w₀))))
          parts =
              ap (λ (l : List ℕ). length (nonzeros l)) (scaled-split p c w₀ j ∙ ap (λ (l : List ℕ). scaled p c (take j w₀) ++ l) next)
              ∙ count-append (scaled p c (take j w₀)) (v ∷ scaled p c (drop (j + 1) w₀))
              ∙ ap (λ (n : ℕ). length (nonzeros (scaled p c (take j w₀))) + n) (count-append (v ∷ []) (scaled p c (drop (j + 1) w₀)))

      pub storing-turn : (cols' vals' : List ℕ) (at' : ℕ) → DenseStored j at (v ∷ []) cols vals cols' vals' at' → Storing (set w j 0) cols' vals' at' (j + 1)
      storing-turn cols' vals' at' d =
          record {
            clearing = clearing-turn w₀ w j h s.clearing;
            stored = rw row (stored-then 0 start (scaled p c (take j w₀)) (v ∷ []) cols₀ vals₀ cols vals cols' vals' at at' s.stored (rw passed d));
          }
        where
          row : scaled p c (take (j + 1) w₀) ≡ scaled p c (take j w₀) ++ (v ∷ [])
          row = scaled-take p c w₀ j h ∙ ap (λ (x : ℕ). scaled p c (take j w₀) ++ (x ∷ [])) (sym cell)

          passed : 0 + length (scaled p c (take j w₀)) ≡ j
          passed = omega (arith, length-scaled p c (take j w₀), length-take-le j w₀ (omega arith))

  -- cells of 0 are passed over
  pub storing-over : (w cols vals : List ℕ) (at j r : ℕ) → Storing w cols vals at j → NextNonzero w j r → Storing w cols vals at r
  storing-over w cols vals at j r s d = over_zeros (Storing w cols vals at) w j r d step s
    where
      nothing : c * (0 % p) % p ≡ 0
      nothing = ap (λ (x : ℕ). c * x % p) (zero-mod p) ∙ ap (λ (x : ℕ). x % p) (mul-zero c) ∙ zero-mod p

      step : (i : ℕ) → i < length w → get_or w i 0 ≡ 0 → Storing w cols vals at i → Storing w cols vals at (i + 1)
      step i h e t =
          rw (ap (λ (x : ℕ). set w i x) (sym e) ∙ set-get_or w i 0) at
          (storing-turn w cols vals at i t 0 (omega (arith, t.clearing.long)) (sym (ap (λ (x : ℕ). c * (x % p) % p) e ∙ nothing)) cols vals at (stored-zero i at 0 cols vals refl))

-- ---- the first cell that stands for another residue than 0

abbrev pub StandForZero : ℕ → List ℕ → ℕ → Type 0
StandForZero p w j = (k : ℕ) → k < j → eqb (get_or w k 0 % p) 0 ≡ true

pub standing-over : (p : ℕ) (w : List ℕ) (j r : ℕ) → NextNonzero w j r → StandForZero p w j → StandForZero p w r
standing-over p w j r d s =
    over_zeros (StandForZero p w) w j r d (λ i h e t. below_more (λ k. eqb (get_or w k 0 % p) 0 ≡ true) i t (eq-eqb (get_or w i 0 % p) 0 (ap (λ (x : ℕ). x % p) e ∙ zero-mod p))) s
