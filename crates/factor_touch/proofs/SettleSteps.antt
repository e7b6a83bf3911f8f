-- The loops that settle and store the working row, one turn at a time.
use mathlib.Core.Path.{◌≡◌, refl, sym, ap, ◌∙◌}
use mathlib.Core.Bool.{true}
use mathlib.Core.List.{List, ◌++◌}
use Prim.Native.Nat.{ℕ, ◌+◌, ◌-◌, ◌%◌, ◌≤◌, ◌<◌}
use native.Mathlib.Nat.{zero-mod}
use native.Mathlib.Decide.{ℕ_discrete}
use native.Mathlib.Omega.{arith}
use lib.Dec.{eqb}
use lib.ListN.{length, get_or, drop, set, length-set, replicate, length-replicate, get_or-replicate, get_or-append, get_or-eq_default}
use lib.Seq.{get_or-set_same, get_or-set_other, get_or-append-add, get_or-drop, set-get_or}
use borrow.Author.Count.{below_more}
use borrow.Author.Tests.{eq-eqb, ne_eqb}
use Rattle.lists.specs.Tests.{first}
use Rattle.lists.proofs.Filled.{Clearing}
use Rattle.lists.proofs.Tests.{first-all, first-fails}
use Rattle.sparse.specs.Scan.{NextNonzero}
use Rattle.sparse.proofs.Scanning.{over_zeros}
use Rattle.sparse.proofs.DenseSteps.{Counting, counting-zero, counting-one, counting-ends, StandForZero}
use Rattle.factor_touch.specs.Touched.{cell_block, Covers}
use Rattle.factor_touch.specs.Searching.{CellCounted}
use Rattle.factor_touch.specs.Settling.{RowSettled}

-- ---- settling: the cells passed are residues, the others as they were

module _ (p : ℕ) (w₀ : List ℕ) where
  pub record Settling (w : List ℕ) (count low j : ℕ) : Type 0 where
    pub long : length w ≡ length w₀
    pub passed : (k : ℕ) → k < j → get_or w k 0 ≡ get_or w₀ k 0 % p
    pub ahead : (k : ℕ) → j ≤ k → get_or w k 0 ≡ get_or w₀ k 0
    pub counting : Counting p w₀ count j
    pub none : count ≡ 0 → (low ≡ length w₀) × StandForZero p w₀ j
    pub some : ¬ (count ≡ 0) → low ≡ first (length w₀) (λ k. eqb (get_or w₀ k 0 % p) 0)

  module _ (w : List ℕ) (count low j : ℕ) (s : Settling w count low j) where
    module _ (v : ℕ) (h : j < length w₀) (ev : v ≡ get_or w j 0 % p) where
      cell : v ≡ get_or w₀ j 0 % p
      cell = ev ∙ ap (λ (x : ℕ). x % p) (s.ahead j (omega arith))

      module _ (count' low' : ℕ) (c : CellCounted v j count low count' low') where
        settled : (k : ℕ) → k < j + 1 → Dec (k ≡ j) → get_or (set w j v) k 0 ≡ get_or w₀ k 0 % p
        settled k g (yes e) = rw e (get_or-set_same w j v 0 (omega (arith, s.long)) ∙ cell)
        settled k g (no e) = get_or-set_other w j k v 0 e ∙ s.passed k (omega arith)

        counted : Dec (v ≡ 0) → Counting p w₀ count' (j + 1)
        counted (yes e) = rw (c.zero e).0 (counting-zero p w₀ count j h s.counting (sym cell ∙ e))
        counted (no e) = rw (c.one e) (counting-one p w₀ count j h s.counting (λ z. e (cell ∙ z)))

        nothing : Dec (v ≡ 0) → count' ≡ 0 → (low' ≡ length w₀) × StandForZero p w₀ (j + 1)
        nothing (yes e) z = let n = s.none (sym (c.zero e).0 ∙ z) in
            ((c.zero e).1 ∙ n.0, below_more (λ k. eqb (get_or w₀ k 0 % p) 0 ≡ true) j n.1 (eq-eqb (get_or w₀ j 0 % p) 0 (sym cell ∙ e)))
        nothing (no e) z = absurd (omega (arith, c.one e))

        lowest : ¬ (v ≡ 0) → Dec (count ≡ 0) → low' ≡ first (length w₀) (λ k. eqb (get_or w₀ k 0 % p) 0)
        lowest e (yes z) = c.lowest e z ∙ sym (first-fails (length w₀) (λ k. eqb (get_or w₀ k 0 % p) 0) j h (s.none z).1 (ne_eqb (get_or w₀ j 0 % p) 0 (λ q. e (cell ∙ q))))
        lowest e (no z) = c.higher e z ∙ s.some z

        something : Dec (v ≡ 0) → ¬ (count' ≡ 0) → low' ≡ first (length w₀) (λ k. eqb (get_or w₀ k 0 % p) 0)
        something (yes e) z = (c.zero e).1 ∙ s.some (λ q. z ((c.zero e).0 ∙ q))
        something (no e) z = lowest e (ℕ_discrete count 0)

        pub settling-turn : Settling (set w j v) count' low' (j + 1)
        settling-turn =
            record {
              long = length-set w j v ∙ s.long;
              passed = λ k g. settled k g (ℕ_discrete k j);
              ahead = λ k g. get_or-set_other w j k v 0 (λ e. absurd (omega arith)) ∙ s.ahead k (omega arith);
              counting = counted (ℕ_discrete v 0);
              none = nothing (ℕ_discrete v 0);
              some = something (ℕ_discrete v 0);
            }

    pub settling-ends : length w₀ ≤ j → RowSettled p w₀ w count low
    settling-ends h =
        record { long = s.long; cells = λ k. cells k (ℕ_discrete (j - k) 0); many = counting-ends p w₀ count j h s.counting; lowest = lowest-at (ℕ_discrete count 0) }
      where
        cells : (k : ℕ) → Dec (j - k ≡ 0) → get_or w k 0 ≡ get_or w₀ k 0 % p
        cells k (yes e) = let z = get_or-eq_default w₀ 0 {n = k} (omega arith) in s.ahead k (omega arith) ∙ z ∙ sym (ap (λ (x : ℕ). x % p) z ∙ zero-mod p)
        cells k (no e) = s.passed k (omega arith)

        lowest-at : Dec (count ≡ 0) → low ≡ first (length w₀) (λ k. eqb (get_or w₀ k 0 % p) 0)
        lowest-at (yes e) = (s.none e).0 ∙ sym (first-all (length w₀) (λ k. eqb (get_or w₀ k 0 % p) 0) (λ k g. (s.none e).1 k (omega arith)))
        lowest-at (no e) = s.some e

  -- cells of 0 are passed over
  pub settling-over : (w : List ℕ) (count low j r : ℕ) → NextNonzero w j r → Settling w count low j → Settling w count low r
  settling-over w count low j r d s = over_zeros (Settling w count low) w j r d step s
    where
      uncounted : (i : ℕ) → CellCounted 0 i count low count low
      uncounted i = record { zero = λ e. (refl, refl); one = λ e. absurd (e refl); lowest = λ e. absurd (e refl); higher = λ e. absurd (e refl) }

      step : (i : ℕ) → i < length w → get_or w i 0 ≡ 0 → Settling w count low i → Settling w count low (i + 1)
      step i h e t =
          rw (ap (λ (x : ℕ). set w i x) (sym e) ∙ set-get_or w i 0) at
          (settling-turn w count low i t 0 (omega (arith, t.long)) (sym (ap (λ (x : ℕ). x % p) e ∙ zero-mod p)) count low (uncounted i))

-- ---- storing: a cell that was 0 is 0 throughout

pub clearing-covers : (touched w₀ w : List ℕ) (j : ℕ) → Clearing w₀ w j → Covers cell_block touched w₀ → Covers cell_block touched w
clearing-covers touched w₀ w j s c k h z = ap (λ (l : List ℕ). get_or l k 0) s.cells ∙ go (ℕ_discrete (j - k) 0)
  where
    go : Dec (j - k ≡ 0) → get_or (replicate j 0 ++ drop j w₀) k 0 ≡ 0
    go (yes e) =
        ap (λ (n : ℕ). get_or (replicate j 0 ++ drop j w₀) n 0) (let q : k ≡ length (replicate {A = ℕ} j 0) + (k - j) = omega (arith, length-replicate {A = ℕ} j 0) in q)
        ∙ get_or-append-add (replicate j 0) (drop j w₀) (k - j) 0
        ∙ get_or-drop j w₀ (k - j) 0
        ∙ ap (λ (n : ℕ). get_or w₀ n 0) (let q : j + (k - j) ≡ k = omega arith in q)
        ∙ c k (omega (arith, s.long)) z
    go (no e) = get_or-append (replicate j 0) (drop j w₀) 0 k (omega (arith, length-replicate {A = ℕ} j 0)) ∙ get_or-replicate j k 0 0 (omega arith)
