-- A row added to the working row: the loop over its entries, and the row added p - c times as the row taken away c times.
use mathlib.Core.Path.{◌≡◌, refl, sym, ap, ◌∙◌}
use mathlib.Core.Bool.{Bool, cond}
use mathlib.Core.List.{List}
use Prim.Native.Nat.{ℕ, zero, suc, ◌+◌, ◌-◌, ◌*◌, ◌^◌, ◌≤◌, ◌<◌}
use native.Mathlib.Nat.{mul-le-mul}
use native.Mathlib.Decide.{ℕ_discrete}
use native.Mathlib.Omega.{arith}
use lib.ListN.{length, get_or, set, drop, length-set}
use lib.Seq.{get_or-set_same, get_or-set_other}
use borrow.Author.Tests.{lt-ltb}
use Rattle.algebra.specs.Sum.{δ}
use Rattle.algebra.proofs.Congruence.{by-multiples}
use Rattle.algebra.proofs.Dot.{δ-same, δ-other}
use Rattle.sparse.specs.Row.{entry}
use Rattle.sparse.specs.WorkingRow.{GrownBy, growth, GrowReady}
use Rattle.sparse.specs.Run.{AddReady, RowAdded}
use Rattle.sparse.proofs.Entries.{weigh-step, weigh-end, row-columns, entry-below}

pub growth-small : (p : ℕ) → p < 65536 → growth p ≡ p * p
unfolding growth
growth-small p h = ap (λ (b : Bool). cond b (p * p) 0) (lt-ltb p 65536 h)

-- ---- the loop that adds d times each entry

pub record AddingRow (d : ℕ) (cols vals w₀ w : List ℕ) (t : ℕ) : Type 0 where
  pub long : length w ≡ length w₀
  pub rest : (j : ℕ) → get_or w j 0 + d * entry (drop t cols) (drop t vals) j ≡ get_or w₀ j 0 + d * entry cols vals j

pub adding-row-ends : (d : ℕ) (cols vals w₀ w : List ℕ) (t : ℕ) → length cols ≤ t → AddingRow d cols vals w₀ w t → RowAdded d cols vals w₀ w
adding-row-ends d cols vals w₀ w t h s =
    record {
      long = s.long;
      sums = λ j g. omega (arith, s.rest j, ap (λ (z : ℕ). d * z) (weigh-end cols vals t (λ k. δ k j) h));
    }

-- the entry v at column k is the next one
module _ (d : ℕ) (cols vals w₀ w : List ℕ) (t k v : ℕ) (h : t < length cols) (g : t < length vals) (ek : k ≡ get_or cols t 0) (ev : v ≡ get_or vals t 0) (s : AddingRow d cols vals w₀ w t) where
  step : (j : ℕ) → d * entry (drop t cols) (drop t vals) j ≡ d * (v * δ k j + entry (drop (t + 1) cols) (drop (t + 1) vals) j)
  step j = ap (λ (z : ℕ). d * z) (weigh-step cols vals t k v (λ i. δ i j) h g ek ev)

  -- its cell is no more than at the end
  pub adding-row-room : get_or w k 0 + d * v ≤ get_or w₀ k 0 + d * entry cols vals k
  adding-row-room = omega (arith, s.rest k, step k, ap (λ (z : ℕ). d * (v * z)) (δ-same k))

  pub adding-row-turn : (x : ℕ) → k < length w → x ≡ get_or w k 0 + d * v → AddingRow d cols vals w₀ (set w k x) (t + 1)
  adding-row-turn x inside e = record { long = length-set w k x ∙ s.long; rest = λ j. at j (ℕ_discrete j k) }
    where
      at : (j : ℕ) → Dec (j ≡ k) → get_or (set w k x) j 0 + d * entry (drop (t + 1) cols) (drop (t + 1) vals) j ≡ get_or w₀ j 0 + d * entry cols vals j
      at j (yes q) = rw q (omega (arith, s.rest k, step k, ap (λ (z : ℕ). d * (v * z)) (δ-same k), get_or-set_same w k x 0 inside))
      at j (no q) = omega (arith, s.rest j, step j, ap (λ (z : ℕ). d * (v * z)) (δ-other k j (λ r. q (sym r))), get_or-set_other w k j x 0 q)

-- ---- the row added d = p - c times: the row taken away c times

none_of : (c e : ℕ) → 0 < c → c * e ≡ 0 → e ≡ 0
none_of c zero h z = refl
none_of c (suc e) h z = absurd (omega arith)

-- of any vector of residues
module _ (p c d : ℕ) (u : ℕ → ℕ) (w : List ℕ) (small : p < 65536) (some : 0 < c) (whole : d + c ≡ p) (residue : (j : ℕ) → u j < p) where
  pub vector-room : (j : ℕ) → get_or w j 0 < 2 ^ 64 - 2 ^ 32 → get_or w j 0 + d * u j < 2 ^ 64
  vector-room j h = omega (arith, h, mul-le-mul {n₁ = d} {m₁ = u j} {n₂ = 65535} {m₂ = 65535} (omega arith) (omega (arith, residue j)))

  pub vector-grown : (z : List ℕ) → length z ≡ length w → ((j : ℕ) → j < length w → get_or z j 0 ≡ get_or w j 0 + d * u j) → GrownBy p (growth p) (λ j. c * u j) w z
  vector-grown z long sums b wide below =
      rw (growth-small p small) record {
        long = long;
        below = λ j h.
            let i : j < length w = omega (arith, long) in
            omega (arith, sums j i, below j i, mul-le-mul {n₁ = d} {m₁ = u j} {n₂ = p} {m₂ = p} (omega arith) (omega (arith, residue j)));
        cells = λ j h. by-multiples 0 (u j) (omega (arith, sums j h, ap (λ (i : ℕ). i * u j) whole));
        kept = λ j h e. omega (arith, sums j h, ap (λ (i : ℕ). d * i) (none_of c (u j) some e));
      }

-- of a row
module _ (p c d : ℕ) (cols vals w : List ℕ) (ready : GrowReady p c cols vals w) (small : p < 65536) (whole : d + c ≡ p) where
  residue : (j : ℕ) → entry cols vals j < p
  residue j = entry-below p (length w) 0 j cols vals (omega arith) ready.row.rising ready.row.nonzero

  pub add-ready : AddReady d cols vals w
  add-ready =
      record {
        paired = ready.row.paired;
        inside = row-columns p (length w) cols vals ready.row;
        room = λ j h. vector-room p c d (entry cols vals) w small ready.some whole residue j (ready.room small j h);
      }

  pub added-grown : (z : List ℕ) → RowAdded d cols vals w z → GrownBy p (growth p) (λ j. c * entry cols vals j) w z
  added-grown z added = vector-grown p c d (entry cols vals) w small ready.some whole residue z added.long added.sums
