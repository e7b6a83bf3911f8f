-- A text within its length cannot pass the entry limit: `few-entries`. Each line of a triple has at least six bytes, `i j v` and the line feed.
use mathlib.Core.Path.{◌≡◌, ap, ◌∙◌}
use mathlib.Core.List.{List, [], ◌∷◌, ◌++◌, map}
use mathlib.Core.Bool.{Bool, true, false, cond}
use Prim.Native.Nat.{ℕ, suc, ◌+◌, ◌*◌, ◌/◌, ◌%◌, ◌≤◌}
use native.Mathlib.Omega.{arith}
use lib.Dec.{eqb, ltb}
use lib.ListN.{length, length-append, length-map}
use Rattle.text_fields.specs.Pieces.{joined}
use Rattle.text_fields.specs.Decimal.{decimal_in, decimal, signed_text, Proper}
use Rattle.text_fields.specs.declared.numbers.Signed.{Signed}
use Rattle.text_fields.specs.declared.numbers.Signed.TheVariants.{Plus, Minus}
use Rattle.text_judge.specs.declared.judge.Sizes.{Sizes}
use Rattle.text_opening.specs.Reading.{Entry, accepted, kept, read_of}
use Rattle.text_plan.specs.Stating.{StatedEntry, triple_text, sizes_text, triple_lines, plan_text, entry_of, StandApart}
use Rattle.text_plan.proofs.Accepted.{accepted-states}
use Rattle.text_plan.proofs.Kept.{nonzero, kept-stated}

decimal-long : (n : ℕ) → 1 ≤ length (decimal n)
unfolding decimal decimal_in
decimal-long n = go (ltb n 10) (decimal_in 9 (n / 10))
  where
    go : (t : Bool) (l : List ℕ) → 1 ≤ length (cond t ((48 + n) ∷ []) (l ++ ((48 + n % 10) ∷ [])))
    go true l = omega arith
    go false l = omega (arith, length-append l ((48 + n % 10) ∷ []))

signed-long : (v : Signed) → Proper v → 1 ≤ length (signed_text v)
unfolding signed_text
signed-long (Plus n) p = decimal-long n
signed-long (Minus n) p = omega arith

pub triple-long : (t : StatedEntry) → Proper t.value → 5 ≤ length (triple_text t)
unfolding triple_text joined
triple-long t p =
    omega (
      arith,
      length-append (decimal t.row) (32 ∷ (decimal t.column ++ 32 ∷ signed_text t.value)),
      length-append (decimal t.column) (32 ∷ signed_text t.value),
      decimal-long t.row,
      decimal-long t.column,
      signed-long t.value p,
    )

lines_long : (s : Sizes) (seen : List Entry) (ts : List StatedEntry) → StandApart s seen ts → 6 + 6 * length ts ≤ length (joined 10 (triple_lines ts))
unfolding triple_lines joined
lines_long s seen [] r =
    let z : StatedEntry = record { row = 0; column = 0; value = Plus 0 } in
    omega (arith, length-append (triple_text z) (10 ∷ []), triple-long z tt)
lines_long s seen (t ∷ ts) r =
    omega (arith, length-append (triple_text t) (10 ∷ joined 10 (triple_lines ts)), triple-long t r.0.proper, lines_long s (entry_of s.modulus.p t ∷ seen) ts r.1)

sizes-long : (s : Sizes) → 5 ≤ length (sizes_text s)
unfolding sizes_text joined
sizes-long s =
    omega (arith, length-append (decimal s.n) (32 ∷ (decimal s.m ++ 32 ∷ 77 ∷ [])), length-append (decimal s.m) (32 ∷ 77 ∷ []), decimal-long s.n, decimal-long s.m)

plan-long : (s : Sizes) (ts : List StatedEntry) → StandApart s [] ts → 14 + 6 * length ts ≤ length (plan_text s ts)
unfolding plan_text joined
plan-long s ts r =
    omega (
      arith,
      length-append (decimal s.modulus.p) (10 ∷ (sizes_text s ++ 10 ∷ joined 10 (triple_lines ts))),
      length-append (sizes_text s) (10 ∷ joined 10 (triple_lines ts)),
      decimal-long s.modulus.p,
      sizes-long s,
      lines_long s [] ts r,
    )

pub nonzero-few : (es : List Entry) → length (nonzero es) ≤ length es
unfolding nonzero
nonzero-few [] = omega arith
nonzero-few (t ∷ ts) = go (eqb t.value 0) (nonzero-few ts)
  where
    go : (x : Bool) → length (nonzero ts) ≤ length ts → length (cond x (nonzero ts) (t ∷ nonzero ts)) ≤ suc (length ts)
    go true h = omega arith
    go false h = omega arith

-- An accepted text has at most 10,920 entries, so never more than 16,384.
pub few-entries : (room : ℕ) (s : Sizes) (text : List ℕ) (seen : List Entry) → read_of room text ≡ accepted s seen → length (kept seen) ≤ 10920
few-entries room s text seen e =
    let h = accepted-states room s text seen e in
    let es : List Entry = map (entry_of s.modulus.p) h.stated in
    let stored : kept seen ≡ nonzero es = ap kept h.entries-are ∙ kept-stated es in
    omega (arith, ap length stored, nonzero-few es, length-map h.stated (entry_of s.modulus.p), plan-long s h.stated h.plan.apart, h.plan.short)
