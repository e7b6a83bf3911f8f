-- What a verdict says of its line.
use mathlib.Core.Path.{◌≡◌, refl, ap}
use mathlib.Core.Bool.{Bool, true, false, cond, ◌&&◌, ◌||◌, not}
use Prim.Native.Nat.{ℕ, ◌≤◌}
use native.Mathlib.Omega.{arith}
use lib.Dec.{eqb, leb, ltb}
use borrow.Author.Tests.{eqb-true, leb-true, ltb-true}
use Rattle.lists.proofs.Bools.{and_left, and_right}
use Rattle.text_fields.specs.declared.numbers.Signed.{Signed}
use Rattle.text_fields.specs.declared.numbers.Signed.TheVariants.{Plus, Minus}
use Rattle.std.specs.Prelude.{Option, Some, None}
use Rattle.text_judge.specs.Line.{with_signed}
use Rattle.text_judge.specs.declared.line.Triple.{Triple}
use Rattle.text_judge.specs.declared.judge.Sizes.{Sizes}
use Rattle.text_judge.specs.Judge.{Refused, Last, Entry, judge_line, residue_at, in_range, is_last, is_zero, within, precedes}

-- the line of an entry: its fields, each test passed
pub record IsEntry (stands full : Bool) (s : Sizes) (l : Option Triple) (i j v : ℕ) : Type 0 where
  pub sign : Signed
  pub line : l ≡ with_signed i j (Some sign)
  pub row_inside : within i s.n ≡ true
  pub column-inside : within j s.m ≡ true
  pub order : stands ≡ true
  pub range : in_range sign ≡ true
  pub value : v ≡ residue_at s.modulus.p sign
  pub room : (not (eqb v 0) && full) ≡ false

refused-entry : {A : Type 0} {c i j v : ℕ} → Refused c ≡ Entry i j v → A
refused-entry e = let z : ◌≡◌ {A = ℕ} 0 1 = cc in absurd (omega arith)

last_entry : {A : Type 0} {i j v : ℕ} → Last ≡ Entry i j v → A
last_entry e = let z : ◌≡◌ {A = ℕ} 0 1 = cc in absurd (omega arith)

refused-last : {A : Type 0} {c : ℕ} → Refused c ≡ Last → A
refused-last e = let z : ◌≡◌ {A = ℕ} 0 1 = cc in absurd (omega arith)

entry-last : {A : Type 0} {i j v : ℕ} → Entry i j v ≡ Last → A
entry-last e = let z : ◌≡◌ {A = ℕ} 0 1 = cc in absurd (omega arith)

false-true : {A : Type 0} → false ≡ true → A
false-true e = let z : ◌≡◌ {A = ℕ} 0 1 = cc in absurd (omega arith)

pub judged-entry : (stands full : Bool) (s : Sizes) (l : Option Triple) (i j v : ℕ) → judge_line stands full s l ≡ Entry i j v → IsEntry stands full s l i j v
unfolding judge_line
judged-entry stands full s None i j v e = refused-entry e
judged-entry stands full s (Some l) i j v e =
    go (is_last l.i l.j l.v) (within l.i s.n && within l.j s.m) stands (in_range l.v) (not (eqb (residue_at s.modulus.p l.v) 0) && full) refl refl refl refl e
  where
    go : (x₁ x₂ x₃ x₄ x₅ : Bool) → (within l.i s.n && within l.j s.m) ≡ x₂ → stands ≡ x₃ → in_range l.v ≡ x₄ → (not (eqb (residue_at s.modulus.p l.v) 0) && full) ≡ x₅
        → cond x₁ Last (cond x₂ (cond x₃ (cond x₄ (cond x₅ (Refused 7) (Entry l.i l.j (residue_at s.modulus.p l.v))) (Refused 6)) (Refused 5)) (Refused 4)) ≡ Entry i j v
        → IsEntry stands full s (Some l) i j v
    go true x₂ x₃ x₄ x₅ p₂ p₃ p₄ p₅ q = last_entry q
    go false false x₃ x₄ x₅ p₂ p₃ p₄ p₅ q = refused-entry q
    go false true false x₄ x₅ p₂ p₃ p₄ p₅ q = refused-entry q
    go false true true false x₅ p₂ p₃ p₄ p₅ q = refused-entry q
    go false true true true true p₂ p₃ p₄ p₅ q = refused-entry q
    go false true true true false p₂ p₃ p₄ p₅ q =
        let ea : l.i ≡ i = cc in
        let eb : l.j ≡ j = cc in
        let ev : residue_at s.modulus.p l.v ≡ v = cc in
        rw (← ea, ← eb, ← ev)
        (record {
          sign = l.v;
          line = refl;
          row_inside = and_left (within l.i s.n) (within l.j s.m) p₂;
          column-inside = and_right (within l.i s.n) (within l.j s.m) p₂;
          order = p₃;
          range = p₄;
          value = refl;
          room = p₅;
        })

zero-sign : (v : Signed) → is_zero v ≡ true → v ≡ Plus 0
zero-sign (Plus n) e = ap Plus (eqb-true n 0 e)
zero-sign (Minus n) e = false-true e

last-is : (i j : ℕ) (v : Signed) → is_last i j v ≡ true → with_signed i j (Some v) ≡ with_signed 0 0 (Some (Plus 0))
last-is i j v e =
    let a = and_left (eqb i 0 && eqb j 0) (is_zero v) e in
    rw (eqb-true i 0 (and_left (eqb i 0) (eqb j 0) a), eqb-true j 0 (and_right (eqb i 0) (eqb j 0) a), zero-sign v (and_right (eqb i 0 && eqb j 0) (is_zero v) e))

-- the last line is `0 0 0`
pub judged-last : (stands full : Bool) (s : Sizes) (l : Option Triple) → judge_line stands full s l ≡ Last → l ≡ with_signed 0 0 (Some (Plus 0))
unfolding judge_line
judged-last stands full s None e = refused-last e
judged-last stands full s (Some l) e =
    go (is_last l.i l.j l.v) (within l.i s.n && within l.j s.m) stands (in_range l.v) (not (eqb (residue_at s.modulus.p l.v) 0) && full) refl e
  where
    go : (x₁ x₂ x₃ x₄ x₅ : Bool) → is_last l.i l.j l.v ≡ x₁
        → cond x₁ Last (cond x₂ (cond x₃ (cond x₄ (cond x₅ (Refused 7) (Entry l.i l.j (residue_at s.modulus.p l.v))) (Refused 6)) (Refused 5)) (Refused 4)) ≡ Last
        → Some l ≡ with_signed 0 0 (Some (Plus 0))
    go true x₂ x₃ x₄ x₅ p q = last-is l.i l.j l.v p
    go false false x₃ x₄ x₅ p q = refused-last q
    go false true false x₄ x₅ p q = refused-last q
    go false true true false x₅ p q = refused-last q
    go false true true true true p q = refused-last q
    go false true true true false p q = entry-last q

-- ---- what the tests say of numbers
pub within-bounds : (i n : ℕ) → within i n ≡ true → (1 ≤ i) × (i ≤ n)
within-bounds i n e = (leb-true 1 i (and_left (leb 1 i) (leb i n) e), leb-true i n (and_right (leb 1 i) (leb i n) e))

pub before-row : (a b i j : ℕ) → precedes a b i j ≡ true → a ≤ i
before-row a b i j e = go (ltb a i) (eqb a i) refl refl e
  where
    go : (x y : Bool) → ltb a i ≡ x → eqb a i ≡ y → (x || (y && ltb b j)) ≡ true → a ≤ i
    go true y p q h = omega (arith, ltb-true a i p)
    go false true p q h = omega (arith, eqb-true a i q)
    go false false p q h = false-true h
