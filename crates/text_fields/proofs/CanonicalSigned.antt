-- `signed_of` accepts exactly the texts of the numbers with a sign below 10 ^ 10 in magnitude, each as its number: `signed-printed` and `signed-prints`.
use mathlib.Core.Path.{◌≡◌, refl, ap, ◌∙◌, subst}
use mathlib.Core.List.{List, [], ◌∷◌}
use mathlib.Core.Bool.{Bool, true, false, cond}
use Prim.Native.Nat.{ℕ, zero, suc, ◌^◌, ◌≤◌, ◌<◌}
use native.Mathlib.Nat.{zero-lt-suc, le_of_lt}
use native.Mathlib.Omega.{arith}
use lib.ListN.{length, get_or}
use lib.Dec.{eqb}
use borrow.Author.Tests.{eqb-true, ne_eqb}
use Rattle.std.specs.Prelude.{Option, Some, None}
use Rattle.text_fields.specs.declared.numbers.Signed.{Signed}
use Rattle.text_fields.specs.declared.numbers.Signed.TheVariants.{Plus, Minus}
use Rattle.text_fields.specs.Number.{number_in, signed_of, positive, negative, magnitude}
use Rattle.text_fields.specs.Decimal.{decimal_in, decimal, signed_text, Proper}
use Rattle.text_fields.proofs.Values.{signed-plus, signed-minus}
use Rattle.text_fields.proofs.Canonical.{head_of, number-prints, number-printed}

head_byte : (n : ℕ) → n < 10 ^ 10 → 48 ≤ get_or (decimal n) 0 0
unfolding decimal decimal_in
head_byte zero h = omega arith
head_byte (suc n) h = le_of_lt (head_of 9 (suc n) (zero-lt-suc n) h)

not-empty : (l : List ℕ) → 48 ≤ get_or l 0 0 → length l ≡ 0 → ⊥
not-empty [] k e = omega arith
not-empty (x ∷ xs) k e = omega arith

plus-printed : (n : ℕ) → n < 10 ^ 10 → signed_of (decimal n) ≡ Some (Plus n)
plus-printed n h =
    signed-plus (decimal n) (not-empty (decimal n) (head_byte n h)) (λ e. omega (arith, head_byte n h)) ∙ ap positive (number-printed n h)

minus-printed : (n : ℕ) → 0 < n → n < 10 ^ 10 → signed_of (45 ∷ decimal n) ≡ Some (Minus n)
minus-printed n z h =
    signed-minus (45 ∷ decimal n) (λ e. omega arith) refl ∙ ap negative (number-printed n h) ∙ rw (ne_eqb n 0 (λ e. omega arith))

-- what is written is accepted
pub signed-printed : (v : Signed) → magnitude v < 10 ^ 10 → Proper v → signed_of (signed_text v) ≡ Some v
unfolding signed_text
signed-printed (Plus n) h p = plus-printed n h
signed-printed (Minus n) h p = minus-printed n p h

-- l is the text of v, where there is a number v
abbrev IsText : List ℕ → Option Signed → Type 0
IsText l (Some v) = (magnitude v < 10 ^ 10) × (l ≡ signed_text v) × Proper v
IsText l None = Unit {0}

positive-text : (l : List ℕ) (r : Option ℕ) → number_in l ≡ r → IsText l (positive r)
unfolding signed_text
positive-text l (Some n) e = ((number-prints l n e).0, (number-prints l n e).1, tt)
positive-text l None e = tt

negative-text : (l : List ℕ) (r : Option ℕ) → number_in l ≡ r → IsText (45 ∷ l) (negative r)
unfolding signed_text
negative-text l (Some zero) e = tt
negative-text l (Some (suc n)) e =
    let p = number-prints l (suc n) e in
    rw (ne_eqb (suc n) 0 (λ k. omega arith)) (p.0, ap (λ (r : List ℕ). 45 ∷ r) p.1, zero-lt-suc n)
negative-text l None e = tt

signed-text : (l : List ℕ) → IsText l (signed_of l)
unfolding signed_of
signed-text [] = tt
signed-text (b ∷ bs) = go (eqb b 45) refl
  where
    go : (t : Bool) → eqb b 45 ≡ t → IsText (b ∷ bs) (cond t (negative (number_in bs)) (positive (number_in (b ∷ bs))))
    go true e = rw (eqb-true b 45 e) (negative-text bs (number_in bs) refl)
    go false e = positive-text (b ∷ bs) (number_in (b ∷ bs)) refl

-- what is accepted is written so
pub signed-prints : (l : List ℕ) (v : Signed) → signed_of l ≡ Some v → (magnitude v < 10 ^ 10) × (l ≡ signed_text v) × Proper v
signed-prints l v e = subst (λ (w : Option Signed). IsText l w) e (signed-text l)
