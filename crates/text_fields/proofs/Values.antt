-- Laws of `digits_from`, `number_in` and `signed_of`: one digit more, the bound that keeps a sum in range, and the cases as the code tests them.
use mathlib.Core.Path.{◌≡◌, refl, sym, ap, ◌∙◌}
use mathlib.Core.List.{List, [], ◌∷◌, ◌++◌}
use Prim.Native.Nat.{ℕ, suc, ◌+◌, ◌-◌, ◌*◌, ◌^◌, ◌≤◌, ◌<◌}
use native.Mathlib.Nat.{le_of_eq, pow-suc}
use native.Mathlib.Numerals.{add-one}
use native.Mathlib.Omega.{arith}
use lib.ListN.{length, get_or, drop, take, length-drop}
use lib.Seq.{drop-cons, drop-length, take_all}
use borrow.Author.Tests.{lt-ltb, le-ltb, eq-eqb, ne_eqb, eqb-true, ltb-false}
use mathlib.Core.Bool.{Bool, true, false, cond, not, ◌||◌}
use lib.Dec.{ltb, eqb}
use Rattle.std.specs.Prelude.{Some, None}
use Rattle.text_fields.specs.Runs.{Digit, well_written}
use Rattle.text_fields.specs.Number.{digits_from, number_in, signed_of, zero_alone, negative, positive}

pub digits_more : (v : ℕ) (l : List ℕ) (k : ℕ) → k < length l → Digit (get_or l k 0)
    → digits_from v (drop k l) ≡ digits_from (v * 10 + (get_or l k 0 - 48)) (drop (k + 1) l)
unfolding digits_from
digits_more v l k h d = rw (add-one k, drop-cons l k 0 h, le-ltb (get_or l k 0) 48 d.0, le-ltb 57 (get_or l k 0) d.1)

pub digits-none : (v : ℕ) (l : List ℕ) (k : ℕ) → k ≡ length l → digits_from v (drop k l) ≡ Some v
unfolding digits_from
digits-none v l k e = rw (e, drop-length l)

pub ten-more : (v d k : ℕ) → v < 10 ^ k → d < 10 → v * 10 + d < 10 ^ (k + 1)
ten-more v d k h q = rw (add-one k, pow-suc 10 k) (omega arith)

-- ---- `number_in` and `signed_of` by the length and the first byte, as the code tests them
pub number-empty : (l : List ℕ) → length l ≡ 0 → number_in l ≡ None
unfolding number_in
number-empty [] h = refl
number-empty (b ∷ bs) h = absurd (omega arith)

pub number-long : (l : List ℕ) → 10 < length l → number_in l ≡ None
unfolding number_in
number-long [] h = refl
number-long (b ∷ bs) h = rw (lt-ltb 10 (length (b ∷ bs)) h)

pub number-zero : (l : List ℕ) → length l ≡ 1 → get_or l 0 0 ≡ 48 → number_in l ≡ Some 0
unfolding number_in
number-zero [] h q = absurd (omega arith)
number-zero (b ∷ []) h q = rw (eq-eqb b 48 q)
number-zero (b ∷ c ∷ cs) h q = absurd (omega arith)

pub number-lead : (l : List ℕ) → (length l ≡ 1 → ⊥) → get_or l 0 0 ≡ 48 → number_in l ≡ None
unfolding number_in
number-lead [] h q = refl
number-lead (b ∷ []) h q = absurd (h refl)
number-lead (b ∷ c ∷ cs) h q = elim (ltb 10 (length (b ∷ c ∷ cs))) as (λ t. cond t None (cond (eqb b 48) (zero_alone (c ∷ cs)) (digits_from 0 (b ∷ c ∷ cs))) ≡ None) [ true ↦ refl | false ↦ rw (eq-eqb b 48 q) ]

pub number-else : (l : List ℕ) → (length l ≡ 0 → ⊥) → length l ≤ 10 → (get_or l 0 0 ≡ 48 → ⊥) → number_in l ≡ digits_from 0 l
unfolding number_in
number-else [] z h q = absurd (z refl)
number-else (b ∷ bs) z h q = rw (le-ltb 10 (length (b ∷ bs)) h, ne_eqb b 48 q)

pub signed-empty : (l : List ℕ) → length l ≡ 0 → signed_of l ≡ None
unfolding signed_of
signed-empty [] h = refl
signed-empty (b ∷ bs) h = absurd (omega arith)

pub signed-minus : (l : List ℕ) → (length l ≡ 0 → ⊥) → get_or l 0 0 ≡ 45 → signed_of l ≡ negative (number_in (drop 1 l))
unfolding signed_of
signed-minus [] z q = absurd (z refl)
signed-minus (b ∷ bs) z q = rw (eq-eqb b 45 q)

pub signed-plus : (l : List ℕ) → (length l ≡ 0 → ⊥) → (get_or l 0 0 ≡ 45 → ⊥) → signed_of l ≡ positive (number_in l)
unfolding signed_of
signed-plus [] z q = absurd (z refl)
signed-plus (b ∷ bs) z q = rw (ne_eqb b 45 q)

-- the part from a place to the end, as a range gives it
pub take_rest : (k : ℕ) (l : List ℕ) → take (length l - k) (drop k l) ≡ drop k l
take_rest k l = take_all (length l - k) (drop k l) (le_of_eq (length-drop k l))

-- ---- `digits_from` at a digit and at another byte, `number_in` by `digits_from`

pub digits-digit : (v b : ℕ) (bs : List ℕ) → Digit b → digits_from v (b ∷ bs) ≡ digits_from (v * 10 + (b - 48)) bs
unfolding digits_from
digits-digit v b bs d = rw (le-ltb b 48 d.0, le-ltb 57 b d.1)

pub digits-other : (v b : ℕ) (bs : List ℕ) → ¬ (Digit b) → digits_from v (b ∷ bs) ≡ None
unfolding digits_from
digits-other v b bs d = go (ltb b 48) refl
  where
    go : (t : Bool) → ltb b 48 ≡ t → cond t None (cond (ltb 57 b) None (digits_from (v * 10 + (b - 48)) bs)) ≡ None
    go true e = refl
    go false e = rw (lt-ltb 57 b (let above : ¬ (b ≤ 57) = λ h. d (ltb-false b 48 e, h) in omega (arith, above)))

pub digits-stop : (v : ℕ) (l : List ℕ) (k : ℕ) → k < length l → ¬ (Digit (get_or l k 0)) → digits_from v (drop k l) ≡ None
digits-stop v l k h d = rw (drop-cons l k 0 h) (digits-other v (get_or l k 0) (drop (suc k) l) d)

-- what is no run of digits is no number
pub number-other : (l : List ℕ) → digits_from 0 l ≡ None → number_in l ≡ None
unfolding number_in digits_from
number-other [] e = refl
number-other (b ∷ bs) e = go (ltb 10 (length (b ∷ bs))) (eqb b 48) refl bs e
  where
    go : (t z : Bool) → eqb b 48 ≡ z → (cs : List ℕ) → digits_from 0 (b ∷ cs) ≡ None → cond t None (cond z (zero_alone cs) (digits_from 0 (b ∷ cs))) ≡ None
    go true z q cs n = refl
    go false false q cs n = n
    go false true q [] n = sym (ap (λ (k : ℕ). digits_from 0 (k ∷ [])) (eqb-true b 48 q)) ∙ n
    go false true q (c ∷ cs) n = refl

-- a field of at most ten bytes: its digits, if they are well written
pub number-form : (l : List ℕ) → length l ≤ 10 → number_in l ≡ cond (well_written (get_or l 0 0) (length l)) (digits_from 0 l) None
unfolding number_in digits_from
number-form [] h = refl
number-form (b ∷ []) h = go (eqb b 48) refl
  where
    go : (z : Bool) → eqb b 48 ≡ z → cond z (Some 0) (digits_from 0 (b ∷ [])) ≡ cond (not z || true) (digits_from 0 (b ∷ [])) None
    go true q = sym (ap (λ (k : ℕ). digits_from 0 (k ∷ [])) (eqb-true b 48 q))
    go false q = refl
number-form (b ∷ c ∷ cs) h =
    rw (le-ltb 10 (length (b ∷ c ∷ cs)) h, ne_eqb (length (b ∷ c ∷ cs)) 1 (λ e. omega arith), ne_eqb (length (b ∷ c ∷ cs)) 0 (λ e. omega arith)) (go (eqb b 48))
  where
    go : (z : Bool) → cond z None (digits_from 0 (b ∷ c ∷ cs)) ≡ cond (not z || false) (digits_from 0 (b ∷ c ∷ cs)) None
    go true = refl
    go false = refl

-- ---- a field in which a byte stands that is no digit and no sign

digits-apart : (s : ℕ) → s < 48 → (v : ℕ) (l r : List ℕ) → digits_from v (l ++ s ∷ r) ≡ None
unfolding digits_from
digits-apart s h v [] r = digits-other v s r (λ d. omega arith)
digits-apart s h v (b ∷ bs) r = go (ltb b 48) (ltb 57 b) (digits-apart s h (v * 10 + (b - 48)) bs r)
  where
    go : (t u : Bool) → digits_from (v * 10 + (b - 48)) (bs ++ s ∷ r) ≡ None → cond t None (cond u None (digits_from (v * 10 + (b - 48)) (bs ++ s ∷ r))) ≡ None
    go true u e = refl
    go false true e = refl
    go false false e = e

number-apart : (s : ℕ) → s < 48 → (l r : List ℕ) → number_in (l ++ s ∷ r) ≡ None
number-apart s h l r = number-other (l ++ s ∷ r) (digits-apart s h 0 l r)

pub signed-apart : (s : ℕ) → s < 45 → (l r : List ℕ) → signed_of (l ++ s ∷ r) ≡ None
unfolding signed_of
signed-apart s h [] r = rw (ne_eqb s 45 (λ e. omega arith)) (ap positive (number-apart s (omega arith) [] r))
signed-apart s h (b ∷ bs) r = go (eqb b 45)
  where
    go : (t : Bool) → cond t (negative (number_in (bs ++ s ∷ r))) (positive (number_in (b ∷ bs ++ s ∷ r))) ≡ None
    go true = ap negative (number-apart s (omega arith) bs r)
    go false = ap positive (number-apart s (omega arith) (b ∷ bs) r)
