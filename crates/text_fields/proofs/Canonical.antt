-- `number_in` accepts exactly the decimal texts of the numbers below 10 ^ 10, each as its number: `number-printed` and `number-prints`.
use mathlib.Core.Path.{◌≡◌, refl, sym, ap, ◌∙◌, subst}
use mathlib.Core.List.{List, [], ◌∷◌, ◌++◌, append_assoc, append-nil}
use mathlib.Core.Bool.{Bool, true, false, cond}
use mathlib.Core.Logic.{◌⊎◌, inl, inr}
use Prim.Native.Nat.{ℕ, zero, suc, ◌+◌, ◌-◌, ◌*◌, ◌/◌, ◌%◌, ◌^◌, ◌≤◌, ◌<◌, zero-le, suc-le-suc}
use native.Mathlib.Numerals.{one-add}
use native.Mathlib.Nat.{zero-add, zero-lt-suc, lt_of_lt_of_le, pow-le-pow_right, pow-suc, mod-lt, div-add-mod', div-lt_iff_lt-mul, le_of_suc-le-suc, not-suc-le-zero, add-zero, add-sub_cancel_left}
use native.Mathlib.Omega.{arith}
use lib.ListN.{length, get_or, length-append}
use lib.Arith.{digits_div, digits_mod}
use lib.Dec.{ltb, eqb}
use borrow.Author.Tests.{lt-ltb, le-ltb, ltb-true, ltb-false, eqb-true, eqb-false}
use Rattle.std.specs.Prelude.{Some, None}
use Rattle.text_fields.specs.Number.{digits_from, number_in, zero_alone}
use Rattle.text_fields.specs.Decimal.{decimal_in, decimal}
use Rattle.text_fields.proofs.Values.{number-else}

pub decimal-one : (f n : ℕ) → n < 10 → decimal_in (suc f) n ≡ (48 + n) ∷ []
unfolding decimal_in
decimal-one f n h = rw (lt-ltb n 10 h)

pub decimal-more : (f n : ℕ) → 10 ≤ n → decimal_in (suc f) n ≡ decimal_in f (n / 10) ++ ((48 + n % 10) ∷ [])
unfolding decimal_in
decimal-more f n h = rw (le-ltb n 10 h)

small? : (n : ℕ) → (n < 10) ⊎ (10 ≤ n)
small? n = go (ltb n 10) refl
  where
    go : (t : Bool) → ltb n 10 ≡ t → (n < 10) ⊎ (10 ≤ n)
    go true e = inl (ltb-true n 10 e)
    go false e = inr (ltb-false n 10 e)

pub tenth : (f n : ℕ) → n < 10 ^ suc f → n / 10 < 10 ^ f
tenth f n h = (div-lt_iff_lt-mul {k = 10} (omega arith)).1 (subst (λ (k : ℕ). n < k) (pow-suc 10 f) h)

digit-in : (v d : ℕ) (bs : List ℕ) → d < 10 → digits_from v ((48 + d) ∷ bs) ≡ digits_from (v * 10 + d) bs
unfolding digits_from
digit-in v d bs h = rw (le-ltb (48 + d) 48 (omega arith), le-ltb 57 (48 + d) (omega arith), add-sub_cancel_left 48 d)

first-digit : (d : ℕ) (bs : List ℕ) → d < 10 → digits_from 0 ((48 + d) ∷ bs) ≡ digits_from d bs
first-digit d bs h = digit-in 0 d bs h ∙ ap (λ (k : ℕ). digits_from k bs) (zero-add d)

-- reading what was printed
pub digits_of : (f n : ℕ) (rest : List ℕ) → n < 10 ^ suc f → digits_from 0 (decimal_in (suc f) n ++ rest) ≡ digits_from n rest
digits_of zero n rest h = rw (decimal-one zero n h) (first-digit n rest h)
digits_of (suc f) n rest h = go (small? n) (digits_of f (n / 10) ((48 + n % 10) ∷ rest) (tenth (suc f) n h))
  where
    go : (n < 10) ⊎ (10 ≤ n) → digits_from 0 (decimal_in (suc f) (n / 10) ++ (48 + n % 10) ∷ rest) ≡ digits_from (n / 10) ((48 + n % 10) ∷ rest)
        → digits_from 0 (decimal_in (suc (suc f)) n ++ rest) ≡ digits_from n rest
    go (inl l) ih = rw (decimal-one (suc f) n l) (first-digit n rest l)
    go (inr l) ih =
        rw (decimal-more (suc f) n l, append_assoc)
        (ih ∙ digit-in (n / 10) (n % 10) rest (mod-lt n (omega arith)) ∙ ap (λ (k : ℕ). digits_from k rest) (div-add-mod' n 10))

pub decimal-length : (f n : ℕ) → length (decimal_in f n) ≤ f
unfolding decimal_in
decimal-length zero n = zero-le
decimal-length (suc f) n = go (ltb n 10) (decimal_in f (n / 10)) (decimal-length f (n / 10))
  where
    go : (t : Bool) (l : List ℕ) → length l ≤ f → length (cond t ((48 + n) ∷ []) (l ++ ((48 + n % 10) ∷ []))) ≤ suc f
    go true l h = omega arith
    go false l h = simp length-append (omega arith)

-- the first byte of a number that is not 0: a digit that is not `0`
pub head-append : (l r : List ℕ) → 48 < get_or l 0 0 → 48 < get_or (l ++ r) 0 0
head-append [] r h = absurd (omega arith)
head-append (x ∷ xs) r h = h

tenth-pos : (n : ℕ) → 10 ≤ n → 0 < n / 10
tenth-pos n h = omega arith

pub head_of : (f n : ℕ) → 0 < n → n < 10 ^ suc f → 48 < get_or (decimal_in (suc f) n) 0 0
head_of zero n z h = rw (decimal-one zero n h) (omega arith)
head_of (suc f) n z h = go (small? n) (λ l. head_of f (n / 10) (tenth-pos n l) (tenth (suc f) n h))
  where
    go : (n < 10) ⊎ (10 ≤ n) → (10 ≤ n → 48 < get_or (decimal_in (suc f) (n / 10)) 0 0) → 48 < get_or (decimal_in (suc (suc f)) n) 0 0
    go (inl l) ih = rw (decimal-one (suc f) n l) (omega arith)
    go (inr l) ih = rw (decimal-more (suc f) n l) (head-append (decimal_in (suc f) (n / 10)) ((48 + n % 10) ∷ []) (ih l))

-- more room for digits than are needed changes nothing
decimal-room : (f g n : ℕ) → n < 10 ^ suc f → f ≤ g → decimal_in (suc g) n ≡ decimal_in (suc f) n
decimal-room zero g n h le = rw (decimal-one zero n h, decimal-one g n h)
decimal-room (suc f) zero n h le = absurd (not-suc-le-zero le)
decimal-room (suc f) (suc g) n h le = go (small? n) (decimal-room f g (n / 10) (tenth (suc f) n h) (le_of_suc-le-suc le))
  where
    go : (n < 10) ⊎ (10 ≤ n) → decimal_in (suc g) (n / 10) ≡ decimal_in (suc f) (n / 10) → decimal_in (suc (suc g)) n ≡ decimal_in (suc (suc f)) n
    go (inl l) ih = rw (decimal-one (suc f) n l, decimal-one (suc g) n l)
    go (inr l) ih = rw (decimal-more (suc f) n l, decimal-more (suc g) n l, ih)

-- one digit more, printed
decimal-snoc : (f v d : ℕ) → 0 < v → d < 10 → decimal_in (suc f) (v * 10 + d) ≡ decimal_in f v ++ ((48 + d) ∷ [])
decimal-snoc f v d z h = rw (decimal-more f (v * 10 + d) (omega arith), digits_div v h, digits_mod v h)

-- what digits are read to is what prints them
record Printed (f : ℕ) (l : List ℕ) (n : ℕ) : Type 0 where
  below : n < 10 ^ f
  text : l ≡ decimal_in f n

pub some_inj : {m n : ℕ} → Some m ≡ Some n → m ≡ n
some_inj e = cc

some_not : {n : ℕ} → None ≡ Some n → ⊥
some_not e = let z : ◌≡◌ {A = ℕ} 0 1 = cc in omega arith

digit-out : (v b n : ℕ) (bs : List ℕ) → digits_from v (b ∷ bs) ≡ Some n → (48 ≤ b) × (b ≤ 57) × (digits_from (v * 10 + (b - 48)) bs ≡ Some n)
unfolding digits_from
digit-out v b n bs e = go (ltb b 48) (ltb 57 b) refl refl e
  where
    go : (t u : Bool) → ltb b 48 ≡ t → ltb 57 b ≡ u → cond t None (cond u None (digits_from (v * 10 + (b - 48)) bs)) ≡ Some n
        → (48 ≤ b) × (b ≤ 57) × (digits_from (v * 10 + (b - 48)) bs ≡ Some n)
    go true u p q x = absurd (some_not x)
    go false true p q x = absurd (some_not x)
    go false false p q x = (ltb-false b 48 p, ltb-false 57 b q, x)

digits-back : (bs : List ℕ) (f v n : ℕ) → 0 < v → v < 10 ^ f → digits_from v bs ≡ Some n → Printed (f + length bs) (decimal_in f v ++ bs) n
unfolding digits_from
digits-back [] f v n z h e = rw (add-zero, append-nil) (rw (← some_inj e) (record { below = h; text = refl }))
digits-back (b ∷ bs) f v n z h e =
    let o = digit-out v b n bs e in
    let d : ℕ = b - 48 in
    let h' : v * 10 + d < 10 ^ suc f = rw (pow-suc 10 f) (omega (arith, o)) in
    let ih = digits-back bs (suc f) (v * 10 + d) n (omega arith) h' o.2 in
    let same : decimal_in (suc f) (v * 10 + d) ++ bs ≡ decimal_in f v ++ b ∷ bs =
    rw (decimal-snoc f v d z (omega (arith, o)), append_assoc) (ap (λ (k : ℕ). decimal_in f v ++ k ∷ bs) (omega (arith, o))) in
    let room : suc f + length bs ≡ f + suc (length bs) = omega arith in
    rw (← room, ← same) ih

-- the texts that are accepted are the printed ones
zero-text : (b n : ℕ) (bs : List ℕ) → b ≡ 48 → [] ≡ bs → 0 ≡ n → b ∷ bs ≡ decimal n
unfolding decimal
zero-text b n bs e c z = rw (← z, ← c, e, decimal-one 9 0 (omega arith))

digits-text : (b n : ℕ) (bs : List ℕ) → length bs ≤ 9 → (b ≡ 48 → ⊥) → digits_from 0 (b ∷ bs) ≡ Some n → (n < 10 ^ 10) × (b ∷ bs ≡ decimal n)
unfolding decimal
digits-text b n bs short q x =
    let o = digit-out 0 b n bs x in
    let d : ℕ = b - 48 in
    let small : d < 10 = omega (arith, o) in
    let start : digits_from d bs ≡ Some n = rw (← zero-add d) o.2 in
    let p = digits-back bs 1 d n (omega (arith, o)) small start in
    let same : decimal_in 1 d ++ bs ≡ b ∷ bs = rw (decimal-one 0 d small) (ap (λ (k : ℕ). k ∷ bs) (omega (arith, o))) in
    let wide : decimal_in 10 n ≡ decimal_in (suc (length bs)) n = decimal-room (length bs) 9 n (rw (← one-add (length bs)) p.below) short in
    let more : 10 ^ suc (length bs) ≤ 10 ^ 10 = pow-le-pow_right {n = 10} (omega arith) (suc-le-suc short) in
    (lt_of_lt_of_le (rw (← one-add (length bs)) p.below) more, sym same ∙ p.text ∙ ap (λ (k : ℕ). decimal_in k n) (one-add (length bs)) ∙ sym wide)

pub number-prints : (l : List ℕ) (n : ℕ) → number_in l ≡ Some n → (n < 10 ^ 10) × (l ≡ decimal n)
unfolding number_in
number-prints [] n e = absurd (some_not e)
number-prints (b ∷ bs) n e = go (ltb 10 (suc (length bs))) (eqb b 48) bs refl refl refl e
  where
    go : (t u : Bool) (cs : List ℕ) → cs ≡ bs → ltb 10 (suc (length bs)) ≡ t → eqb b 48 ≡ u → cond t None (cond u (zero_alone cs) (digits_from 0 (b ∷ bs))) ≡ Some n
        → (n < 10 ^ 10) × (b ∷ bs ≡ decimal n)
    go true u cs c p q x = absurd (some_not x)
    go false true [] c p q x = (omega (arith, some_inj x), zero-text b n bs (eqb-true b 48 q) c (some_inj x))
    go false true (k ∷ ks) c p q x = absurd (some_not x)
    go false false cs c p q x = digits-text b n bs (omega (arith, ltb-false 10 (suc (length bs)) p)) (eqb-false b 48 q) x

-- and the printed ones are accepted
number-not-zero : (n : ℕ) → 0 < n → n < 10 ^ 10 → number_in (decimal_in 10 n) ≡ Some n
unfolding digits_from
number-not-zero n z h =
    let head : 48 < get_or (decimal_in 10 n) 0 0 = head_of 9 n z h in
    let whole : digits_from 0 (decimal_in 10 n) ≡ Some n = ap (λ (l : List ℕ). digits_from 0 l) (sym (append-nil (decimal_in 10 n))) ∙ digits_of 9 n [] h in
    number-else (decimal_in 10 n) (λ e. long (decimal_in 10 n) e head) (decimal-length 10 n) (λ e. omega arith) ∙ whole
  where
    long : (l : List ℕ) → length l ≡ 0 → 48 < get_or l 0 0 → ⊥
    long [] e k = omega arith
    long (x ∷ xs) e k = omega arith

pub number-printed : (n : ℕ) → n < 10 ^ 10 → number_in (decimal n) ≡ Some n
unfolding number_in decimal decimal_in
number-printed zero h = refl
number-printed (suc n) h = number-not-zero (suc n) (zero-lt-suc n) h
