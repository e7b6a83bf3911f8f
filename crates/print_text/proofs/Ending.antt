-- Where the loop that writes digits from the right stands: the digits of what is left of the number, then the bytes written, are the
-- digits of the number.
use mathlib.Core.Path.{◌≡◌, sym, ap, ap₂, subst, ◌∙◌}
use mathlib.Core.List.{List, [], ◌∷◌, ◌++◌, append_assoc, append-nil}
use Prim.Native.Nat.{ℕ, zero, suc, ◌+◌, ◌-◌, ◌/◌, ◌%◌, ◌^◌, ◌≤◌, ◌<◌}
use native.Mathlib.Omega.{arith}
use native.Mathlib.Nat.{lt-suc_self}
use lib.ListN.{length, drop, set, length-set}
use lib.Seq.{drop-cons, drop-set-lt, get_or-set_same}
use Rattle.text_fields.specs.Decimal.{decimal_in, decimal}
use Rattle.text_fields.proofs.Canonical.{decimal-one, decimal-more, tenth}
use Rattle.lists.proofs.Steps.{drop-end}
use Rattle.print_text.specs.Digits.{EndsWith}

pub record Ending (x : ℕ) (l : List ℕ) (k high : ℕ) : Type 0 where
  pub long : length l ≡ 10
  pub inside : k ≤ 10
  pub some : 0 < k
  pub fits : high < 10 ^ k
  pub text : decimal_in k high ++ drop k l ≡ decimal x

pub ending-start : (x : ℕ) (l : List ℕ) → x < 2 ^ 32 → length l ≡ 10 → Ending x l 10 x
unfolding decimal
ending-start x l h e = record {
  long = e;
  inside = omega arith;
  some = omega arith;
  fits = omega arith;
  text = ap (λ (r : List ℕ). decimal_in 10 x ++ r) (drop-end l 10 (omega arith) (omega arith)) ∙ append-nil (decimal_in 10 x);
}

-- a byte stored just before the place
drop-set : (l : List ℕ) (j v : ℕ) → j < length l → drop j (set l j v) ≡ v ∷ drop (suc j) l
drop-set l j v h =
    drop-cons (set l j v) j 0 (subst (λ (n : ℕ). j < n) (sym (length-set l j v)) h)
    ∙ ap₂ {C = List ℕ} (λ (y : ℕ) (r : List ℕ). y ∷ r) (get_or-set_same l j v 0 h) (drop-set-lt (suc j) l j v (lt-suc_self j))

ending-turn' : {x : ℕ} {l : List ℕ} {high : ℕ} (j : ℕ) → Ending x l (suc j) high → 10 ≤ high → Ending x (set l j (48 + high % 10)) j (high / 10)
ending-turn' {x} {l} {high} zero g h = absurd (omega (arith, g.fits))
ending-turn' {x} {l} {high} (suc j) g h = record {
  long = length-set l (suc j) (48 + high % 10) ∙ g.long;
  inside = omega arith;
  some = omega arith;
  fits = tenth (suc j) high g.fits;
  text =
      ap (λ (r : List ℕ). decimal_in (suc j) (high / 10) ++ r) (drop-set l (suc j) (48 + high % 10) (omega arith))
      ∙ sym (append_assoc (decimal_in (suc j) (high / 10)) ((48 + high % 10) ∷ []) (drop (suc (suc j)) l))
      ∙ ap (λ (r : List ℕ). r ++ drop (suc (suc j)) l) (sym (decimal-more (suc j) high h))
      ∙ g.text;
}

ending-end' : {x : ℕ} {l : List ℕ} {high : ℕ} (j : ℕ) → Ending x l (suc j) high → high < 10 → EndsWith x (set l j (48 + high)) j
ending-end' {x} {l} {high} j g h = record {
  inside = omega (arith, length-set l j (48 + high));
  ending =
      drop-set l j (48 + high) (omega arith)
      ∙ ap (λ (r : List ℕ). r ++ drop (suc j) l) (sym (decimal-one j high h))
      ∙ g.text;
}

module _ {x : ℕ} {l : List ℕ} {k high : ℕ} (g : Ending x l k high) where
  before : Ending x l (suc (k - 1)) high
  before = subst (λ (j : ℕ). Ending x l j high) (let q : k ≡ suc (k - 1) = omega arith in q) g

  pub ending-turn : (v : ℕ) → 10 ≤ high → v ≡ 48 + high % 10 → Ending x (set l (k - 1) v) (k - 1) (high / 10)
  ending-turn v h e = subst (λ (y : ℕ). Ending x (set l (k - 1) y) (k - 1) (high / 10)) (sym e) (ending-turn' (k - 1) before h)

  pub ending-end : (v : ℕ) → high < 10 → v ≡ 48 + high → EndsWith x (set l (k - 1) v) (k - 1)
  ending-end v h e = subst (λ (y : ℕ). EndsWith x (set l (k - 1) y) (k - 1)) (sym e) (ending-end' (k - 1) before h)
