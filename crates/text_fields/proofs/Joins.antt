-- `pieces` and `joined` undo each other, and the text of a number has no separator in it.
use mathlib.Core.Path.{◌≡◌, refl, sym, ap, ◌∙◌}
use mathlib.Core.List.{List, [], ◌∷◌, ◌++◌}
use mathlib.Core.Bool.{Bool, true, false, cond}
use Prim.Native.Nat.{ℕ, zero, suc, ◌+◌, ◌/◌, ◌%◌, ◌<◌}
use native.Mathlib.Omega.{arith}
use lib.Dec.{eqb, ltb}
use borrow.Author.Tests.{eqb-true}
use Rattle.text_fields.specs.Pieces.{Pieces, last, more, prepend, pieces, joined}
use Rattle.text_fields.specs.Decimal.{decimal_in, decimal, signed_text}
use Rattle.text_fields.specs.declared.numbers.Signed.{Signed}
use Rattle.text_fields.specs.declared.numbers.Signed.TheVariants.{Plus, Minus}
use Rattle.text_fields.proofs.Cuts.{pieces-hit, pieces-miss}

-- no byte of l is s
abbrev pub Free : ℕ → List ℕ → Type 0
Free s [] = Unit {0}
Free s (b ∷ bs) = (b ≡ s → ⊥) × Free s bs

pub free-append : (s : ℕ) (l r : List ℕ) → Free s l → Free s r → Free s (l ++ r)
free-append s [] r a b = b
free-append s (x ∷ xs) r a b = (a.0, free-append s xs r a.1 b)

free-decimal_in : (s f n : ℕ) → s < 48 → Free s (decimal_in f n)
unfolding decimal_in
free-decimal_in s zero n h = tt
free-decimal_in s (suc f) n h = go (ltb n 10) (free-append s (decimal_in f (n / 10)) ((48 + n % 10) ∷ []) (free-decimal_in s f (n / 10) h) ((λ e. omega arith), tt))
  where
    go : (t : Bool) → Free s (decimal_in f (n / 10) ++ ((48 + n % 10) ∷ [])) → Free s (cond t ((48 + n) ∷ []) (decimal_in f (n / 10) ++ ((48 + n % 10) ∷ [])))
    go true k = ((λ e. omega arith), tt)
    go false k = k

pub free-decimal : (s n : ℕ) → s < 48 → Free s (decimal n)
unfolding decimal
free-decimal s n h = free-decimal_in s 10 n h

pub free-signed : (s : ℕ) (v : Signed) → s < 45 → Free s (signed_text v)
unfolding signed_text
free-signed s (Plus n) h = free-decimal s n (omega arith)
free-signed s (Minus n) h = ((λ e. omega arith), free-decimal s n (omega arith))

pub pieces-free : (s : ℕ) (l : List ℕ) → Free s l → pieces s l ≡ last l
unfolding pieces
pieces-free s [] h = refl
pieces-free s (b ∷ bs) h = pieces-miss s b bs h.0 ∙ ap (prepend b) (pieces-free s bs h.1)

pub pieces-line : (s : ℕ) (l r : List ℕ) → Free s l → pieces s (l ++ s ∷ r) ≡ more l (pieces s r)
pieces-line s [] r h = pieces-hit s s r refl
pieces-line s (b ∷ bs) r h = pieces-miss s b (bs ++ s ∷ r) h.0 ∙ ap (prepend b) (pieces-line s bs r h.1)

joined-prepend : (s b : ℕ) (p : Pieces) → joined s (prepend b p) ≡ b ∷ joined s p
unfolding joined
joined-prepend s b (last l) = refl
joined-prepend s b (more l t) = refl

pub joined-pieces : (s : ℕ) (l : List ℕ) → joined s (pieces s l) ≡ l
unfolding pieces joined
joined-pieces s [] = refl
joined-pieces s (b ∷ bs) = go (eqb b s) refl (joined-pieces s bs)
  where
    go : (t : Bool) → eqb b s ≡ t → joined s (pieces s bs) ≡ bs → joined s (cond t (more [] (pieces s bs)) (prepend b (pieces s bs))) ≡ b ∷ bs
    go true e ih = rw ih (ap (λ (k : ℕ). k ∷ bs) (sym (eqb-true b s e)))
    go false e ih = joined-prepend s b (pieces s bs) ∙ ap (λ (r : List ℕ). b ∷ r) ih
