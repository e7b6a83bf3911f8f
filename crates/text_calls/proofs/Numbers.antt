-- An outcome as one number.
--   packed_zero      it is 0 exactly if the outcome is passed
--   packed-from      it is made of one of the numbers by which the outcome refuses
--   storage o        what factoring comes to: refusal 7 at a row, or nothing
--   stage-..         factoring, and then a buffer that holds what it is given or not: 0, 9, 7 at a row, and nothing else
use mathlib.Core.Path.{◌≡◌, refl, ap, ◌∙◌}
use mathlib.Core.Logic.{◌↔◌, ◌⊎◌, inl, inr}
use mathlib.Core.Bool.{Bool, true, false}
use mathlib.Core.List.{List, [], ◌∷◌}
use mathlib.Core.Option.{Option, none, some}
use Prim.Native.Nat.{ℕ, ◌+◌, ◌*◌}
use native.Mathlib.Omega.{arith}
use Rattle.lists.specs.Tests.{among}
use Rattle.refusals.specs.Table.{storage_too_short, wrong_length}
use Rattle.refusals.specs.Refusals.{◌▷◌, unless, number_of, detail_of}
use Rattle.refusals.specs.Outcome.{Outcome}
use Rattle.refusals.specs.Outcome.{Passed, Refused}
use Rattle.refusals.proofs.Refusals.{RefusedBy, number-from, refused-unless, zero-passed}
use Rattle.text_calls.specs.Calls.{packed}
use Rattle.text_calls.specs.Meaning.{PackedFrom}

pub packed_zero : (ks : List ℕ) (o : Outcome) → RefusedBy ks o → among 0 ks ≡ false → (packed o ≡ 0) ↔ (o ≡ Passed)
packed_zero ks o h z =
    let (there, back) = zero-passed ks o h z in
    ((λ e. there (let q : number_of o ≡ 0 = omega arith in q)), λ e. ap packed e)

pub packed-from : (ks : List ℕ) (o : Outcome) → RefusedBy ks o → PackedFrom ks (packed o)
packed-from ks o h = record { number = number_of o; detail = detail_of o; packed-is = refl; from = number-from ks o h }

-- what factoring comes to: refusal 7 at a row, or nothing
abbrev pub storage : Option ℕ → Outcome
storage none = Passed
storage (some i) = Refused storage_too_short i

module _ (b : Bool) where
  pub stage-zero : (o : Option ℕ) → (packed (storage o ▷ unless b 9 0) ≡ 0) ↔ ((o ≡ none) × (b ≡ true))
  stage-zero none = (go b, λ h. ap (λ (c : Bool). packed (unless c 9 0)) h.1)
    where
      go : (c : Bool) → packed (unless c 9 0) ≡ 0 → (◌≡◌ {A = Option ℕ} none none) × (c ≡ true)
      go true e = (refl, refl)
      go false e = absurd (omega arith)
  stage-zero (some i) = ((λ e. absurd (omega arith)), λ h. ap (λ (o : Option ℕ). packed (storage o ▷ unless b 9 0)) h.0 ∙ ap (λ (c : Bool). packed (unless c 9 0)) h.1)

  pub stage-nine : (o : Option ℕ) → (packed (storage o ▷ unless b 9 0) ≡ 9) ↔ ((o ≡ none) × (b ≡ false))
  stage-nine none = (go b, λ h. ap (λ (c : Bool). packed (unless c 9 0)) h.1)
    where
      go : (c : Bool) → packed (unless c 9 0) ≡ 9 → (◌≡◌ {A = Option ℕ} none none) × (c ≡ false)
      go true e = absurd (omega arith)
      go false e = (refl, refl)
  stage-nine (some i) = ((λ e. absurd (omega arith)), λ h. ap (λ (o : Option ℕ). packed (storage o ▷ unless b 9 0)) h.0 ∙ ap (λ (c : Bool). packed (unless c 9 0)) h.1)

  pub stage-seven : (o : Option ℕ) (i : ℕ) → (packed (storage o ▷ unless b 9 0) ≡ 7 + 256 * i) ↔ (o ≡ some i)
  stage-seven o i = (go o b, λ h. ap (λ (u : Option ℕ). packed (storage u ▷ unless b 9 0)) h)
    where
      go : (o : Option ℕ) (c : Bool) → packed (storage o ▷ unless c 9 0) ≡ 7 + 256 * i → o ≡ some i
      go none true e = absurd (omega arith)
      go none false e = absurd (omega arith)
      go (some k) c e = ap some (let q : k ≡ i = omega arith in q)

  pub stage-numbers : (o : Option ℕ) → let z = packed (storage o ▷ unless b 9 0) in (z ≡ 0) ⊎ ((z ≡ 9) ⊎ ((i : ℕ) × (z ≡ 7 + 256 * i)))
  stage-numbers none = go b
    where
      go : (c : Bool) → let z = packed (unless c 9 0) in (z ≡ 0) ⊎ ((z ≡ 9) ⊎ ((i : ℕ) × (z ≡ 7 + 256 * i)))
      go true = inl refl
      go false = inr (inl refl)
  stage-numbers (some i) = inr (inr (i, refl))

  pub stage-by : (o : Option ℕ) → RefusedBy (storage_too_short ∷ wrong_length ∷ []) (storage o ▷ unless b 9 0)
  unfolding among
  stage-by none = refused-unless (7 ∷ 9 ∷ []) b 9 0 refl
  stage-by (some i) = refl
