-- The steps of `open_pivots`: what the first and the last of them need.
use mathlib.Core.Path.{◌≡◌, sym, ap, subst, ◌∙◌}
use mathlib.Core.List.{List}
use Prim.Native.Nat.{ℕ}
use lib.ListN.{length}
use Rattle.lists.specs.Filled.{zeros}
use Rattle.lists.proofs.Filled.{length-zeros}
use Rattle.algebra.specs.Matrix.{vector}
use Rattle.sparse.specs.Matrix.{Compressed, matrix}
use Rattle.answer_open.specs.Opening.{Settled, SettledTo, SettledOn}
use Rattle.answer_open.specs.Witness.{ClosedPivot, ChangedOnly}
use Rattle.answer_open.specs.Needs.{CountingReady, LeftReady, PivotsReady}
use Rattle.answer_open.proofs.PivotLoop.{settled-starts}
use Rattle.answer_open.proofs.SettleSteps.{settled-long}
use Rattle.answer_open.proofs.WitnessLaws.{settled-changed}

module _ (p r : ℕ) (U : Compressed) (C o₀ w : List ℕ) (d : PivotsReady p r U C o₀ w) where
  module _ (o₁ : List ℕ) (cleared : o₁ ≡ zeros (length o₀)) where
    long₁ : length o₁ ≡ length o₀
    long₁ = ap length cleared ∙ length-zeros (length o₀)

    pub pivots-counting : CountingReady p r r U C o₁
    pivots-counting = record { factor = rw long₁ d.factor; settled = settled-starts p r U C o₁ (cleared ∙ ap zeros (sym long₁)) }

    module _ (o₂ : List ℕ) (k : ℕ) (s : SettledTo p r U C (length o₁) r o₂ k) where
      long₂ : length o₂ ≡ length o₀
      long₂ = s.settled.long ∙ long₁

      module _ (o₃ w₁ : List ℕ) (l : ℕ) (t : SettledOn p r U C (length o₂) k o₃ w₁ l) where
        long₃ : length o₃ ≡ length o₀
        long₃ = t.settled.long ∙ long₂

        module _ (o₄ : List ℕ) (a : ChangedOnly (ClosedPivot p (length o₃) (vector C) (matrix U) r l) o₃ o₄) where
          long₄ : length o₄ ≡ length o₀
          long₄ = a.long ∙ long₃

          settled : Settled p r U C (length o₀) o₄ l
          settled =
              settled-changed p r U C (length o₀) d.factor o₃ o₄ l (subst (λ (n : ℕ). ChangedOnly (ClosedPivot p n (vector C) (matrix U) r l) o₃ o₄) long₃ a)
              (settled-long p r U C (length o₂) (length o₀) o₃ l long₂ t.settled)

          pub pivots-left : LeftReady p r l U C o₄ w₁
          pivots-left =
              record {
                factor = rw long₄ d.factor;
                settled = settled-long p r U C (length o₀) (length o₄) o₄ l (sym long₄) settled;
                long = long₄ ∙ sym (t.long ∙ long₂);
                clear = t.clear;
              }
