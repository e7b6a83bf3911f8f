-- From the marks to the settings of all free columns, and that these are the kernel's basis.
use mathlib.Core.Path.{◌≡◌, refl, ap, ◌∙◌}
use mathlib.Core.List.{List}
use Prim.Native.Nat.{ℕ}
use lib.ListN.{length, take}
use Rattle.lists.specs.Filled.{zeros}
use Rattle.sparse.specs.Matrix.{Compressed}
use Rattle.sparse.specs.Set.{Set}
use Rattle.row_space.specs.Kernel.{free_columns, setting, kernel_basis}
use Rattle.answer_question.proofs.AnswerLaws.{cleared}
use Rattle.answer_kernel.specs.Filling.{Marked, column_settings, free_settings, BasisFilled}
use Rattle.answer_kernel.specs.Needs.{MarksReady, SettingsReady, BasisReady}

module _ (p r : ℕ) (U : Compressed) (C b w : List ℕ) (d : BasisReady p r U C b w) where
  pub basis-marks : MarksReady r C w
  basis-marks = record { order = d.order; places = d.places; clear = d.clear }

  pub basis-settings : (w₁ : List ℕ) → length w₁ ≡ length w → Marked (take r C) w₁ → SettingsReady p r U C b w₁
  basis-settings w₁ long s =
      record {
        prime = d.prime;
        formed = rw long d.formed;
        rows = d.rows;
        order = d.order;
        places = rw long d.places;
        room = rw long d.room;
        marked = s;
      }

  pub basis-done : (n : ℕ) (b₁ w₁ : List ℕ) → n ≡ length w → b₁ ≡ free_settings p n r C U → w₁ ≡ zeros n → BasisFilled (free_settings p (length w) r C U) b₁ w₁
  basis-done n b₁ w₁ long e z = record { list = e ∙ ap (λ (m : ℕ). free_settings p m r C U) long; row = cleared w₁ n z }

-- the settings that are filled in are the kernel's basis
pub basis-is : (p m : ℕ) (s : Set) → free_settings p m s.r s.C s.U ≡ kernel_basis p m s
unfolding free_settings column_settings kernel_basis setting free_columns
basis-is p m s = refl
