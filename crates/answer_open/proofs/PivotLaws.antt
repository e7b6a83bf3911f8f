-- The pivot column of a row of U, by its mark and by the number of closed columns beside it: none makes it open, one makes it closed.
use mathlib.Core.Path.{◌≡◌, sym, ap, ◌∙◌}
use mathlib.Core.Logic.{◌≢◌}
use mathlib.Core.List.{List}
use Prim.Native.Nat.{ℕ, ◌*◌, ◌<◌}
use native.Mathlib.Nat.{mod-eq_of_lt, zero-mod}
use native.Mathlib.Omega.{arith}
use lib.ListN.{length, get_or}
use Rattle.algebra.specs.Congruence.{◌≈⟨◌⟩◌}
use Rattle.algebra.specs.Matrix.{Vector, Permutation, vector}
use Rattle.algebra.specs.RowSpace.{InKernel}
use Rattle.algebra.proofs.Congruence.{exact, turn, ◌⊙◌, ◌⊕◌, ◌⊗◌, same_refl}
use Rattle.algebra.proofs.Inverse.{no-divisors}
use Rattle.sparse.specs.Row.{weigh, entry, Row}
use Rattle.sparse.specs.Matrix.{Compressed, row_of, matrix}
use Rattle.sparse.proofs.Entries.{weigh-dot, row-columns}
use Rattle.sparse.proofs.Rows.{form-row}
use Rattle.pluq.proofs.Orders.{permutation-means}
use Rattle.pluq.proofs.Shapes.{Upper, upper-means}
use Rattle.answer_open.specs.Counting.{closed_others}
use Rattle.answer_open.specs.Needs.{EchelonPassed, Known, PivotCellReady}
use Rattle.answer_open.specs.Opening.{open_cell, PivotCell}
use Rattle.answer_open.proofs.Kernel.{open-vanishes, vanishes-open, closed-differs, differs-closed}
use Rattle.answer_open.proofs.CountLaws.{ZeroAtOpen, count_none, count-one}

module _ (p r : ℕ) (U : Compressed) (C : List ℕ) (m : ℕ) (f : EchelonPassed p r U C m) where
  pub order : Permutation m (vector C)
  order = permutation-means m C f.long f.columns

  pub shape : Upper r (vector C) (matrix U)
  shape = upper-means r (vector C) (matrix U) f.shaped

  pub pivot-inside : (k : ℕ) → k < r → get_or C k 0 < m
  pivot-inside k h = order.below k (omega (arith, f.rank))

  module _ (k : ℕ) (h : k < r) where
    abbrev cs : List ℕ
    cs = row_of U.starts k U.cols

    abbrev vs : List ℕ
    vs = row_of U.starts k U.vals

    pub row-of : Row p m (row_of U.starts k U.cols) (row_of U.starts k U.vals)
    row-of = form-row p m U.starts U.cols U.vals f.formed k

    column : (t : ℕ) → t < length cs → get_or cs t 0 < m
    column = row-columns p m cs vs row-of

    row_zero : (z : Vector) → InKernel p r m (matrix U) z → weigh cs vs z ≈⟨ p ⟩ 0
    unfolding InKernel
    row_zero z u = exact (weigh-dot m cs vs z column) ⊙ u k h

    module _ (o : List ℕ) (long : length o ≡ m) (known : Known p r U C k o) where
      cell : (t : ℕ) → t < length cs → get_or cs t 0 ≢ get_or C k 0 → get_or o (get_or cs t 0) 0 ≡ open_cell p m (vector C) (matrix U) r (get_or cs t 0)
      cell t b e = known t b e ∙ ap (λ (i : ℕ). open_cell p i (vector C) (matrix U) r (get_or cs t 0)) long

      zero-open : (z : Vector) → InKernel p r m (matrix U) z → ZeroAtOpen p (get_or C k 0) o cs z
      zero-open z u t b e q =
          open-vanishes f.prime m r (vector C) (matrix U) order f.rank shape.left shape.unit (get_or cs t 0) (column t b) (λ w. q (cell t b e ∙ w)) z u

      pub pivot-none : closed_others (get_or C k 0) o cs ≡ 0 → open_cell p m (vector C) (matrix U) r (get_or C k 0) ≡ 1
      pivot-none e =
          vanishes-open f.prime m r (vector C) (matrix U) order f.rank shape.left shape.unit (get_or C k 0) (pivot-inside k h)
          (λ z u.
          exact (omega (arith, ap (λ (x : ℕ). x * z (get_or C k 0)) (shape.unit k h)))
          ⊙ turn (count_none p (get_or C k 0) o cs vs e z (zero-open z u))
          ⊙ row_zero z u)

      pub pivot-one : closed_others (get_or C k 0) o cs ≡ 1 → open_cell p m (vector C) (matrix U) r (get_or C k 0) ≡ 0
      pivot-one e =
          let one = count-one p (get_or C k 0) o cs vs row-of.nonzero row-of.paired e in
          let c = get_or cs one.at 0 in
          let (z, u, differs) = closed-differs f.prime m r (vector C) (matrix U) order f.rank shape.left shape.unit c (column one.at one.inside) (sym (cell one.at one.inside one.other) ∙ one.shut) in
          differs-closed f.prime m r (vector C) (matrix U) order f.rank shape.left shape.unit (get_or C k 0) (pivot-inside k h) z u
          (λ q. differs (no-divisors f.prime {a = one.value} (λ w. omega (arith, one.nonzero, sym (mod-eq_of_lt one.below) ∙ w.same ∙ zero-mod p))
          (exact (omega arith)
          ⊙ turn (same_refl (entry cs vs (get_or C k 0)) ⊗ q) ⊕ same_refl (one.value * z c)
          ⊙ turn (one.share z (zero-open z u))
          ⊙ row_zero z u)))

-- the same, as `pivot_open` meets them
module _ (p k r : ℕ) (U : Compressed) (C o w : List ℕ) (d : PivotCellReady p k r U C o w) where
  pub pivot-place : (c : ℕ) → c ≡ get_or C k 0 → c < length o
  pivot-place c e = omega (arith, e, d.long, pivot-inside p r U C (length w) d.unit.factor k d.unit.inside)

  module _ (c v : ℕ) (ec : c ≡ get_or C k 0) (ev : v ≡ closed_others c o (row_of U.starts k U.cols)) where
    counted : closed_others (get_or C k 0) o (row_of U.starts k U.cols) ≡ v
    counted = sym (ev ∙ ap (λ (i : ℕ). closed_others i o (row_of U.starts k U.cols)) ec)

    pub pivot-opened : v ≡ 0 → PivotCell (open_cell p (length w) (vector C) (matrix U) r (get_or C k 0)) 1 w
    pivot-opened e = record { value = sym (pivot-none p r U C (length w) d.unit.factor k d.unit.inside o d.long d.known (counted ∙ e)); row = d.unit.clear }

    pub pivot-closed : v ≡ 1 → PivotCell (open_cell p (length w) (vector C) (matrix U) r (get_or C k 0)) 0 w
    pivot-closed e = record { value = sym (pivot-one p r U C (length w) d.unit.factor k d.unit.inside o d.long d.known (counted ∙ e)); row = d.unit.clear }
