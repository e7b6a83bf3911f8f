-- The multiples of a row that is reduced, stored, and the remainder that is left.
use mathlib.Core.Path.{◌≡◌, refl, sym, ap, ◌∙◌, subst}
use mathlib.Core.Bool.{Bool, true, false}
use mathlib.Core.List.{List}
use Prim.Native.Nat.{ℕ, ◌+◌, ◌-◌, ◌%◌, ◌≤◌}
use native.Mathlib.Omega.{arith}
use lib.Dec.{leb}
use lib.ListN.{length, get_or, take}
use lib.Seq.{slice, length-take-le}
use borrow.Author.Tests.{leb-true, leb-false, le-leb, lt-leb}
use Rattle.algebra.specs.Reduction.{multiples}
use Rattle.lists.specs.Tabulate.{tabulate}
use Rattle.algebra.specs.Matrix.{vector}
use Rattle.sparse.specs.Matrix.{Compressed, compressed, matrix}
use Rattle.sparse.specs.Dense.{nonzeros}
use Rattle.factor_reduce.specs.Gathering.{MultiplesGathered}
use Rattle.factor_reduce.specs.Needs.{GatherReady}
use Rattle.factor_reduce.proofs.Remainder.{gathered-ext}
use Rattle.factor_reduce.specs.declared.gather.Gathered.{Gathered}
use Rattle.factor_row.specs.Gathering.{reduction_by, cut, RowGathered}
use Rattle.factor_row.specs.Needs.{GatherRowReady, GatherReadyFrom}
use Rattle.factor_row.proofs.LoadedRows.{loaded-long, loaded-cell, upper-loaded}

-- n entries fit from place l on, where those up to `total` are counted, exactly if all are no more than the lists hold
pub same-room : (l total n room : ℕ) → total ≤ room → leb (l + n) (l + (room - total)) ≡ leb (total + n) room
same-room l total n room h = go (leb (total + n) room) refl
  where
    go : (t : Bool) → leb (total + n) room ≡ t → leb (l + n) (l + (room - total)) ≡ t
    go true e = le-leb (l + n) (l + (room - total)) (omega (arith, leb-true (total + n) room e))
    go false e = lt-leb (l + n) (l + (room - total)) (omega (arith, leb-false (total + n) room e))

module _ (p i l total : ℕ) (A : Compressed) (C : List ℕ) (U : Compressed) (w lc lv : List ℕ) (h : GatherRowReady p i l total A C U w lc lv)
    (w₁ : List ℕ) (e : w₁ ≡ tabulate (length w) (matrix A i)) where
  pub gather-ready : (limit : ℕ) → l ≤ limit → limit ≤ length lc → GatherReady p C U l limit w₁ lc lv
  gather-ready limit low high =
      record {
        upper = upper-loaded p i A C U w h.row w₁ e;
        narrow = h.narrow;
        lists = record { place = low; room = high; paired = h.paired };
      }

  pub gathered-done : (limit : ℕ) → limit ≡ l + (length lc - total) → (lc' lv' w₂ : List ℕ) (g : Gathered)
      → MultiplesGathered p (length w₁) C U (λ j. get_or w₁ j 0 % p) l limit lc lv lc' lv' w₂ g.over g.next
      → RowGathered p l total (reduction_by p (length w) (length C) C U (matrix A i)) lc lv lc' lv' w₂ g
  gathered-done limit el lc' lv' w₂ g d =
      record {
        fit = sym (ap (leb (l + count)) el ∙ same-room l total count (length lc) h.room) ∙ q.fit;
        stored = q.stored;
        remainder = λ o. record { long = (q.remainder o).long ∙ long; cells = λ j b. (q.remainder o).cells j (omega (arith, long)) };
        below = λ o. (q.remainder o).below;
      }
    where
      count : ℕ
      count = length (nonzeros (multiples p (length C) (vector C) (matrix U) (matrix A i)))

      long : length w₁ ≡ length w
      long = loaded-long p i A C U w h.row w₁ e

      q : MultiplesGathered p (length w₁) C U (matrix A i) l limit lc lv lc' lv' w₂ g.over g.next
      q =
          gathered-ext p (length w₁) C U (λ j. get_or w₁ j 0 % p) (matrix A i) (upper-loaded p i A C U w h.row w₁ e).columns.below (loaded-cell p i A C U w h.row w₁ e)
          l limit lc lv lc' lv' w₂ g.over g.next d

-- ---- by lists that are cut first

module _ (p i r at l total : ℕ) (A : Compressed) (columns us uc uv w lc lv : List ℕ) (h : GatherReadyFrom p i r at l total A columns us uc uv w lc lv)
    (C us₁ uc₁ uv₁ : List ℕ) (eC : C ≡ slice 0 r columns) (es : us₁ ≡ slice 0 (r + 1) us) (ec : uc₁ ≡ slice 0 at uc) (ev : uv₁ ≡ slice 0 at uv) where
  pub cut-ready : GatherRowReady p i l total A C (compressed us₁ uc₁ uv₁) w lc lv
  cut-ready = rw (eC, es, ec, ev) h.row

  pub cut-done : (lc' lv' w₂ : List ℕ) (g : Gathered)
      → RowGathered p l total (reduction_by p (length w) (length C) C (compressed us₁ uc₁ uv₁) (matrix A i)) lc lv lc' lv' w₂ g
      → RowGathered p l total (reduction_by p (length w) r (take r columns) (cut r at us uc uv) (matrix A i)) lc lv lc' lv' w₂ g
  cut-done lc' lv' w₂ g d =
      subst (λ (n : ℕ). RowGathered p l total (reduction_by p (length w) n (take r columns) (cut r at us uc uv) (matrix A i)) lc lv lc' lv' w₂ g)
      (length-take-le r columns h.rank)
      (rw (eC, es, ec, ev) at d)
