-- After the pass: R and C are completed, and L's lists turned round.
use mathlib.Core.Path.{◌≡◌, sym, ap, ◌∙◌, subst}
use mathlib.Core.List.{List, ◌++◌}
use Prim.Native.Nat.{ℕ, ◌≤◌, ◌<◌}
use native.Mathlib.Omega.{arith}
use lib.ListN.{length, get_or, take, drop, length-append, length-map, get_or-append}
use lib.Seq.{length-take-le}
use Rattle.algebra.specs.Matrix.{Distinct, vector}
use Rattle.sparse.specs.Matrix.{Compressed}
use Rattle.elimination.specs.Pivots.{Found, columns_of, rank_of}
use Rattle.lists.specs.Rest.{rest}
use Rattle.elimination.specs.Factoring.{rows_of}
use Rattle.algebra.proofs.Completion.{completed-length}
use Rattle.elimination.proofs.Invariant.{columns-many}
use Rattle.factor_order.specs.Needs.{Completable}
use Rattle.factor_order.specs.Completion.{Completed}
use Rattle.factor_turn.specs.State.{pivot_rows}
use Rattle.factor_turn.specs.Keeping.{FillFrom, FillDone}
use Rattle.factor_passes.specs.Completing.{FoundFrom, Completes}
use Rattle.factor_passes.specs.Needs.{CompleteReady}
use Rattle.factor_passes.proofs.Orders.{distinct-front}
use Rattle.factor_passes.proofs.WorkingRow.{part-clear, whole_again}

pivot-rows-many : (f : Found) → length (pivot_rows f) ≡ rank_of f
unfolding pivot_rows
pivot-rows-many f = length-map f.pivots (λ q. q.row)

-- ---- of one f

module _ (R C : List ℕ) (L : Compressed) (r l total : ℕ) (f : Found) (g : FoundFrom R C L r l total f) where
  abbrev n : ℕ
  n = length R

  abbrev m : ℕ
  m = length C

  -- C with the other columns has as many as there are
  columns-long : length (columns_of f ++ rest (columns_of f) m) ≡ m
  columns-long = completed-length (columns_of f) m (rw (columns-many f) g.distinct)

  columns-inside : r ≤ m
  columns-inside = omega (arith, g.lower.rank, columns-many f, columns-long, length-append (columns_of f) (rest (columns_of f) m))

  C-distinct : Distinct r m (vector C)
  C-distinct = distinct-front r m (columns_of f) C g.columns (rw g.lower.rank g.distinct)

  rows_inside : r ≤ n
  rows_inside = omega (arith, g.lower.rank, pivot-rows-many f, g.many, ap length g.rows, length-append (pivot_rows f) (rest (pivot_rows f) n))

  R-distinct : Distinct r n (vector R)
  R-distinct = distinct-front r n (pivot_rows f) R g.pivots (record {
    below = λ a b. subst (λ (x : ℕ). x < n) (here a b) (g.order.below a (omega (arith, rows_inside)));
    apart = λ a b x y e. g.order.apart a b (omega (arith, rows_inside)) (omega (arith, rows_inside)) (here a x ∙ e ∙ sym (here b y));
  })
    where
      here : (a : ℕ) → a < r → get_or (rows_of f) a 0 ≡ get_or (pivot_rows f) a 0
      here a b = ap (λ (z : List ℕ). get_or z a 0) g.rows ∙ get_or-append (pivot_rows f) (rest (pivot_rows f) n) 0 a (omega (arith, pivot-rows-many f, g.lower.rank))

  module _ (C₁ marks₁ : List ℕ) (cc : Completed r C C₁ marks₁) where
    C₁-is : C₁ ≡ columns_of f ++ rest (columns_of f) m
    C₁-is = cc.order ∙ ap (λ (z : List ℕ). z ++ rest z m) g.columns

  module _ (R₁ marks₂ : List ℕ) (cr : Completed r R R₁ marks₂) where
    R₁-is : R₁ ≡ rows_of f
    R₁-is = cr.order ∙ ap (λ (z : List ℕ). z ++ rest z n) g.pivots ∙ sym g.rows

-- ---- the calls

module _ (R C : List ℕ) (L : Compressed) (w : List ℕ) (r l total : ℕ) (h : CompleteReady R C L w r l total) where
  pub columns-part : length C ≡ length (take (length C) w)
  columns-part = sym (length-take-le (length C) w h.m-fits)

  pub two-columns : Completable r C (take (length C) w)
  two-columns =
      record {
        inside = columns-inside R C L r l total h.f h.from;
        narrow = omega (arith, h.m-narrow);
        distinct = C-distinct R C L r l total h.f h.from;
        marks = part-clear w h.clear (length C) h.m-fits;
      }

  module _ (C₁ marks₁ : List ℕ) (cc : Completed r C C₁ marks₁) where
    abbrev w₁ : List ℕ
    w₁ = marks₁ ++ drop (length C) w

    first-again : w₁ ≡ w
    first-again = whole_again w h.clear (length C) h.m-fits marks₁ cc.cleared

    pub rows-part : length R ≡ length (take (length R) w₁)
    rows-part = sym (length-take-le (length R) w₁ (omega (arith, ap length first-again, h.n-fits)))

    pub two-rows : Completable r R (take (length R) w₁)
    two-rows =
        record {
          inside = rows_inside R C L r l total h.f h.from;
          narrow = omega (arith, h.n-narrow);
          distinct = R-distinct R C L r l total h.f h.from;
          marks = ap (take (length R)) first-again ∙ part-clear w h.clear (length R) h.n-fits;
        }

    module _ (R₁ marks₂ : List ℕ) (cr : Completed r R R₁ marks₂) where
      pub two-done : (L' : Compressed) → ((f : Found) → FillFrom f L r l total → FillDone f L') → Completes R C L w R₁ C₁ L' (marks₂ ++ drop (length R) w₁) r l total
      two-done L' d =
          record {
            completed = λ f g. record { rows = R₁-is R C L r l total f g R₁ marks₂ cr; columns = C₁-is R C L r l total f g C₁ marks₁ cc; lower = d f g.lower };
            clear = ap (λ (x : List ℕ). marks₂ ++ drop (length R) x) first-again ∙ whole_again w h.clear (length R) h.n-fits marks₂ cr.cleared ∙ h.clear;
          }
