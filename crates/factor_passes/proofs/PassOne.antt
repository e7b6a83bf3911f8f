-- The first pass: R is completed to the schedule, and C where the block needs it, then every row is taken.
use mathlib.Core.Path.{◌≡◌, refl, sym, ap, ◌∙◌, subst₂}
use mathlib.Core.List.{List, ◌++◌}
use Prim.Native.Nat.{ℕ, ◌+◌, ◌≤◌}
use native.Mathlib.Omega.{arith}
use lib.ListN.{length, take, drop, length-append, length-drop}
use lib.Seq.{length-take-le}
use Rattle.lists.specs.Filled.{zeros}
use Rattle.algebra.specs.Matrix.{Distinct, vector}
use Rattle.sparse.specs.Matrix.{Compressed, matrix}
use Rattle.sparse.specs.Set.{Storage, storage_of}
use Rattle.elimination.proofs.Selected.{pairs-columns}
use Rattle.factor_order.specs.Needs.{Completable}
use Rattle.factor_order.specs.Completion.{Completed}
use Rattle.factor_turn.specs.Passing.{pairs_in, pairs_of, PassLeaves}
use Rattle.factor_turn.specs.Needs.{Lent, PassReady}
use Rattle.factor_turn.specs.declared.turn.Pass.{Pass}
use Rattle.factor_turn.proofs.Schedules.{rows_are, columns-are, pairs-many}
use Rattle.factor_passes.specs.Completing.{ColumnsCompleted}
use Rattle.factor_passes.specs.Needs.{FromReady}
use Rattle.factor_passes.proofs.Orders.{distinct-front, distinct-cut, front_kept, order-long, order-completed}
use Rattle.factor_passes.proofs.WorkingRow.{part-clear, whole_again, orders-same}

-- ---- C, completed or left as it is

pub columns-same : (n s : ℕ) (C w : List ℕ) → Completable s C w → (n ≤ s + 32 → length C ≤ s + 32 → ⊥) → ColumnsCompleted n s C C w
columns-same n s C w h many = record { order = λ a b. absurd (many a b); front = refl; long = refl; cleared = h.marks }

pub columns-completed : (n s : ℕ) (C w C₁ marks : List ℕ) → Completable s C w → Completed s C C₁ marks → ColumnsCompleted n s C C₁ marks
columns-completed n s C w C₁ marks h c =
    record {
      order = λ a b. order-completed s C h.inside C₁ marks c distinct;
      front = front_kept s C h.inside C₁ marks c;
      long = order-long s C h.inside C₁ marks c distinct;
      cleared = c.cleared;
    }
  where
    distinct : Distinct s (length C) (vector (take s C))
    distinct = distinct-cut s (length C) C h.distinct

-- ---- the pass

module _ (p s : ℕ) (A : Compressed) (S : Storage) (h : FromReady p s A S) where
  abbrev n : ℕ
  n = length S.R

  abbrev m : ℕ
  m = length S.C

  -- the pairs' rows and columns are distinct
  R-distinct : Distinct s n (vector (take s S.R))
  R-distinct =
      subst₂ (λ (k : ℕ) (l : List ℕ). Distinct k n (vector l)) (pairs-many s S.R S.C h.rows_inside h.columns-inside) (rows_are s S.R S.C h.rows_inside h.columns-inside) h.pairs.rows

  C-distinct : Distinct s m (vector (take s S.C))
  C-distinct =
      subst₂ (λ (k : ℕ) (l : List ℕ). Distinct k m (vector l)) (pairs-many s S.R S.C h.rows_inside h.columns-inside) (columns-are s S.R S.C h.rows_inside h.columns-inside)
      (pairs-columns n m (matrix A) (pairs_of s S.R S.C) h.pairs)

  pub rows-part : n ≡ length (take n S.work)
  rows-part = sym (length-take-le n S.work h.lists.n-fits)

  pub one-rows : Completable s S.R (take n S.work)
  one-rows =
      record {
        inside = h.rows_inside;
        narrow = omega (arith, h.lists.n-narrow);
        distinct = distinct-front s n (take s S.R) S.R refl R-distinct;
        marks = part-clear S.work h.lists.clear n h.lists.n-fits;
      }

  module _ (R₁ marks₁ : List ℕ) (cr : Completed s S.R R₁ marks₁) where
    -- the working row is as it was
    abbrev w₁ : List ℕ
    w₁ = marks₁ ++ drop n S.work

    first-again : w₁ ≡ S.work
    first-again = whole_again S.work h.lists.clear n h.lists.n-fits marks₁ cr.cleared

    pub R-kept : length R₁ ≡ n
    R-kept = order-long s S.R h.rows_inside R₁ marks₁ cr R-distinct

    pub columns-fit : m ≤ length w₁
    columns-fit = omega (arith, ap length first-again, h.lists.m-fits)

    pub columns-part : m ≡ length (take m w₁)
    columns-part = sym (length-take-le m w₁ columns-fit)

    pub one-columns : Completable s S.C (take m w₁)
    one-columns =
        record {
          inside = h.columns-inside;
          narrow = omega (arith, h.lists.m-narrow);
          distinct = distinct-front s m (take s S.C) S.C refl C-distinct;
          marks = ap (take m) first-again ∙ part-clear S.work h.lists.clear m h.lists.m-fits;
        }

    module _ (C₁ marks₂ : List ℕ) (cc : ColumnsCompleted n s S.C C₁ marks₂) where
      abbrev w₂ : List ℕ
      w₂ = marks₂ ++ drop m w₁

      again : w₂ ≡ S.work
      again = ap (λ (x : List ℕ). marks₂ ++ drop m x) first-again ∙ whole_again S.work h.lists.clear m h.lists.m-fits marks₂ cc.cleared

      pub C-kept : length C₁ ≡ m
      C-kept = cc.long

      pub last_fit : m ≤ length w₂
      last_fit = omega (arith, ap length again, h.lists.m-fits)

      pub last-part : m ≡ length (take m w₂)
      last-part = sym (length-take-le m w₂ last_fit)

      pub last-long : (part : List ℕ) → length part ≡ length (take m w₂) → length (part ++ drop m w₂) ≡ length S.work
      last-long part e = omega (arith, last-part, length-append part (drop m w₂), length-drop m w₂, last_fit, ap length again)

      same-pairs : pairs_of s R₁ C₁ ≡ pairs_of s S.R S.C
      same-pairs = λ t. pairs_in (front_kept s S.R h.rows_inside R₁ marks₁ cr t) (cc.front t)

      lent : Lent p A (storage_of R₁ C₁ S.L S.U (take m S.work))
      lent = rw C-kept at (orders-same p A S R₁ C₁ R-kept C-kept h.lists).lent

      pub one-pass : PassReady p s A (storage_of R₁ C₁ S.L S.U (take m w₂))
      one-pass =
          rw again (record {
            lent = lent;
            rows_inside = omega (arith, R-kept, h.rows_inside);
            columns-inside = omega (arith, C-kept, h.columns-inside);
            pairs = rw (R-kept, length-take-le m S.work h.lists.m-fits, same-pairs) h.pairs;
            narrow = omega (arith, length-take-le m S.work h.lists.m-fits, h.lists.m-narrow);
            order = order-completed s S.R h.rows_inside R₁ marks₁ cr R-distinct;
            columns-order = λ a b. cc.order (omega (arith, R-kept)) (omega (arith, length-take-le m S.work h.lists.m-fits));
            L-clear = h.L-clear;
            U-clear = h.U-clear;
          })

      one-clear : (part : List ℕ) → part ≡ zeros (length (take m w₂)) → part ++ drop m w₂ ≡ zeros (length S.work)
      one-clear part e =
          ap (λ (x : List ℕ). part ++ drop m x) again
          ∙ whole_again S.work h.lists.clear m h.lists.m-fits part (e ∙ ap zeros (sym last-part))
          ∙ h.lists.clear

      pub one-passed : (S' : Storage) (to : Pass) → PassLeaves p s (length (take m w₂)) A (storage_of R₁ C₁ S.L S.U (take m w₂)) S' to
          → PassLeaves p s m A S (storage_of S'.R S'.C S'.L S'.U (S'.work ++ drop m w₂)) to
      one-passed S' to q =
          record {
            stopped = rw (sym last-part, R-kept, same-pairs) at q.stopped;
            fitted = rw (sym last-part, R-kept, same-pairs) at q.fitted;
            state = rw (sym last-part, R-kept, same-pairs) at q.state;
            clear = λ e. one-clear S'.work (q.clear e);
          }
