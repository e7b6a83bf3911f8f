-- What the tests hand on to one another: lengths, and the working row.
use mathlib.Core.Path.{◌≡◌, sym, ap, ◌∙◌}
use mathlib.Core.Bool.{true}
use mathlib.Core.List.{List, ◌++◌}
use Prim.Native.Nat.{ℕ, ◌≤◌}
use native.Mathlib.Omega.{arith}
use lib.ListN.{length, take, drop, take-append-drop}
use lib.Seq.{length-take-le}
use Rattle.lists.specs.Filled.{zeros}
use Rattle.lists.proofs.Bools.{and_left}
use Rattle.lists.proofs.Filled.{take-zeros}
use Rattle.sparse.specs.Matrix.{Compressed, form}
use Rattle.sparse.specs.Set.{Set}
use Rattle.pluq.specs.Order.{permutation, below, distinct}
use Rattle.pluq.proofs.Orders.{below_at}
use Rattle.check_set.specs.Needs.{Judgeable, Checkable}

-- the first m cells of the working row are what the factors are judged with
pub judgeable : (p n m : ℕ) (A : Compressed) (s : Set) (w w' : List ℕ) → w' ≡ w → permutation s.R ≡ true → permutation s.C ≡ true → s.r ≤ n → s.r ≤ m
    → Checkable p n m A s w → Judgeable p n m A s (take m w')
unfolding permutation
judgeable p n m A s w w' q e f g h c =
    let long : length (take m w') ≡ m = length-take-le m w' (omega (arith, ap length q, c.columns-fit)) in
    record {
      positive = c.positive;
      A-form = ap (λ (k : ℕ). form p k A) long ∙ c.A-form;
      A-rows = c.A-rows;
      order = c.order;
      inside = λ i b. rw (← c.order) (below_at (length s.R) s.R (and_left (below (length s.R) s.R) (distinct s.R) e) i b);
      columns = c.columns;
      places = λ i b. omega (arith, long, c.columns, below_at (length s.C) s.C (and_left (below (length s.C) s.C) (distinct s.C) f) i b);
      L-rows = c.L-rows;
      U-rows = c.U-rows;
      rank-rows = g;
      rank-columns = h;
      wide = long;
      cleared = ap (take m) (q ∙ c.cleared) ∙ take-zeros m (length w) c.columns-fit ∙ ap zeros (sym long);
    }

-- the working row put together again
pub whole_again : (m : ℕ) (w w' part : List ℕ) → w' ≡ w → part ≡ take m w' → part ++ drop m w' ≡ w
whole_again m w w' part q e = ap (λ (l : List ℕ). l ++ drop m w') e ∙ take-append-drop m w' ∙ q
