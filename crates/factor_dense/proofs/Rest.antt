-- The columns that are no structural pivots are the landed `rest`.
use mathlib.Core.Path.{sym, ◌∙◌}
use mathlib.Core.Logic.{inl, inr, ⊎_elim}
use mathlib.Core.List.{List}
use Prim.Native.Nat.{ℕ}
use lib.ListN.{length}
use Rattle.lists.proofs.Bools.{or_cases}
use Rattle.algebra.specs.Matrix.{vector}
use Rattle.lists.specs.Tests.{among}
use Rattle.lists.specs.Rest.{rest}
use Rattle.algebra.proofs.Completion.{completed-among, rest-each, rest-rising}
use Rattle.algebra.proofs.Listed.{among-append, among-place}
use Rattle.factor_dense.specs.Block.{LeftColumns}

pub rest-left : (C : List ℕ) (m : ℕ) → LeftColumns m (length C) (vector C) (length (rest C m)) (vector (rest C m))
rest-left C m =
    record {
      inside = rest-each C m;
      rising = rest-rising C m;
      covers = λ j h.
          ⊎_elim (λ e. inl (among-place C j e)) (λ e. inr (among-place (rest C m) j e))
          (or_cases (among j C) (among j (rest C m)) (sym (among-append C (rest C m) j) ∙ completed-among C m j h));
    }
