-- The structural pivots of a well-formed matrix obey the five rules: `follows-rules`.
use Prim.Native.Nat.{ℕ, suc, ◌+◌, ◌<◌}
use mathlib.Core.Path.{◌≡◌, sym, subst}
use mathlib.Core.Bool.{true, false}
use mathlib.Core.Logic.{◌⊎◌}
use mathlib.Core.List.{List, [], ◌∷◌, ◌++◌}
use native.Mathlib.Numerals.{add-one}
use lib.ListN.{length}
use Rattle.sparse.specs.Matrix.{Compressed, matrix, form}
use Rattle.elimination.specs.Structural.{Pair}
use Rattle.elimination.specs.Pairs.{pair_rows}
use Rattle.lists.specs.Tests.{among}
use Rattle.elimination.specs.Selection.{nonzero, pair_at, extended_to, Takes, NoneLeft}
use Rattle.elimination.specs.Factoring.{factor}
use Rattle.elimination.specs.Rules.{pivots_to, FollowsRules}
use Rattle.elimination.proofs.Most.{extended-rule}
use Rattle.elimination.proofs.Selected.{structural-leading, structural-ordering, structural-only, structural-most}
use Rattle.elimination.proofs.Diagonal.{structural-diagonal}

-- what the turn of row i leads to
abbrev Turned : Compressed → ℕ → ℕ → ℕ → List Pair → Type 0
Turned A n m i qs =
    ((c : ℕ) × (c < m) × Takes (nonzero (matrix A)) (pivots_to A n m i) i c × (qs ≡ pivots_to A n m i ++ (pair_at i c ∷ [])))
    ⊎ (NoneLeft (nonzero (matrix A)) m (pivots_to A n m i) i × (qs ≡ pivots_to A n m i))

turned : (A : Compressed) (n m i : ℕ) → among i (pair_rows (pivots_to A n m i)) ≡ false → Turned A n m i (pivots_to A n m (suc i))
unfolding extended_to
turned A n m i e = extended-rule (nonzero (matrix A)) m (pivots_to A n m i) i e

pub follows-rules : (p n m : ℕ) (A : Compressed) → form p m A ≡ true → length A.starts ≡ n + 1 → FollowsRules p n m A
unfolding factor
follows-rules p n m A formed many =
    record {
      keeps = structural-leading p n m A formed many;
      takes = λ i e. subst (λ (k : ℕ). Turned A n m i (pivots_to A n m k)) (sym (add-one i)) (turned A n m i e);
      ordering = structural-ordering p n m A formed many;
      only = structural-only p n m A formed many;
      diagonal = structural-diagonal p n m A formed many;
      most = structural-most p n m A formed many;
    }
