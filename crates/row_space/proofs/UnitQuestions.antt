-- A cell of `open_columns` says whether the unit vector of its column is in the row space.
use mathlib.Core.Path.{◌≡◌, ap, ◌∙◌}
use mathlib.Core.Logic.{◌⊎◌, inl, inr, ◌↔◌}
use mathlib.Core.Bool.{Bool, cond}
use Prim.Native.Nat.{ℕ, ◌≤◌, ◌<◌}
use native.Mathlib.Omega.{arith}
use lib.Dec.{leb}
use lib.ListN.{get_or}
use borrow.Author.Tests.{le-leb, lt-leb}
use Rattle.lists.proofs.Tabulate.{tabulate-at}
use Rattle.algebra.specs.Sum.{δ}
use Rattle.algebra.specs.Prime.{Prime}
use Rattle.algebra.specs.RowSpace.{InRowSpace}
use Rattle.algebra.specs.Reduction.{AllZero, Lowest}
use Rattle.algebra.proofs.Verdict.{verdict}
use Rattle.sparse.specs.Matrix.{Compressed, matrix}
use Rattle.sparse.specs.Set.{Set}
use Rattle.pluq.specs.Judge.{Passes}
use Rattle.row_space.specs.Solve.{remainder, lowest_of, open_columns}
use Rattle.row_space.proofs.Substitutions.{δ-small}
use Rattle.row_space.proofs.Solutions.{lowest-cases}

module _ {p : ℕ} (prime : Prime p) {n m : ℕ} {A : Compressed} {s : Set} (ok : Passes p n m A s) (j : ℕ) (inside : j < m) where
  abbrev Opens : Type 0
  Opens = InRowSpace p n m (matrix A) (δ j)

  exactly : AllZero m (remainder p s (δ j)) ↔ Opens
  exactly = verdict prime ok.factors (δ j) (λ t h. δ-small p prime.two j t)

  cell : get_or (open_columns p m s) j 0 ≡ cond (leb m (lowest_of m (remainder p s (δ j)))) 1 0
  unfolding open_columns
  cell = tabulate-at m (λ j. cond (leb m (lowest_of m (remainder p s (δ j)))) 1 0) j inside

  cases : ((get_or (open_columns p m s) j 0 ≡ 1) × Opens) ⊎ ((get_or (open_columns p m s) j 0 ≡ 0) × (¬ Opens))
  unfolding lowest_of AllZero
  cases = go (lowest-cases m (remainder p s (δ j)))
    where
      f : ℕ
      f = lowest_of m (remainder p s (δ j))

      mark : Bool → ℕ
      mark b = cond b 1 0

      go : ((m ≤ f) × AllZero m (remainder p s (δ j))) ⊎ ((f < m) × Lowest m (remainder p s (δ j)) f)
          → ((get_or (open_columns p m s) j 0 ≡ 1) × Opens) ⊎ ((get_or (open_columns p m s) j 0 ≡ 0) × (¬ Opens))
      go (inl (h, none)) = inl (cell ∙ ap mark (le-leb m f h), exactly.0 none)
      go (inr (h, low)) = inr (cell ∙ ap mark (lt-leb m f h), λ o. low.here (exactly.1 o f low.within))

  pub unit-open : (get_or (open_columns p m s) j 0 ≡ 1) ↔ InRowSpace p n m (matrix A) (δ j)
  unit-open = go cases
    where
      go : ((get_or (open_columns p m s) j 0 ≡ 1) × Opens) ⊎ ((get_or (open_columns p m s) j 0 ≡ 0) × (¬ Opens)) → (get_or (open_columns p m s) j 0 ≡ 1) ↔ Opens
      go (inl (e, o)) = (λ q. o, λ q. e)
      go (inr (e, o)) = (λ q. absurd (omega arith), λ q. absurd (o q))

  pub unit-closed : (get_or (open_columns p m s) j 0 ≡ 0) ↔ (¬ InRowSpace p n m (matrix A) (δ j))
  unit-closed = go cases
    where
      go : ((get_or (open_columns p m s) j 0 ≡ 1) × Opens) ⊎ ((get_or (open_columns p m s) j 0 ≡ 0) × (¬ Opens)) → (get_or (open_columns p m s) j 0 ≡ 0) ↔ (¬ Opens)
      go (inl (e, o)) = (λ q. absurd (omega arith), λ q. absurd (q o))
      go (inr (e, o)) = (λ q. o, λ q. e)
