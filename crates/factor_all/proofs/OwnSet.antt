-- The engine's own set is the definition's, so that it has the published shape and the product A, and its rank is the rank.
use mathlib.Core.Path.{◌≡◌, refl, sym, ap, subst, ◌∙◌}
use mathlib.Core.Bool.{true}
use mathlib.Core.List.{List}
use mathlib.Core.Option.{Option, none, some}
use Prim.Native.Nat.{ℕ, ◌+◌, ◌-◌, ◌<◌}
use native.Mathlib.Omega.{arith}
use lib.ListN.{length, get_or, take, get_or-append}
use Rattle.lists.specs.Filled.{zeros, filled}
use Rattle.lists.proofs.Filled.{filled-cut}
use Rattle.refusals.specs.Refusals.{number_of}
use Rattle.algebra.specs.Prime.{Prime}
use Rattle.algebra.specs.Rank.{Rank}
use Rattle.sparse.specs.Matrix.{Compressed, matrix, form}
use Rattle.sparse.specs.Set.{Set, set_of, Storage}
use Rattle.sparse.specs.Dense.{compress}
use Rattle.sparse.proofs.DenseLaws.{Lengths, compress-lengths}
use Rattle.pluq.specs.Judge.{Passes}
use Rattle.elimination.specs.Selection.{structural}
use Rattle.elimination.specs.Factoring.{schedule, nothing, first_over, factored, factor_from, factor, lowers_of}
use Rattle.elimination.specs.Pivots.{Found, uppers_of, turns}
use Rattle.elimination.proofs.Theorem.{StoredFactors, factor-stored, factor-rank}
use Rattle.factor_all.specs.Factorization.{Factorization, done, unless_over, factoring_from, factoring, Leaves}
use Rattle.factor_all.specs.OwnSet.{rows_in, own_set}
use Rattle.factor_all.specs.Factored.{Factored}

-- ---- lists that are filled, cut to what they are filled with

filled_at : (n k : ℕ) (xs : List ℕ) → k < length xs → get_or (filled n xs) k 0 ≡ get_or xs k 0
unfolding filled
filled_at n k xs h = get_or-append xs (zeros (n - length xs)) 0 k h

-- the stored form of k rows
rows_cut : (rows : List (List ℕ)) (k : ℕ) → length rows ≡ k → (h : Compressed) → h.starts ≡ filled (length h.starts) (compress rows).starts
    → h.cols ≡ filled (length h.cols) (compress rows).cols → h.vals ≡ filled (length h.vals) (compress rows).vals → rows_in k h ≡ compress rows
unfolding compress
rows_cut rows k e h ss cs vs t = record { starts = starts t; cols = columns t; vals = values t }
  where
    n : Lengths rows
    n = compress-lengths rows

    starts : take (k + 1) h.starts ≡ (compress rows).starts
    starts = ap (take (k + 1)) ss ∙ filled-cut (length h.starts) (k + 1) (compress rows).starts (n.starts-are ∙ ap (λ (j : ℕ). j + 1) e)

    last : get_or h.starts k 0 ≡ length (compress rows).vals
    last =
        ap (λ (l : List ℕ). get_or l k 0) ss
        ∙ filled_at (length h.starts) k (compress rows).starts (omega (arith, n.starts-are))
        ∙ ap (λ (j : ℕ). get_or (compress rows).starts j 0) (sym e)
        ∙ n.last-start

    columns : take (get_or h.starts k 0) h.cols ≡ (compress rows).cols
    columns = ap (take (get_or h.starts k 0)) cs ∙ filled-cut (length h.cols) (get_or h.starts k 0) (compress rows).cols (n.paired ∙ sym last)

    values : take (get_or h.starts k 0) h.vals ≡ (compress rows).vals
    values = ap (take (get_or h.starts k 0)) vs ∙ filled-cut (length h.vals) (get_or h.starts k 0) (compress rows).vals (sym last)

-- ---- returned with 0: nothing overflowed

fitted : (o : Option ℕ) (d : Factorization) → number_of (unless_over o d).outcome ≡ 0 → unless_over o d ≡ d
fitted none d e = refl
fitted (some i) d e = absurd (omega arith)

module _ (p n m : ℕ) (A : Compressed) (prime : Prime p) (formed : form p m A ≡ true) (many : length A.starts ≡ n + 1) (roomL roomU : ℕ) (o : Factored) (S : Storage)
    (h : Leaves (factoring p n m A roomL roomU) o S) (zero : number_of o.outcome ≡ 0) where
  abbrev g : Set
  g = factor p n m A

  stored : StoredFactors p n m (matrix A) g
  stored = factor-stored p n m A prime formed many

  pub own-outcome : factoring p n m A roomL roomU ≡ done (length (structural A n m)) g
  unfolding factoring factoring_from factor
  own-outcome = fitted (first_over p m (matrix A) roomL roomU nothing (schedule n (structural A n m))) (done (length (structural A n m)) g) (sym h.number ∙ zero)

  leaves : Leaves (done (length (structural A n m)) g) o S
  leaves = rw own-outcome at h

  -- it is the definition's
  pub own-set : own_set n m o.rank S ≡ g
  unfolding factor factor_from factored
  own-set = λ t. set_of (leaves.rank t) (rows t) (columns t) (lower t) (upper t)
    where
      end : Found
      end = turns p m (matrix A) nothing (schedule n (structural A n m))

      rows : take n S.R ≡ g.R
      rows = ap (take n) leaves.R ∙ filled-cut (length S.R) n g.R stored.R-length

      columns : take m S.C ≡ g.C
      columns = ap (take m) leaves.C ∙ filled-cut (length S.C) m g.C stored.C-length

      lower : rows_in n S.L ≡ g.L
      lower = rows_cut (lowers_of end) n (omega (arith, stored.L-starts, (compress-lengths (lowers_of end)).starts-are)) S.L leaves.L-starts leaves.L-columns leaves.L-values

      upper : rows_in o.rank S.U ≡ g.U
      upper = rows_cut (uppers_of end) o.rank (omega (arith, leaves.rank, stored.U-starts, (compress-lengths (uppers_of end)).starts-are)) S.U leaves.U-starts leaves.U-columns leaves.U-values

  -- so it has the published shape and the product A
  pub own-set-passes : Passes p n m A (own_set n m o.rank S)
  own-set-passes = subst (Passes p n m A) (sym own-set) (record { L-form = stored.L-form; U-form = stored.U-form; factors = stored.factors })

  -- and the rank returned is the rank
  pub own-rank : Rank p n m (matrix A) o.rank
  own-rank = rw leaves.rank (factor-rank p n m A prime formed many)
