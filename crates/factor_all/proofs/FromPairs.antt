-- Factoring from given pairs: what the first pass leaves serves the second, and both ways out leave the outcome.
use mathlib.Core.Path.{◌≡◌, refl, sym, ap, ◌∙◌}
use mathlib.Core.Bool.{true, false}
use mathlib.Core.List.{List, ◌++◌, map}
use Prim.Native.Nat.{ℕ, ◌+◌, ◌<◌, ◌^◌}
use native.Mathlib.Omega.{arith}
use lib.ListN.{length, length-append, length-map}
use Rattle.lists.specs.Filled.{zeros, filled}
use Rattle.lists.proofs.Filled.{filled-whole, cleared-filled}
use Rattle.refusals.specs.Table.{storage_too_short}
use Rattle.refusals.specs.Outcome.{Passed, Refused}
use Rattle.sparse.specs.Matrix.{Compressed, matrix}
use Rattle.sparse.specs.Set.{Storage}
use Rattle.sparse.specs.Dense.{compress}
use Rattle.sparse.proofs.Rows.{form-below}
use Rattle.elimination.specs.Structural.{Pair}
use Rattle.elimination.specs.Pivots.{Found, columns_of, uppers_of, rank_of, turns}
use Rattle.lists.specs.Rest.{rest}
use Rattle.elimination.specs.Factoring.{schedule, nothing, rows_of, factored, factor_from}
use Rattle.elimination.specs.Invariant.{Invariant}
use Rattle.elimination.proofs.RowsFound.{rows-length, rows-permutation}
use Rattle.elimination.proofs.Schedule.{schedule-holds}
use Rattle.elimination.proofs.Order.{rows-rising}
use Rattle.factor_row.proofs.Storage.{FilledWith, holds-filled}
use Rattle.factor_turn.specs.State.{pivot_rows}
use Rattle.factor_turn.specs.Passing.{pairs_of, PassLeaves}
use Rattle.factor_turn.specs.declared.turn.Pass.{Pass}
use Rattle.factor_turn.proofs.Steps.{entries-values}
use Rattle.factor_turn.proofs.Schedules.{pairs-many}
use Rattle.factor_turn.proofs.Sizes.{columns-distinct, rank_most, lowers-fit}
use Rattle.factor_passes.specs.Completing.{FoundFrom, CompletedFor, Completes}
use Rattle.factor_passes.specs.Needs.{FromReady, CompleteReady}
use Rattle.factor_passes.proofs.WorkingRow.{KeptLengths, lists-formed, lists-small, lists-same, zeros-self}
use Rattle.factor_all.specs.Factorization.{refusal, done, factoring_from, Leaves}
use Rattle.factor_all.specs.Needs.{AllClear, factoring_in}

whole-filled : (l xs : List ℕ) → l ≡ xs → l ≡ filled (length l) xs
whole-filled l xs e = e ∙ sym (filled-whole (length l) xs (ap length (sym e)))

-- ---- refused

pub leaves-refused : (k d : ℕ) (S : Storage) → AllClear S → Leaves (refusal k d) (record { outcome = Refused k d; rank = 0; structural = 0 }) S
leaves-refused k d S h =
    record {
      outcome = refl;
      number = refl;
      detail = refl;
      rank = refl;
      structural = refl;
      R = cleared-filled S.R h.R-clear;
      C = cleared-filled S.C h.C-clear;
      L-starts = cleared-filled S.L.starts h.L-clear.starts;
      L-columns = cleared-filled S.L.cols h.L-clear.columns;
      L-values = cleared-filled S.L.vals h.L-clear.values;
      U-starts = cleared-filled S.U.starts h.U-clear.starts;
      U-columns = cleared-filled S.U.cols h.U-clear.columns;
      U-values = cleared-filled S.U.vals h.U-clear.values;
      work = h.w-clear;
    }

-- ---- the set of what was found

leaves-done : (s m r : ℕ) (f : Found) (S : Storage) → r ≡ rank_of f → CompletedFor f m S.R S.C S.L → FilledWith (compress (uppers_of f)) S.U → S.work ≡ zeros (length S.work)
    → Leaves (done s (factored m f)) (record { outcome = Passed; rank = r; structural = s }) S
unfolding factored
leaves-done s m r f S er h u z =
    record {
      outcome = refl;
      number = refl;
      detail = refl;
      rank = er;
      structural = refl;
      R = whole-filled S.R (rows_of f) h.rows;
      C = whole-filled S.C (columns_of f ++ rest (columns_of f) m) h.columns;
      L-starts = h.lower.starts;
      L-columns = h.lower.columns;
      L-values = h.lower.values;
      U-starts = u.starts;
      U-columns = u.columns;
      U-values = u.values;
      work = z;
    }

module _ (p s : ℕ) (A : Compressed) (S : Storage) (h : FromReady p s A S) where
  abbrev n : ℕ
  n = length S.R

  abbrev m : ℕ
  m = length S.C

  abbrev pairs : List Pair
  pairs = pairs_of s S.R S.C

  abbrev f : Found
  f = turns p m (matrix A) nothing (schedule n pairs)

  -- the number of pairs fits 32 bits
  pub from-pairs : s < 2 ^ 32
  from-pairs = omega (arith, h.lists.n-narrow, h.rows_inside)

  small : (i j : ℕ) → i < n → j < m → matrix A i j < p
  small i j a b = form-below p m A.starts A.cols A.vals (lists-formed p A S h.lists) i j (omega (arith, h.lists.lent.prime.two))

  holds : Invariant p n m (matrix A) f
  holds = schedule-holds p n m (matrix A) h.lists.lent.prime small pairs h.pairs

  -- the pivots and the dependent rows are all rows
  all-rows : rank_of f + length f.dependents ≡ n
  unfolding rows_of
  all-rows =
      omega (
        arith,
        rows-length p n m (matrix A) pairs h.pairs,
        length-append (map (λ q. q.row) f.pivots) (map (λ d. d.row) f.dependents),
        length-map f.pivots (λ q. q.row),
        length-map f.dependents (λ d. d.row),
      )

  module _ (S₁ : Storage) (to : Pass) (q : PassLeaves p s m A S S₁ to) where
    pub from-refused : to.progress.over ≡ true → (S₂ : Storage) → AllClear S₂
        → Leaves (factoring_in p s A S) (record { outcome = Refused storage_too_short to.stop; rank = 0; structural = 0 }) S₂
    unfolding factoring_from
    from-refused e S₂ z = rw (q.stopped e) (leaves-refused storage_too_short to.stop S₂ z)

    module _ (e : to.progress.over ≡ false) where
      -- where the first pass kept every length
      module _ (k : KeptLengths S S₁) where
        found : FoundFrom S₁.R S₁.C S₁.L to.progress.r to.progress.l to.progress.total f
        unfolding pivot_rows
        found =
            record {
              pivots = (q.state e).rows;
              columns = (q.state e).columns;
              distinct = rw k.C-long (columns-distinct p n m (matrix A) f holds);
              rows = rw k.R-long (rows-rising p m (matrix A) n pairs);
              many = rows-length p n m (matrix A) pairs h.pairs ∙ sym k.R-long;
              order = rw k.R-long (rows-permutation p n m (matrix A) pairs h.pairs);
              lower = record {
                rank = (q.state e).rank;
                pivot-entries = (q.state e).pivot-entries;
                L-entries = (q.state e).L-entries;
                lower = (q.state e).lower;
                whole = omega (arith, (q.state e).rank, all-rows, k.ls-long, h.lists.lent.L-starts);
                paired = k.lc-long ∙ h.lists.lent.L-paired ∙ sym k.lv-long;
                fits = omega (arith, (q.state e).L-entries, lowers-fit p n m (matrix A) f holds (omega (arith, all-rows)) (lists-small p A S h.lists));
              };
            }

        pub from-complete : CompleteReady S₁.R S₁.C S₁.L S₁.work to.progress.r to.progress.l to.progress.total
        from-complete =
            let lists = lists-same p A S S₁ k (zeros-self S₁.work (length S.work) (q.clear e)) h.lists in
            record { n-narrow = lists.n-narrow; m-narrow = lists.m-narrow; n-fits = lists.n-fits; m-fits = lists.m-fits; clear = lists.clear; f = f; from = found }

        pub from-done : (S₂ : Storage) → S₂.U ≡ S₁.U
            → Completes S₁.R S₁.C S₁.L S₁.work S₂.R S₂.C S₂.L S₂.work to.progress.r to.progress.l to.progress.total
            → Leaves (factoring_in p s A S) (record { outcome = Passed; rank = to.progress.r; structural = s }) S₂
        unfolding factoring_from factor_from
        from-done S₂ same d =
            rw (q.fitted e, pairs-many s S.R S.C h.rows_inside h.columns-inside)
            (leaves-done s m to.progress.r f S₂ (q.state e).rank (rw k.C-long at (d.completed f found)) (rw same upper)
            (zeros-self S₂.work (length S₁.work) d.clear))
          where
            upper : FilledWith (compress (uppers_of f)) S₁.U
            upper = holds-filled (uppers_of f) to.progress.at S₁.U (q.state e).upper ((q.state e).U-entries ∙ entries-values (uppers_of f))

      pub from-rank : to.progress.r < 2 ^ 32
      from-rank = omega (arith, h.lists.m-narrow, (q.state e).rank, rank_most p n m (matrix A) f holds)
