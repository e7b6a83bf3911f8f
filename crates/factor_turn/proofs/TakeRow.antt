-- A row that was taken can be entered or its row of L kept, and what is left when that is done is a turn.
use mathlib.Core.Path.{◌≡◌, refl, sym, ap, ◌∙◌}
use mathlib.Core.Bool.{Bool, true, false}
use mathlib.Core.List.{List}
use Prim.Native.Nat.{ℕ, ◌+◌, ◌*◌, ◌^◌, ◌≤◌, ◌<◌}
use native.Mathlib.Nat.{mul-le-mul_right}
use native.Mathlib.Decide.{ℕ_discrete}
use native.Mathlib.Omega.{arith}
use lib.ListN.{length, get_or, set}
use lib.Seq.{drop-set-lt, set-get_or}
use Rattle.sparse.specs.Matrix.{Compressed, compressed, matrix}
use Rattle.sparse.specs.Set.{storage_of}
use Rattle.elimination.specs.Pivots.{Found, rank_of, turn}
use Rattle.elimination.specs.Invariant.{Invariant}
use Rattle.factor_row.specs.Gathering.{as_it_stands, cut}
use Rattle.factor_row.specs.Entries.{entry_lists_of}
use Rattle.factor_row.specs.Taking.{RowFound}
use Rattle.factor_row.specs.declared.pivot_row.Step.{Step}
use Rattle.factor_turn.specs.declared.turn.Progress.{Progress}
use Rattle.factor_turn.specs.State.{turn_of}
use Rattle.factor_turn.specs.Keeping.{KeepReady, Kept}
use Rattle.factor_turn.specs.Turning.{turn_reduction, progress_of, Settled, TurnLeaves}
use Rattle.factor_turn.specs.Needs.{Enterable, SettleReady, TurnReady}
use Rattle.factor_turn.proofs.Sizes.{rank_most, U-most, L-most, lowers-fit}
use Rattle.factor_turn.proofs.Readiness.{turn_holds}
use Rattle.factor_turn.proofs.TurnedRows.{turned-over, count-found, dependents-found, keep-found, turned-kept, column-inside, rank-found, at-found, l-found, turned-enters}

module _ (p i : ℕ) (paired : Bool) (A : Compressed) (R C : List ℕ) (L U : Compressed) (w : List ℕ) (from : Progress) (h : TurnReady p i paired A (storage_of R C L U w) from)
    (lc lv uc uv work : List ℕ) (step : Step) where
  abbrev r : ℕ
  r = from.r

  abbrev at : ℕ
  at = from.at

  abbrev l : ℕ
  l = from.l

  abbrev total : ℕ
  total = from.total

  abbrev d : ℕ
  d = from.d

  abbrev over : Bool
  over = step.over

  abbrev column : ℕ
  column = step.column

  abbrev at' : ℕ
  at' = step.at

  abbrev l' : ℕ
  l' = step.l

  abbrev total' : ℕ
  total' = step.total

  abbrev m : ℕ
  m = length w

  abbrev cut_u : Compressed
  cut_u = cut r at U.starts U.cols U.vals

  paired-inside : paired ≡ true → get_or C r 0 < m
  paired-inside e = (h.pair e).column

  -- taken as it stands, with column C[r], is taken as a pair
  pub pair_found : paired ≡ true → (c : ℕ) → c ≡ get_or C r 0 → RowFound p at l total (as_it_stands m r c (matrix A i)) (entry_lists_of L.cols L.vals U.cols U.vals) (entry_lists_of lc lv uc uv) work step
      → RowFound p at l total (turn_reduction p m paired r C cut_u (matrix A i)) (entry_lists_of L.cols L.vals U.cols U.vals) (entry_lists_of lc lv uc uv) work step
  pair_found q c ec t = rw (q, sym ec) t

  module _ (t : RowFound p at l total (turn_reduction p m paired r C cut_u (matrix A i)) (entry_lists_of L.cols L.vals U.cols U.vals) (entry_lists_of lc lv uc uv) work step) where
    more : r + d + 1 < length L.starts
    more = omega (arith, h.more, h.lent.L-starts)

    row-over : over ≡ true → (L' U' : Compressed) (to : Progress) → to.over ≡ true → TurnLeaves p i paired A (storage_of R C L U w) (storage_of R C L' U' work) from to
    row-over e L' U' to q =
        record {
          turned = λ f s. turned-over p m (matrix A) i paired f R C L U r at l total d s paired-inside h.lent.L-paired h.lent.U-paired h.U-room lc lv uc uv work step t e (storage_of R C L' U' work) to q;
          ahead = refl;
          columns = λ z. refl;
        }

    -- it is dependent
    module _ (e : over ≡ false) (none : column ≡ m) where
      total-fits : total' < 2 ^ 32
      total-fits =
          omega (
            arith,
            count-found p m (matrix A) i paired h.f R C L U r at l total d h.state paired-inside h.lent.L-paired h.lent.U-paired h.U-room lc lv uc uv work step t e none more,
            lowers-fit p (length R) m (matrix A) (turn p m (matrix A) h.f (turn_of paired i (get_or C r 0))) (turn_holds p i paired A R C L U w from h)
                (omega (arith, h.more, dependents-found p m (matrix A) i paired h.f R C L U r at l total d h.state paired-inside h.lent.L-paired h.lent.U-paired h.U-room lc lv uc uv work step t e none more)) h.lent.small,
          )

      keepable : KeepReady l' total total' (d + 1) L.starts lc lv
      keepable = keep-found p m (matrix A) i paired h.f R C L U r at l total d h.state paired-inside h.lent.L-paired h.lent.U-paired h.U-room lc lv uc uv work step t e none more total-fits

      row_kept : (ls lc' lv' : List ℕ) → Kept l' total total' (d + 1) L.starts lc lv ls lc' lv'
          → TurnLeaves p i paired A (storage_of R C L U w) (storage_of R C (compressed ls lc' lv') (compressed U.starts uc uv) work) from (progress_of step r (d + 1))
      row_kept ls lc' lv' k =
          record {
            turned = λ f s. turned-kept p m (matrix A) i paired f R C L U r at l total d s paired-inside h.lent.L-paired h.lent.U-paired h.U-room lc lv uc uv work step t e none more ls lc' lv' k;
            ahead = refl;
            columns = λ z. refl;
          }

    -- it is a pivot row
    module _ (fitted : over ≡ false) (apart : ¬ (column ≡ m)) where
      abbrev found : Found
      found = turn p m (matrix A) h.f (turn_of paired i (get_or C r 0))

      holds : Invariant p (length R) m (matrix A) found
      holds = turn_holds p i paired A R C L U w from h

      column-below : column < m
      column-below = column-inside p m (matrix A) i paired h.f R C L U r at l total d h.state paired-inside h.lent.L-paired h.lent.U-paired h.U-room lc lv uc uv work step t fitted apart

      rank_is : r + 1 ≡ rank_of found
      rank_is = rank-found p m (matrix A) i paired h.f R C L U r at l total d h.state paired-inside h.lent.L-paired h.lent.U-paired h.U-room lc lv uc uv work step t fitted apart

      bounded : rank_of found * m < 2 ^ 32
      bounded = let le : rank_of found ≤ length R = omega (arith, rank_is, h.more) in omega (arith, h.lent.small, mul-le-mul_right {m = rank_of found} {n = length R} m le)

      at-fits : at' < 2 ^ 32
      at-fits = omega (
        arith,
        bounded,
        U-most p (length R) m (matrix A) found holds,
        at-found p m (matrix A) i paired h.f R C L U r at l total d h.state paired-inside h.lent.L-paired h.lent.U-paired h.U-room lc lv uc uv work step t fitted apart,
      )

      l-fits : l' < 2 ^ 32
      l-fits = omega (
        arith,
        bounded,
        L-most p (length R) m (matrix A) found holds,
        l-found p m (matrix A) i paired h.f R C L U r at l total d h.state paired-inside h.lent.L-paired h.lent.U-paired h.U-room lc lv uc uv work step t fitted apart,
      )

      rank-inside : r < length C
      rank-inside = omega (arith, rank_is, rank_most p (length R) m (matrix A) found holds, h.lent.columns)

      -- it can be entered
      enterable : Enterable step r R C L.starts U.starts
      enterable =
          record {
            column = omega (arith, column-below, h.lent.m-narrow);
            U-end = at-fits;
            L-end = l-fits;
            rows = omega (arith, h.more);
            columns = rank-inside;
            L-starts = omega (arith, h.more, h.lent.L-starts);
            U-starts = omega (arith, h.more, h.lent.U-starts);
          }

      row-enters : TurnLeaves p i paired A (storage_of R C L U w) (storage_of (set R r i) (set C r column) (compressed (set L.starts (r + 1) l') lc lv) (compressed (set U.starts (r + 1) at') uc uv) work) from
          (progress_of step (r + 1) d)
      row-enters =
          record {
            turned = λ f s. turned-enters p m (matrix A) i paired f R C L U r at l total d s paired-inside h.lent.L-paired h.lent.U-paired h.U-room lc lv uc uv work step t fitted apart
                (omega (arith, h.more)) rank-inside more (omega (arith, h.more, h.lent.U-starts));
            ahead = drop-set-lt (r + 1) R r i (omega arith);
            columns = λ q. ap (set C r) (t.column fitted ∙ own q) ∙ set-get_or C r 0;
          }
        where
          own : paired ≡ true → (turn_reduction p m paired r C cut_u (matrix A i)).column ≡ get_or C r 0
          own q = rw q

    pub settle-ready : (wide : ℕ) → wide ≡ m → SettleReady step from wide R C (compressed L.starts lc lv) U.starts
    settle-ready wide ew = rw ew (record { kept = keepable; entered = enterable })

    -- it is entered, or its row of L is kept, or its entries did not fit
    pub row_settled : (wide : ℕ) → wide ≡ m → (R' C' : List ℕ) (L' : Compressed) (us' : List ℕ) (to : Progress) → Settled step i from wide R C (compressed L.starts lc lv) U.starts R' C' L' us' to
        → TurnLeaves p i paired A (storage_of R C L U w) (storage_of R' C' L' (compressed us' uc uv) work) from to
    row_settled wide ew R' C' L' us' to s = go over refl (ℕ_discrete column m)
      where
        go : (b : Bool) → over ≡ b → Dec (column ≡ m) → TurnLeaves p i paired A (storage_of R C L U w) (storage_of R' C' L' (compressed us' uc uv) work) from to
        go true e c = let g = s.over e in rw (g.1, g.2) (row-over e L' (compressed us' uc uv) to g.0)
        go false e (yes c) = let g = s.dependent e (c ∙ sym ew) in rw (g.0, g.1, g.2, g.4) (row_kept e c L'.starts L'.cols L'.vals g.3)
        go false e (no c) = let g = s.pivot e (λ z. c (z ∙ ew)) in rw (g.0, g.1, g.2, g.3, g.4) (row-enters e c)
