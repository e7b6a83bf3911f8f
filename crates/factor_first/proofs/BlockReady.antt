-- Where the lists and the block hold what was found, the next row can be taken in the block.
use mathlib.Core.Path.{◌≡◌, refl, sym, ap, ◌∙◌, subst, subst₂}
use mathlib.Core.List.{List, []}
use Prim.Native.Nat.{ℕ, ◌+◌, ◌-◌, ◌≤◌, ◌<◌}
use native.Mathlib.Omega.{arith}
use lib.ListN.{length, get_or, take, drop, take-append-drop}
use lib.Seq.{get_or-take, take-take}
use Rattle.algebra.specs.Matrix.{vector}
use Rattle.sparse.specs.Matrix.{Compressed, matrix}
use Rattle.sparse.specs.Set.{storage_of}
use Rattle.sparse.specs.Dense.{compress}
use Rattle.sparse.proofs.DenseLaws.{compress-matrix}
use Rattle.elimination.specs.Pivots.{Found, columns_of, uppers_of, upper_of, rank_of}
use Rattle.elimination.specs.Factoring.{entries}
use Rattle.elimination.proofs.Room.{entries-append}
use Rattle.elimination.specs.Invariant.{Echelon}
use Rattle.elimination.proofs.Invariant.{uppers-many}
use Rattle.factor_row.specs.Gathering.{cut}
use Rattle.factor_row.specs.Entries.{entry_lists_of}
use Rattle.factor_row.specs.Needs.{GatherReadyFrom}
use Rattle.factor_dense.specs.Block.{LeftColumns, BlockHolds, Upper}
use Rattle.factor_dense.specs.Needs.{DenseReady}
use Rattle.factor_dense.proofs.Growing.{holds_same}
use Rattle.factor_turn.specs.declared.turn.Progress.{Progress}
use Rattle.factor_turn.specs.State.{State}
use Rattle.factor_turn.proofs.Readiness.{cut-found, rows-ready, rank-fits, lists-ready}
use Rattle.factor_first.specs.Needs.{DenseTurnReady}
use Rattle.factor_first.proofs.FirstRows.{cut-first, echelon-first}

-- the rows of U, as the block wants them
echelon-upper : (p m : ℕ) (cs : List ℕ) (us : List (List ℕ)) → 2 ≤ p → Echelon p m cs us → Upper p m (length cs) (vector cs) (matrix (compress us))
echelon-upper p m cs us two e =
    record {
      positive = omega arith;
      inside = λ k h. (e.rows k (omega (arith, e.as_many))).inside;
      residues = λ k j h. rw (compress-matrix us k j) ((e.rows k (omega (arith, e.as_many))).residues j);
      left = λ k j l h. compress-matrix us k (get_or cs j 0) ∙ (e.rows k (omega (arith, e.as_many))).left j l;
      unit = λ k h. compress-matrix us k (get_or cs k 0) ∙ (e.rows k (omega (arith, e.as_many))).unit;
    }

module _ (p i s first width : ℕ) (js ks : List ℕ) (block : List (List ℕ)) (A : Compressed) (R C : List ℕ) (L U : Compressed) (w : List ℕ) (from : Progress)
    (h : DenseTurnReady p i s first width js ks block A (storage_of R C L U w) from) where
  abbrev r : ℕ
  r = from.r

  abbrev at : ℕ
  at = from.at

  abbrev l : ℕ
  l = from.l

  abbrev total : ℕ
  total = from.total

  abbrev f : Found
  f = h.turn.f

  abbrev held : State f R C L U r at l total from.d
  held = h.turn.state

  abbrev m : ℕ
  m = length w

  low : s ≤ r
  low = omega (arith, h.state.low, held.rank)

  ranked : r ≤ length C
  ranked = rank-fits p A R C L U w h.turn.lent r at l total from.d f h.turn.holds held

  few : s ≤ length (uppers_of f)
  few = omega (arith, h.state.low, uppers-many f)

  all-cut : cut r at U.starts U.cols U.vals ≡ compress (uppers_of f)
  all-cut = cut-found f R C L U r at l total from.d held

  first-cut : cut s first U.starts U.cols U.vals ≡ compress (take s (uppers_of f))
  first-cut = cut-first (uppers_of f) at U held.upper s first few h.state.start

  -- reduced by the first s rows of U
  row-ready : GatherReadyFrom p i s first l total A C U.starts U.cols U.vals w L.cols L.vals
  row-ready = let lists = lists-ready p i _ A R C L U w from h.turn in
      rows-ready p A R C L U w h.turn.lent (take s (columns_of f)) (take s (uppers_of f)) (echelon-first p m (columns_of f) (uppers_of f) s few h.turn.holds.echelon) s first
      (sym (take-take s r C low) ∙ ap (take s) held.columns) first-cut (omega (arith, low, ranked)) (omega (arith, low, h.turn.more)) entries-inside i l total L.cols L.vals h.turn.row
      h.turn.lent.L-paired lists.L-place h.turn.L-room
    where
      entries-inside : first ≤ length U.cols
      entries-inside =
          omega (
            arith,
            h.state.start,
            entries-append (take s (uppers_of f)) (drop s (uppers_of f)),
            ap entries (take-append-drop s (uppers_of f)),
            held.U-entries,
            h.turn.U-room,
          )

  -- which are the first of all
  same_rows : (k j : ℕ) → k < s → matrix (cut s first U.starts U.cols U.vals) k j ≡ matrix (cut r at U.starts U.cols U.vals) k j
  same_rows k j b =
      ap (λ (u : Compressed). matrix u k j) first-cut
      ∙ compress-matrix (take s (uppers_of f)) k j
      ∙ ap (λ (row : List ℕ). get_or row j 0) (get_or-take s (uppers_of f) k [] b)
      ∙ sym (compress-matrix (uppers_of f) k j)
      ∙ ap (λ (u : Compressed). matrix u k j) (sym all-cut)

  upper-rows : Upper p m r (vector (take r C)) (matrix (cut r at U.starts U.cols U.vals))
  upper-rows =
      subst₂ (λ (c : List ℕ) (u : Compressed). Upper p m r (vector c) (matrix u)) (sym held.columns) (sym all-cut)
      (subst (λ (k : ℕ). Upper p m k (vector (columns_of f)) (matrix (compress (uppers_of f)))) (let e : length (columns_of f) ≡ r = omega (arith, held.rank, uppers-many f, h.turn.holds.echelon.as_many) in e)
      (echelon-upper p m (columns_of f) (uppers_of f) h.turn.lent.prime.two h.turn.holds.echelon))

  left-columns : LeftColumns m s (vector (take r C)) width (vector js)
  left-columns = rw held.columns h.state.left

  block-holds : BlockHolds s (r - s) width (vector js) (vector ks) (vector (take r C)) (matrix (cut r at U.starts U.cols U.vals)) block
  block-holds =
      subst₂ (λ (c : List ℕ) (u : Compressed). BlockHolds s (r - s) width (vector js) (vector ks) (vector c) (matrix u) block) (sym held.columns) (sym all-cut)
      (subst (λ (k : ℕ). BlockHolds s (k - s) width (vector js) (vector ks) (vector (columns_of f)) (matrix (compress (uppers_of f))) block) (sym held.rank)
      (holds_same s (rank_of f - s) width (vector js) (vector ks) (vector (columns_of f)) (vector (columns_of f)) (upper_of f) (matrix (compress (uppers_of f))) block (λ t b. refl)
      (λ t j b. sym (compress-matrix (uppers_of f) (s + t) j)) h.state.holds))

  pub dense-ready : DenseReady p i s first r at l total A C U.starts js width ks block w (entry_lists_of L.cols L.vals U.cols U.vals)
  dense-ready =
      record {
        prime = h.turn.lent.prime;
        low = low;
        rows = h.rows;
        narrow = h.narrow;
        ranked = ranked;
        row = row-ready;
        lists = lists-ready p i _ A R C L U w from h.turn;
        same = same_rows;
        upper = upper-rows;
        left = left-columns;
        holds = block-holds;
      }
