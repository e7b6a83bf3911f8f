-- A row that was taken in the block can be entered or its row of L kept; what is left then is a turn, and the block holds what it finds.
use mathlib.Core.Path.{◌≡◌, refl, sym, ◌∙◌}
use mathlib.Core.Bool.{Bool, true, false, true≢false}
use mathlib.Core.List.{List}
use Prim.Native.Nat.{ℕ, ◌-◌, ◌<◌}
use native.Mathlib.Decide.{dec_lt}
use native.Mathlib.Omega.{arith}
use lib.ListN.{length, get_or, take, set}
use Rattle.algebra.specs.Matrix.{Vector}
use Rattle.sparse.specs.Matrix.{Compressed, compressed, matrix}
use Rattle.sparse.specs.Set.{storage_of}
use Rattle.elimination.specs.Pivots.{Found, other, turn}
use Rattle.factor_row.specs.Gathering.{Reduction, reduction_by, cut}
use Rattle.factor_row.specs.Entries.{entry_lists_of}
use Rattle.factor_dense.specs.declared.taking.DenseStep.{DenseStep}
use Rattle.factor_dense.specs.Turn.{DenseTaken}
use Rattle.factor_turn.specs.declared.turn.Progress.{Progress}
use Rattle.factor_turn.specs.State.{State}
use Rattle.factor_turn.specs.Turning.{Settled}
use Rattle.factor_turn.specs.Needs.{SettleReady}
use Rattle.factor_turn.proofs.TurnedRows.{dependent-is, pivot-is}
use Rattle.factor_turn.proofs.TakeRow.{settle-ready, row_settled}
use Rattle.factor_first.specs.Dense.{DenseState, DenseTurned}
use Rattle.factor_first.specs.Needs.{DenseTurnReady}
use Rattle.factor_first.proofs.BlockGrowth.{block-beside, block_more}

module _ (p i s first width : ℕ) (js ks : List ℕ) (block : List (List ℕ)) (A : Compressed) (R C : List ℕ) (L U : Compressed) (w : List ℕ) (from : Progress)
    (h : DenseTurnReady p i s first width js ks block A (storage_of R C L U w) from) (lc lv uc uv work : List ℕ) (o : DenseStep)
    (d : DenseTaken p from.at from.l from.total (reduction_by p (length w) from.r (take from.r C) (cut from.r from.at U.starts U.cols U.vals) (matrix A i)) width js
    (entry_lists_of L.cols L.vals U.cols U.vals) (entry_lists_of lc lv uc uv) work o) where
  abbrev r : ℕ
  r = from.r

  abbrev at : ℕ
  at = from.at

  abbrev l : ℕ
  l = from.l

  abbrev total : ℕ
  total = from.total

  abbrev m : ℕ
  m = length w

  abbrev cut_u : Compressed
  cut_u = cut r at U.starts U.cols U.vals

  abbrev reduction : Reduction
  reduction = reduction_by p m r (take r C) cut_u (matrix A i)

  abbrev cs : List ℕ
  cs = reduction.multiples

  abbrev rest : Vector
  rest = reduction.remainder

  abbrev c : ℕ
  c = reduction.column

  pub dense-settle : (wide : ℕ) → wide ≡ m → SettleReady o.step from wide R C (compressed L.starts lc lv) U.starts
  dense-settle = settle-ready p i false A R C L U w from h.turn lc lv uc uv work o.step d.taken

  -- the block with one row set
  block-after : o.step.over ≡ false → (f : Found) → State f R C L U r at l total from.d → DenseState s first width js ks block m f
      → DenseState s first width js (set ks (r - s) o.place) (set block (r - s) o.row) m (turn p m (matrix A) f (other i))
  block-after e f held g = go (dec_lt c m)
    where
      never : false ≡ true → get_or C r 0 < m
      never q = absurd (true≢false (sym q))

      go : Dec (c < m) → DenseState s first width js (set ks (r - s) o.place) (set block (r - s) o.row) m (turn p m (matrix A) f (other i))
      go (yes b) =
          rw (pivot-is p m (matrix A) i false f R C L U r at l total from.d held never b) (block_more s first width js ks block m f g r held.rank o.place o.row p i c cs rest (omega (arith, h.rows, h.ks-long)) (omega (arith, h.rows, h.block-long))
          (rw (sym (d.taken.column e)) (d.next e (omega (arith, d.taken.column e)))))
      go (no b) =
          rw (dependent-is p m (matrix A) i false f R C L U r at l total from.d held never (omega arith)) (block-beside s first width js ks block m f g r held.rank o.place o.row i cs)

  pub dense-turned : (wide : ℕ) → wide ≡ m → (R' C' : List ℕ) (L' : Compressed) (us' : List ℕ) (to : Progress) → Settled o.step i from wide R C (compressed L.starts lc lv) U.starts R' C' L' us' to
      → DenseTurned p i s first width js ks block A (storage_of R C L U w) (storage_of R' C' L' (compressed us' uc uv) work) from (record { progress = to; place = o.place; row = o.row })
  dense-turned wide ew R' C' L' us' to t =
      record {
        turned = row_settled p i false A R C L U w from h.turn lc lv uc uv work o.step d.taken wide ew R' C' L' us' to t;
        grown = λ e f held g. block-after (fitted o.step.over refl e) f held g;
      }
    where
      fitted : (b : Bool) → o.step.over ≡ b → to.over ≡ false → o.step.over ≡ false
      fitted true q e = absurd (true≢false (sym (t.over q).0 ∙ e))
      fitted false q e = q
