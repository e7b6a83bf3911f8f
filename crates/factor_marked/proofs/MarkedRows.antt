-- A row of the matrix is loaded, its columns are marked, and it is reduced.
use mathlib.Core.Path.{◌≡◌, ap, ◌∙◌}
use mathlib.Core.Bool.{Bool, false}
use mathlib.Core.List.{List}
use Prim.Native.Nat.{ℕ, ◌+◌, ◌-◌}
use native.Mathlib.Omega.{arith}
use lib.ListN.{length, get_or}
use Rattle.lists.specs.Tabulate.{tabulate}
use Rattle.lists.proofs.Tabulate.{tabulate-at}
use Rattle.sparse.specs.Row.{Row}
use Rattle.sparse.specs.Matrix.{Compressed, matrix, row_of}
use Rattle.sparse.proofs.Entries.{row-columns, entry_absent}
use Rattle.sparse.proofs.Rows.{form-row, form-starts}
use Rattle.factor_touch.specs.Touched.{Noted}
use Rattle.factor_reduce.specs.declared.gather.Gathered.{Gathered}
use Rattle.factor_row.specs.Gathering.{reduction_by}
use Rattle.factor_row.proofs.LoadedRows.{loaded-long}
use Rattle.factor_row.proofs.GatheredRows.{gather-ready, gathered-done}
use Rattle.factor_marked.specs.Marking.{residues, Marks, MultiplesMarked, RowMarked}
use Rattle.factor_marked.specs.Needs.{NoteRowReady, MarkedGatherReady, MarkedRowReady}
use Rattle.factor_marked.proofs.Marked.{Touches, note-ready, marks-noted, marks-none}

module _ (p i l total : ℕ) (A : Compressed) (C : List ℕ) (U : Compressed) (place touched w lc lv : List ℕ) (h : MarkedRowReady p i l total A C U place touched w lc lv) where
  abbrev cs : List ℕ
  cs = row_of A.starts i A.cols

  row : Row p (length w) cs (row_of A.starts i A.vals)
  row = form-row p (length w) A.starts A.cols A.vals h.row.row.row.formed i

  module _ (w₁ : List ℕ) (e : w₁ ≡ tabulate (length w) (matrix A i)) where
    long : length w₁ ≡ length w
    long = loaded-long p i A C U w h.row.row w₁ e

    -- the row is 0 outside its columns
    loaded : Touches cs w w₁
    loaded j g absent z =
        ap (λ (v : List ℕ). get_or v j 0) e ∙ tabulate-at (length w) (matrix A i) j g ∙ entry_absent cs (row_of A.starts i A.vals) j absent

    pub loaded-done : (limit : ℕ) → limit ≡ l + (length lc - total) → (touched'' w₂ lc' lv' : List ℕ) (g : Gathered) → MultiplesMarked p C U l limit w₁ lc lv touched'' w₂ lc' lv' g
        → RowMarked p l total (reduction_by p (length w) (length C) C U (matrix A i)) lc lv touched'' lc' lv' w₂ g
    loaded-done limit el touched'' w₂ lc' lv' g d =
        record {
          gathered = gathered-done p i l total A C U w lc lv h.row w₁ e limit el lc' lv' (residues p w₂) g d.gathered;
          covers = d.covers;
        }

  -- the columns of the row are marked
  module _ (pending : List ℕ) (longer : length pending ≡ 129) where
    unmarked : Marks place touched pending w false
    unmarked = marks-none place touched pending w h.blocks longer h.row.row.row.clear

    pub loaded-noted : NoteRowReady false i A.starts A.cols place touched pending
    loaded-noted =
        record {
          inside = h.row.row.row.inside;
          lies = form-starts p (length w) A.starts A.cols A.vals h.row.row.row.formed i h.row.row.row.inside;
          note = note-ready place touched pending w false unmarked cs h.narrow h.placed.long h.placed.inside (row-columns p (length w) cs (row_of A.starts i A.vals) row);
        }

    pub loaded-ready : (w₁ : List ℕ) → w₁ ≡ tabulate (length w) (matrix A i) → (limit : ℕ) → limit ≡ l + (length lc - total)
        → (touched' pending' : List ℕ) (full : Bool) → Noted cs place touched pending touched' pending' full → MarkedGatherReady p C U l limit place touched' pending' w₁ lc lv full
    loaded-ready w₁ e limit el touched' pending' full n =
        record {
          rows = gather-ready p i l total A C U w lc lv h.row w₁ e limit (omega arith) (omega (arith, h.row.place, h.row.room));
          placed = rw (long w₁ e) h.placed;
          narrow = omega (arith, h.narrow, long w₁ e);
          marks = marks-noted place touched pending w false unmarked cs touched' pending' w₁ full (long w₁ e) (loaded w₁ e) n;
        }
