-- What is not marked is 0: before a row is taken away, after it, and where a cell is cleared.
use mathlib.Core.Path.{◌≡◌, sym, ap, ◌∙◌}
use mathlib.Core.Bool.{Bool, false, true≢false}
use mathlib.Core.List.{List}
use Prim.Native.Nat.{ℕ, ◌≤◌, ◌<◌}
use native.Mathlib.Decide.{ℕ_discrete}
use native.Mathlib.Omega.{arith}
use lib.ListN.{length, get_or, set, length-set}
use lib.Seq.{get_or-set_same, get_or-set_other}
use Rattle.lists.specs.Filled.{zeros}
use Rattle.lists.proofs.Filled.{zeros-at}
use Rattle.sparse.specs.Row.{Below}
use Rattle.factor_touch.specs.Touched.{free_block, pivot_block, Covers, ColumnsMarked, NoteReady, Noted}
use Rattle.factor_touch.proofs.Marking.{free-inside}
use Rattle.factor_marked.specs.Marking.{Marks}

-- a row that is 0 wherever it was 0 and has none of the columns cs
abbrev pub Touches : List ℕ → List ℕ → List ℕ → Type 0
Touches cs w₀ w = (j : ℕ) → j < length w₀ → ((t : ℕ) → t < length cs → get_or cs t 0 ≡ j → ⊥) → get_or w₀ j 0 ≡ 0 → get_or w j 0 ≡ 0

covers-noted : (block : ℕ → ℕ) (cs marks₀ marks w₀ w : List ℕ) → length w ≡ length w₀ → Touches cs w₀ w → ColumnsMarked block cs marks₀ marks → Covers block marks₀ w₀ → Covers block marks w
covers-noted block cs marks₀ marks w₀ w long t m s j h e =
    t j (omega (arith, long)) (λ i b q. m.columns i b (ap (λ (c : ℕ). get_or marks (block c) 0) q ∙ e)) (s j (omega (arith, long)) (m.kept (block j) e))

covers-cleared : (block : ℕ → ℕ) (marks w : List ℕ) (c : ℕ) → Covers block marks w → Covers block marks (set w c 0)
covers-cleared block marks w c s j h e = go (ℕ_discrete j c)
  where
    inside : j < length w
    inside = omega (arith, h, length-set w c 0)

    go : Dec (j ≡ c) → get_or (set w c 0) j 0 ≡ 0
    go (yes q) = ap (λ (i : ℕ). get_or (set w c 0) i 0) q ∙ get_or-set_same w c 0 0 (omega (arith, inside, q))
    go (no q) = get_or-set_other w c j 0 0 q ∙ s j inside e

module _ (place touched pending w : List ℕ) (full : Bool) (s : Marks place touched pending w full) where
  -- the columns of a row of as many columns can be marked
  pub note-ready : (cs : List ℕ) → length w ≤ 2048 → length w ≤ length place → ((j : ℕ) → j < length w → get_or place j 0 ≤ 2048) → Below (length w) cs
      → NoteReady full cs place touched pending
  note-ready cs narrow long places low =
      record {
        cells = λ t h. omega (arith, free-inside place (get_or cs t 0) (omega (arith, narrow, low t h)), s.cell-blocks);
        places = λ t h. omega (arith, long, low t h);
        pivots = λ t h. omega (arith, places (get_or cs t 0) (low t h), s.pivot-blocks);
        all = s.all;
      }

  pub marks-cleared : (c : ℕ) → Marks place touched pending (set w c 0) full
  marks-cleared c =
      record {
        cells = covers-cleared (free_block place) touched w c s.cells;
        pivots = covers-cleared (pivot_block place) pending w c s.pivots;
        cell-blocks = s.cell-blocks;
        pivot-blocks = s.pivot-blocks;
        all = s.all;
      }

  pub marks-noted : (cs touched' pending' w' : List ℕ) (full' : Bool) → length w' ≡ length w → Touches cs w w' → Noted cs place touched pending touched' pending' full'
      → Marks place touched' pending' w' full'
  marks-noted cs touched' pending' w' full' long t n =
      record {
        cells = covers-noted (free_block place) cs touched touched' w w' long t n.cells s.cells;
        pivots = covers-noted (pivot_block place) cs pending pending' w w' long t n.pivots s.pivots;
        cell-blocks = n.cells.long ∙ s.cell-blocks;
        pivot-blocks = n.pivots.long ∙ s.pivot-blocks;
        all = n.all;
      }

-- before the first row nothing is marked that need be: the working row is all zero
pub marks-none : (place touched pending w : List ℕ) → length touched ≡ 129 → length pending ≡ 129 → w ≡ zeros (length w) → Marks place touched pending w false
marks-none place touched pending w long longer clear =
    record { cells = λ j h e. zero j; pivots = λ j h e. zero j; cell-blocks = long; pivot-blocks = longer; all = λ e. absurd (true≢false (sym e)) }
  where
    zero : (j : ℕ) → get_or w j 0 ≡ 0
    zero j = ap (λ (l : List ℕ). get_or l j 0) clear ∙ zeros-at (length w) j
