-- One multiple of a row of U taken away from the working row, with its columns marked.
use mathlib.Core.Path.{◌≡◌, refl, sym, ap, ◌∙◌}
use mathlib.Core.Bool.{Bool}
use mathlib.Core.List.{List}
use Prim.Native.Nat.{ℕ, ◌+◌, ◌*◌, ◌%◌, ◌<◌}
use native.Mathlib.Nat.{zero-mod, mul-zero}
use native.Mathlib.Decide.{ℕ_discrete}
use native.Mathlib.Omega.{arith}
use lib.ListN.{length, get_or, set, length-set}
use lib.Seq.{get_or-set_same, get_or-set_other}
use Rattle.algebra.specs.Congruence.{◌≈⟨◌⟩◌}
use Rattle.algebra.specs.Matrix.{Vector}
use Rattle.algebra.proofs.Congruence.{exact, turn, ◌⊙◌, ◌⊕◌, same-mod}
use Rattle.residue.specs.Arithmetic.{Residue}
use Rattle.sparse.specs.Row.{Row, Below}
use Rattle.sparse.specs.Matrix.{Compressed, matrix, row_of}
use Rattle.sparse.specs.WorkingRow.{SubtractedTo, GrownBy, growth, GrowMatrixReady}
use Rattle.sparse.proofs.Entries.{row-columns, entry_absent}
use Rattle.sparse.proofs.Rows.{form-row, form-starts}
use Rattle.sparse.proofs.Subtraction.{below_set}
use Rattle.factor_touch.specs.Touched.{Noted}
use Rattle.factor_reduce.specs.InPlace.{MultipleTaken}
use Rattle.factor_marked.specs.Marking.{residues, cell_bound, StillZero, MultipleMarked}
use Rattle.factor_marked.specs.Needs.{NoteRowReady, MultipleReady}
use Rattle.factor_marked.proofs.Residues.{residues-long, residue-at, residue-twice, residues-small, bound-square, bound-next, bound-later, bound-positive, bound-room}
use Rattle.factor_marked.proofs.Marked.{Touches, note-ready, marks-cleared, marks-noted}

-- the multiple is taken away, and the cell that it came from is cleared: the row is 1 there, so that nothing remains
residues-taken : (p c x : ℕ) (u : Vector) (w₀ w : List ℕ) → 0 < p → c < length w₀ → u c ≡ 1 → Residue p (get_or w₀ c 0 % p) x → length w ≡ length w₀
    → ((j : ℕ) → j < length w₀ → get_or w j 0 + x * u j ≈⟨ p ⟩ get_or w₀ j 0) → MultipleTaken p c u (residues p w₀) (residues p (set w c 0)) x
residues-taken p c x u w₀ w pos h unit e long cells =
    record {
      multiple = record { value = e.value ∙ sym (residue-twice p w₀ pos c h); below = e.below };
      long = residues-long p (set w c 0) ∙ length-set w c 0 ∙ long ∙ sym (residues-long p w₀);
      below = residues-small p (set w c 0) pos;
      cells = λ j g. cell j (omega (arith, g, residues-long p w₀)) (ℕ_discrete j c);
    }
  where
    now : (j : ℕ) → j < length w₀ → get_or (residues p (set w c 0)) j 0 ≡ get_or (set w c 0) j 0 % p
    now j g = residue-at p (set w c 0) j (omega (arith, g, length-set w c 0, long))

    cell : (j : ℕ) → j < length w₀ → Dec (j ≡ c) → get_or (residues p (set w c 0)) j 0 + x * u j ≈⟨ p ⟩ get_or (residues p w₀) j 0
    cell j g (yes q) =
        rw q (exact (omega (arith, now c h, cleared, ap (λ (z : ℕ). x * z) unit, e.value, residue-at p w₀ c h)))
      where
        cleared : get_or (set w c 0) c 0 % p ≡ 0
        cleared = ap (λ (z : ℕ). z % p) (get_or-set_same w c 0 0 (omega (arith, h, long))) ∙ zero-mod p
    cell j g (no q) =
        (exact (now j g ∙ ap (λ (z : ℕ). z % p) (get_or-set_other w c j 0 0 q)) ⊙ same-mod (get_or w j 0)) ⊕ exact refl
        ⊙ (cells j g ⊙ turn (same-mod (get_or w₀ j 0)) ⊙ exact (sym (residue-at p w₀ j g)))

-- a cell that is 0 stays 0 where another is cleared
still-cleared : (u : Vector) (c : ℕ) (w₀ w : List ℕ) → c < length w → StillZero u w₀ w → StillZero u w₀ (set w c 0)
still-cleared u c w₀ w h s j b e z = go (ℕ_discrete j c)
  where
    go : Dec (j ≡ c) → get_or (set w c 0) j 0 ≡ 0
    go (yes q) = rw q (get_or-set_same w c 0 0 h)
    go (no q) = get_or-set_other w c j 0 0 q ∙ s j b e z

module _ (p k c : ℕ) (U : Compressed) (place touched pending w : List ℕ) (full : Bool) (h : MultipleReady p k c U place touched pending w full) where
  row : Row p (length w) (row_of U.starts k U.cols) (row_of U.starts k U.vals)
  row = form-row p (length w) U.starts U.cols U.vals h.formed k

  pub row-noted : NoteRowReady full k U.starts U.cols place touched pending
  row-noted =
      record {
        inside = h.inside;
        lies = form-starts p (length w) U.starts U.cols U.vals h.formed k h.inside;
        note = note-ready place touched pending w full h.marks (row_of U.starts k U.cols) h.narrow h.long h.places
            (row-columns p (length w) (row_of U.starts k U.cols) (row_of U.starts k U.vals) row);
      }

  module _ (x : ℕ) (e : Residue p (get_or w c 0 % p) x) where
    pub row-takeable : (x ≡ 0 → ⊥) → GrowMatrixReady p k x U w
    row-takeable some =
        record { formed = h.formed; inside = h.inside; residue = e.below; some = go (ℕ_discrete x 0); room = λ small. bound-room p w k h.few small h.below }
      where
        go : Dec (x ≡ 0) → 0 < x
        go (yes z) = absurd (some z)
        go (no z) = omega arith

    bounded : (w₁ : List ℕ) → Below (cell_bound p (k + 1)) w₁ → Below (cell_bound p (k + 1)) (set w₁ c 0)
    bounded w₁ b = below_set (cell_bound p (k + 1)) w₁ c 0 b (bound-positive p (k + 1) h.positive)

    -- 0 times a row is nothing
    pub none-taken : x ≡ 0 → MultipleMarked p k c (matrix U k) place w touched pending (set w c 0) x full
    none-taken z =
        record {
          taken = residues-taken p c x (matrix U k) w w h.positive h.column h.unit e refl
              (λ j g. exact (omega (arith, ap (λ (y : ℕ). y * matrix U k j) z)));
          below = bounded w (bound-later p w k (k + 1) (omega arith) h.below);
          cleared = get_or-set_same w c 0 0 h.column;
          still = still-cleared (matrix U k) c w w h.column (λ j b o y. y);
          marks = marks-cleared place touched pending w full h.marks c;
        }

    pub some-taken : (touched' pending' w₁ : List ℕ) (full' : Bool) → Noted (row_of U.starts k U.cols) place touched pending touched' pending' full' → GrownBy p (growth p) (λ j. x * matrix U k j) w w₁
        → MultipleMarked p k c (matrix U k) place w touched' pending' (set w₁ c 0) x full'
    some-taken touched' pending' w₁ full' n grown =
        record {
          taken = residues-taken p c x (matrix U k) w w₁ h.positive h.column h.unit e s.long s.cells;
          below = bounded w₁ (rw (sym (bound-next p k)) s.below);
          cleared = get_or-set_same w₁ c 0 0 inside;
          still = still-cleared (matrix U k) c w w₁ inside kept;
          marks = marks-cleared place touched' pending' w₁ full' (marks-noted place touched pending w full h.marks (row_of U.starts k U.cols) touched' pending' w₁ full' s.long touched-only n) c;
        }
      where
        s : SubtractedTo p (cell_bound p k + growth p) (λ j. x * matrix U k j) w w₁
        s = grown (cell_bound p k) (bound-square p k) h.below

        inside : c < length w₁
        inside = omega (arith, h.column, s.long)

        kept : StillZero (matrix U k) w w₁
        kept j g o z = s.kept j g (ap (λ (y : ℕ). x * y) o ∙ mul-zero x) ∙ z

        touched-only : Touches (row_of U.starts k U.cols) w w₁
        touched-only j g absent = kept j g (entry_absent (row_of U.starts k U.cols) (row_of U.starts k U.vals) j absent)

-- the same of lists that are known by other names
pub marked-as : (p k c : ℕ) (u : Vector) (place w₀ touched touched' pending pending' w w' : List ℕ) (x : ℕ) (full full' : Bool) → touched ≡ touched' → pending ≡ pending' → w ≡ w' → full ≡ full'
    → MultipleMarked p k c u place w₀ touched' pending' (set w' c 0) x full' → MultipleMarked p k c u place w₀ touched pending (set w c 0) x full
marked-as p k c u place w₀ touched touched' pending pending' w w' x full full' et ep ew ef d = rw (et, ep, ew, ef) d
