-- All open columns, in a working row that may be longer than needed, are `open_columns`.
use mathlib.Core.Path.{◌≡◌, refl, sym, ap, ◌∙◌}
use mathlib.Core.List.{List, ◌++◌}
use Prim.Native.Nat.{ℕ}
use native.Mathlib.Omega.{arith}
use lib.ListN.{length, take, drop}
use lib.Seq.{length-take-le}
use Rattle.lists.specs.Tabulate.{tabulate}
use Rattle.lists.proofs.Tabulate.{length-tabulate}
use Rattle.algebra.specs.Matrix.{vector}
use Rattle.sparse.specs.Matrix.{Compressed, matrix}
use Rattle.sparse.specs.Set.{set_of, Set}
use Rattle.row_space.specs.Solve.{lowest_of, open_columns}
use Rattle.answer_question.specs.Needs.{SetReady}
use Rattle.answer_question.proofs.AnswerLaws.{zeros-take, cleared, restored}
use Rattle.answer_open.specs.Opening.{open_cell, ColumnsListed, AllColumns}
use Rattle.answer_open.specs.Needs.{EchelonPassed, PivotsReady, ColumnsReady}

-- a set that is ready to answer has a U that is ready
pub set-factor : (p n m : ℕ) (s : Set) → SetReady p n m s → EchelonPassed p s.r s.U s.C m
set-factor p n m s d =
    record {
      prime = d.prime;
      formed = d.U-form;
      rows = omega (arith, d.long-U);
      columns = d.columns;
      long = d.long-C;
      rank = d.rank-columns;
      shaped = d.U-shape;
    }

-- the cells depend on r, C and U only
pub cells-columns : (p m r : ℕ) (R C : List ℕ) (L U : Compressed) → tabulate m (open_cell p m (vector C) (matrix U) r) ≡ open_columns p m (set_of r R C L U)
unfolding open_cell open_columns lowest_of
cells-columns p m r R C L U = refl

module _ (p r : ℕ) (U : Compressed) (C o₀ w₀ : List ℕ) (d : ColumnsReady p r U C o₀ w₀) where
  pub row-part : length (take (length o₀) w₀) ≡ length o₀
  row-part = length-take-le (length o₀) w₀ d.room

  pub columns-ready : PivotsReady p r U C o₀ (take (length o₀) w₀)
  columns-ready = record { factor = d.factor; narrow = d.narrow; long = sym row-part; clear = cleared (take (length o₀) w₀) (length o₀) (zeros-take (length o₀) w₀ d.room d.clear) }

  pub columns-done : (o part : List ℕ) → length part ≡ length (take (length o₀) w₀) → ColumnsListed (tabulate (length o₀) (open_cell p (length o₀) (vector C) (matrix U) r)) o part
      → AllColumns p r C U o (part ++ drop (length o₀) w₀)
  columns-done o part long a =
      record {
        list = λ R L.
            a.list ∙ cells-columns p (length o₀) r R C L U
            ∙ ap (λ (m : ℕ). open_columns p m (set_of r R C L U)) (sym (ap length a.list ∙ length-tabulate (length o₀) (open_cell p (length o₀) (vector C) (matrix U) r)));
        row = cleared (part ++ drop (length o₀) w₀) (length w₀) (restored (length o₀) w₀ part d.room d.clear (long ∙ row-part) a.row ∙ d.clear);
      }
