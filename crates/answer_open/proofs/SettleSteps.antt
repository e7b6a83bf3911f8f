-- The steps of the loops that keep the working row all zero.
use mathlib.Core.Path.{◌≡◌, sym, subst}
use mathlib.Core.List.{List}
use Prim.Native.Nat.{ℕ, ◌-◌, ◌<◌}
use lib.ListN.{length, get_or, set, length-set}
use Rattle.algebra.specs.Matrix.{vector}
use Rattle.sparse.specs.Matrix.{Compressed, matrix}
use Rattle.answer_open.specs.Opening.{open_cell, Settled, PivotCell}
use Rattle.answer_open.specs.Needs.{EchelonPassed, CountingReady, NextReady}
use Rattle.answer_open.proofs.PivotLoop.{settled-place, settled-next}

module _ (p r : ℕ) (U : Compressed) (C : List ℕ) where
  -- Settled reads only the number of columns
  pub settled-long : (m n : ℕ) (o : List ℕ) (k : ℕ) → m ≡ n → Settled p r U C m o k → Settled p r U C n o k
  settled-long m n o k e = subst (λ (i : ℕ). Settled p r U C i o k) e

-- row k - 1 by its unit question
module _ (p r : ℕ) (U : Compressed) (C o w : List ℕ) (k : ℕ) (d : NextReady p r k U C o w) where
  abbrev f : EchelonPassed p r U C (length o)
  f = d.ready.factor

  pub next_place : (j : ℕ) → j ≡ get_or C (k - 1) 0 → j < length o
  next_place = settled-place p r U C (length o) f o k d.some d.ready.settled

  module _ (w' : List ℕ) (j v : ℕ) (ej : j ≡ get_or C (k - 1) 0) (a : PivotCell (open_cell p (length w) (vector C) (matrix U) r (get_or C (k - 1) 0)) v w') where
    pub next-counting : CountingReady p r (k - 1) U C (set o j v)
    next-counting =
        record {
          factor = rw (length-set o j v) f;
          settled = rw (length-set o j v) (settled-next p r U C (length o) f o k d.some d.ready.settled w w' j v ej (sym d.ready.long) a);
        }
