-- The lists that are lent to factoring.
--   Lent                   how long each of them is
--   lent_of h               the lengths of these lists
--   lent_lengths n m l      they have the lengths that factoring takes: R n, C m, the starts of L and of U n + 1 each, values as columns, and a
--                          working row of its length
--   lent_outcome ..         9 where a length is wrong, then the plan: 1, 2, 8
use Rattle.std.specs.Prelude.{ℕ, ◌+◌, Bool, ◌&&◌, eqb, length}
use Rattle.refusals.specs.Outcome.{Outcome}
use Rattle.sparse.specs.Matrix.{Compressed}
use Rattle.sparse.specs.Set.{Storage}
use Rattle.limits.specs.Limits.{work_length}
use Rattle.call_plan.specs.Tests.{call_outcome}
use Rattle.call_factor.specs.declared.Lent.{Lent}

abbrev pub lent_of : Storage → Lent
lent_of h =
    record {
      rows = length h.R;
      columns = length h.C;
      ls = length h.L.starts;
      lc = length h.L.cols;
      lv = length h.L.vals;
      us = length h.U.starts;
      uc = length h.U.cols;
      uv = length h.U.vals;
      work = length h.work;
    }

unfoldable pub lent_lengths : ℕ → ℕ → Lent → Bool
lent_lengths n m l =
    eqb l.rows n
    && (eqb l.columns m
    && (eqb l.ls (n + 1)
    && (eqb l.lc l.lv
    && (eqb l.us (n + 1)
    && (eqb l.uc l.uv
    && eqb l.work work_length)))))

unfoldable pub lent_outcome : (p n m : ℕ) → Compressed → Lent → Outcome
lent_outcome p n m A l = call_outcome (lent_lengths n m l) p n m A
