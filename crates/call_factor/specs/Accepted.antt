-- What factoring accepts exactly, and what it leaves when it refuses, without an order of tests.
--   LentRight n m l         the lent lists have the lengths that factoring takes
--   FactorsFit p n m A l    L and U have no more entries than their lists hold
--   Factorable p n m A l    a good plan, lent lists of their lengths, and room for the factors
--   FactorCleared o h       a refusal: rank and structural pivots 0, and every list that was lent is all zero
use Rattle.std.specs.Prelude.{ℕ, ◌+◌, ◌≤◌, ◌≡◌, length}
use Rattle.lists.specs.Filled.{zeros}
use Rattle.sparse.specs.Matrix.{Compressed}
use Rattle.sparse.specs.Set.{Storage}
use Rattle.elimination.specs.Factoring.{factor}
use Rattle.limits.specs.Limits.{work_length}
use Rattle.call_plan.specs.Accepted.{GoodPlan}
use Rattle.factor_all.specs.Factored.{Factored}
use Rattle.call_factor.specs.declared.Lent.{Lent}

pub record LentRight (n m : ℕ) (l : Lent) : Type 0 where
  pub rows : l.rows ≡ n
  pub columns : l.columns ≡ m
  pub ls : l.ls ≡ n + 1
  pub lower : l.lc ≡ l.lv
  pub us : l.us ≡ n + 1
  pub upper : l.uc ≡ l.uv
  pub work : l.work ≡ work_length

pub record FactorsFit (p n m : ℕ) (A : Compressed) (l : Lent) : Type 0 where
  pub lower : length (factor p n m A).L.cols ≤ l.lc
  pub upper : length (factor p n m A).U.cols ≤ l.uc

pub record Factorable (p n m : ℕ) (A : Compressed) (l : Lent) : Type 0 where
  pub plan : GoodPlan p n m A
  pub lists : LentRight n m l
  pub fits : FactorsFit p n m A l

pub record FactorCleared (o : Factored) (h : Storage) : Type 0 where
  pub rank : o.rank ≡ 0
  pub structural : o.structural ≡ 0
  pub R : h.R ≡ zeros (length h.R)
  pub C : h.C ≡ zeros (length h.C)
  pub L-starts : h.L.starts ≡ zeros (length h.L.starts)
  pub L-columns : h.L.cols ≡ zeros (length h.L.cols)
  pub L-values : h.L.vals ≡ zeros (length h.L.vals)
  pub U-starts : h.U.starts ≡ zeros (length h.U.starts)
  pub U-columns : h.U.cols ≡ zeros (length h.U.cols)
  pub U-values : h.U.vals ≡ zeros (length h.U.vals)
