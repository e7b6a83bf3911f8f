-- What a stored plan must be to be accepted, without an order of tests.
--   GoodPlan p n m A    p is a modulus that is accepted, n, m and the number of entries keep their limits, and the lists are in document 01's
--                       stored form: n + 1 starts, as many values as columns, columns that rise in a row, values from 1 to p - 1
use Rattle.std.specs.Prelude.{ℕ, ◌+◌, ◌≤◌, ◌≡◌, true, length}
use Rattle.residue.specs.Range.{is_modulus}
use Rattle.sparse.specs.Matrix.{Compressed, form}
use Rattle.limits.specs.Limits.{largest_size, largest_entries}

pub record GoodPlan (p n m : ℕ) (A : Compressed) : Type 0 where
  pub modulus : is_modulus p ≡ true
  pub rows : length A.starts ≡ n + 1
  pub paired : length A.cols ≡ length A.vals
  pub few-rows : n ≤ largest_size
  pub few-columns : m ≤ largest_size
  pub few-entries : length A.cols ≤ largest_entries
  pub formed : form p m A ≡ true
