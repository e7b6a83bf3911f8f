-- What is lent to the pivot search and to the completion of an order. Orders hold numbers below 2 ^ 32.
--   Searchable p n m A R C w    a stored matrix in its form, with at most 2,048 rows and columns, and orders and a working row that are all zero
--   Findable p n m A v R C w    the same, with a list of n cells that is all zero
--   Completable k xs w          the first k numbers of the order xs are distinct and below its length, and the marks are all zero
use Rattle.std.specs.Prelude.{ℕ, ◌+◌, ◌^◌, ◌≤◌, ◌≡◌, true, List, length}
use Rattle.limits.specs.Limits.{largest_size}
use Rattle.lists.specs.Filled.{zeros}
use Rattle.algebra.specs.Matrix.{Distinct, vector}
use Rattle.sparse.specs.Matrix.{Compressed, form}

pub record Searchable (p n m : ℕ) (A : Compressed) (R C w : List ℕ) : Type 0 where
  pub formed : form p m A ≡ true
  pub rows : length A.starts ≡ n + 1
  pub n-small : n ≤ largest_size
  pub m-small : m ≤ largest_size
  pub R-clear : R ≡ zeros n
  pub C-clear : C ≡ zeros m
  pub w-clear : w ≡ zeros m

pub record Findable (p n m : ℕ) (A : Compressed) (v R C w : List ℕ) : Type 0 where
  pub lent : Searchable p n m A R C w
  pub v-clear : v ≡ zeros n

pub record Completable (k : ℕ) (xs w : List ℕ) : Type 0 where
  pub inside : k ≤ length xs
  pub narrow : length xs ≤ 2 ^ 32
  pub distinct : Distinct k (length xs) (vector xs)
  pub marks : w ≡ zeros (length xs)
