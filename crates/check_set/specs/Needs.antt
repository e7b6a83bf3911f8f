-- What the check of a set needs; the public calls test it first (refusals 9, 1, 2 and 8).
--   Checkable p n m A s w    a stored matrix in its form, a set whose lists have their lengths, and a working row that is long enough and all zero
--   Judgeable p n m A s w    the same after 11 and 12 passed, with a working row of m cells
use Rattle.std.specs.Prelude.{ℕ, ◌+◌, ◌≤◌, ◌<◌, ◌≡◌, true, List, length}
use Rattle.lists.specs.Filled.{zeros}
use Rattle.sparse.specs.Row.{Below}
use Rattle.sparse.specs.Matrix.{Compressed, form}
use Rattle.sparse.specs.Set.{Set}

pub record Checkable (p n m : ℕ) (A : Compressed) (s : Set) (w : List ℕ) : Type 0 where
  pub positive : 0 < p
  pub A-form : form p m A ≡ true
  pub A-rows : length A.starts ≡ n + 1
  pub order : length s.R ≡ n
  pub columns : length s.C ≡ m
  pub L-rows : length s.L.starts ≡ n + 1
  pub U-rows : length s.U.starts ≡ s.r + 1
  pub rows_fit : n ≤ length w
  pub columns-fit : m ≤ length w
  pub cleared : w ≡ zeros (length w)

pub record Judgeable (p n m : ℕ) (A : Compressed) (s : Set) (w : List ℕ) : Type 0 where
  pub positive : 0 < p
  pub A-form : form p (length w) A ≡ true
  pub A-rows : length A.starts ≡ n + 1
  pub order : length s.R ≡ n
  pub inside : Below n s.R
  pub columns : length s.C ≡ m
  pub places : Below (length w) s.C
  pub L-rows : length s.L.starts ≡ n + 1
  pub U-rows : length s.U.starts ≡ s.r + 1
  pub rank-rows : s.r ≤ n
  pub rank-columns : s.r ≤ m
  pub wide : length w ≡ m
  pub cleared : w ≡ zeros (length w)
