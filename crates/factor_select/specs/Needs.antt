-- What the selection of pivots starts from.
--   NameReady p n A w v        the cells of w name document 01's pivots, and v is all zero
--   SearchReady p n i A ..     what a search from row i needs: no column has its mark yet
--   ExtendReady p n i A ..     what taking row i needs: the rows below it were taken, and no column has its mark
--   Extended A n m i ..        the rows below i were taken, and no column has a later mark than theirs
--   SelectReady p n A ..       what taking all rows needs
--   FitReady row w stamps      the columns of a row have cells
use Rattle.std.specs.Prelude.{ℕ, ◌≤◌, ◌<◌, ◌≡◌, List, length, get_or}
use Rattle.lists.specs.Filled.{zeros}
use Rattle.sparse.specs.Matrix.{Compressed}
use Rattle.elimination.specs.Structural.{leading}
use Rattle.factor_names.specs.Sized.{SmallMatrix}
use Rattle.factor_names.specs.Named.{ByColumn, Named}

pub record NameReady (p n : ℕ) (A : Compressed) (w v : List ℕ) : Type 0 where
  pub sized : SmallMatrix p n (length w) A
  pub leading-named : ByColumn w (leading A n (length w))
  pub clear : v ≡ zeros n

pub record SearchReady (p n i : ℕ) (A : Compressed) (w v stamps queue : List ℕ) (mark : ℕ) : Type 0 where
  pub sized : SmallMatrix p n (length w) A
  pub named : Named A n (length w) i w v
  pub row : i < n
  pub stamps-long : length stamps ≡ length w
  pub queue_long : length queue ≡ length w
  pub unmarked : (j : ℕ) → get_or stamps j 0 < mark

pub record Extended (A : Compressed) (n m i : ℕ) (w v stamps queue : List ℕ) : Type 0 where
  pub named : Named A n m i w v
  pub stamps-long : length stamps ≡ m
  pub queue_long : length queue ≡ m
  pub unmarked : (j : ℕ) → get_or stamps j 0 ≤ i

pub record ExtendReady (p n i : ℕ) (A : Compressed) (w v stamps queue : List ℕ) : Type 0 where
  pub sized : SmallMatrix p n (length w) A
  pub row : i < n
  pub before : Extended A n (length w) i w v stamps queue

pub record SelectReady (p n : ℕ) (A : Compressed) (w v stamps queue : List ℕ) : Type 0 where
  pub sized : SmallMatrix p n (length w) A
  pub before : Extended A n (length w) 0 w v stamps queue

pub record FitReady (row w stamps : List ℕ) : Type 0 where
  pub inside : (t : ℕ) → t < length row → get_or row t 0 < length w
  pub stamps-long : length stamps ≡ length w
