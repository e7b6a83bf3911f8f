-- What a reduction needs.
--   EchelonReady p r C U w            r rows of U with their pivot columns: row k is 1 at C[k] and 0 at C[j] for j < k; cells below p * p
--   StepReady p k c U w               a multiple of row k can be taken away, which is 1 at column c
--   RoomTo l limit lc lv              place l is not past the limit, and the limit not past the end of the lists
--   EntryReady p k c U at limit ..    a multiple of row k can be taken away and stored at place `at`
--   GatherReady p C U l limit ..      the row can be reduced by all rows of U, as many as there are pivot columns, and the multiples stored from place l on
use Rattle.std.specs.Prelude.{ℕ, ◌+◌, ◌*◌, ◌^◌, ◌≤◌, ◌<◌, ◌≡◌, true, List, length}
use Rattle.algebra.specs.Matrix.{Distinct, vector}
use Rattle.sparse.specs.Row.{Below}
use Rattle.sparse.specs.Matrix.{Compressed, form, matrix}

pub record EchelonReady (p r : ℕ) (C : List ℕ) (U : Compressed) (w : List ℕ) : Type 0 where
  pub positive : 0 < p
  pub formed : form p (length w) U ≡ true
  pub many : r < length U.starts
  pub order : r ≤ length C
  pub columns : Distinct r (length w) (vector C)
  pub unit : (k : ℕ) → k < r → matrix U k (vector C k) ≡ 1
  pub left : (k j : ℕ) → j < k → k < r → matrix U k (vector C j) ≡ 0
  pub below : Below (p * p) w

pub record StepReady (p k c : ℕ) (U : Compressed) (w : List ℕ) : Type 0 where
  pub positive : 0 < p
  pub formed : form p (length w) U ≡ true
  pub inside : k + 1 < length U.starts
  pub column : c < length w
  pub unit : matrix U k c ≡ 1
  pub below : Below (p * p) w

pub record RoomTo (l limit : ℕ) (lc lv : List ℕ) : Type 0 where
  pub place : l ≤ limit
  pub room : limit ≤ length lc
  pub paired : length lc ≡ length lv

pub record EntryReady (p k c : ℕ) (U : Compressed) (at limit : ℕ) (w lc lv : List ℕ) : Type 0 where
  pub step : StepReady p k c U w
  pub narrow : k < 2 ^ 32
  pub lists : RoomTo at limit lc lv

pub record GatherReady (p : ℕ) (C : List ℕ) (U : Compressed) (l limit : ℕ) (w lc lv : List ℕ) : Type 0 where
  pub upper : EchelonReady p (length C) C U w
  pub narrow : length C ≤ 2 ^ 32
  pub lists : RoomTo l limit lc lv
