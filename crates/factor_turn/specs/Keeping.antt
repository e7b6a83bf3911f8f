-- The row of L of a dependent row is kept at the end of L's lists, reversed, and turned round after the last turn.
--   exchanged l i j                the list l with the numbers at i and j exchanged
--   turned_part a e l               the list l, turned round from place a up to place e
--   Mirrored k l                   all numbers of l are zero but the first and the last k
--   PartReady a e k l              so it is of the part of l from place a up to place e
--   KeepReady l held total d ..    the entries at place l of a dependent row, the d-th, can be kept: L had `held` entries, of which those from l on are at the end, and has `total` now
--   Kept l held total d ..         they are, and where they begin
--   MoveReady, moved_from a l list  l can be added to every number of the list from place a on; and the list where that is done
--   FillFrom f L r l total         L holds the rows of L that f has, those of dependent rows at the end, and has room for no more starts
--   FillDone f L                   the lists of L are filled with the rows of L that f has
--   FillReady L r l total          L is as FillFrom says, for some f
use Rattle.std.specs.Prelude.{ℕ, ◌+◌, ◌-◌, ◌^◌, ◌≤◌, ◌<◌, ◌≡◌, List, ◌++◌, map, reverse, length, get_or, take, drop, set}
use Rattle.lists.specs.Filled.{filled}
use Rattle.sparse.specs.Matrix.{Compressed}
use Rattle.sparse.specs.Dense.{compress}
use Rattle.elimination.specs.Pivots.{Found, rank_of}
use Rattle.elimination.specs.Factoring.{lowers_of, entries}
use Rattle.factor_turn.specs.State.{pivot_lowers, dependent_lowers, HoldsEnds}

abbrev pub exchanged : List ℕ → ℕ → ℕ → List ℕ
exchanged l i j = set (set l i (get_or l j 0)) j (get_or l i 0)

abbrev pub turned_part : ℕ → ℕ → List ℕ → List ℕ
turned_part a e l = take a l ++ (reverse (take (e - a) (drop a l)) ++ drop (e - a) (drop a l))

pub record Mirrored (k : ℕ) (l : List ℕ) : Type 0 where
  pub inside : k ≤ length l
  pub between : (j : ℕ) → k ≤ j → j + k < length l → get_or l j 0 ≡ 0

pub record PartReady (a e k : ℕ) (l : List ℕ) : Type 0 where
  pub low : a ≤ e
  pub inside : e ≤ length l
  pub part : Mirrored k (take (e - a) (drop a l))

-- ---- after a turn

pub record KeepReady (l held total d : ℕ) (ls lc lv : List ℕ) : Type 0 where
  pub low : l ≤ held
  pub grown : held ≤ total
  pub room : total ≤ length lc
  pub paired : length lc ≡ length lv
  pub fits : total < 2 ^ 32
  pub some : 0 < d
  pub starts : d ≤ length ls
  pub columns : PartReady l (length lc - (held - l)) (total - held) lc
  pub values : PartReady l (length lc - (held - l)) (total - held) lv

pub record Kept (l held total d : ℕ) (ls₀ lc₀ lv₀ ls lc lv : List ℕ) : Type 0 where
  pub starts : ls ≡ set ls₀ (length ls₀ - d) (total - l)
  pub columns : lc ≡ turned_part l (length lc₀ - (held - l)) lc₀
  pub values : lv ≡ turned_part l (length lc₀ - (held - l)) lv₀

-- ---- after the last turn

pub record MoveReady (a l : ℕ) (list : List ℕ) : Type 0 where
  pub inside : a ≤ length list
  pub fits : (j : ℕ) → a ≤ j → j < length list → get_or list j 0 + l < 2 ^ 32

abbrev pub moved_from : ℕ → ℕ → List ℕ → List ℕ
moved_from a l list = take a list ++ map (λ x. x + l) (drop a list)

pub record FillFrom (f : Found) (L : Compressed) (r l total : ℕ) : Type 0 where
  pub rank : r ≡ rank_of f
  pub pivot-entries : l ≡ entries (pivot_lowers f)
  pub L-entries : total ≡ entries (lowers_of f)
  pub lower : HoldsEnds (pivot_lowers f) (dependent_lowers f) L
  pub whole : length L.starts ≡ r + length f.dependents + 1
  pub paired : length L.cols ≡ length L.vals
  pub fits : total < 2 ^ 32

pub record FillReady (L : Compressed) (r l total : ℕ) : Type 0 where
  pub f : Found
  pub from : FillFrom f L r l total

pub record FillDone (f : Found) (L : Compressed) : Type 0 where
  pub starts : L.starts ≡ filled (length L.starts) (compress (lowers_of f)).starts
  pub columns : L.cols ≡ filled (length L.cols) (compress (lowers_of f)).cols
  pub values : L.vals ≡ filled (length L.vals) (compress (lowers_of f)).vals
