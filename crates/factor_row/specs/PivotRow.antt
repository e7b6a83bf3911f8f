-- A pivot row: its remainder, divided by the value at the pivot column, is the next row of U, and that value the last entry of its row of L.
--   PivotStored p c r at l total w₀ ..     the row of U is stored, the entry (r, value) of L too, and the working row is cleared
--   PivotOutcome p c r at l total w₀ ..    that is done, unless L or U would have more entries than its lists hold
use Rattle.std.specs.Prelude.{ℕ, ◌+◌, ◌%◌, ◌≡◌, false, not, ◌&&◌, List, leb, length, get_or, set}
use Rattle.residue.specs.Inverse.{inv_mod}
use Rattle.sparse.specs.Dense.{nonzeros, scaled}
use Rattle.sparse.specs.Storing.{RowStored}
use Rattle.factor_row.specs.declared.pivot_row.Step.{Step}
use Rattle.factor_row.specs.Entries.{EntryLists}

pub record PivotStored (p c r at l total : ℕ) (w₀ : List ℕ) (e₀ : EntryLists) (w : List ℕ) (e : EntryLists) (s : Step) : Type 0 where
  pub upper : RowStored p (inv_mod p (get_or w₀ c 0 % p)) at w₀ e₀.uc e₀.uv w e.uc e.uv s.at
  pub column : e.lc ≡ set e₀.lc l r
  pub value : e.lv ≡ set e₀.lv l (get_or w₀ c 0 % p)
  pub place : s.l ≡ l + 1
  pub count : s.total ≡ total + 1

pub record PivotOutcome (p c r at l total : ℕ) (w₀ : List ℕ) (e₀ : EntryLists) (w : List ℕ) (e : EntryLists) (s : Step) : Type 0 where
  pub fit : (leb (total + 1) (length e₀.lc) && leb (at + length (nonzeros (scaled p 1 w₀))) (length e₀.uc)) ≡ not s.over
  pub put : s.over ≡ false → PivotStored p c r at l total w₀ e₀ w e s
