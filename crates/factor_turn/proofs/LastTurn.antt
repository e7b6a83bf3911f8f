-- After the last turn: the ends of L's lists can be turned round, and then they are filled with the rows of L.
use mathlib.Core.Path.{◌≡◌, sym, ap, ◌∙◌}
use mathlib.Core.List.{List, ◌++◌}
use Prim.Native.Nat.{ℕ, ◌+◌, ◌-◌, ◌^◌, ◌≤◌, ◌<◌}
use native.Mathlib.Omega.{arith}
use lib.ListN.{length, get_or, length-append, length-drop}
use lib.Seq.{length-take-le, get_or-append-add}
use Rattle.lists.specs.Filled.{filled}
use Rattle.lists.proofs.Filled.{length-filled}
use Rattle.sparse.specs.Matrix.{Compressed, compressed}
use Rattle.sparse.specs.Dense.{starts_after, compress}
use Rattle.sparse.proofs.DenseLaws.{compress-lengths}
use Rattle.elimination.specs.Pivots.{Found}
use Rattle.factor_turn.specs.State.{pivot_lowers, dependent_lowers}
use Rattle.factor_turn.specs.Keeping.{turned_part, PartReady, MoveReady, moved_from, FillFrom, FillDone}
use Rattle.factor_turn.proofs.Ends.{mirrored-whole, ends-long, last-ready}
use Rattle.factor_turn.proofs.EndRows.{starts-most, both-columns, both_values, turned-columns, turned-values, turned-starts, moved-starts}
use Rattle.factor_turn.proofs.Steps.{entries-values, lowers-split, lowers-entries, pivots-less, lowers-many, dependents-many}

-- a list that is filled is so at its own length
filled-self : (n : ℕ) (xs l : List ℕ) → length xs ≤ n → l ≡ filled n xs → l ≡ filled (length l) xs
filled-self n xs l h e = e ∙ ap (λ (k : ℕ). filled k xs) (sym (ap length e ∙ length-filled n xs h))

module _ (f : Found) (L : Compressed) (r l total : ℕ) (g : FillFrom f L r l total) where
  abbrev rows : List (List ℕ)
  rows = pivot_lowers f

  abbrev others : List (List ℕ)
  others = dependent_lowers f

  pub total-most : l ≤ total
  total-most = omega (arith, g.pivot-entries, g.L-entries, pivots-less f)

  pub place-fits : l < 2 ^ 32
  place-fits = omega (arith, total-most, g.fits)

  values-place : l ≡ length (compress rows).vals
  values-place = g.pivot-entries ∙ entries-values rows

  columns-place : l ≡ length (compress rows).cols
  columns-place = values-place ∙ sym (compress-lengths rows).paired

  values-left : total - l ≡ length (compress others).vals
  values-left = omega (arith, g.pivot-entries, g.L-entries, lowers-entries f, entries-values others)

  pub columns-turn : PartReady l (length L.cols) (total - l) L.cols
  columns-turn = last-ready (compress rows).cols (compress others).cols L.cols g.lower.columns l columns-place (total - l) (values-left ∙ sym (compress-lengths others).paired)

  pub values-turn : PartReady l (length L.cols) (total - l) L.vals
  values-turn = rw g.paired (last-ready (compress rows).vals (compress others).vals L.vals g.lower.values l values-place (total - l) values-left)

  pub starts-turn : PartReady (r + 1) (length L.starts) (length L.starts - (r + 1)) L.starts
  starts-turn =
      record {
        low = omega (arith, g.whole);
        inside = omega arith;
        part = mirrored-whole (length L.starts - (r + 1)) _ (sym (length-take-le (length L.starts - (r + 1)) _ (omega (arith, length-drop (r + 1) L.starts))));
      }

  starts-place : r + 1 ≡ length rows + 1
  starts-place = omega (arith, g.rank, lowers-many f)

  starts-whole : length L.starts ≡ length rows + length others + 1
  starts-whole = omega (arith, g.whole, g.rank, lowers-many f, dependents-many f)

  module _ (ls : List ℕ) (turned : ls ≡ turned_part (r + 1) (length L.starts) L.starts) where
    starts-are : ls ≡ (compress rows).starts ++ starts_after 0 others
    starts-are = turned ∙ turned-starts rows others L g.lower (r + 1) starts-place starts-whole

    pub starts-move : MoveReady (r + 1) l ls
    starts-move =
        rw starts-are (record {
          inside = omega (arith, length-append (compress rows).starts (starts_after 0 others), (compress-lengths rows).starts-are, starts-place);
          fits = λ j low h. let i : ℕ = j - length (compress rows).starts in
              omega (
                arith,
                g.fits,
                g.pivot-entries,
                g.L-entries,
                lowers-entries f,
                starts-most 0 others i,
                ap (λ (k : ℕ). get_or ((compress rows).starts ++ starts_after 0 others) k 0) (let e : j ≡ length (compress rows).starts + i = omega (arith, (compress-lengths rows).starts-are, starts-place) in e)
                    ∙ get_or-append-add (compress rows).starts (starts_after 0 others) i 0,
              );
        })

    pub last_done : (ls' lc lv : List ℕ) → ls' ≡ moved_from (r + 1) l ls → lc ≡ turned_part l (length L.cols) L.cols → lv ≡ turned_part l (length L.cols) L.vals
        → FillDone f (compressed ls' lc lv)
    last_done ls' lc lv es ec ev =
        record {
          starts = filled-self (length L.starts) (compress (rows ++ others)).starts ls'
              (omega (arith, starts-whole, (compress-lengths (rows ++ others)).starts-are, length-append rows others))
              (es ∙ ap (moved_from (r + 1) l) turned ∙ moved-starts rows others L g.lower (r + 1) starts-place starts-whole l g.pivot-entries)
              ∙ ap (λ (z : List (List ℕ)). filled (length ls') (compress z).starts) (sym (lowers-split f));
          columns = filled-self (length L.cols) (compress (rows ++ others)).cols lc
              (omega (arith, ap length (both-columns rows others), length-append (compress rows).cols (compress others).cols, ends-long (compress rows).cols (compress others).cols L.cols g.lower.columns))
              (ec ∙ turned-columns rows others L g.lower l columns-place)
              ∙ ap (λ (z : List (List ℕ)). filled (length lc) (compress z).cols) (sym (lowers-split f));
          values = filled-self (length L.vals) (compress (rows ++ others)).vals lv
              (omega (arith, ap length (both_values rows others), length-append (compress rows).vals (compress others).vals, ends-long (compress rows).vals (compress others).vals L.vals g.lower.values))
              (ev ∙ ap (λ (k : ℕ). turned_part l k L.vals) g.paired ∙ turned-values rows others L g.lower l values-place)
              ∙ ap (λ (z : List (List ℕ)). filled (length lv) (compress z).vals) (sym (lowers-split f));
        }
