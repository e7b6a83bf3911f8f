-- `put_word_line` meets its contract, by the cell. Assumes nothing.
use Prim.Native.Nat.{ℕ, ◌+◌, ◌≤◌}
use mathlib.Core.Path.{sym, subst}
use mathlib.Core.List.{List}
use lib.ListN.{length}
use Rattle.lists.proofs.Stored.{stored-as, stored-none}
use Rattle.print_text.proofs.Stepping.{word-open, word-closed}
use Rattle.print_text.proofs.lines.put_word_line.Goals as goal

pub put_open_line-requires : goal.put_open_line-requires
put_open_line-requires c =
    record {
      column = c.requires.column;
      room = subst (λ (l : List ℕ). c.args.at + length l ≤ length c.args.out.now) (word-open _ _ _ c.if-cell-eq1.true) c.requires.room;
    }

pub returns-then-cell-eq1 : goal.returns-then-cell-eq1
returns-then-cell-eq1 c = stored-as (sym (word-open _ _ _ c.if-cell-eq1.true)) c.put_open_line.ensures

pub returns-else-cell-eq1 : goal.returns-else-cell-eq1
returns-else-cell-eq1 c = stored-as (sym (word-closed _ _ _ c.if-cell-eq1.false)) stored-none
