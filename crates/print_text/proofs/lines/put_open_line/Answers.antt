-- `put_open_line` meets its contract: three runs, one after another. Assumes nothing.
use Prim.Native.Nat.{ℕ, ◌+◌}
use mathlib.Core.List.{List, [], ◌∷◌}
use lib.ListN.{drop}
use Rattle.byte_buffer.proofs.Remaining.{Remains, remains-all, room_for, remains-after, stored-all}
use Rattle.print_text.specs.Labels.{open_label, owner_label, line_feed}
use Rattle.print_text.specs.Lines.{labelled, open_line}
use Rattle.print_text.proofs.lines.put_open_line.Goals as goal

pub put_labelled-after_word-requires : goal.put_labelled-after_word-requires
unfolding open_line
put_labelled-after_word-requires c =
    let runs : List (List ℕ) = labelled open_label (c.args.column + 1) ∷ labelled owner_label c.args.owner ∷ line_feed ∷ [] in
    let Left : ℕ → List ℕ → ℕ → Type 0 = λ k b at. Remains c.args.out.now c.args.at (open_line c.args.column c.args.owner) b at (drop k (runs)) in
    let at_first : Left 0 c.args.out.now c.args.at = remains-all _ _ _ c.requires.room in
    room_for (at_first)

pub put_labelled-after_owner-requires : goal.put_labelled-after_owner-requires
unfolding open_line
put_labelled-after_owner-requires c =
    let runs : List (List ℕ) = labelled open_label (c.args.column + 1) ∷ labelled owner_label c.args.owner ∷ line_feed ∷ [] in
    let Left : ℕ → List ℕ → ℕ → Type 0 = λ k b at. Remains c.args.out.now c.args.at (open_line c.args.column c.args.owner) b at (drop k (runs)) in
    let at_first : Left 0 c.args.out.now c.args.at = remains-all _ _ _ c.requires.room in
    let after-word : Left 1 c.put_labelled-after_word.new.out c.put_labelled-after_word.result = remains-after (at_first) c.put_labelled-after_word.ensures in
    room_for (after-word)

pub put_bytes-requires : goal.put_bytes-requires
unfolding open_line
put_bytes-requires c =
    let runs : List (List ℕ) = labelled open_label (c.args.column + 1) ∷ labelled owner_label c.args.owner ∷ line_feed ∷ [] in
    let Left : ℕ → List ℕ → ℕ → Type 0 = λ k b at. Remains c.args.out.now c.args.at (open_line c.args.column c.args.owner) b at (drop k (runs)) in
    let at_first : Left 0 c.args.out.now c.args.at = remains-all _ _ _ c.requires.room in
    let after-word : Left 1 c.put_labelled-after_word.new.out c.put_labelled-after_word.result = remains-after (at_first) c.put_labelled-after_word.ensures in
    let after-owner : Left 2 c.put_labelled-after_owner.new.out c.put_labelled-after_owner.result = remains-after (after-word) c.put_labelled-after_owner.ensures in
    room_for (after-owner)

pub returns : goal.returns
unfolding open_line
returns c =
    let runs : List (List ℕ) = labelled open_label (c.args.column + 1) ∷ labelled owner_label c.args.owner ∷ line_feed ∷ [] in
    let Left : ℕ → List ℕ → ℕ → Type 0 = λ k b at. Remains c.args.out.now c.args.at (open_line c.args.column c.args.owner) b at (drop k (runs)) in
    let at_first : Left 0 c.args.out.now c.args.at = remains-all _ _ _ c.requires.room in
    let after-word : Left 1 c.put_labelled-after_word.new.out c.put_labelled-after_word.result = remains-after (at_first) c.put_labelled-after_word.ensures in
    let after-owner : Left 2 c.put_labelled-after_owner.new.out c.put_labelled-after_owner.result = remains-after (after-word) c.put_labelled-after_owner.ensures in
    stored-all (remains-after (after-owner) c.put_bytes.ensures)
