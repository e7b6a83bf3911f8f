-- `put_sizes_line` meets its contract: five runs, one after another. Assumes nothing.
use Prim.Native.Nat.{ℕ}
use mathlib.Core.List.{List, [], ◌∷◌}
use lib.ListN.{drop}
use Rattle.byte_buffer.proofs.Remaining.{Remains, remains-all, room_for, remains-after, stored-all}
use Rattle.print_text.specs.Labels.{modulus_label, slots_label, words_label, entries_label, line_feed}
use Rattle.print_text.specs.Lines.{labelled, sizes_line}
use Rattle.print_text.proofs.lines.put_sizes_line.Goals as goal

pub put_labelled-after_modulus-requires : goal.put_labelled-after_modulus-requires
unfolding sizes_line
put_labelled-after_modulus-requires c =
    let runs : List (List ℕ) = labelled modulus_label c.args.s.modulus ∷ labelled slots_label c.args.s.slots ∷ labelled words_label c.args.s.words ∷ labelled entries_label c.args.s.entries ∷ line_feed ∷ [] in
    let Left : ℕ → List ℕ → ℕ → Type 0 = λ k b at. Remains c.args.out.now c.args.at (sizes_line c.args.s) b at (drop k (runs)) in
    let at_first : Left 0 c.args.out.now c.args.at = remains-all _ _ _ c.requires in
    room_for (at_first)

pub put_labelled-after_slots-requires : goal.put_labelled-after_slots-requires
unfolding sizes_line
put_labelled-after_slots-requires c =
    let runs : List (List ℕ) = labelled modulus_label c.args.s.modulus ∷ labelled slots_label c.args.s.slots ∷ labelled words_label c.args.s.words ∷ labelled entries_label c.args.s.entries ∷ line_feed ∷ [] in
    let Left : ℕ → List ℕ → ℕ → Type 0 = λ k b at. Remains c.args.out.now c.args.at (sizes_line c.args.s) b at (drop k (runs)) in
    let at_first : Left 0 c.args.out.now c.args.at = remains-all _ _ _ c.requires in
    let after-modulus : Left 1 c.put_labelled-after_modulus.new.out c.put_labelled-after_modulus.result = remains-after (at_first) c.put_labelled-after_modulus.ensures in
    room_for (after-modulus)

pub put_labelled-after_words-requires : goal.put_labelled-after_words-requires
unfolding sizes_line
put_labelled-after_words-requires c =
    let runs : List (List ℕ) = labelled modulus_label c.args.s.modulus ∷ labelled slots_label c.args.s.slots ∷ labelled words_label c.args.s.words ∷ labelled entries_label c.args.s.entries ∷ line_feed ∷ [] in
    let Left : ℕ → List ℕ → ℕ → Type 0 = λ k b at. Remains c.args.out.now c.args.at (sizes_line c.args.s) b at (drop k (runs)) in
    let at_first : Left 0 c.args.out.now c.args.at = remains-all _ _ _ c.requires in
    let after-modulus : Left 1 c.put_labelled-after_modulus.new.out c.put_labelled-after_modulus.result = remains-after (at_first) c.put_labelled-after_modulus.ensures in
    let after-slots : Left 2 c.put_labelled-after_slots.new.out c.put_labelled-after_slots.result = remains-after (after-modulus) c.put_labelled-after_slots.ensures in
    room_for (after-slots)

pub put_labelled-after_entries-requires : goal.put_labelled-after_entries-requires
unfolding sizes_line
put_labelled-after_entries-requires c =
    let runs : List (List ℕ) = labelled modulus_label c.args.s.modulus ∷ labelled slots_label c.args.s.slots ∷ labelled words_label c.args.s.words ∷ labelled entries_label c.args.s.entries ∷ line_feed ∷ [] in
    let Left : ℕ → List ℕ → ℕ → Type 0 = λ k b at. Remains c.args.out.now c.args.at (sizes_line c.args.s) b at (drop k (runs)) in
    let at_first : Left 0 c.args.out.now c.args.at = remains-all _ _ _ c.requires in
    let after-modulus : Left 1 c.put_labelled-after_modulus.new.out c.put_labelled-after_modulus.result = remains-after (at_first) c.put_labelled-after_modulus.ensures in
    let after-slots : Left 2 c.put_labelled-after_slots.new.out c.put_labelled-after_slots.result = remains-after (after-modulus) c.put_labelled-after_slots.ensures in
    let after-words : Left 3 c.put_labelled-after_words.new.out c.put_labelled-after_words.result = remains-after (after-slots) c.put_labelled-after_words.ensures in
    room_for (after-words)

pub put_bytes-requires : goal.put_bytes-requires
unfolding sizes_line
put_bytes-requires c =
    let runs : List (List ℕ) = labelled modulus_label c.args.s.modulus ∷ labelled slots_label c.args.s.slots ∷ labelled words_label c.args.s.words ∷ labelled entries_label c.args.s.entries ∷ line_feed ∷ [] in
    let Left : ℕ → List ℕ → ℕ → Type 0 = λ k b at. Remains c.args.out.now c.args.at (sizes_line c.args.s) b at (drop k (runs)) in
    let at_first : Left 0 c.args.out.now c.args.at = remains-all _ _ _ c.requires in
    let after-modulus : Left 1 c.put_labelled-after_modulus.new.out c.put_labelled-after_modulus.result = remains-after (at_first) c.put_labelled-after_modulus.ensures in
    let after-slots : Left 2 c.put_labelled-after_slots.new.out c.put_labelled-after_slots.result = remains-after (after-modulus) c.put_labelled-after_slots.ensures in
    let after-words : Left 3 c.put_labelled-after_words.new.out c.put_labelled-after_words.result = remains-after (after-slots) c.put_labelled-after_words.ensures in
    let after-entries : Left 4 c.put_labelled-after_entries.new.out c.put_labelled-after_entries.result = remains-after (after-words) c.put_labelled-after_entries.ensures in
    room_for (after-entries)

pub returns : goal.returns
unfolding sizes_line
returns c =
    let runs : List (List ℕ) = labelled modulus_label c.args.s.modulus ∷ labelled slots_label c.args.s.slots ∷ labelled words_label c.args.s.words ∷ labelled entries_label c.args.s.entries ∷ line_feed ∷ [] in
    let Left : ℕ → List ℕ → ℕ → Type 0 = λ k b at. Remains c.args.out.now c.args.at (sizes_line c.args.s) b at (drop k (runs)) in
    let at_first : Left 0 c.args.out.now c.args.at = remains-all _ _ _ c.requires in
    let after-modulus : Left 1 c.put_labelled-after_modulus.new.out c.put_labelled-after_modulus.result = remains-after (at_first) c.put_labelled-after_modulus.ensures in
    let after-slots : Left 2 c.put_labelled-after_slots.new.out c.put_labelled-after_slots.result = remains-after (after-modulus) c.put_labelled-after_slots.ensures in
    let after-words : Left 3 c.put_labelled-after_words.new.out c.put_labelled-after_words.result = remains-after (after-slots) c.put_labelled-after_words.ensures in
    let after-entries : Left 4 c.put_labelled-after_entries.new.out c.put_labelled-after_entries.result = remains-after (after-words) c.put_labelled-after_entries.ensures in
    stored-all (remains-after (after-entries) c.put_bytes.ensures)
