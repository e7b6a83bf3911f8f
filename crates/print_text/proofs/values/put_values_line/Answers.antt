-- `put_values_line` meets its contract: three runs, one after another. Assumes nothing.
use Prim.Native.Nat.{ℕ}
use mathlib.Core.List.{List, [], ◌∷◌}
use native.Mathlib.Omega.{arith}
use lib.ListN.{drop}
use Rattle.byte_buffer.proofs.Remaining.{Remains, remains-all, room_for, remains-after, stored-all}
use Rattle.print_text.specs.Labels.{line_feed}
use Rattle.print_text.specs.Answer.{values_text, values_line}
use Rattle.print_text.proofs.values.put_values_line.Goals as goal

pub put_bytes-after_label-requires : goal.put_bytes-after_label-requires
unfolding values_line
put_bytes-after_label-requires c =
    let runs : List (List ℕ) = c.args.label.now ∷ values_text c.args.values.now ∷ line_feed ∷ [] in
    let Left : ℕ → List ℕ → ℕ → Type 0 = λ k b at. Remains c.args.out.now 0 (values_line c.args.label.now c.args.values.now) b at (drop k (runs)) in
    let at_first : Left 0 c.args.out.now 0 = remains-all _ _ _ (omega (arith, c.requires)) in
    omega (arith, room_for (at_first))

pub put_values-after_values-requires : goal.put_values-after_values-requires
unfolding values_line
put_values-after_values-requires c =
    let runs : List (List ℕ) = c.args.label.now ∷ values_text c.args.values.now ∷ line_feed ∷ [] in
    let Left : ℕ → List ℕ → ℕ → Type 0 = λ k b at. Remains c.args.out.now 0 (values_line c.args.label.now c.args.values.now) b at (drop k (runs)) in
    let at_first : Left 0 c.args.out.now 0 = remains-all _ _ _ (omega (arith, c.requires)) in
    let after-label : Left 1 c.put_bytes-after_label.new.buffer c.put_bytes-after_label.result = remains-after (at_first) c.put_bytes-after_label.ensures in
    room_for (after-label)

pub put_bytes-requires : goal.put_bytes-requires
unfolding values_line
put_bytes-requires c =
    let runs : List (List ℕ) = c.args.label.now ∷ values_text c.args.values.now ∷ line_feed ∷ [] in
    let Left : ℕ → List ℕ → ℕ → Type 0 = λ k b at. Remains c.args.out.now 0 (values_line c.args.label.now c.args.values.now) b at (drop k (runs)) in
    let at_first : Left 0 c.args.out.now 0 = remains-all _ _ _ (omega (arith, c.requires)) in
    let after-label : Left 1 c.put_bytes-after_label.new.buffer c.put_bytes-after_label.result = remains-after (at_first) c.put_bytes-after_label.ensures in
    let after-values : Left 2 c.put_values-after_values.new.out c.put_values-after_values.result = remains-after (after-label) c.put_values-after_values.ensures in
    room_for (after-values)

pub returns : goal.returns
unfolding values_line
returns c =
    let runs : List (List ℕ) = c.args.label.now ∷ values_text c.args.values.now ∷ line_feed ∷ [] in
    let Left : ℕ → List ℕ → ℕ → Type 0 = λ k b at. Remains c.args.out.now 0 (values_line c.args.label.now c.args.values.now) b at (drop k (runs)) in
    let at_first : Left 0 c.args.out.now 0 = remains-all _ _ _ (omega (arith, c.requires)) in
    let after-label : Left 1 c.put_bytes-after_label.new.buffer c.put_bytes-after_label.result = remains-after (at_first) c.put_bytes-after_label.ensures in
    let after-values : Left 2 c.put_values-after_values.new.out c.put_values-after_values.result = remains-after (after-label) c.put_values-after_values.ensures in
    stored-all (remains-after (after-values) c.put_bytes.ensures)
