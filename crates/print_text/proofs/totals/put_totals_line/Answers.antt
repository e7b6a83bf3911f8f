-- `put_totals_line` meets its contract: three runs, one after another; what is left of the words is the closed ones. Assumes nothing.
use Prim.Native.Nat.{ℕ, ◌+◌, ◌-◌, ◌≤◌}
use mathlib.Core.Path.{◌≡◌, sym, subst}
use mathlib.Core.List.{List, [], ◌∷◌, flatten}
use lib.ListN.{length, drop}
use Rattle.byte_buffer.proofs.Remaining.{Remains, remains-all, room_for, remains-after, stored-all}
use Rattle.print_text.specs.Labels.{totals_label, closed_label, line_feed}
use Rattle.print_text.specs.Lines.{labelled, totals_line}
use Rattle.print_text.proofs.Counting.{closed-left, few-open}
use Rattle.print_text.proofs.totals.put_totals_line.Goals as goal

pub overflow_sub-closed : goal.overflow_sub-closed
overflow_sub-closed c = few-open _ _ c.count_open-opened.ensures

pub put_labelled-after_opened-requires : goal.put_labelled-after_opened-requires
unfolding totals_line
put_labelled-after_opened-requires c =
    let runs : List (List ℕ) = labelled totals_label c.count_open-opened.result ∷ labelled closed_label (length c.args.cells.now - c.count_open-opened.result) ∷ line_feed ∷ [] in
    let runs-are : totals_line c.args.cells.now ≡ flatten (runs) = λ j. let cells = c.args.cells.now in
    flatten (labelled totals_label (sym c.count_open-opened.ensures j) ∷ labelled closed_label (sym (closed-left cells _ c.count_open-opened.ensures) j) ∷ line_feed ∷ []) in
    let Left : ℕ → List ℕ → ℕ → Type 0 = λ k b at. Remains c.args.out.now c.args.at (totals_line c.args.cells.now) b at (drop k (runs)) in
    let at_first : Left 0 c.args.out.now c.args.at = subst (λ (text : List ℕ). Remains c.args.out.now c.args.at text c.args.out.now c.args.at (runs)) (sym (runs-are))
    (remains-all _ _ _ (subst (λ (text : List ℕ). c.args.at + length text ≤ length c.args.out.now) (runs-are) c.requires.room)) in
    room_for (at_first)

pub put_labelled-after_closed-requires : goal.put_labelled-after_closed-requires
unfolding totals_line
put_labelled-after_closed-requires c =
    let runs : List (List ℕ) = labelled totals_label c.count_open-opened.result ∷ labelled closed_label (length c.args.cells.now - c.count_open-opened.result) ∷ line_feed ∷ [] in
    let runs-are : totals_line c.args.cells.now ≡ flatten (runs) = λ j. let cells = c.args.cells.now in
    flatten (labelled totals_label (sym c.count_open-opened.ensures j) ∷ labelled closed_label (sym (closed-left cells _ c.count_open-opened.ensures) j) ∷ line_feed ∷ []) in
    let Left : ℕ → List ℕ → ℕ → Type 0 = λ k b at. Remains c.args.out.now c.args.at (totals_line c.args.cells.now) b at (drop k (runs)) in
    let at_first : Left 0 c.args.out.now c.args.at = subst (λ (text : List ℕ). Remains c.args.out.now c.args.at text c.args.out.now c.args.at (runs)) (sym (runs-are))
    (remains-all _ _ _ (subst (λ (text : List ℕ). c.args.at + length text ≤ length c.args.out.now) (runs-are) c.requires.room)) in
    let after-opened : Left 1 c.put_labelled-after_opened.new.out c.put_labelled-after_opened.result = remains-after (at_first) c.put_labelled-after_opened.ensures in
    room_for (after-opened)

pub put_bytes-requires : goal.put_bytes-requires
unfolding totals_line
put_bytes-requires c =
    let runs : List (List ℕ) = labelled totals_label c.count_open-opened.result ∷ labelled closed_label (length c.args.cells.now - c.count_open-opened.result) ∷ line_feed ∷ [] in
    let runs-are : totals_line c.args.cells.now ≡ flatten (runs) = λ j. let cells = c.args.cells.now in
    flatten (labelled totals_label (sym c.count_open-opened.ensures j) ∷ labelled closed_label (sym (closed-left cells _ c.count_open-opened.ensures) j) ∷ line_feed ∷ []) in
    let Left : ℕ → List ℕ → ℕ → Type 0 = λ k b at. Remains c.args.out.now c.args.at (totals_line c.args.cells.now) b at (drop k (runs)) in
    let at_first : Left 0 c.args.out.now c.args.at = subst (λ (text : List ℕ). Remains c.args.out.now c.args.at text c.args.out.now c.args.at (runs)) (sym (runs-are))
    (remains-all _ _ _ (subst (λ (text : List ℕ). c.args.at + length text ≤ length c.args.out.now) (runs-are) c.requires.room)) in
    let after-opened : Left 1 c.put_labelled-after_opened.new.out c.put_labelled-after_opened.result = remains-after (at_first) c.put_labelled-after_opened.ensures in
    let after-closed : Left 2 c.put_labelled-after_closed.new.out c.put_labelled-after_closed.result = remains-after (after-opened) c.put_labelled-after_closed.ensures in
    room_for (after-closed)

pub returns : goal.returns
unfolding totals_line
returns c =
    let runs : List (List ℕ) = labelled totals_label c.count_open-opened.result ∷ labelled closed_label (length c.args.cells.now - c.count_open-opened.result) ∷ line_feed ∷ [] in
    let runs-are : totals_line c.args.cells.now ≡ flatten (runs) = λ j. let cells = c.args.cells.now in
    flatten (labelled totals_label (sym c.count_open-opened.ensures j) ∷ labelled closed_label (sym (closed-left cells _ c.count_open-opened.ensures) j) ∷ line_feed ∷ []) in
    let Left : ℕ → List ℕ → ℕ → Type 0 = λ k b at. Remains c.args.out.now c.args.at (totals_line c.args.cells.now) b at (drop k (runs)) in
    let at_first : Left 0 c.args.out.now c.args.at = subst (λ (text : List ℕ). Remains c.args.out.now c.args.at text c.args.out.now c.args.at (runs)) (sym (runs-are))
    (remains-all _ _ _ (subst (λ (text : List ℕ). c.args.at + length text ≤ length c.args.out.now) (runs-are) c.requires.room)) in
    let after-opened : Left 1 c.put_labelled-after_opened.new.out c.put_labelled-after_opened.result = remains-after (at_first) c.put_labelled-after_opened.ensures in
    let after-closed : Left 2 c.put_labelled-after_closed.new.out c.put_labelled-after_closed.result = remains-after (after-opened) c.put_labelled-after_closed.ensures in
    stored-all (remains-after (after-closed) c.put_bytes.ensures)
