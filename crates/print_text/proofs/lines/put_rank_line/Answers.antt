-- `put_rank_line` meets its contract: five runs, one after another. Assumes nothing.
use Prim.Native.Nat.{ℕ}
use mathlib.Core.List.{List, [], ◌∷◌}
use lib.ListN.{drop}
use Rattle.byte_buffer.proofs.Remaining.{Remains, remains-all, room_for, remains-after, stored-all}
use Rattle.print_text.specs.Labels.{rank_label, structural_label, lower_label, upper_label, line_feed}
use Rattle.print_text.specs.Lines.{labelled, rank_line}
use Rattle.print_text.proofs.lines.put_rank_line.Goals as goal

pub put_labelled-after_rank-requires : goal.put_labelled-after_rank-requires
unfolding rank_line
put_labelled-after_rank-requires c =
    let runs : List (List ℕ) = labelled rank_label c.args.s.rank ∷ labelled structural_label c.args.s.structural ∷ labelled lower_label c.args.s.lower ∷ labelled upper_label c.args.s.upper ∷ line_feed ∷ [] in
    let Left : ℕ → List ℕ → ℕ → Type 0 = λ k b at. Remains c.args.out.now c.args.at (rank_line c.args.s) b at (drop k (runs)) in
    let at_first : Left 0 c.args.out.now c.args.at = remains-all _ _ _ c.requires in
    room_for (at_first)

pub put_labelled-after_structural-requires : goal.put_labelled-after_structural-requires
unfolding rank_line
put_labelled-after_structural-requires c =
    let runs : List (List ℕ) = labelled rank_label c.args.s.rank ∷ labelled structural_label c.args.s.structural ∷ labelled lower_label c.args.s.lower ∷ labelled upper_label c.args.s.upper ∷ line_feed ∷ [] in
    let Left : ℕ → List ℕ → ℕ → Type 0 = λ k b at. Remains c.args.out.now c.args.at (rank_line c.args.s) b at (drop k (runs)) in
    let at_first : Left 0 c.args.out.now c.args.at = remains-all _ _ _ c.requires in
    let after-rank : Left 1 c.put_labelled-after_rank.new.out c.put_labelled-after_rank.result = remains-after (at_first) c.put_labelled-after_rank.ensures in
    room_for (after-rank)

pub put_labelled-after_lower-requires : goal.put_labelled-after_lower-requires
unfolding rank_line
put_labelled-after_lower-requires c =
    let runs : List (List ℕ) = labelled rank_label c.args.s.rank ∷ labelled structural_label c.args.s.structural ∷ labelled lower_label c.args.s.lower ∷ labelled upper_label c.args.s.upper ∷ line_feed ∷ [] in
    let Left : ℕ → List ℕ → ℕ → Type 0 = λ k b at. Remains c.args.out.now c.args.at (rank_line c.args.s) b at (drop k (runs)) in
    let at_first : Left 0 c.args.out.now c.args.at = remains-all _ _ _ c.requires in
    let after-rank : Left 1 c.put_labelled-after_rank.new.out c.put_labelled-after_rank.result = remains-after (at_first) c.put_labelled-after_rank.ensures in
    let after-structural : Left 2 c.put_labelled-after_structural.new.out c.put_labelled-after_structural.result = remains-after (after-rank) c.put_labelled-after_structural.ensures in
    room_for (after-structural)

pub put_labelled-after_upper-requires : goal.put_labelled-after_upper-requires
unfolding rank_line
put_labelled-after_upper-requires c =
    let runs : List (List ℕ) = labelled rank_label c.args.s.rank ∷ labelled structural_label c.args.s.structural ∷ labelled lower_label c.args.s.lower ∷ labelled upper_label c.args.s.upper ∷ line_feed ∷ [] in
    let Left : ℕ → List ℕ → ℕ → Type 0 = λ k b at. Remains c.args.out.now c.args.at (rank_line c.args.s) b at (drop k (runs)) in
    let at_first : Left 0 c.args.out.now c.args.at = remains-all _ _ _ c.requires in
    let after-rank : Left 1 c.put_labelled-after_rank.new.out c.put_labelled-after_rank.result = remains-after (at_first) c.put_labelled-after_rank.ensures in
    let after-structural : Left 2 c.put_labelled-after_structural.new.out c.put_labelled-after_structural.result = remains-after (after-rank) c.put_labelled-after_structural.ensures in
    let after_lower : Left 3 c.put_labelled-after_lower.new.out c.put_labelled-after_lower.result = remains-after (after-structural) c.put_labelled-after_lower.ensures in
    room_for (after_lower)

pub put_bytes-requires : goal.put_bytes-requires
unfolding rank_line
put_bytes-requires c =
    let runs : List (List ℕ) = labelled rank_label c.args.s.rank ∷ labelled structural_label c.args.s.structural ∷ labelled lower_label c.args.s.lower ∷ labelled upper_label c.args.s.upper ∷ line_feed ∷ [] in
    let Left : ℕ → List ℕ → ℕ → Type 0 = λ k b at. Remains c.args.out.now c.args.at (rank_line c.args.s) b at (drop k (runs)) in
    let at_first : Left 0 c.args.out.now c.args.at = remains-all _ _ _ c.requires in
    let after-rank : Left 1 c.put_labelled-after_rank.new.out c.put_labelled-after_rank.result = remains-after (at_first) c.put_labelled-after_rank.ensures in
    let after-structural : Left 2 c.put_labelled-after_structural.new.out c.put_labelled-after_structural.result = remains-after (after-rank) c.put_labelled-after_structural.ensures in
    let after_lower : Left 3 c.put_labelled-after_lower.new.out c.put_labelled-after_lower.result = remains-after (after-structural) c.put_labelled-after_lower.ensures in
    let after-upper : Left 4 c.put_labelled-after_upper.new.out c.put_labelled-after_upper.result = remains-after (after_lower) c.put_labelled-after_upper.ensures in
    room_for (after-upper)

pub returns : goal.returns
unfolding rank_line
returns c =
    let runs : List (List ℕ) = labelled rank_label c.args.s.rank ∷ labelled structural_label c.args.s.structural ∷ labelled lower_label c.args.s.lower ∷ labelled upper_label c.args.s.upper ∷ line_feed ∷ [] in
    let Left : ℕ → List ℕ → ℕ → Type 0 = λ k b at. Remains c.args.out.now c.args.at (rank_line c.args.s) b at (drop k (runs)) in
    let at_first : Left 0 c.args.out.now c.args.at = remains-all _ _ _ c.requires in
    let after-rank : Left 1 c.put_labelled-after_rank.new.out c.put_labelled-after_rank.result = remains-after (at_first) c.put_labelled-after_rank.ensures in
    let after-structural : Left 2 c.put_labelled-after_structural.new.out c.put_labelled-after_structural.result = remains-after (after-rank) c.put_labelled-after_structural.ensures in
    let after_lower : Left 3 c.put_labelled-after_lower.new.out c.put_labelled-after_lower.result = remains-after (after-structural) c.put_labelled-after_lower.ensures in
    let after-upper : Left 4 c.put_labelled-after_upper.new.out c.put_labelled-after_upper.result = remains-after (after_lower) c.put_labelled-after_upper.ensures in
    stored-all (remains-after (after-upper) c.put_bytes.ensures)
