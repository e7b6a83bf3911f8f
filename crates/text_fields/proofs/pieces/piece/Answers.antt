-- `piece` meets its contract: the part up to the end that `piece_end` found is the first piece. Assumes nothing.
use mathlib.Core.Path.{ap, ◌∙◌}
use Prim.Native.Nat.{ℕ, ◌-◌}
use native.Mathlib.Omega.{arith}
use native.Mathlib.Nat.{add-sub_cancel_left}
use lib.ListN.{length, drop, take, length-drop}
use Rattle.text_fields.specs.Pieces.{pieces, first_piece}
use Rattle.text_fields.proofs.Cuts.{first-le, first-prefix}
use Rattle.text_fields.proofs.pieces.piece.Goals as goal

pub slice_bounds-result-end : goal.slice_bounds-result-end
slice_bounds-result-end c =
    let a = c.args in
    let l = drop a.at a.text.now in
    omega (arith, first-le a.separator l, length-drop a.at a.text.now, c.requires, c.piece_end-e.ensures)

pub returns : goal.returns
returns c =
    let a = c.args in
    let l = drop a.at a.text.now in
    ap (λ (k : ℕ). take (k - a.at) l) c.piece_end-e.ensures
    ∙ ap (λ (k : ℕ). take k l) (add-sub_cancel_left a.at (length (first_piece (pieces a.separator l))))
    ∙ first-prefix a.separator l
