-- `end_by_one` meets its contract: the first piece is as long as the first separator's place says.
use Rattle.std.proofs.Common.{ℕ, ◌+◌, ◌-◌, List, length, drop, take, unwrap_or, ap, ◌∙◌}
use Rattle.text_fields.specs.Pieces.{pieces, first_piece}
use Rattle.text_fields.proofs.Cuts.{first-found}
use Rattle.text_fields.proofs.Values.{take_rest}
use Rattle.text_fields.proofs.pieces.end_by_one.Goals as goal

pub returns : goal.returns
returns c =
    let a = c.args in
    let rest = take (length a.text.now - a.at) (drop a.at a.text.now) in
    ap (λ (k : ℕ). a.at + k)
    (c.unwrap_or.ensures
    ∙ ap (λ r. unwrap_or r (length rest)) c.first_separator.ensures
    ∙ first-found a.separator rest
    ∙ ap (λ (l : List ℕ). length (first_piece (pieces a.separator l))) (take_rest a.at a.text.now))
