-- `line_at` meets its contract: past the text's end no piece is left. Assumes nothing.
use lib.ListN.{drop_of_length-le}
use Rattle.text_fields.specs.Pieces.{pieces}
use Rattle.text_lines.proofs.line_at.Goals as goal

pub returns-then-at-text : goal.returns-then-at-text
returns-then-at-text c = c.piece.ensures

pub returns-else-at-text : goal.returns-else-at-text
unfolding pieces
returns-else-at-text c = rw (drop_of_length-le _ c.if-at-text.false)
