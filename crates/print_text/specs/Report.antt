-- What the report program prints.
--   report_text s ks cells    all lines of a report, in order; for each word its owner, and a cell, 1 where it is open and 0 where it is closed
--   refusal_text k d          the one line of a refusal, `refused 4 at 6`: its number, then its detail
use Rattle.std.specs.Prelude.{ℕ}
use mathlib.Core.List.{List, [], ◌∷◌, flatten}
use Rattle.print_text.specs.declared.lines.Summary.{Summary}
use Rattle.print_text.specs.Labels.{refused_label, at_label, line_feed}
use Rattle.print_text.specs.Lines.{labelled, sizes_line, rank_line, open_lines, totals_line}

unfoldable pub report_text : Summary → (owners cells : List ℕ) → List ℕ
report_text s owners cells = flatten (sizes_line s ∷ rank_line s ∷ open_lines 0 owners cells ∷ totals_line cells ∷ [])

unfoldable pub refusal_text : ℕ → ℕ → List ℕ
refusal_text k d = flatten (labelled refused_label k ∷ labelled at_label d ∷ line_feed ∷ [])
