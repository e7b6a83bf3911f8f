-- `count_open` meets its contract. Assumes nothing.
use Rattle.std.proofs.Common.{◌≡◌, ◌∙◌, eqb, rules}
use Rattle.std.specs.Prelude.{count_by}
use Rattle.print_text.proofs.Counting.{open-along}
use Rattle.print_text.proofs.totals.count_open.Goals as goal

pub returns : goal.returns
returns c =
    let cells = c.args.cells.now in
    let along : c.count.result ≡ count_by (λ x. eqb x 1) cells = search rules in
    along ∙ open-along cells
