-- `field_from` meets its contract: a field is the number of its digits where it ends with them and they are well written. Assumes nothing.
use mathlib.Core.Path.{◌≡◌, sym, ◌∙◌}
use mathlib.Core.Bool.{true, false}
use borrow.Author.Tests.{eqb-true, eqb-false}
use Rattle.text_fields.specs.Scan.{size_from}
use Rattle.text_fields.proofs.RunLaws.{field-other, field-ends}
use Rattle.text_fields.proofs.runs.field_from.Goals.{then-not-ends_here-via-then-not-ends_here, then-not-ends_here-via-else-not-ends_here+then-not-well_written}
use Rattle.text_fields.proofs.runs.field_from.Goals as goal

pub returns-then-not-ends_here : goal.returns-then-not-ends_here
returns-then-not-ends_here c =
    elim c.then-not-ends_here.branch [
      | then-not-ends_here-via-then-not-ends_here w ↦
          field-other _ c.requires.1 _ _ _ _ c.digit_run-run.ensures (eqb-false _ 0 (sym c.ends_here.ensures ∙ w.if-not-ends_here.true))
      | then-not-ends_here-via-else-not-ends_here+then-not-well_written w ↦
          let ended : size_from c.args.separator c.args.line.now c.digit_run-run.result.end ≡ 0 = eqb-true _ 0 (sym c.ends_here.ensures ∙ w.if-not-ends_here.false) in
          field-ends _ c.requires.1 _ _ _ _ c.digit_run-run.ensures ended false (sym w.if-not-well_written.true ∙ w.well_written.ensures)
    ]

pub returns : goal.returns
returns c =
    let ended : size_from c.args.separator c.args.line.now c.digit_run-run.result.end ≡ 0 = eqb-true _ 0 (sym c.ends_here.ensures ∙ c.if-not-ends_here.false) in
    field-ends _ c.requires.1 _ _ _ _ c.digit_run-run.ensures (ended) true
    (sym c.if-not-well_written.false ∙ c.well_written.ensures)
