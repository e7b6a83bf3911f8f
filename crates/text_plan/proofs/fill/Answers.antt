-- `fill` meets its contract: the first two lines, the triples and the rows without entries after them give the answer. Assumes nothing.
use mathlib.Core.Path.{refl, ap, ◌∙◌}
use lib.ListN.{length, drop}
use Rattle.lists.specs.Filled.{zeros}
use Rattle.lists.proofs.Filled.{length-zeros}
use Rattle.text_fields.specs.Pieces.{pieces}
use Rattle.limits.specs.Limits.{starts_length}
use Rattle.text_opening.specs.Reading.{fresh}
use Rattle.text_plan.specs.Needs.{lines_of}
use Rattle.text_plan.proofs.Answers.{reading-left, gives-refusal, settles-refused, extendable, gives-read}
use Rattle.text_plan.proofs.fill.Goals as goal

pub returns-in_err-s : goal.returns-in_err-s
returns-in_err-s c =
    let room = length c.args.cols.now in
    gives-refusal room _ _ _ _ _ _ _ (c.in_err-s.ensures.0 fresh room) (reading-left _ _ c.from_residual.ensures.1) c.requires.starts-zero c.requires.columns-zero c.requires.values-zero

pub extend_starts-requires : goal.extend_starts-requires
extend_starts-requires c =
    let o = c.in_ok-s.field-0 in
    let rest = pieces 10 (drop o.third.at c.args.text.now) in
    extendable o.s (length c.args.cols.now) o.third.line rest _ _ _ _ _ _ (ap lines_of c.in-Ok.is) c.in_ok-s.ensures.1.n-limit _ refl c.read_lines.ensures

pub returns-in-Err : goal.returns-in-Err
returns-in-Err c =
    let room = length c.args.cols.now in
    let o = c.in_ok-s.ensures.0 fresh room ∙ settles-refused room _ _ _ _ _ _ _ c.read_lines.ensures (ap lines_of c.in-Err.is) in
    gives-refusal room _ _ _ _ _ _ _ o refl
    (c.clear.ensures ∙ ap zeros (c.read_lines.auto.starts ∙ ap length c.requires.starts-zero ∙ length-zeros starts_length))
    (c.clear-in-Err.ensures ∙ ap zeros c.read_lines.auto.cols)
    (c.clear-in-Err-2.ensures ∙ ap zeros (c.read_lines.auto.vals ∙ ap length c.requires.values-zero ∙ length-zeros room))

pub returns-in-Ok : goal.returns-in-Ok
returns-in-Ok c =
    let room = length c.args.cols.now in
    let o = c.in_ok-s.field-0 in
    let rest = pieces 10 (drop o.third.at c.args.text.now) in
    rw (c.in_ok-s.ensures.0 fresh room)
    (gives-read o.s room o.third.line rest _ _ _ _ _ _ (ap lines_of c.in-Ok.is) c.in_ok-s.ensures.1.n-limit _ refl c.read_lines.ensures _ c.extend_starts.ensures)
