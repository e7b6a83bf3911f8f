-- `judge_after` meets its contract: the line is read, then judged. Assumes nothing.
use mathlib.Core.Path.{sym, ◌∙◌}
use Rattle.text_judge.proofs.Sights.{judged-sight}
use Rattle.text_judge.proofs.judge.judge_after.Goals as goal

pub returns : goal.returns
returns c =
    c.verdict_from.ensures
    ∙ rw (c.may_stand-stands.ensures, c.sight_of.ensures, c.line_of-line.ensures) (sym (judged-sight _ _ _ _))
