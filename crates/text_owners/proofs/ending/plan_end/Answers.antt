-- `plan_end` meets its contract: the text is looked through where it is within the limit. Assumes nothing.
use Rattle.text_owners.proofs.Ends.{ends-whole, ends-within}
use Rattle.text_owners.proofs.ending.plan_end.Goals as goal

pub returns-then-text-gt-LARGEST_TEXT : goal.returns-then-text-gt-LARGEST_TEXT
returns-then-text-gt-LARGEST_TEXT c = ends-whole _ c.if-text-gt-LARGEST_TEXT.true

pub returns : goal.returns
returns c = ends-within _ c.if-text-gt-LARGEST_TEXT.false _ c.end_in.ensures
