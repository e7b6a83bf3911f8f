-- `read` meets its contract; the loop's invariant is `Trying`, the measure how many times the text may be read once more. Assumes nothing.
use Rattle.text_owners.proofs.FromEnd.{Trying, tries_left}
use Rattle.text_owners.proofs.read.Given as goal

abbrev pub invariant-loop-read : goal.invariant-loop-read
invariant-loop-read l = Trying l.text l.end l.exact l.initial.starts l.starts l.initial.cols l.cols l.initial.vals l.vals l.initial.owners l.owners

abbrev pub decreases-loop-read : goal.decreases-loop-read
decreases-loop-read l = tries_left l.exact
