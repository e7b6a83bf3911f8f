-- `read_foot` meets its contract: the line that follows picks a case of `owners_in`. Assumes nothing.
use Rattle.text_owners.proofs.Follows.{nothing-follows, line-open, has-feed, line-ready, line-refused, only-owners, more-follows}
use Rattle.text_owners.proofs.foot.read_foot.Goals as goal

pub own_by_first-requires : goal.own_by_first-requires
own_by_first-requires c = (c.requires.few, c.requires.cleared)

pub returns-then-from-text : goal.returns-then-from-text
returns-then-from-text c = nothing-follows c.requires c.if-from-text.true _ c.own_by_first.ensures

pub returns-then-from-l : goal.returns-then-from-l
returns-then-from-l c = line-open c.requires c.line_from-l.ensures c.if-from-text.false c.if-from-l.true _

pub next_from-next-requires : goal.next_from-next-requires
next_from-next-requires c = has-feed c.requires c.line_from-l.ensures c.if-from-l.false

pub read_line-requires : goal.read_line-requires
read_line-requires c = line-ready c.requires c.line_from-l.ensures

pub returns-in-Err : goal.returns-in-Err
returns-in-Err c =
    let ends = has-feed c.requires c.line_from-l.ensures c.if-from-l.false in
    line-refused c.requires c.line_from-l.ensures ends c.next_from-next.result c.next_from-next.ensures _ c.read_line.ensures c.in-Err.fault c.in-Err.is

pub returns-then-next-text : goal.returns-then-next-text
returns-then-next-text c =
    let ends = has-feed c.requires c.line_from-l.ensures c.if-from-l.false in
    more-follows c.requires c.line_from-l.ensures ends c.next_from-next.result c.next_from-next.ensures _ c.read_line.ensures c.in_default.is c.if-next-text.true

pub returns : goal.returns
returns c =
    let ends = has-feed c.requires c.line_from-l.ensures c.if-from-l.false in
    only-owners c.requires c.line_from-l.ensures ends c.next_from-next.result c.next_from-next.ensures _ c.read_line.ensures c.in_default.is c.if-next-text.false
