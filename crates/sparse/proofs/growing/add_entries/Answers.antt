-- `add_entries` meets its contract; the loop's invariant is `AddingRow`.
use Rattle.std.proofs.Common.{ℕ, ◌+◌, ◌<◌, ap, ◌∙◌, length, get_or, arith}
use Rattle.sparse.proofs.AddLaws.{adding-row-room, adding-row-turn, adding-row-ends}
use Rattle.sparse.proofs.growing.add_entries.Goals as goal

pub number-v-requires : goal.number-v-requires
number-v-requires g c = omega (arith, c.requires.paired, c.count-t-end.ensures)

pub bounds-work-j : goal.bounds-work-j
bounds-work-j g c = rw (c.index-j.ensures ∙ c.number.ensures, c.loop-t.invariant.long) (c.requires.inside c.loop-t.t (omega (arith, c.count-t-end.ensures)))

pub overflow_add-work : goal.overflow_add-work
overflow_add-work g c =
    let place = c.index-j.ensures ∙ c.number.ensures in
    let column : c.index-j.result < length c.loop-t.work = rw (place, c.loop-t.invariant.long) (c.requires.inside c.loop-t.t (omega (arith, c.count-t-end.ensures))) in
    let i = c.loop-t in
    omega (
      arith,
      c.product.ensures,
      c.requires.room c.index-j.result (omega (arith, column, i.invariant.long)),
      adding-row-room _ _ _ _ _ i.t c.index-j.result c.number-v.result (omega (arith, c.count-t-end.ensures)) (omega (arith, c.requires.paired, c.count-t-end.ensures)) place c.number-v.ensures i.invariant,
    )

pub bounds-work-j-in-loop-t : goal.bounds-work-j-in-loop-t
bounds-work-j-in-loop-t g c = rw (c.index-j.ensures ∙ c.number.ensures, c.loop-t.invariant.long) (c.requires.inside c.loop-t.t (omega (arith, c.count-t-end.ensures)))

pub loop-t-preserved : goal.loop-t-preserved
loop-t-preserved g c =
    let place = c.index-j.ensures ∙ c.number.ensures in
    let column : c.index-j.result < length c.loop-t.work = rw (place, c.loop-t.invariant.long) (c.requires.inside c.loop-t.t (omega (arith, c.count-t-end.ensures))) in
    let i = c.loop-t in
    adding-row-turn _ _ _ _ _ i.t c.index-j.result c.number-v.result (omega (arith, c.count-t-end.ensures)) (omega (arith, c.requires.paired, c.count-t-end.ensures)) place c.number-v.ensures i.invariant _ column
    (ap (λ (x : ℕ). get_or i.work c.index-j.result 0 + x) c.product.ensures)

pub shape_of-work : goal.shape_of-work
shape_of-work g c = c.loop-t.invariant.long

pub returns : goal.returns
returns g c = adding-row-ends _ _ _ _ _ _ (omega (arith, c.count-t-end.ensures)) c.loop-t.invariant
