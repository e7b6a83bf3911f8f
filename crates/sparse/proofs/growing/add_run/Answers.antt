-- `add_run` meets its contract; the loop's invariant is `Adding`.
use Rattle.std.proofs.Common.{ℕ, ◌+◌, ◌*◌, ap, ◌∙◌, get_or, arith}
use Rattle.sparse.proofs.RunLaws.{adding-turn, adding-ends}
use Rattle.sparse.proofs.growing.add_run.Goals as goal

pub number-requires : goal.number-requires
number-requires g c = omega (arith, c.requires.paired)

pub overflow_add-work : goal.overflow_add-work
overflow_add-work g c =
    let summand = c.product.ensures ∙ ap (λ (v : ℕ). c.args.d * v) c.number.ensures in
    omega (arith, summand, c.requires.room c.loop-t.t (omega arith), c.loop-t.invariant.rest c.loop-t.t (omega arith))

pub loop-t-preserved : goal.loop-t-preserved
loop-t-preserved g c =
    let summand = c.product.ensures ∙ ap (λ (v : ℕ). c.args.d * v) c.number.ensures in
    let i = c.loop-t in
    adding-turn _ _ _ _ i.t _ (omega (arith, i.invariant.long)) (ap (λ (x : ℕ). get_or i.work i.t 0 + x) summand) i.invariant

pub shape_of-work : goal.shape_of-work
shape_of-work g c = c.loop-t.invariant.long

pub returns : goal.returns
returns g c = adding-ends _ _ _ _ _ (omega (arith, c.loop-t.invariant.long)) c.loop-t.invariant
