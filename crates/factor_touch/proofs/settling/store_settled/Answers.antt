-- `store_settled` meets its contract; the loop's invariant is `Storing`, the measure what is left. Assumes nothing.
use Prim.Native.Nat.{ℕ, ◌+◌, ◌*◌, ◌%◌, ◌<◌}
use mathlib.Core.Path.{◌≡◌, sym, ap, ◌∙◌}
use native.Mathlib.Nat.{mod-eq_of_lt}
use native.Mathlib.Omega.{arith}
use lib.ListN.{length, get_or, set}
use Rattle.lists.proofs.Filled.{clearing-cell}
use Rattle.sparse.proofs.DenseSteps.{Storing, storing-starts, storing-room, storing-turn, storing-over, storing-ends}
use Rattle.factor_touch.proofs.SettleSteps.{clearing-covers}
use Rattle.factor_touch.proofs.settling.store_settled.Goals as goal

pub loop-j-init : goal.loop-j-init
loop-j-init c = storing-starts _ _ _ _ _ _

pub overflow_cast-work : goal.overflow_cast-work
overflow_cast-work c =
    let inside : c.loop-j.j < length c.args.work.now = omega (arith, c.loop-j-test.true, c.loop-j.invariant.clearing.long) in
    let cell : get_or c.loop-j.work c.loop-j.j 0 < c.args.q.p = let h = c.loop-j in omega (arith, clearing-cell _ _ h.j (inside) h.invariant.clearing, c.requires.below h.j (inside)) in
    omega (arith, cell)

pub multiply-v-requires : goal.multiply-v-requires
multiply-v-requires c =
    let inside : c.loop-j.j < length c.args.work.now = omega (arith, c.loop-j-test.true, c.loop-j.invariant.clearing.long) in
    let cell : get_or c.loop-j.work c.loop-j.j 0 < c.args.q.p = let h = c.loop-j in omega (arith, clearing-cell _ _ h.j (inside) h.invariant.clearing, c.requires.below h.j (inside)) in
    record { left = c.requires.store.residue; right = cell }

pub put-at-requires : goal.put-at-requires
put-at-requires c =
    let inside : c.loop-j.j < length c.args.work.now = omega (arith, c.loop-j-test.true, c.loop-j.invariant.clearing.long) in
    let cell : get_or c.loop-j.work c.loop-j.j 0 < c.args.q.p = let h = c.loop-j in omega (arith, clearing-cell _ _ h.j (inside) h.invariant.clearing, c.requires.below h.j (inside)) in
    let value : let s = c.args in
    c.multiply-v.result ≡ s.c * (get_or c.loop-j.work c.loop-j.j 0 % s.q.p) % s.q.p = let s = c.args in
    c.multiply-v.ensures.value ∙ ap (λ (x : ℕ). s.c * x % s.q.p) (sym (mod-eq_of_lt (cell))) in
    let h = c.loop-j in storing-room _ _ _ _ _ _ h.work h.cols h.vals h.at h.j h.invariant _ (inside) (value) c.requires.store.room

pub next_touched-j-requires : goal.next_touched-j-requires
next_touched-j-requires c =
    let inside : c.loop-j.j < length c.args.work.now = omega (arith, c.loop-j-test.true, c.loop-j.invariant.clearing.long) in
    let cell : get_or c.loop-j.work c.loop-j.j 0 < c.args.q.p = let h = c.loop-j in omega (arith, clearing-cell _ _ h.j (inside) h.invariant.clearing, c.requires.below h.j (inside)) in
    let value : let s = c.args in
    c.multiply-v.result ≡ s.c * (get_or c.loop-j.work c.loop-j.j 0 % s.q.p) % s.q.p = let s = c.args in
    c.multiply-v.ensures.value ∙ ap (λ (x : ℕ). s.c * x % s.q.p) (sym (mod-eq_of_lt (cell))) in
    let turned : let h = c.loop-j in let s = c.args in
    let put = c.put-at in
    Storing s.q.p s.c s.start s.work.now s.cols.now s.vals.now (set h.work h.j 0) put.new.cols put.new.vals put.result (h.j + 1) = let h = c.loop-j in storing-turn _ _ _ _ _ _ h.work h.cols h.vals h.at h.j h.invariant _ (inside) (value) _ _ _ c.put-at.ensures in
    let t = turned in record { inside = omega (arith, t.clearing.inside, t.clearing.long); blocks = omega (arith, t.clearing.long, c.requires.blocks); covers = clearing-covers c.args.touched.now _ _ _ t.clearing c.requires.covers }

pub loop-j-preserved : goal.loop-j-preserved
loop-j-preserved c =
    let inside : c.loop-j.j < length c.args.work.now = omega (arith, c.loop-j-test.true, c.loop-j.invariant.clearing.long) in
    let cell : get_or c.loop-j.work c.loop-j.j 0 < c.args.q.p = let h = c.loop-j in omega (arith, clearing-cell _ _ h.j (inside) h.invariant.clearing, c.requires.below h.j (inside)) in
    let value : let s = c.args in
    c.multiply-v.result ≡ s.c * (get_or c.loop-j.work c.loop-j.j 0 % s.q.p) % s.q.p = let s = c.args in
    c.multiply-v.ensures.value ∙ ap (λ (x : ℕ). s.c * x % s.q.p) (sym (mod-eq_of_lt (cell))) in
    let turned : let h = c.loop-j in let s = c.args in
    let put = c.put-at in
    Storing s.q.p s.c s.start s.work.now s.cols.now s.vals.now (set h.work h.j 0) put.new.cols put.new.vals put.result (h.j + 1) = let h = c.loop-j in storing-turn _ _ _ _ _ _ h.work h.cols h.vals h.at h.j h.invariant _ (inside) (value) _ _ _ c.put-at.ensures in
    storing-over _ _ _ _ _ _ _ _ _ _ _ _ (turned) c.next_touched-j.ensures

pub returns : goal.returns
returns c = storing-ends _ _ _ _ _ _ _ _ _ _ _ c.loop-j.invariant (omega (arith, c.loop-j-test.false, c.loop-j.invariant.clearing.long))
