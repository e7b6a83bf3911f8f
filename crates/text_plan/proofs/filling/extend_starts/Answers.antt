-- `extend_starts` meets its contract. The invariant: the starts are those of the first k rows. Assumes nothing.
use mathlib.Core.Path.{◌≡◌, ap, ◌∙◌}
use mathlib.Core.List.{List}
use Prim.Native.Nat.{ℕ, ◌+◌}
use native.Mathlib.Omega.{arith}
use lib.ListN.{set}
use Rattle.text_plan.specs.Stored.{starts_of}
use Rattle.text_plan.proofs.StoredForm.{starts-extend}
use Rattle.text_plan.proofs.filling.extend_starts.Goals as goal

pub loop-k-init : goal.loop-k-init
loop-k-init c = λ es r n s. s

pub loop-k-preserved : goal.loop-k-preserved
loop-k-preserved c = λ es r n s.
    ap (λ (x : List ℕ). set x (c.loop-k.k + 1) c.args.count) (c.loop-k.invariant es r n s)
    ∙ starts-extend c.args.from c.loop-k.k c.args.count es r (omega arith) (omega arith) n

pub returns : goal.returns
returns c es r n s = c.loop-k.invariant es r n s ∙ ap (λ (k : ℕ). starts_of k es) (let e : c.loop-k.k ≡ c.args.to = omega arith in e)
