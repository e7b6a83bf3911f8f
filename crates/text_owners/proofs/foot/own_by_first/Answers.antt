-- `own_by_first` meets its contract: 1 is stored for the first m words. Assumes nothing.
use mathlib.Core.Path.{◌≡◌, sym, ap, ◌∙◌}
use mathlib.Core.List.{List, ◌++◌}
use Prim.Native.Nat.{ℕ, ◌-◌, ◌≤◌}
use native.Mathlib.Omega.{arith}
use lib.ListN.{length, take, drop, replicate, length-replicate}
use Rattle.std.proofs.lemmas.List.{drop-replicate}
use lib.Seq.{length-take-le}
use Rattle.lists.specs.Filled.{zeros, filled}
use Rattle.lists.proofs.Filled.{length-zeros}
use Rattle.text_owners.proofs.foot.own_by_first.Goals as goal

ones : (m n i : ℕ) (owners first : List ℕ) → m ≤ n → owners ≡ zeros n → i ≡ m → first ≡ replicate (length (take i owners)) 1 → first ++ drop i owners ≡ filled n (replicate m 1)
unfolding filled zeros
ones m n i owners first h e j f =
    let long : length (take i owners) ≡ m = length-take-le i owners (omega (arith, ap length e, length-zeros n)) ∙ j in
    let left : drop i owners ≡ replicate (n - length (replicate {A = ℕ} m 1)) 0 =
    ap (drop i) e ∙ drop-replicate i n 0 ∙ ap (λ (k : ℕ). replicate k 0) (omega (arith, length-replicate {A = ℕ} m 1)) in
    (λ t. (f ∙ ap (λ (k : ℕ). replicate k 1) long) t ++ left t)

pub slice_bounds-fill-end : goal.slice_bounds-fill-end
slice_bounds-fill-end c = omega (arith, ap length c.requires.1 ∙ length-zeros 2048, c.index.ensures, c.requires.0)

pub slice_bounds-fill-end-2 : goal.slice_bounds-fill-end-2
slice_bounds-fill-end-2 c = sym (length-take-le _ _ (omega (arith, ap length c.requires.1 ∙ length-zeros 2048, c.index.ensures, c.requires.0)))

pub returns : goal.returns
returns c = ones _ 2048 _ _ _ c.requires.0 c.requires.1 c.index.ensures (c.fill.ensures.after (λ y e. e))
