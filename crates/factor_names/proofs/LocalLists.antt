-- The first cells of a local list that is all zero: they are all zero, and as many as are cut.
use Prim.Native.Nat.{ℕ, ◌≤◌}
use mathlib.Core.Path.{◌≡◌, sym, ap, ◌∙◌}
use lib.ListN.{length, take, replicate}
use Rattle.lists.specs.Filled.{zeros}
use Rattle.lists.proofs.Filled.{length-zeros, take-zeros}

pub part-clear : (n k : ℕ) → n ≤ k → take n (replicate {A = ℕ} k 0) ≡ zeros n
unfolding zeros
part-clear n k h = take-zeros n k h

pub part-long : (n k : ℕ) → n ≤ k → n ≡ length (take n (replicate {A = ℕ} k 0))
part-long n k h = sym (ap length (part-clear n k h) ∙ length-zeros n)
