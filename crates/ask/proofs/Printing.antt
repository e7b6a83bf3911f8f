-- A line that fills a buffer lies within it.
use mathlib.Core.Path.{◌≡◌, sym, ap, ◌∙◌}
use mathlib.Core.List.{List}
use Prim.Native.Nat.{ℕ, ◌≤◌}
use native.Mathlib.Omega.{arith}
use lib.ListN.{length}
use Rattle.lists.specs.Filled.{filled}
use Rattle.byte_buffer.specs.Fills.{Fills}
use Rattle.stages.proofs.Lists.{filled-fits}

pub line-inside : (b₀ b : List ℕ) (size : ℕ) (ys : List ℕ) → length b ≡ length b₀ → Fills b₀ b size ys → size ≤ length b
line-inside b₀ b size ys e f = omega (arith, f.size_is, filled-fits b ys (f.buffer-is ∙ ap (λ (k : ℕ). filled k ys) (sym e)))
