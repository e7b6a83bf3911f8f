-- A cleared buffer that a text fills.
use mathlib.Core.Path.{◌≡◌, ◌∙◌}
use mathlib.Core.List.{List}
use Prim.Native.Nat.{ℕ, ◌+◌, ◌≤◌}
use native.Mathlib.Omega.{arith}
use lib.ListN.{length}
use Rattle.lists.specs.Filled.{zeros}
use Rattle.lists.specs.Stored.{Stored}
use Rattle.lists.proofs.Stored.{stored-filled}
use Rattle.byte_buffer.specs.Fills.{Fills}

pub stored-fills : {b₀ b₁ b : List ℕ} {size : ℕ} {ys : List ℕ} → length ys ≤ length b₀ → b₁ ≡ zeros (length b₀) → Stored b₁ b 0 size ys → Fills b₀ b size ys
stored-fills {b₀} {b₁} {b} {size} {ys} h e s = record {
  size_is = s.next-is ∙ (let q : 0 + length ys ≡ length ys = omega arith in q);
  buffer-is = stored-filled (length b₀) h e s;
}
