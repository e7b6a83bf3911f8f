-- What is done to a lent buffer of bytes.
--   Fills b₀ b size ys    the contract of a whole text: size is its length, and the buffer holds it, zero past its end
use Rattle.std.specs.Prelude.{ℕ, List, ◌≡◌, length}
use Rattle.lists.specs.Filled.{filled}

pub record Fills (b₀ b : List ℕ) (size : ℕ) (ys : List ℕ) : Type 0 where
  pub size_is : size ≡ length ys
  pub buffer-is : b ≡ filled (length b₀) ys
