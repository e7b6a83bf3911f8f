-- Finite sums of natural numbers.
--   sum n f          f 0 + f 1 + .. + f (n - 1)
--   dot n u v        the product of two vectors of n numbers
--   δ a b            1 where a and b are equal, and else 0
--   place s R v      the vector that has v i at place R i for each i below s, and 0 elsewhere
use Rattle.std.specs.Prelude.{ℕ, zero, suc, ◌+◌, ◌*◌}

unfoldable pub sum : ℕ → (ℕ → ℕ) → ℕ
sum zero f = 0
sum (suc n) f = sum n f + f n

unfoldable pub dot : ℕ → (ℕ → ℕ) → (ℕ → ℕ) → ℕ
dot n u v = sum n (λ i. u i * v i)

unfoldable pub δ : ℕ → ℕ → ℕ
δ zero zero = 1
δ zero (suc b) = 0
δ (suc a) zero = 0
δ (suc a) (suc b) = δ a b

-- no two of the places are equal where this is used
unfoldable pub place : ℕ → (ℕ → ℕ) → (ℕ → ℕ) → ℕ → ℕ
place s R v = λ t. dot s v (λ i. δ (R i) t)
