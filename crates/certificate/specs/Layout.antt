-- The bytes of a certificate (document 01, "Certificate").
--   bytes xs                 numbers below 2 ^ 32 as bytes, four each, least significant first
--   mark, version            the letters PLQ, and the version, 1, in 16 bits
--   header_numbers ..         the six numbers of the header: p, n, m, the rank, and the entry counts of L and U
--   factor_numbers h          the numbers of a factor: its row starts, columns and values
--   numbers_of p n m s        all numbers of the certificate of a set, for an n by m matrix modulo p
--   certificate_of p n m s    the certificate
--   Sized n m s              the lists of a set have the lengths that they have for an n by m matrix
use Rattle.std.specs.Prelude.{ℕ, ◌+◌, ◌/◌, ◌%◌, ◌≡◌, List, [], ◌∷◌, ◌++◌, length}
use Rattle.sparse.specs.Matrix.{Compressed}
use Rattle.sparse.specs.Set.{Set}

unfoldable pub bytes : List ℕ → List ℕ
bytes [] = []
bytes (x ∷ xs) = x % 256 ∷ x / 256 % 256 ∷ x / 65536 % 256 ∷ x / 16777216 % 256 ∷ bytes xs

unfoldable pub mark : List ℕ
mark = 80 ∷ 76 ∷ 81 ∷ []

unfoldable pub version : List ℕ
version = 1 ∷ 0 ∷ []

abbrev pub header_numbers : ℕ → ℕ → ℕ → ℕ → ℕ → ℕ → List ℕ
header_numbers p n m r l u = p ∷ n ∷ m ∷ r ∷ l ∷ u ∷ []

unfoldable pub factor_numbers : Compressed → List ℕ
factor_numbers h = h.starts ++ (h.cols ++ h.vals)

unfoldable pub numbers_of : ℕ → ℕ → ℕ → Set → List ℕ
numbers_of p n m s =
    header_numbers p n m s.r (length s.L.cols) (length s.U.cols) ++ (s.R ++ (s.C ++ (factor_numbers s.L ++ factor_numbers s.U)))

unfoldable pub certificate_of : ℕ → ℕ → ℕ → Set → List ℕ
certificate_of p n m s = mark ++ (version ++ bytes (numbers_of p n m s))

pub record Sized (n m : ℕ) (s : Set) : Type 0 where
  pub row-order : length s.R ≡ n
  pub column-order : length s.C ≡ m
  pub lower-starts : length s.L.starts ≡ n + 1
  pub lower-values : length s.L.vals ≡ length s.L.cols
  pub upper-starts : length s.U.starts ≡ s.r + 1
  pub upper-values : length s.U.vals ≡ length s.U.cols
