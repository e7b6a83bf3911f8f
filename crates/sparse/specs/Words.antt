-- Lists of 32-bit numbers that come as a stored list or as bytes of a certificate.
--   le32 a b c d       the 32-bit number of four bytes, least significant first
--   words bytes        the 32-bit little-endian numbers that bytes hold; fewer than four bytes at the end hold none
--   view list bytes    the list meant by a stored list and by bytes: the stored numbers, then those of the bytes
--   numbers            the same, always unfolded: what a value of the type `Words` is in a contract
use Rattle.std.specs.Prelude.{ℕ, ◌+◌, ◌*◌, List, [], ◌∷◌, ◌++◌}

abbrev pub le32 : ℕ → ℕ → ℕ → ℕ → ℕ
le32 a b c d = a + 256 * b + 65536 * c + 16777216 * d

unfoldable pub words : List ℕ → List ℕ
words [] = []
words (a ∷ []) = []
words (a ∷ b ∷ []) = []
words (a ∷ b ∷ c ∷ []) = []
words (a ∷ b ∷ c ∷ d ∷ rest) = le32 a b c d ∷ words rest

unfoldable pub view : List ℕ → List ℕ → List ℕ
view list bytes = list ++ words bytes

abbrev pub numbers : List ℕ → List ℕ → List ℕ
numbers list bytes = view list bytes
