-- The canonical text of a number. Bytes: 48 is `0`, 45 is `-`.
--   decimal_in k n     the decimal digits of n, where k are enough
--   decimal n         the decimal digits of n, a number below 10 ^ 10
--   signed_text v      the text of a number with a sign: a minus before a negative one, no plus
--   Proper v          v has a text: a minus stands before no 0
use Rattle.std.specs.Prelude.{ℕ, zero, suc, ◌+◌, ◌/◌, ◌%◌, ◌<◌, List, [], ◌∷◌, ◌++◌, cond, ltb}
use Rattle.text_fields.specs.declared.numbers.Signed.{Signed}
use Rattle.text_fields.specs.declared.numbers.Signed.TheVariants.{Plus, Minus}

unfoldable pub decimal_in : ℕ → ℕ → List ℕ
decimal_in zero n = []
decimal_in (suc k) n = let high = decimal_in k (n / 10) in cond (ltb n 10) ((48 + n) ∷ []) (high ++ ((48 + n % 10) ∷ []))

unfoldable pub decimal : ℕ → List ℕ
decimal n = decimal_in 10 n

unfoldable pub signed_text : Signed → List ℕ
signed_text (Plus n) = decimal n
signed_text (Minus n) = 45 ∷ decimal n

abbrev pub Proper : Signed → Type 0
Proper (Plus n) = Unit {0}
Proper (Minus n) = 0 < n
