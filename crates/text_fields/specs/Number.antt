-- The number that a field says. Bytes: 48 is `0`, 57 is `9`, 45 is `-`.
--   digits_from v l    the number of v's digits followed by the digits l
--   zero_alone l       0 where nothing follows the digit `0`, else no number
--   number_in l        the number without sign: one to ten digits, no zero before others
--   positive n        a number as one with a plus (which is not written)
--   negative n        a number as one with a minus: none before 0
--   signed_of l        the number with a sign: a minus, or none, before a number
--   is_negative v      v has a minus
--   magnitude v       v without its sign
use Rattle.std.specs.Prelude.{ℕ, ◌+◌, ◌-◌, ◌*◌, List, [], ◌∷◌, Bool, true, false, cond, length, eqb, ltb, Option, Some, None}
use Rattle.text_fields.specs.declared.numbers.Signed.{Signed}
use Rattle.text_fields.specs.declared.numbers.Signed.TheVariants.{Plus, Minus}

unfoldable pub digits_from : ℕ → List ℕ → Option ℕ
digits_from v [] = Some v
digits_from v (b ∷ bs) = let r = digits_from (v * 10 + (b - 48)) bs in cond (ltb b 48) None (cond (ltb 57 b) None r)

-- a zero stands alone
abbrev pub zero_alone : List ℕ → Option ℕ
zero_alone [] = Some 0
zero_alone (c ∷ cs) = None

unfoldable pub number_in : List ℕ → Option ℕ
number_in [] = None
number_in (b ∷ bs) = cond (ltb 10 (length (b ∷ bs))) None (cond (eqb b 48) (zero_alone bs) (digits_from 0 (b ∷ bs)))

abbrev pub positive : Option ℕ → Option Signed
positive (Some n) = Some (Plus n)
positive None = None

abbrev pub negative : Option ℕ → Option Signed
negative (Some n) = cond (eqb n 0) None (Some (Minus n))
negative None = None

unfoldable pub signed_of : List ℕ → Option Signed
signed_of [] = None
signed_of (b ∷ bs) = cond (eqb b 45) (negative (number_in bs)) (positive (number_in (b ∷ bs)))

abbrev pub is_negative : Signed → Bool
is_negative (Plus n) = false
is_negative (Minus n) = true

abbrev pub magnitude : Signed → ℕ
magnitude (Plus n) = n
magnitude (Minus n) = n
