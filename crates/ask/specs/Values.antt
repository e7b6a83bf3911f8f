-- A question, or slot values, as text.
--   no_residue            stands for what is no 32-bit number; no modulus has it as a residue
--   value_read n          the value that is read
--   is_separator b        a space or a line feed
--   values_from f l       the values of a text l, of whose first field f was read already
--   ended_at l s i        the value of the field from place s on where a separator at place i ends it; none where there is no separator
--   next_start b s i      where the field of place i + 1 begins, b being the byte at place i
--   FieldReady ..        what adding such a value needs
--   question_in l         the question that a text says whose last byte is a line feed: the values before it, or none where nothing stands there
--   Added y₀ k y r vs    the contract of adding values to the first k of a question: as many are kept as its list has room for
use Rattle.std.specs.Prelude.{ℕ, ◌+◌, ◌-◌, ◌≤◌, ◌<◌, ◌≡◌, Bool, cond, ◌||◌, List, [], ◌∷◌, ◌++◌, eqb, ltb, length, get_or, take, Option, Some, None}
use Rattle.std.proofs.Math.Seq.{slice}
use Rattle.text_fields.specs.Number.{number_in}

abbrev pub no_residue : ℕ
no_residue = 4294967295

abbrev pub value_read : Option ℕ → ℕ
value_read (Some v) = cond (ltb v 4294967296) v no_residue
value_read None = no_residue

unfoldable pub is_separator : ℕ → Bool
is_separator b = eqb b 32 || eqb b 10

unfoldable pub values_from : List ℕ → List ℕ → List ℕ
values_from f [] = value_read (number_in f) ∷ []
values_from f (b ∷ bs) =
    let next = values_from [] bs in
    let longer = values_from (f ++ b ∷ []) bs in
    cond (is_separator b) (value_read (number_in f) ∷ next) longer

unfoldable pub ended_at : List ℕ → ℕ → ℕ → List ℕ
ended_at l start i = cond (is_separator (get_or l i 0)) (value_read (number_in (slice start i l)) ∷ []) []

abbrev pub next_start : ℕ → ℕ → ℕ → ℕ
next_start b start i = cond (is_separator b) (i + 1) start

pub record FieldReady (l : List ℕ) (start i : ℕ) (y : List ℕ) (k : ℕ) : Type 0 where
  pub begun : start ≤ i
  pub place : i < length l
  pub count_fits : k ≤ length y

unfoldable pub question_in : List ℕ → List ℕ
question_in l = let size = length l - 1 in cond (eqb size 0) [] (values_from [] (take size l))

pub record Added (y₀ : List ℕ) (k : ℕ) (y : List ℕ) (r : ℕ) (vs : List ℕ) : Type 0 where
  pub inside : r ≤ length y
  pub values : take r y ≡ take (length y₀) (take k y₀ ++ vs)
