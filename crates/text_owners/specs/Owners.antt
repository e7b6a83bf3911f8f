-- The owners of a plan's words (document 02, slip 4): a byte for each word, 0 for a pad, 1 to 255 for a customer. The line of them is the word
-- `owners` and a number for each word, one space before each. Bytes: 10 is the line feed, 32 the space.
--   is_owners_word w       a field is the word `owners`
--   fields_in t           the fields that the pieces t of a line are
--   field_numbers fs      the numbers that the fields say; none where one says no number
--   with_number x vs      the number that a field says, before the numbers vs; none where one of the two is none
--   of_length m vs        the numbers vs where they are m, else none
--   after_word m fs       the numbers of the fields fs after the first, which is the word `owners`
--   owners_line m l       the numbers of the line l of m owners; none where it is no such line
--   all_bytes vs          each of the numbers is at most 255
--   OwnersRead           a refusal with its line, or the owners
--   owners_in m k t       what follows a plan of m words, in the lines t, whose first has the number k: nothing, and every word belongs to customer 1; or
--                        the line of the owners and nothing after it
--   on_line, after_line    what the numbers of the line lead to, and what follows it
use Rattle.std.specs.Prelude.{ℕ, ◌+◌, Bool, true, cond, ◌&&◌, List, [], ◌∷◌, eqb, leb, length, get_or, replicate}
use Rattle.std.specs.Prelude.{Option, Some, None}
use Rattle.refusals.specs.Table.{malformed, owner_too_large}
use Rattle.text_fields.specs.Pieces.{Pieces, last, more, pieces}
use Rattle.text_fields.specs.Number.{number_in}

unfoldable pub is_owners_word : List ℕ → Bool
is_owners_word w =
    eqb (length w) 6
    && (eqb (get_or w 0 0) 111
    && (eqb (get_or w 1 0) 119
    && (eqb (get_or w 2 0) 110
    && (eqb (get_or w 3 0) 101
    && (eqb (get_or w 4 0) 114
    && eqb (get_or w 5 0) 115)))))

unfoldable pub fields_in : Pieces → List (List ℕ)
fields_in (last f) = f ∷ []
fields_in (more f t) = f ∷ fields_in t

abbrev pub with_number : Option ℕ → Option (List ℕ) → Option (List ℕ)
with_number None vs = None
with_number (Some v) None = None
with_number (Some v) (Some vs) = Some (v ∷ vs)

unfoldable pub field_numbers : List (List ℕ) → Option (List ℕ)
field_numbers [] = Some []
field_numbers (f ∷ fs) = with_number (number_in f) (field_numbers fs)

abbrev pub of_length : ℕ → Option (List ℕ) → Option (List ℕ)
of_length m None = None
of_length m (Some vs) = cond (eqb (length vs) m) (Some vs) None

abbrev pub after_word : ℕ → List (List ℕ) → Option (List ℕ)
after_word m [] = None
after_word m (w ∷ fs) = cond (is_owners_word w) (of_length m (field_numbers fs)) None

unfoldable pub owners_line : ℕ → List ℕ → Option (List ℕ)
owners_line m l = after_word m (fields_in (pieces 32 l))

unfoldable pub all_bytes : List ℕ → Bool
all_bytes [] = true
all_bytes (v ∷ vs) = leb v 255 && all_bytes vs

pub data OwnersRead : Type 0 where
  not_read : ℕ → ℕ → OwnersRead
  owned : List ℕ → OwnersRead

abbrev pub after_line : ℕ → List ℕ → Pieces → OwnersRead
after_line k vs (last []) = owned vs
after_line k vs (last (b ∷ bs)) = not_read malformed k
after_line k vs (more l t) = not_read malformed k

abbrev pub on_line : ℕ → Pieces → Option (List ℕ) → OwnersRead
on_line k rest None = not_read malformed k
on_line k rest (Some vs) = cond (all_bytes vs) (after_line (k + 1) vs rest) (not_read owner_too_large k)

unfoldable pub owners_in : (m k : ℕ) → Pieces → OwnersRead
owners_in m k (last []) = owned (replicate m 1)
owners_in m k (last (b ∷ bs)) = not_read malformed k
owners_in m k (more l rest) = on_line k rest (owners_line m l)
