-- What a line says. Bytes: 32 is the space, 77 is the letter M.
--   Fields                          the fields of a line: three, or another number of them
--   fields_of t                      the fields that the pieces t of a line make
--   line_of l                        the line `i j v`
--   header_of l                      the second line, `n m M`
--   with_signed, line_with, line_in    the line `i j v` from the numbers that its fields are
--   is_m, header_with, header_in       the line `n m M` from the numbers and the letter that its fields are
use Rattle.std.specs.Prelude.{ℕ, List, [], ◌∷◌, Bool, false, cond, eqb, Option, Some, None}
use Rattle.text_fields.specs.Pieces.{Pieces, last, more, pieces}
use Rattle.text_fields.specs.Number.{number_in, signed_of}
use Rattle.text_fields.specs.declared.numbers.Signed.{Signed}
use Rattle.text_judge.specs.declared.line.Triple.{Triple}
use Rattle.text_judge.specs.declared.header.Header.{Header}

pub data Fields : Type 0 where
  three : List ℕ → List ℕ → List ℕ → Fields
  not_three : Fields

unfoldable pub fields_of : Pieces → Fields
fields_of (last a) = not_three
fields_of (more a (last b)) = not_three
fields_of (more a (more b (last c))) = three a b c
fields_of (more a (more b (more c t))) = not_three

-- ---- the line `i j v`
abbrev pub with_signed : ℕ → ℕ → Option Signed → Option Triple
with_signed i j (Some v) = Some (record { i = i; j = j; v = v })
with_signed i j None = None

abbrev pub line_with : Option ℕ → Option ℕ → Option Signed → Option Triple
line_with (Some i) (Some j) c = with_signed i j c
line_with (Some i) None c = None
line_with None b c = None

abbrev pub line_in : Fields → Option Triple
line_in (three a b c) = line_with (number_in a) (number_in b) (signed_of c)
line_in not_three = None

unfoldable pub line_of : List ℕ → Option Triple
line_of l = line_in (fields_of (pieces 32 l))

-- ---- the line `n m M`
abbrev pub is_m : List ℕ → Bool
is_m [] = false
is_m (b ∷ []) = eqb b 77
is_m (b ∷ c ∷ cs) = false

abbrev pub header_with : Option ℕ → Option ℕ → Bool → Option Header
header_with (Some n) (Some m) letter = cond letter (Some (record { n = n; m = m })) None
header_with (Some n) None letter = None
header_with None b letter = None

abbrev pub header_in : Fields → Option Header
header_in (three a b c) = header_with (number_in a) (number_in b) (is_m c)
header_in not_three = None

unfoldable pub header_of : List ℕ → Option Header
header_of l = header_in (fields_of (pieces 32 l))
