-- The text that states a plan: what `read_of` accepts, exactly.
--   StatedEntry               a triple as it is stated: row and column from 1, the value with its sign
--   integer_of v               the integer that v is
--   triple_text t              the line `i j v`
--   triple_lines ts            the lines of the triples, then the last line
--   last_line                  `0 0 0`
--   sizes_text s               the line `n m M`
--   plan_text s ts             the text of the plan with the sizes s and the triples ts
--   entry_of p t               the triple with its value modulo p
--   entries_of p ts            the triples with their values modulo p, the latest first
--   Stands s seen t           t stands in the plan, at a place where none of the triples seen stands, and its value is in range
--   StandApart s seen ts      each of the triples ts stands apart from those before it and from those seen
--   Plan room s ts            a plan within the limits that lists with room for so many entries can hold
--   stated_at p ts i j         the residue stated at row i + 1 and column j + 1, 0 where none is
--   States room s text out    the text states a plan with the sizes s whose entries are `out`
use Rattle.std.specs.Prelude.{ℕ, ◌+◌, ◌≤◌, ◌≡◌, List, [], ◌∷◌, map, reverse, true, cond, ◌&&◌, eqb, ℤ, length}
use Rattle.residue.specs.Range.{is_modulus}
use Rattle.residue.specs.Signed.{residue_of, value_of}
use Rattle.text_fields.specs.Pieces.{Pieces, last, more, joined}
use Rattle.text_fields.specs.Number.{is_negative, magnitude}
use Rattle.text_fields.specs.Decimal.{decimal, signed_text, Proper}
use Rattle.text_fields.specs.declared.numbers.Signed.{Signed}
use Rattle.text_fields.specs.declared.numbers.Signed.TheVariants.{Plus}
use Rattle.text_judge.specs.declared.judge.Sizes.{Sizes}
use Rattle.limits.specs.Limits.{largest_size, largest_text}
use Rattle.text_judge.specs.Judge.{in_range, within}
use Rattle.text_opening.specs.Reading.{Entry, kept, fresh}

pub record StatedEntry : Type 0 where
  pub row : ℕ
  pub column : ℕ
  pub value : Signed

abbrev pub integer_of : Signed → ℤ
integer_of v = value_of (is_negative v) (magnitude v)

-- ---- the text
unfoldable pub triple_text : StatedEntry → List ℕ
triple_text t = joined 32 (more (decimal t.row) (more (decimal t.column) (last (signed_text t.value))))

unfoldable pub sizes_text : Sizes → List ℕ
sizes_text s = joined 32 (more (decimal s.n) (more (decimal s.m) (last (77 ∷ []))))

-- the last line, `0 0 0`
abbrev pub last_line : List ℕ
last_line = triple_text (record { row = 0; column = 0; value = Plus 0 })

unfoldable pub triple_lines : List StatedEntry → Pieces
triple_lines [] = more last_line (last [])
triple_lines (t ∷ ts) = more (triple_text t) (triple_lines ts)

unfoldable pub plan_text : Sizes → List StatedEntry → List ℕ
plan_text s ts = joined 10 (more (decimal s.modulus.p) (more (sizes_text s) (triple_lines ts)))

-- ---- the plan
abbrev pub entry_of : ℕ → StatedEntry → Entry
entry_of p t = record { row = t.row; column = t.column; value = residue_of p (integer_of t.value) }

abbrev pub entries_of : ℕ → List StatedEntry → List Entry
entries_of p ts = reverse (map (entry_of p) ts)

pub record Stands (s : Sizes) (seen : List Entry) (t : StatedEntry) : Type 0 where
  pub row_inside : within t.row s.n ≡ true
  pub column-inside : within t.column s.m ≡ true
  pub place : fresh seen t.row t.column ≡ true
  pub range : in_range t.value ≡ true
  pub proper : Proper t.value

abbrev pub StandApart : Sizes → List Entry → List StatedEntry → Type 0
StandApart s seen [] = Unit {0}
StandApart s seen (t ∷ ts) = Stands s seen t × StandApart s (entry_of s.modulus.p t ∷ seen) ts

pub record Plan (room : ℕ) (s : Sizes) (ts : List StatedEntry) : Type 0 where
  pub modulus : is_modulus s.modulus.p ≡ true
  pub rows : s.n ≤ largest_size
  pub columns : s.m ≤ largest_size
  pub apart : StandApart s [] ts
  pub fits : length (kept (entries_of s.modulus.p ts)) ≤ room
  pub short : length (plan_text s ts) ≤ largest_text

pub record States (room : ℕ) (s : Sizes) (text : List ℕ) (out : List Entry) : Type 0 where
  pub stated : List StatedEntry
  pub plan : Plan room s stated
  pub text-is : text ≡ plan_text s stated
  pub entries-are : out ≡ entries_of s.modulus.p stated

-- ---- the matrix that triples state, rows and columns from 0: the residue of the value stated at row i + 1 and column j + 1, and 0 where none is
unfoldable pub stated_at : ℕ → List StatedEntry → ℕ → ℕ → ℕ
stated_at p [] i j = 0
stated_at p (t ∷ ts) i j = cond (eqb t.row (i + 1) && eqb t.column (j + 1)) (residue_of p (integer_of t.value)) (stated_at p ts i j)
