-- The reading of a plan's own text, which ends with the line `0 0 0`. 10 is the byte of the line feed.
--   Entry                                            a triple of the text: row and column count from 1, the value is a residue
--   kept seen                                        what is stored of the triples seen, in the text's order: those whose value is not 0
--   fresh seen i j                                   no triple seen stands at i and j, zeros included
--   placed s seen                                    what is stored of the triples seen, sorted: by row, then by column
--   ReadResult                                       a refusal with its detail, or the sizes and the triples of an accepted text
--   read_of room text                                 a text read into lists with room for so many entries: each place may be taken once, in any order
-- Lists of triples seen have the latest first. The steps take a `rule`, which says of the triples seen and of a place whether a triple may stand there:
--   verdict_on                                        the verdict on a line after the triples seen
--   triples                                          the lines from the third one on
--   ending, onward                                   what follows the last line, and what the verdict on a line leads to
--   from_first, with_modulus, from_second, with_sizes    the first line, its modulus, the second line, its sizes
--   read_by                                           the whole text
use Rattle.std.specs.Prelude.{ℕ, ◌+◌, List, [], ◌∷◌, ◌++◌, Bool, true, cond, ◌&&◌, not, eqb, ltb, leb, length, Option, Some, None}
use Rattle.refusals.specs.Table.{bad_modulus, over_limit, malformed}
use Rattle.grouping.specs.Grouping.{grouped}
use Rattle.text_fields.specs.Pieces.{Pieces, last, more, pieces}
use Rattle.text_fields.specs.Number.{number_in}
use Rattle.residue.specs.Range.{is_modulus}
use Rattle.limits.specs.Limits.{largest_size, largest_text}
use Rattle.text_judge.specs.Line.{line_of, header_of}
use Rattle.text_judge.specs.Judge.{Verdict, Refused, Last, Entry as AnEntry, judge_line, may_stand}
use Rattle.text_judge.specs.declared.header.Header.{Header}
use Rattle.text_judge.specs.declared.judge.Sizes.{Sizes}

pub record Entry : Type 0 where
  pub row : ℕ
  pub column : ℕ
  pub value : ℕ

unfoldable pub kept : List Entry → List Entry
kept [] = []
kept (t ∷ ts) = cond (eqb t.value 0) (kept ts) (kept ts ++ (t ∷ []))

unfoldable pub fresh : List Entry → ℕ → ℕ → Bool
fresh [] i j = true
fresh (t ∷ ts) i j = not (eqb t.row i && eqb t.column j) && fresh ts i j

unfoldable pub placed : Sizes → List Entry → List Entry
placed s seen = grouped (λ (t : Entry). t.row) (s.n + 1) (grouped (λ (t : Entry). t.column) (s.m + 1) (kept seen))

pub data ReadResult : Type 0 where
  refused : ℕ → ℕ → ReadResult
  accepted : Sizes → List Entry → ReadResult

-- the verdict on the line l after the triples seen
abbrev pub verdict_on : (List Entry → ℕ → ℕ → Bool) → Sizes → ℕ → List Entry → List ℕ → Verdict
verdict_on rule s room seen l = judge_line (may_stand (rule seen) (line_of l)) (leb room (length (kept seen))) s (line_of l)

-- nothing follows the last line
abbrev pub ending : Sizes → ℕ → List Entry → Pieces → ReadResult
ending s k seen (last []) = accepted s seen
ending s k seen (last (b ∷ bs)) = refused malformed k
ending s k seen (more l t) = refused malformed k

-- what the verdict on line k leads to
abbrev pub onward : Sizes → ℕ → List Entry → Pieces → (Entry → ReadResult) → Verdict → ReadResult
onward s k seen rest next (Refused c) = refused c k
onward s k seen rest next Last = ending s (k + 1) seen rest
onward s k seen rest next (AnEntry i j v) = next (record { row = i; column = j; value = v })

-- the lines from number k on
unfoldable pub triples : (List Entry → ℕ → ℕ → Bool) → Sizes → ℕ → ℕ → List Entry → Pieces → ReadResult
triples rule s room k seen (last l) = refused malformed k
triples rule s room k seen (more l rest) = onward s k seen rest (λ t. triples rule s room (k + 1) (t ∷ seen) rest) (verdict_on rule s room seen l)

-- ---- the second line
abbrev pub with_sizes : (List Entry → ℕ → ℕ → Bool) → ℕ → ℕ → Pieces → Option Header → ReadResult
with_sizes rule p room rest None = refused malformed 2
with_sizes rule p room rest (Some h) =
    cond (leb h.n largest_size && leb h.m largest_size) (triples rule (record { modulus = record { p = p }; n = h.n; m = h.m }) room 3 [] rest) (refused over_limit 0)

abbrev pub from_second : (List Entry → ℕ → ℕ → Bool) → ℕ → ℕ → Pieces → ReadResult
from_second rule p room (last l) = refused malformed 2
from_second rule p room (more l rest) = with_sizes rule p room rest (header_of l)

-- ---- the first line
abbrev pub with_modulus : (List Entry → ℕ → ℕ → Bool) → ℕ → Pieces → Option ℕ → ReadResult
with_modulus rule room rest None = refused malformed 1
with_modulus rule room rest (Some p) = cond (is_modulus p) (from_second rule p room rest) (refused bad_modulus 0)

abbrev pub from_first : (List Entry → ℕ → ℕ → Bool) → ℕ → Pieces → ReadResult
from_first rule room (last l) = refused malformed 1
from_first rule room (more l rest) = with_modulus rule room rest (number_in l)

unfoldable pub read_by : (List Entry → ℕ → ℕ → Bool) → ℕ → List ℕ → ReadResult
read_by rule room text = cond (ltb largest_text (length text)) (refused over_limit 0) (from_first rule room (pieces 10 text))

abbrev pub read_of : ℕ → List ℕ → ReadResult
read_of = read_by fresh
