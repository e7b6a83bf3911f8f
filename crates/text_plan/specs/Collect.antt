-- Reading without 5: the lines are collected, and repetitions looked for afterwards.
--   Collected            the triples collected, the latest first, and the result where no place is repeated
--   collect              the lines from number k on; what 6 or 7 refuses is collected too and ends it
--   before_repeated es    how many of the triples, from the first on, repeat no place: the index of the first repetition, or how many there are
--   settled k c          5 at the line of the first repetition, where the first line has the number k, else the result
--   outcome_of o          what a result returns: passed, or a refusal
--   up_to n               0 to n - 1, in their order
--   sorted R C s n       the numbers of n lines by row, then by column, where R and C give their rows and columns
--   triple_in ..          the triple of a number, in three lists
--   ByNumber E ts        E gives the triples ts by their numbers, the latest first
use Rattle.std.specs.Prelude.{ℕ, zero, suc, ◌+◌, ◌≡◌, List, [], ◌∷◌, ◌++◌, cond, ltb, leb, length}
use Rattle.refusals.specs.Table.{malformed, repeated_place}
use Rattle.refusals.specs.Outcome.{Outcome}
use Rattle.refusals.specs.Outcome.{Passed, Refused}
use Rattle.grouping.specs.Grouping.{key_of, grouped}
use Rattle.text_fields.specs.Pieces.{Pieces, last, more}
use Rattle.text_judge.specs.Line.{line_of}
use Rattle.text_judge.specs.Sight.{Sight, Stops, Finishes, Stands, Fails, sight}
use Rattle.text_opening.specs.Reading.{Entry, ReadResult, refused, accepted, kept, fresh, ending}
use Rattle.text_judge.specs.declared.judge.Sizes.{Sizes}

pub record Collected : Type 0 where
  pub all : List Entry
  pub result : ReadResult

abbrev pub triple_of : ℕ → ℕ → ℕ → Entry
triple_of i j v = record { row = i; column = j; value = v }

abbrev pub gather : Sizes → ℕ → List Entry → Pieces → (Entry → Collected) → Sight → Collected
gather s k seen rest next (Stops c) = record { all = seen; result = refused c k }
gather s k seen rest next Finishes = record { all = seen; result = ending s (k + 1) seen rest }
gather s k seen rest next (Stands i j v) = next (triple_of i j v)
gather s k seen rest next (Fails c i j) = record { all = triple_of i j 0 ∷ seen; result = refused c k }

unfoldable pub collect : Sizes → ℕ → ℕ → List Entry → Pieces → Collected
collect s room k seen (last l) = record { all = seen; result = refused malformed k }
collect s room k seen (more l rest) =
    gather s k seen rest (λ t. collect s room (k + 1) (t ∷ seen) rest) (sight (leb room (length (kept seen))) s (line_of l))

unfoldable pub before_repeated : List Entry → ℕ
before_repeated [] = 0
before_repeated (t ∷ ts) = cond (ltb (before_repeated ts) (length ts)) (before_repeated ts) (cond (fresh ts t.row t.column) (suc (length ts)) (length ts))

abbrev pub settled : ℕ → Collected → ReadResult
settled k c = cond (ltb (before_repeated c.all) (length c.all)) (refused repeated_place (before_repeated c.all + k)) c.result

abbrev pub outcome_of : ReadResult → Outcome
outcome_of (refused c k) = Refused c k
outcome_of (accepted s seen) = Passed

-- ---- by number
unfoldable pub up_to : ℕ → List ℕ
up_to zero = []
up_to (suc n) = up_to n ++ (n ∷ [])

abbrev pub sorted : (ℕ → ℕ) → (ℕ → ℕ) → Sizes → ℕ → List ℕ
sorted R C s n = grouped R (s.n + 1) (grouped C (s.m + 1) (up_to n))

abbrev pub triple_in : List ℕ → List ℕ → List ℕ → ℕ → Entry
triple_in rows columns values x = triple_of (key_of rows x) (key_of columns x) (key_of values x)

abbrev pub ByNumber : (ℕ → Entry) → List Entry → Type 0
ByNumber E [] = Unit {0}
ByNumber E (t ∷ ts) = (E (length ts) ≡ t) × ByNumber E ts
