-- What the totals count, and where they stand.
--   open-total, closed-total, totals-sum    from every set: the unit questions that are answered open, those answered closed, together m
--   marks-open, marks-closed                from every list that marks the open words: so many as any test of the row space finds
--   set_tells                               the verdicts from a set that passes are such a test
--   report-foot                             the totals are the last line of the report of a text
use mathlib.Core.Path.{◌≡◌, refl, sym, ap, ◌∙◌}
use mathlib.Core.Bool.{Bool, true, false, cond, not, true≢false}
use mathlib.Core.List.{List, ◌++◌}
use Prim.Native.Nat.{ℕ, ◌+◌, ◌<◌}
use lib.Dec.{eqb, leb}
use lib.ListN.{length, get_or, take}
use borrow.Author.Tests.{eqb-true, eq-eqb}
use Rattle.lists.specs.Tests.{count}
use Rattle.lists.proofs.Tests.{count-ext}
use Rattle.lists.proofs.Tabulate.{tabulate-at}
use Rattle.refusals.specs.Table.{storage_too_short}
use Rattle.refusals.specs.Outcome.{Outcome}
use Rattle.refusals.specs.Outcome.{Passed}
use Rattle.algebra.specs.Sum.{δ}
use Rattle.sparse.specs.Matrix.{Compressed}
use Rattle.sparse.specs.Set.{Set}
use Rattle.row_space.specs.Solve.{remainder, lowest_of, is_open, opened, closed, solve, open_columns}
use Rattle.call_open.specs.Meaning.{MarksOpen}
use Rattle.call_open.proofs.Theorems.{columns-long}
use Rattle.print_text.specs.Lines.{open_count, closed_count, totals_line}
use Rattle.print_text.specs.Report.{report_text}
use Rattle.print_text.specs.Printed.{counted_from_one, printed}
use Rattle.print_text.proofs.Counting.{counts-sum, other_lines, totals-last}
use Rattle.stages.specs.Stages.{reading, owners_read, factored_of}
use Rattle.report_lib.specs.Reporting.{summary_of, open_list_of, report_read_of, report_of}
use Rattle.report_lib.specs.Meaning.{TellsOpen}

-- ---- counting cells

-- how many cells are 1, and how many are not, where a test says which are
module _ (l : List ℕ) (m : ℕ) (long : length l ≡ m) (t : ℕ → Bool) (same : (j : ℕ) → j < m → eqb (get_or l j 0) 1 ≡ t j) where
  pub cells_open : open_count l ≡ count m t
  unfolding open_count
  cells_open = ap (λ (k : ℕ). count k (λ j. eqb (get_or l j 0) 1)) long ∙ count-ext m _ t same

  pub cells-closed : closed_count l ≡ count m (λ j. not (t j))
  unfolding closed_count
  cells-closed = ap (λ (k : ℕ). count k (λ j. not (eqb (get_or l j 0) 1))) long ∙ count-ext m _ (λ j. not (t j)) (λ j h. ap not (same j h))

-- ---- from every set

module _ (p n m : ℕ) (s : Set) where
  -- the unit question of column j is answered open
  abbrev answered : ℕ → Bool
  answered j = is_open (solve p n m s (δ j)).verdict

  cell-answered : (j : ℕ) → j < m → eqb (get_or (open_columns p m s) j 0) 1 ≡ answered j
  unfolding open_columns solve
  cell-answered j h =
      ap (λ (c : ℕ). eqb c 1) (tabulate-at m (λ j. cond (leb m (lowest_of m (remainder p s (δ j)))) 1 0) j h)
      ∙ go (leb m (lowest_of m (remainder p s (δ j)))) _ _
    where
      go : (b : Bool) (x z : List ℕ) → eqb (cond b 1 0) 1 ≡ is_open (cond b (opened m x) (closed n z)).verdict
      go true x z = refl
      go false x z = refl

  pub open-total : open_count (open_columns p m s) ≡ count m answered
  open-total = cells_open (open_columns p m s) m (columns-long p m s) answered cell-answered

  pub closed-total : closed_count (open_columns p m s) ≡ count m (λ j. not (answered j))
  closed-total = cells-closed (open_columns p m s) m (columns-long p m s) answered cell-answered

  pub totals-sum : open_count (open_columns p m s) + closed_count (open_columns p m s) ≡ m
  totals-sum = counts-sum (open_columns p m s) ∙ columns-long p m s

-- ---- from every list that marks the open words

same_truth : (a b : Bool) → (a ≡ true → b ≡ true) → (b ≡ true → a ≡ true) → a ≡ b
same_truth true b f g = sym (f refl)
same_truth false true f g = absurd (true≢false (sym (g refl)))
same_truth false false f g = refl

module _ (p n m : ℕ) (A : Compressed) (l : List ℕ) (marks : MarksOpen p n m A l) (t : ℕ → Bool) (tells : TellsOpen p n m A t) where
  cell-told : (j : ℕ) → j < m → eqb (get_or l j 0) 1 ≡ t j
  cell-told j h =
      same_truth (eqb (get_or l j 0) 1) (t j)
      (λ e. (tells j h).1 ((marks.open_at j h).0 (eqb-true (get_or l j 0) 1 e)))
      (λ e. eq-eqb (get_or l j 0) 1 ((marks.open_at j h).1 ((tells j h).0 e)))

  pub marks-open : open_count l ≡ count m t
  marks-open = cells_open l m marks.long t cell-told

  pub marks-closed : closed_count l ≡ count m (λ j. not (t j))
  marks-closed = cells-closed l m marks.long t cell-told

pub set_tells : (p n m : ℕ) (A : Compressed) (s : Set) → MarksOpen p n m A (open_columns p m s) → TellsOpen p n m A (λ j. is_open (solve p n m s (δ j)).verdict)
set_tells p n m A s marks j h = (
  λ e. (marks.open_at j h).0 (eqb-true (get_or (open_columns p m s) j 0) 1 (cell-answered p n m s j h ∙ e)),
  λ o. sym (cell-answered p n m s j h) ∙ eq-eqb (get_or (open_columns p m s) j 0) 1 ((marks.open_at j h).1 o),
)

-- ---- of a text

pub report-foot : (text : List ℕ) → (reading text).result.outcome ≡ Passed → (factored_of (reading text)).outcome ≡ Passed
    → (open_list_of (reading text) (factored_of (reading text))).outcome ≡ Passed
    → (front : List ℕ) × (report_of text ≡ front ++ totals_line (open_list_of (reading text) (factored_of (reading text))).list)
unfolding report_of report_read_of
report-foot text read factored listed =
    let x = reading text in
    let f = factored_of x in
    let g = open_list_of x f in
    let owners = take x.result.m (owners_read text) in
    let report = report_text (summary_of x f) owners g.list in (
      other_lines (summary_of x f) owners g.list,
      ap (λ (o : Outcome). printed o (printed (counted_from_one storage_too_short f.outcome) (printed g.outcome report))) read
          ∙ ap (λ (o : Outcome). printed (counted_from_one storage_too_short o) (printed g.outcome report)) factored
          ∙ ap (λ (o : Outcome). printed o report) listed
          ∙ totals-last (summary_of x f) owners g.list,
    )
