-- What a report says.
--   text-right        a text that states a plan whose factors fit: its report is right (`ReportsRight`)
--   text-refused      a text that states no plan: the line of a refusal by one of the numbers of a text
--   text-storage      a plan whose factors overflow: the line of refusal 7 at the first row that does, counted from 1
--   text-short        it has fewer than 65,536 bytes, whatever the text
--   text-bytes        and no zero byte
-- The first three with what the call left, whose first `size` bytes of the buffer are what is printed: report-right, report-refused, report-storage.
use mathlib.Core.Path.{◌≡◌, refl, sym, ap, subst, ◌∙◌}
use mathlib.Core.Bool.{false}
use mathlib.Core.List.{List}
use Prim.Native.Nat.{ℕ, ◌+◌, ◌≤◌, ◌<◌}
use native.Mathlib.Omega.{arith}
use lib.Dec.{eqb}
use lib.ListN.{length, take}
use borrow.Author.Tests.{eq-eqb}
use Rattle.lists.specs.Tests.{among}
use Rattle.lists.specs.Filled.{zeros, filled}
use Rattle.refusals.specs.Table.{text_faults, storage_too_short}
use Rattle.refusals.specs.Refusals.{number_of, detail_of}
use Rattle.refusals.specs.Outcome.{Outcome}
use Rattle.refusals.specs.Outcome.{Passed, Refused}
use Rattle.lists.proofs.Filled.{length-zeros, filled-whole, filled-cut}
use Rattle.refusals.proofs.Refusals.{unless_holds}
use Rattle.sparse.specs.Matrix.{Compressed}
use Rattle.sparse.specs.Set.{Set}
use Rattle.elimination.proofs.Theorem.{factor-rank}
use Rattle.row_space.specs.Solve.{open_columns}
use Rattle.limits.specs.Limits.{largest_entries, work_length, print_room}
use Rattle.call_plan.specs.Accepted.{GoodPlan}
use Rattle.call_plan.proofs.Plans.{good-prime}
use Rattle.text_plan.specs.Held.{plan_of}
use Rattle.text_owners.specs.Call.{owners_length}
use Rattle.text_owners.specs.Stating.{StatesText}
use Rattle.call_check.specs.Calls.{check_factors_of}
use Rattle.call_check.specs.Passing.{StoredPasses}
use Rattle.call_check.proofs.Theorems.{factors-exactly}
use Rattle.call_open.specs.Calls.{Listed, columns_after, listed, open_factors_of, Lists}
use Rattle.call_open.specs.Meaning.{MarksOpen}
use Rattle.call_open.proofs.Theorems.{columns-long, stored-marks}
use Rattle.factor_all.specs.Factorization.{Factorization}
use Rattle.print_text.specs.Report.{report_text, refusal_text}
use Rattle.print_text.specs.Printed.{counted_from_one, printed, PrintsRefusal}
use Rattle.print_text.proofs.Counting.{other_lines, totals-last}
use Rattle.print_text.proofs.Shown.{fills-shown, first-refusal}
use Rattle.print_text.proofs.Bytes.{report-bytes, refusal-bytes}
use Rattle.print_text.proofs.Room.{report-short, refusal-short}
use Rattle.stages.specs.Stages.{reading, owners_read, factored_of, set_factored}
use Rattle.stages.specs.Meaning.{factors_of, FitsAll, OverflowsAt}
use Rattle.stages.proofs.ReadText.{reading-holds, owners-read, reading-good, outcome-passed, reading-numbers, whole_set, factored-whole, factored-over}
use Rattle.stages.proofs.Passing.{factors-sized, factors-pass}
use Rattle.report_lib.specs.Reporting.{summary_of, open_list_of, report_read_of, report_of, Reports}
use Rattle.report_lib.specs.Meaning.{ReportsRight}
use Rattle.report_lib.proofs.Printing.{open-length}
use Rattle.report_lib.proofs.Totals.{totals-sum, marks-open, marks-closed}

-- ---- the open columns from a set that passes the check

module _ (p n m : ℕ) (A : Compressed) (s : Set) (passes : StoredPasses p n m A s work_length) where
  listed-all : open_factors_of p n m A s m work_length ≡ listed Passed (open_columns p m s)
  unfolding open_factors_of columns_after
  listed-all =
      ap (λ (o : Outcome). listed o (open_columns p m s))
      (unless_holds (eqb m m) 9 0 (check_factors_of p n m A s work_length) (eq-eqb m m refl) ((factors-exactly p n m A s work_length).1 passes))

  -- as a call that lists them leaves them
  as_call : (l₀ w₀ : List ℕ) → length l₀ ≡ m → length w₀ ≡ work_length
      → Lists (open_factors_of p n m A s (length l₀) (length w₀)) Passed l₀ (open_columns p m s) w₀ (zeros (length w₀))
  as_call l₀ w₀ long wide =
      let same : open_factors_of p n m A s (length l₀) (length w₀) ≡ listed Passed (open_columns p m s) = (λ t. open_factors_of p n m A s (long t) (wide t)) ∙ listed-all in
      record {
        outcome = ap (λ (g : Listed). g.outcome) (sym same);
        number = ap (λ (g : Listed). number_of g.outcome) (sym same);
        detail = ap (λ (g : Listed). detail_of g.outcome) (sym same);
        list-is = sym (ap (λ (g : Listed). filled (length l₀) g.list) same ∙ filled-whole (length l₀) (open_columns p m s) (columns-long p m s ∙ sym long));
        cleared = refl;
      }

  pub all-marked : MarksOpen p n m A (open_columns p m s)
  all-marked =
      stored-marks p n m A s Passed (zeros m) (open_columns p m s) (zeros work_length) (zeros (length (zeros work_length)))
      (as_call (zeros m) (zeros work_length) (length-zeros m) (length-zeros work_length)) refl

-- ---- the report of a text

module _ (text : List ℕ) where
  abbrev p : ℕ
  p = (reading text).result.p

  abbrev n : ℕ
  n = (reading text).result.n

  abbrev m : ℕ
  m = (reading text).result.m

  abbrev A : Compressed
  A = plan_of (reading text)

  abbrev set : Set
  set = factors_of (reading text)

  -- the owners as they are printed
  abbrev owners : List ℕ
  owners = take m (owners_read text)

  -- what is printed after reading, and after factoring
  abbrev after-factoring : Factorization → List ℕ
  after-factoring f = let g = open_list_of (reading text) f in printed g.outcome (report_text (summary_of (reading text) f) owners g.list)

  abbrev after-reading : Factorization → List ℕ
  after-reading f = printed (counted_from_one storage_too_short f.outcome) (after-factoring f)

  report-is : report_of text ≡ printed (reading text).result.outcome (after-reading (factored_of (reading text)))
  unfolding report_of report_read_of
  report-is = refl

  pub text-refused : ¬ StatesText largest_entries text → PrintsRefusal text_faults (report_of text)
  text-refused none =
      subst (PrintsRefusal text_faults) (sym report-is)
      (first-refusal text_faults (reading text).result.outcome (after-reading (factored_of (reading text))) (reading-numbers text) (λ e. none ((outcome-passed text).0 e)))

  module _ (states : StatesText largest_entries text) where
    good : GoodPlan p n m A
    good = reading-good text states

    passes : StoredPasses p n m A set work_length
    passes = factors-pass p n m A good

    report-read : report_of text ≡ after-reading (factored_of (reading text))
    report-read = report-is ∙ ap (λ (o : Outcome). printed o (after-reading (factored_of (reading text)))) ((outcome-passed text).1 states)

    pub text-storage : ¬ FitsAll (reading text) → (i : ℕ) × (report_of text ≡ refusal_text storage_too_short (i + 1)) × OverflowsAt (reading text) i
    text-storage none =
        let (i, refused, overflows) = factored-over text states none in
        (i, report-read ∙ ap (λ (o : Outcome). printed (counted_from_one 7 o) (after-factoring (factored_of (reading text)))) refused, overflows)

    owners-are : owners ≡ states.owners
    owners-are =
        ap (take m) (owners-read text states)
        ∙ filled-cut owners_length m states.owners (states.owners-stated.long ∙ sym (reading-holds text states).columns-are)

    report-whole : FitsAll (reading text) → report_of text ≡ report_text (summary_of (reading text) (whole_set text)) states.owners (open_columns p m set)
    report-whole fits =
        report-read
        ∙ ap after-reading (factored-whole text states fits)
        ∙ ap (λ (g : Listed). printed g.outcome (report_text (summary_of (reading text) (whole_set text)) owners g.list)) (listed-all p n m A set passes)
        ∙ ap (λ (os : List ℕ). report_text (summary_of (reading text) (whole_set text)) os (open_columns p m set)) owners-are

    pub text-right : FitsAll (reading text) → ReportsRight (reading text) states.owners (report_of text)
    text-right fits =
        record {
          summary = summary_of (reading text) (whole_set text);
          marks = open_columns p m set;
          printed-is = report-whole fits;
          modulus-is = refl;
          slots-are = refl;
          words_are = refl;
          entries-are = refl;
          rank_is = factor-rank p n m A (good-prime good) good.formed good.rows;
          structural-is = refl;
          lower-is = (factors-sized p n m A good).lower-values;
          upper_is = (factors-sized p n m A good).upper-values;
          marks-are = all-marked p n m A set passes;
          last_line =
              let s = summary_of (reading text) (whole_set text) in
              (other_lines s states.owners (open_columns p m set), report-whole fits ∙ totals-last s states.owners (open_columns p m set));
          open-total = marks-open p n m A (open_columns p m set) (all-marked p n m A set passes);
          closed-total = marks-closed p n m A (open_columns p m set) (all-marked p n m A set passes);
          totals-sum = totals-sum p n m set;
        }

  -- ---- what holds of every line of a refusal and of the lines of every report

  module _ (P : List ℕ → Type 0) (line : (k d : ℕ) → P (refusal_text k d)) where
    after_line : (o : Outcome) (l : List ℕ) → (o ≡ Passed → P l) → P (printed o l)
    after_line Passed l h = h refl
    after_line (Refused k d) l h = line k d

    always : (StatesText largest_entries text → (f : Factorization) → (open_list_of (reading text) f).outcome ≡ Passed
        → P (report_text (summary_of (reading text) f) owners (open_list_of (reading text) f).list))
        → P (report_of text)
    always lines =
        subst P (sym report-is)
        (after_line (reading text).result.outcome (after-reading f) (λ read.
        after_line (counted_from_one storage_too_short f.outcome) (after-factoring f) (λ factored.
        after_line (open_list_of (reading text) f).outcome _ (lines ((outcome-passed text).0 read) f))))
      where
        f : Factorization
        f = factored_of (reading text)

  pub text-bytes : among 0 (report_of text) ≡ false
  text-bytes = always (λ l. among 0 l ≡ false) refusal-bytes (λ states f passed. report-bytes (summary_of (reading text) f) owners (open_list_of (reading text) f).list)

  pub text-short : length (report_of text) < print_room
  text-short = always (λ l. length l < print_room) (λ k d. omega (arith, refusal-short k d)) lines
    where
      lines : StatesText largest_entries text → (f : Factorization) → (open_list_of (reading text) f).outcome ≡ Passed
          → length (report_text (summary_of (reading text) f) owners (open_list_of (reading text) f).list) < print_room
      lines states f passed =
          let cells : length (open_list_of (reading text) f).list ≤ 2048 = omega (arith, open-length p n m A (set_factored f) passed, (reading-good text states).few-columns) in
          omega (arith, cells, report-short (summary_of (reading text) f) owners (open_list_of (reading text) f).list cells)

-- ---- the call

module _ (text : List ℕ) (size : ℕ) (b₀ b w₀ w : List ℕ) (call : Reports text size b₀ b w₀ w) where
  shown : take size b ≡ report_of text
  shown = fills-shown b₀ b size (report_of text) call.report

  pub report-refused : ¬ StatesText largest_entries text → PrintsRefusal text_faults (take size b)
  report-refused none = subst (PrintsRefusal text_faults) (sym shown) (text-refused text none)

  module _ (states : StatesText largest_entries text) where
    pub report-storage : ¬ FitsAll (reading text) → (i : ℕ) × (take size b ≡ refusal_text storage_too_short (i + 1)) × OverflowsAt (reading text) i
    report-storage none = let (i, refused, overflows) = text-storage text states none in (i, shown ∙ refused, overflows)

    pub report-right : FitsAll (reading text) → ReportsRight (reading text) states.owners (take size b)
    report-right fits = subst (ReportsRight (reading text) states.owners) (sym shown) (text-right text states fits)
