-- What is printed of the stages of a text is its report, and their first refusal is the report's outcome.
use mathlib.Core.Path.{◌≡◌, refl, sym, ap, ◌∙◌, subst}
use mathlib.Core.List.{List}
use Prim.Native.Nat.{ℕ, ◌≤◌}
use lib.ListN.{length, take}
use Rattle.lists.specs.Filled.{zeros}
use Rattle.refusals.specs.Refusals.{◌▷◌}
use Rattle.refusals.specs.Outcome.{Outcome}
use Rattle.refusals.specs.Outcome.{Passed, Refused, outcome_of}
use Rattle.refusals.specs.declared.Refusal.{Refusal}
use Rattle.std.specs.Prelude.{Result}
use Rattle.refusals.specs.Table.{storage_too_short}
use Rattle.lists.proofs.Filled.{length-zeros}
use Rattle.sparse.specs.Matrix.{Compressed}
use Rattle.sparse.specs.Set.{Storage}
use Rattle.text_plan.specs.Call.{ReadAnswer}
use Rattle.text_plan.specs.Call.{Reading}
use Rattle.limits.specs.Limits.{largest_size, work_length}
use Rattle.call_open.specs.Calls.{open_factors_of}
use Rattle.print_text.specs.Report.{report_text}
use Rattle.print_text.specs.Printed.{counted_from_one, printed, Prints}
use Rattle.stages.specs.Results.{Stages}
use Rattle.stages.specs.Stages.{reading, factored_of}
use Rattle.stages.specs.Staged.{FactorsHeld, StagedOwned}
use Rattle.report_lib.specs.Held.{held_summary, held_list, held_text, staged_text}
use Rattle.report_lib.specs.Needs.{ReportStagedReady}
use Rattle.report_lib.specs.Reporting.{summary_of, open_list_of, report_read_of, report_of, report_outcome, ReportLists, Reports, ReportsAll}

-- what follows a test counts only where it passes
after_test : (o : Outcome) (x y : List ℕ) → (o ≡ Passed → x ≡ y) → printed o x ≡ printed o y
after_test Passed x y e = e refl
after_test (Refused k d) x y e = refl

after-counted : (o : Outcome) (j : ℕ) (x y : List ℕ) → (o ≡ Passed → x ≡ y) → printed (counted_from_one j o) x ≡ printed (counted_from_one j o) y
after-counted Passed j x y e = e refl
after-counted (Refused k d) j x y e = refl

after-outcome : (t o o' : Outcome) → (t ≡ Passed → o ≡ o') → (t ▷ o) ≡ (t ▷ o')
after-outcome Passed o o' e = e refl
after-outcome (Refused k d) o o' e = refl

module _ (x : ReadAnswer) (ow : List ℕ) (s : Stages) (A : Compressed) (h : Storage) (same : s.reading ≡ x.result) where
  -- the report after reading, and after factoring
  abbrev after-factoring : List ℕ
  after-factoring = printed (open_list_of x (factored_of x)).outcome (report_text (summary_of x (factored_of x)) (take x.result.m ow) (open_list_of x (factored_of x)).list)

  abbrev after-reading : List ℕ
  after-reading = printed (counted_from_one storage_too_short (factored_of x).outcome) after-factoring

  module _ (d : FactorsHeld x s A h) where
    summary-is : held_summary s ≡ summary_of x (factored_of x)
    summary-is t =
        record {
          modulus = (same t).p;
          slots = (same t).n;
          words = (same t).m;
          entries = (same t).count;
          rank = d.rank_is t;
          structural = d.structural-is t;
          lower = d.lower-is t;
          upper = d.upper_is t;
        }

    list-is : s.factored.outcome ≡ Passed → held_list s A h s.reading.m work_length ≡ open_list_of x (factored_of x)
    list-is z t = open_factors_of (same t).p (same t).n (same t).m (d.plan-is t) (d.set_is z t) (same t).m work_length

    held-is : s.factored.outcome ≡ Passed → held_text s A (take s.reading.m ow) h ≡ after-factoring
    unfolding held_text
    held-is z t = printed (list-is z t).outcome (report_text (summary-is t) (take (same t).m ow) (list-is z t).list)

    factored-is : printed (counted_from_one storage_too_short s.factored.outcome) (held_text s A (take s.reading.m ow) h) ≡ after-reading
    factored-is =
        after-counted s.factored.outcome storage_too_short (held_text s A (take s.reading.m ow) h) after-factoring held-is
        ∙ ap (λ (o : Outcome). printed (counted_from_one storage_too_short o) after-factoring) d.outcome-is

  staged-is : (s.reading.outcome ≡ Passed → FactorsHeld x s A h) → staged_text s A ow h ≡ report_read_of x ow
  unfolding staged_text report_read_of
  staged-is factors =
      after_test s.reading.outcome _ after-reading (λ e. factored-is (factors e))
      ∙ ap (λ (r : Reading). printed r.outcome after-reading) same

module _ (text : List ℕ) (s : Stages) (A : Compressed) (ow w₀ : List ℕ) (h : Storage) (owned : StagedOwned text s A ow w₀ h) where
  pub ready : (marks out : List ℕ) → ReportLists out w₀ → length h.C ≡ largest_size → length ow ≡ largest_size → length marks ≡ largest_size → ReportStagedReady s A ow h marks out
  ready marks out d wide owners long =
      let staged = owned.stages in
      let same : length h.work ≡ length w₀ = ap length staged.cleared ∙ length-zeros (length w₀) in
      record {
        fits = λ z. (staged.factors z).fits;
        columns-small = λ z. subst (λ (k : ℕ). s.reading.m ≤ k) wide (staged.factors z).fits.C-fits;
        detail-small = λ z. (staged.factors z).detail-small;
        owners-length = owners;
        marks-length = long;
        room = d.room;
        work-length = same ∙ d.work-length;
        clear = staged.cleared ∙ ap zeros (sym same);
      }

  reported : (size : ℕ) (out out' w' : List ℕ) → Prints (staged_text s A ow h) size out out' h.work w' → Reports text size out out' w₀ w'
  unfolding report_of
  reported size out out' w' p =
      let staged = owned.stages in
      record {
        report =
            (subst (λ (ys : List ℕ). Prints ys size out out' h.work w')
            (staged-is (reading text) ow s A h staged.reading-is staged.factors ∙ ap (report_read_of (reading text)) owned.owners-are) p
            ).text-is;
        cleared = p.cleared ∙ ap zeros (ap length staged.cleared ∙ length-zeros (length w₀));
      }

  outcome-is : (s.reading.outcome ▷ s.factored.outcome) ≡ report_outcome text
  unfolding report_outcome
  outcome-is =
      let staged = owned.stages in
      after-outcome s.reading.outcome s.factored.outcome (factored_of (reading text)).outcome (λ e. (staged.factors e).outcome-is)
      ∙ ap (λ (r : Reading). r.outcome ▷ (factored_of (reading text)).outcome) staged.reading-is

  pub reported-all : (o : Result (Unit {0}) Refusal) (size : ℕ) (out out' w' : List ℕ) → outcome_of o ≡ (s.reading.outcome ▷ s.factored.outcome) → Prints (staged_text s A ow h) size out out' h.work w'
      → ReportsAll text (record { outcome = o; size = size }) out out' w₀ w'
  reported-all o size out out' w' e p = record { outcome = e ∙ outcome-is; reports = reported size out out' w' p }
