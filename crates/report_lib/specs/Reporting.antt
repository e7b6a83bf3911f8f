-- What the report program prints for a text (document 01, "Report and cases").
--   summary_of x f       the numbers of a report: the plan that was read, and its factoring
--   open_list_of x f      its open columns (document 01's open words), from the set that factoring gives
--   report_read_of x ow   the report of a reading with the owners ow: the line of the first refusal, or the report
--   report_of text       the report of a text
--   report_outcome text  the first refusal of a report, by reading or by factoring, or none
--   ReportLists ..      a buffer that holds any report, and a working row
--   Reports text ..     the contract: the length, every byte of the buffer, and the working row left all zero
--   ReportsAll text ..  the same with the outcome beside the length
use Rattle.std.specs.Prelude.{ℕ, ◌≤◌, ◌≡◌, List, length, take}
use Rattle.lists.specs.Filled.{zeros}
use Rattle.refusals.specs.Table.{storage_too_short}
use Rattle.refusals.specs.Refusals.{◌▷◌}
use Rattle.refusals.specs.Outcome.{Outcome, outcome_of}
use Rattle.byte_buffer.specs.Fills.{Fills}
use Rattle.text_plan.specs.Call.{ReadAnswer}
use Rattle.limits.specs.Limits.{work_length, print_room}
use Rattle.factor_all.specs.Factorization.{Factorization}
use Rattle.call_open.specs.Calls.{Listed, open_factors_of}
use Rattle.print_text.specs.declared.lines.Summary.{Summary}
use Rattle.print_text.specs.Report.{report_text}
use Rattle.print_text.specs.Printed.{counted_from_one, printed}
use Rattle.stages.specs.Stages.{reading, owners_read, factored_of, set_factored}
use Rattle.text_plan.specs.Held.{plan_of}
use Rattle.report_lib.specs.declared.Reported.{Reported}

abbrev pub summary_of : ReadAnswer → Factorization → Summary
summary_of x f =
    record {
      modulus = x.result.p;
      slots = x.result.n;
      words = x.result.m;
      entries = x.result.count;
      rank = f.rank;
      structural = f.structural;
      lower = length f.L.vals;
      upper = length f.U.vals;
    }

abbrev pub open_list_of : ReadAnswer → Factorization → Listed
open_list_of x f = let r = x.result in open_factors_of r.p r.n r.m (plan_of x) (set_factored f) r.m work_length

unfoldable pub report_read_of : ReadAnswer → (ow : List ℕ) → List ℕ
report_read_of x ow =
    let f = factored_of x in
    printed x.result.outcome
    (printed (counted_from_one storage_too_short f.outcome)
    (printed (open_list_of x f).outcome
    (report_text (summary_of x f) (take x.result.m ow) (open_list_of x f).list)))

unfoldable pub report_of : List ℕ → List ℕ
report_of text = report_read_of (reading text) (owners_read text)

unfoldable pub report_outcome : List ℕ → Outcome
report_outcome text = let x = reading text in x.result.outcome ▷ (factored_of x).outcome

pub record ReportLists (out w : List ℕ) : Type 0 where
  pub room : print_room ≤ length out
  pub work-length : length w ≡ work_length

pub record Reports (text : List ℕ) (size : ℕ) (b₀ b w₀ w : List ℕ) : Type 0 where
  pub report : Fills b₀ b size (report_of text)
  pub cleared : w ≡ zeros (length w₀)

pub record ReportsAll (text : List ℕ) (r : Reported) (b₀ b w₀ w : List ℕ) : Type 0 where
  pub outcome : outcome_of r.outcome ≡ report_outcome text
  pub reports : Reports text r.size b₀ b w₀ w
