-- The first line of what the stages came to: one law for each way out.
--   refused-from         the line of the refusal that they ended with; no column follows
--   marks-ready ..       else the pivot columns can be marked
--   passed-from          and how many columns are free
use Rattle.std.specs.Prelude.{Result, Ok, Err}
use mathlib.Core.Path.{◌≡◌, refl, sym, ap, subst, ◌∙◌}
use mathlib.Core.List.{List, []}
use Prim.Native.Nat.{ℕ, ◌-◌, ◌≤◌}
use lib.ListN.{length, take}
use lib.Seq.{length-take-le}
use Rattle.refusals.specs.Outcome.{Outcome}
use Rattle.refusals.specs.Outcome.{Passed, outcome_of}
use Rattle.refusals.specs.Faults.{number}
use Rattle.refusals.specs.declared.Refusal.{Refusal}
use Rattle.answer_kernel.specs.Filling.{Marked}
use Rattle.answer_kernel.specs.Needs.{MarksReady}
use Rattle.byte_buffer.specs.Fills.{Fills}
use Rattle.print_text.specs.Report.{refusal_text}
use Rattle.print_text.specs.Settings.{free_line}
use Rattle.stages.specs.Results.{Stages, stages_of}
use Rattle.stages.specs.declared.FactoredPlan.{FactoredPlan}
use Rattle.stages.specs.declared.Stopped.{Stopped}
use Rattle.stages.proofs.Outcomes.{not-passed}
use Rattle.ask_lib.specs.Held.{stages_refusal}
use Rattle.ask_lib.specs.Needs.{RowCountable}
use Rattle.ask_lib.proofs.Following.{refused-line, passed-line}
use Rattle.ask_settings.specs.Held.{begun_of, BegunFrom}
use Rattle.ask_settings.specs.Needs.{BeginStagedReady}

module _ (staged : Result FactoredPlan Stopped) (C out w : List ℕ) (d : BeginStagedReady (stages_of staged) C out w) where
  module _ (stopped : Stopped) (is : staged ≡ Err stopped) where
    pub countable : RowCountable (stages_of (Err stopped))
    countable = subst (λ (x : Result FactoredPlan Stopped). RowCountable (stages_of x)) is d.countable

    pub refused-from : (r : Refusal) → outcome_of (Err r) ≡ stages_refusal (stages_of (Err stopped)) → (size : ℕ) (b : List ℕ) → Fills out b size (refusal_text (number r.fault) r.detail)
        → BegunFrom (stages_of staged) (begun_of (outcome_of (Err r)) (stages_of staged) size) C out b w
    refused-from r told size b f =
        let s : Stages = stages_of staged in
        let told_is : outcome_of (Err r) ≡ stages_refusal s = told ∙ (λ t. stages_refusal (stages_of (sym is t))) in
        record {
          line = subst (Fills out b size) (refused-line s (outcome_of (Err r)) told_is (free_line (s.reading.m - s.factored.rank)) (number r.fault) r.detail refl) f;
          begun-is = ap (λ (u : Outcome). begun_of u s size) told_is;
          marked = λ passed. absurd (not-passed (sym told_is) passed);
        }

  module _ (plan : FactoredPlan) (is : staged ≡ Ok plan) where
    abbrev m : ℕ
    m = plan.stated.m

    abbrev r : ℕ
    r = plan.ranks.rank

    ready : BeginStagedReady (stages_of (Ok plan)) C out w
    ready = subst (λ (x : Result FactoredPlan Stopped). BeginStagedReady (stages_of x) C out w) is d

    told : stages_refusal (stages_of (Ok plan)) ≡ Passed
    unfolding stages_refusal
    told = refl

    pub C-part : length (take m C) ≡ m
    C-part = length-take-le m C (ready.C-fits told)

    pub rank-small : r ≤ m
    rank-small = ready.rank-small told

    pub marks-ready : MarksReady r (take m C) w
    marks-ready = ready.marks told

    pub passed-from : (size : ℕ) (b w' : List ℕ) → Marked (take r (take m C)) w' → Fills out b size (free_line (m - r))
        → BegunFrom (stages_of staged) (begun_of Passed (stages_of (Ok plan)) size) C out b w'
    passed-from size b w' marked f =
        let s : Stages = stages_of (Ok plan) in
        subst (λ (x : Result FactoredPlan Stopped). BegunFrom (stages_of x) (begun_of Passed s size) C out b w') (sym is)
        (record {
          line = subst (Fills out b size) (passed-line s Passed (sym told) (free_line (m - r)) refl) f;
          begun-is = ap (λ (u : Outcome). begun_of u s size) (sym told);
          marked = λ passed. marked;
        })
