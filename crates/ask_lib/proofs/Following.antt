-- A line that follows the stages: the line of the refusal that they ended with, or whatever is printed once they passed.
--   refused-reading ..    the refusal that the stages ended with, by the stage that refused
--   refused-nothing ..    and that of any stages: none where they passed, else that of the stage that refused
--   refused-line          where there is one, its line is printed
--   passed-line           where there is none, the given line
--   text-line             what is printed of stages that a text came to is what is printed of the text
--   text-refused ..       what is printed of a text: of one that states no plan, of a plan whose factors overflow, of a plan whose factors fit
use Rattle.std.specs.Prelude.{Result, Ok, Err}
use mathlib.Core.Path.{◌≡◌, refl, sym, ap, subst, ◌∙◌}
use mathlib.Core.List.{List}
use Prim.Native.Nat.{ℕ, ◌+◌, ◌<◌}
use native.Mathlib.Omega.{arith}
use lib.ListN.{length}
use Rattle.lists.proofs.Filled.{length-zeros}
use Rattle.refusals.specs.Table.{text_faults, storage_too_short}
use Rattle.refusals.specs.Refusals.{◌▷◌}
use Rattle.refusals.specs.Outcome.{Outcome}
use Rattle.refusals.specs.Outcome.{Passed, Refused}
use Rattle.refusals.specs.Outcome.{outcome_of}
use Rattle.refusals.specs.Faults.{number}
use Rattle.refusals.specs.declared.Refusal.{Refusal}
use Rattle.sparse.specs.Matrix.{Compressed}
use Rattle.sparse.specs.Set.{Storage}
use Rattle.text_plan.specs.Call.{Reading}
use Rattle.text_plan.specs.declared.Stated.{Stated}
use Rattle.text_owners.specs.Stating.{StatesText}
use Rattle.factor_all.specs.Factorization.{Factorization}
use Rattle.limits.specs.Limits.{largest_entries}
use Rattle.print_text.specs.Report.{refusal_text}
use Rattle.print_text.specs.Printed.{detail_from_one, counted_from_one, printed, PrintsRefusal}
use Rattle.print_text.proofs.Shown.{first-refusal}
use Rattle.stages.specs.Stages.{reading, factored_of}
use Rattle.stages.specs.Staged.{Staged}
use Rattle.stages.specs.Meaning.{FitsAll, OverflowsAt}
use Rattle.stages.specs.Results.{Stages, stages_of}
use Rattle.stages.specs.declared.FactoredPlan.{FactoredPlan}
use Rattle.stages.specs.declared.Stopped.{Stopped}
use Rattle.stages.specs.declared.Stopped.TheVariants.{InReading, InFactoring}
use Rattle.stages.proofs.ReadText.{outcome-passed, reading-numbers, factored-over}
use Rattle.ask_lib.specs.Asking.{after_stages}
use Rattle.ask_lib.specs.Held.{stages_refusal, staged_then}
use Rattle.ask_lib.specs.Needs.{RowCountable}

-- ---- the refusal that the stages ended with

module _ (s : Stopped) where
  pub refused-reading : (r : Refusal) → s ≡ InReading r → outcome_of (Err r) ≡ stages_refusal (stages_of (Err s))
  unfolding stages_refusal
  refused-reading r is t = stages_refusal (stages_of (Err (sym is t)))

  -- the row is counted from 1
  module _ (stated : Stated) (r : Refusal) (is : s ≡ InFactoring stated r) where
    pub row-counts : RowCountable (stages_of (Err s)) → r.detail < 4294967295
    row-counts c = let few = subst (λ (x : Stopped). RowCountable (stages_of (Err x))) is c in omega (arith, few.detail-small refl)

    pub refused-factoring : (told : Refusal) → told ≡ record { fault = r.fault; detail = detail_from_one 7 (number r.fault) r.detail }
        → outcome_of (Err told) ≡ stages_refusal (stages_of (Err s))
    unfolding stages_refusal
    refused-factoring told e = ap (λ (x : Refusal). Refused (number x.fault) x.detail) e ∙ (λ t. stages_refusal (stages_of (Err (sym is t))))

module _ (r : Result FactoredPlan Stopped) where
  pub refused-nothing : (plan : FactoredPlan) → r ≡ Ok plan → Passed ≡ stages_refusal (stages_of r)
  unfolding stages_refusal
  refused-nothing plan is t = stages_refusal (stages_of (sym is t))

  module _ (s : Stopped) (is : r ≡ Err s) where
    pub stopped-counts : RowCountable (stages_of r) → RowCountable (stages_of (Err s))
    stopped-counts c = subst (λ (x : Result FactoredPlan Stopped). RowCountable (stages_of x)) is c

    pub refused-stopped : (o : Outcome) → o ≡ stages_refusal (stages_of (Err s)) → o ≡ stages_refusal (stages_of r)
    refused-stopped o e = e ∙ (λ t. stages_refusal (stages_of (sym is t)))

-- ---- the line

printed-then : (o next : Outcome) (text : List ℕ) → printed o (printed next text) ≡ printed (o ▷ next) text
printed-then Passed next text = refl
printed-then (Refused k d) next text = refl

module _ (s : Stages) where
  abbrev factoring_told : Outcome
  factoring_told = counted_from_one 7 s.factored.outcome

module _ (s : Stages) (o : Outcome) (told_is : o ≡ stages_refusal s) (line : List ℕ) where
  staged-is : printed o line ≡ staged_then s line
  unfolding staged_then stages_refusal
  staged-is =
      ap (λ (u : Outcome). printed u line) told_is
      ∙ sym (printed-then s.reading.outcome (factoring_told s) line)

  pub refused-line : (k d : ℕ) → o ≡ Refused k d → refusal_text k d ≡ staged_then s line
  refused-line k d q = ap (λ (u : Outcome). printed u line) (sym q) ∙ staged-is

  pub passed-line : o ≡ Passed → line ≡ staged_then s line
  passed-line q = ap (λ (u : Outcome). printed u line) (sym q) ∙ staged-is

-- ---- it is the text's

module _ (text : List ℕ) (s : Stages) (A : Compressed) (w₀ : List ℕ) (h : Storage) (staged : Staged text s A w₀ h) where
  pub work-length : length h.work ≡ length w₀
  work-length = ap length staged.cleared ∙ length-zeros (length w₀)

  abbrev f : Factorization
  f = factored_of (reading text)

  -- two lines that are the same where the stages passed
  module _ (line line' : List ℕ) (same : s.reading.outcome ≡ Passed → s.factored.outcome ≡ Passed → line ≡ line') where
    same_after : s.reading.outcome ≡ Passed → printed (factoring_told s) line ≡ printed (counted_from_one 7 f.outcome) line'
    same_after done = go s.factored.outcome refl ∙ ap (λ (o : Outcome). printed (counted_from_one 7 o) line') (staged.factors done).outcome-is
      where
        go : (o : Outcome) → s.factored.outcome ≡ o → printed (counted_from_one 7 o) line ≡ printed (counted_from_one 7 o) line'
        go Passed e = same done e
        go (Refused k d) e = refl

    same-printed : staged_then s line ≡ printed (reading text).result.outcome (printed (counted_from_one 7 f.outcome) line')
    unfolding staged_then
    same-printed = go s.reading.outcome refl ∙ ap (λ (q : Reading). printed q.outcome (printed (counted_from_one 7 f.outcome) line')) staged.reading-is
      where
        go : (o : Outcome) → s.reading.outcome ≡ o → printed o (printed (factoring_told s) line) ≡ printed o (printed (counted_from_one 7 f.outcome) line')
        go Passed e = same_after e
        go (Refused k d) e = refl

  pub text-line : (line : List ℕ) (line' : Factorization → List ℕ)
      → (s.reading.outcome ≡ Passed → s.factored.outcome ≡ Passed → line ≡ line' f) → staged_then s line ≡ after_stages (reading text) line'
  unfolding after_stages
  text-line line line' same = same-printed line (line' f) same

-- ---- what is printed of a text

module _ (text : List ℕ) (line : Factorization → List ℕ) where
  pub text-refused : ¬ StatesText largest_entries text → PrintsRefusal text_faults (after_stages (reading text) line)
  unfolding after_stages
  text-refused none =
      first-refusal text_faults (reading text).result.outcome (printed (counted_from_one 7 (factored_of (reading text)).outcome) (line (factored_of (reading text)))) (reading-numbers text)
      (λ e. none ((outcome-passed text).0 e))

  module _ (states : StatesText largest_entries text) where
    text-read : after_stages (reading text) line ≡ printed (counted_from_one 7 (factored_of (reading text)).outcome) (line (factored_of (reading text)))
    unfolding after_stages
    text-read = ap (λ (o : Outcome). printed o (printed (counted_from_one 7 (factored_of (reading text)).outcome) (line (factored_of (reading text))))) ((outcome-passed text).1 states)

    pub text-storage : ¬ FitsAll (reading text) → (i : ℕ) × (after_stages (reading text) line ≡ refusal_text storage_too_short (i + 1)) × OverflowsAt (reading text) i
    text-storage none =
        let (i, refused, overflows) = factored-over text states none in
        (i, text-read ∙ ap (λ (o : Outcome). printed (counted_from_one 7 o) (line (factored_of (reading text)))) refused, overflows)

    pub text-whole : (g : Factorization) → factored_of (reading text) ≡ g → g.outcome ≡ Passed → after_stages (reading text) line ≡ line g
    text-whole g e done =
        text-read
        ∙ ap (λ (x : Factorization). printed (counted_from_one 7 x.outcome) (line x)) e
        ∙ ap (λ (o : Outcome). printed (counted_from_one 7 o) (line g)) done
