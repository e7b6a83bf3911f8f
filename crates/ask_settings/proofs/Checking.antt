-- The factors that the stages made of a text pass the check, so that the settings can be computed from them.
--   stages-done         stages that ended with no refusal passed both
--   factored-set        factoring that passed gives the factors by the pivot rules
--   factors-checked     which pass the check
--   held-set            and stand in the lists
--   upper-ready ..      so that the settings can be computed, and the pivot columns marked
use mathlib.Core.Path.{◌≡◌, refl, sym, ap, subst, ◌∙◌}
use mathlib.Core.List.{List}
use mathlib.Core.Option.{Option, none, some}
use Prim.Native.Nat.{ℕ}
use native.Mathlib.Omega.{arith}
use Rattle.refusals.specs.Outcome.{Outcome}
use Rattle.refusals.specs.Outcome.{Passed, Refused}
use Rattle.refusals.proofs.Refusals.{both-passed}
use Rattle.sparse.specs.Matrix.{Compressed}
use Rattle.sparse.specs.Set.{Set, Storage}
use Rattle.pluq.proofs.Orders.{permutation-means}
use Rattle.answer_question.specs.Needs.{SetReady}
use Rattle.answer_question.proofs.Passed.{passed-ready}
use Rattle.limits.specs.Limits.{largest_entries, work_length}
use Rattle.text_plan.specs.Held.{plan_of}
use Rattle.text_plan.specs.Call.{Reading}
use Rattle.text_owners.specs.Stating.{StatesText}
use Rattle.factor_all.specs.Factorization.{Factorization, unless_over}
use Rattle.call_check.proofs.Checked.{Checked, factors-checked}
use Rattle.call_check.proofs.Theorems.{factors-exactly}
use Rattle.print_text.specs.Printed.{counted_from_one}
use Rattle.stages.specs.Stages.{reading, factored_of, set_factored}
use Rattle.stages.specs.Staged.{held_set, Staged}
use Rattle.stages.specs.Meaning.{factors_of}
use Rattle.stages.specs.Results.{Stages}
use Rattle.stages.proofs.Outcomes.{not-passed}
use Rattle.stages.proofs.ReadText.{outcome-passed, reading-good, first_row, whole_set, factored-is}
use Rattle.stages.proofs.Passing.{factors-pass}
use Rattle.ask_lib.specs.Held.{stages_refusal}
use Rattle.ask_settings.specs.Held.{KernelReady}

-- ---- no refusal

counted-passed : (o : Outcome) → counted_from_one 7 o ≡ Passed → o ≡ Passed
counted-passed Passed e = refl
counted-passed (Refused k d) e = absurd (not-passed refl e)

pub stages-done : (s : Stages) → stages_refusal s ≡ Passed → (s.reading.outcome ≡ Passed) × (s.factored.outcome ≡ Passed)
unfolding stages_refusal
stages-done s e = let (read, factored) = both-passed s.reading.outcome (counted_from_one 7 s.factored.outcome) e in (read, counted-passed s.factored.outcome factored)

-- ---- the factors of a text

module _ (text : List ℕ) (states : StatesText largest_entries text) where
  abbrev p : ℕ
  p = (reading text).result.p

  abbrev n : ℕ
  n = (reading text).result.n

  abbrev m : ℕ
  m = (reading text).result.m

  abbrev set : Set
  set = factors_of (reading text)

  pub set-checked : Checked p n m (plan_of (reading text)) set work_length
  set-checked =
      let A = plan_of (reading text) in
      factors-checked p n m A work_length set ((factors-exactly p n m A set work_length).1 (factors-pass p n m A (reading-good text states)))

  pub ready : SetReady p n m set
  ready =
      let c = set-checked in
      passed-ready p n m (plan_of (reading text)) set c.prime c.sized.row-order c.sized.column-order c.sized.lower-starts c.sized.upper-starts c.judged

  pub kernel-ready : KernelReady p m set
  kernel-ready =
      let d = ready in
      record {
        prime = d.prime;
        formed = d.U-form;
        rows = omega (arith, d.long-U);
        order = omega (arith, d.rank-columns, d.long-C);
        places = λ i h. (permutation-means m set.C d.long-C d.columns).below i (omega (arith, d.long-C));
      }

  pub factored-set : (factored_of (reading text)).outcome ≡ Passed → set_factored (factored_of (reading text)) ≡ set
  factored-set e = go (first_row text) refl
    where
      go : (o : Option ℕ) → first_row text ≡ o → set_factored (factored_of (reading text)) ≡ set
      go none q = ap set_factored (factored-is text states ∙ ap (λ (o : Option ℕ). unless_over o (whole_set text)) q)
      go (some i) q =
          absurd (not-passed (ap (λ (f : Factorization). f.outcome) (factored-is text states ∙ ap (λ (o : Option ℕ). unless_over o (whole_set text)) q)) e)

-- ---- as they stand in the lists

module _ (text : List ℕ) (s : Stages) (A : Compressed) (w₀ : List ℕ) (h : Storage) (staged : Staged text s A w₀ h) (passed : stages_refusal s ≡ Passed) where
  pub done : s.reading.outcome ≡ Passed
  done = (stages-done s passed).0

  pub made : s.factored.outcome ≡ Passed
  made = (stages-done s passed).1

  pub states : StatesText largest_entries text
  states = (outcome-passed text).0 (ap (λ (r : Reading). r.outcome) (sym staged.reading-is) ∙ done)

  pub held-set : held_set s h ≡ factors_of (reading text)
  held-set = (staged.factors done).set_is made ∙ factored-set text states (sym (staged.factors done).outcome-is ∙ made)

  pub held-ready : KernelReady s.reading.p s.reading.m (held_set s h)
  held-ready = subst (λ (k : Set). KernelReady s.reading.p s.reading.m k) (sym held-set)
      (subst (λ (r : Reading). KernelReady r.p r.m (factors_of (reading text))) (sym staged.reading-is) (kernel-ready text states))
