-- The rank that the stages of a text found: one law for each way out, and what it is by the text.
use mathlib.Core.Path.{◌≡◌, refl, ap, ◌∙◌}
use mathlib.Core.List.{List}
use Prim.Native.Nat.{ℕ}
use Rattle.refusals.specs.Refusals.{◌▷◌}
use Rattle.refusals.specs.Outcome.{Outcome}
use Rattle.refusals.specs.Outcome.{Passed, Refused}
use Rattle.sparse.specs.Matrix.{Compressed}
use Rattle.sparse.specs.Set.{Storage}
use Rattle.text_plan.specs.Call.{ReadAnswer}
use Rattle.text_plan.specs.Call.{Reading}
use Rattle.stages.specs.Results.{Stages}
use Rattle.stages.specs.Stages.{reading, factored_of}
use Rattle.stages.specs.Staged.{stages_outcome, FactorsHeld, Staged}
use Rattle.bench_calls.specs.Timed.{if_passed, held_rank, timed_rank}

-- a refusal of a stage has no rank
pub refused-rank : (s : Stages) {k d : ℕ} → Refused k d ≡ stages_outcome s → 0 ≡ held_rank s
unfolding held_rank
refused-rank s = ap (λ (o : Outcome). if_passed o s.factored.rank)

-- ---- the stages of a text

-- what follows a test counts only where it passes
after_test : (t o o' : Outcome) (r r' : ℕ) → (t ≡ Passed → if_passed o r ≡ if_passed o' r') → if_passed (t ▷ o) r ≡ if_passed (t ▷ o') r'
after_test Passed o o' r r' e = e refl
after_test (Refused k d) o o' r r' e = refl

module _ (text : List ℕ) (s : Stages) (A : Compressed) (w₀ : List ℕ) (h : Storage) (staged : Staged text s A w₀ h) where
  abbrev x : ReadAnswer
  x = reading text

  pub rank_is : held_rank s ≡ timed_rank text
  unfolding held_rank timed_rank
  rank_is =
      after_test s.reading.outcome s.factored.outcome (factored_of x).outcome s.factored.rank (factored_of x).rank (λ e. same (staged.factors e))
      ∙ ap (λ (r : Reading). if_passed (r.outcome ▷ (factored_of x).outcome) (factored_of x).rank) staged.reading-is
    where
      same : FactorsHeld x s A h → if_passed s.factored.outcome s.factored.rank ≡ if_passed (factored_of x).outcome (factored_of x).rank
      same g t = if_passed (g.outcome-is t) (g.rank_is t)
