-- One law for each way out of asking: the refusal that the stages ended with, or the answer.
use Rattle.std.specs.Prelude.{Result, Ok, Err}
use mathlib.Core.Path.{◌≡◌, refl, sym, ap, ◌∙◌, subst}
use mathlib.Core.List.{List}
use Prim.Native.Nat.{ℕ, ◌≤◌}
use native.Mathlib.Omega.{arith}
use lib.ListN.{length}
use Rattle.lists.specs.Filled.{zeros}
use Rattle.refusals.specs.Outcome.{outcome_of}
use Rattle.refusals.specs.Faults.{number}
use Rattle.refusals.specs.declared.Refusal.{Refusal}
use Rattle.byte_buffer.specs.Fills.{Fills}
use Rattle.sparse.specs.Matrix.{Compressed}
use Rattle.sparse.specs.Set.{Storage}
use Rattle.limits.specs.Limits.{largest_size, starts_length, work_length}
use Rattle.call_answer.specs.Calls.{answer_factors_of}
use Rattle.print_text.specs.Report.{refusal_text}
use Rattle.print_text.specs.Printed.{Prints}
use Rattle.stages.specs.Stages.{reading}
use Rattle.stages.specs.Staged.{Staged}
use Rattle.stages.specs.Results.{Stages, stages_of}
use Rattle.stages.specs.declared.FactoredPlan.{FactoredPlan}
use Rattle.stages.specs.declared.Stopped.{Stopped}
use Rattle.ask_lib.specs.Asking.{answer_for, given_line, ask_read_of, ask_of, AskLists, Asks}
use Rattle.ask_lib.specs.Held.{held_answer, stages_refusal, staged_then, staged_line}
use Rattle.ask_lib.specs.Needs.{LineReady, Answerable, RowCountable, AskStagedReady}
use Rattle.ask_lib.proofs.Following.{refused-line, work-length, text-line}

-- ---- the line of what the stages came to, whatever is printed once they passed

module _ (staged : Result FactoredPlan Stopped) (A : Compressed) (h : Storage) (y out : List ℕ) (d : AskStagedReady (stages_of staged) A h y out) where
  -- they ended with a refusal
  module _ (stopped : Stopped) (is : staged ≡ Err stopped) where
    pub countable : RowCountable (stages_of (Err stopped))
    countable = subst (λ (x : Result FactoredPlan Stopped). RowCountable (stages_of x)) is d.countable

    pub refused : (line : List ℕ) (r : Refusal) → outcome_of (Err r) ≡ stages_refusal (stages_of (Err stopped)) → (size : ℕ) (b : List ℕ)
        → Fills out b size (refusal_text (number r.fault) r.detail) → Prints (staged_then (stages_of staged) line) size out b h.work h.work
    refused line r told size b g =
        let told_is : outcome_of (Err r) ≡ stages_refusal (stages_of staged) = told ∙ (λ t. stages_refusal (stages_of (sym is t))) in
        record { text-is = subst (Fills out b size) (refused-line (stages_of staged) (outcome_of (Err r)) told_is line (number r.fault) r.detail refl) g; cleared = d.clear }

  -- they passed
  module _ (plan : FactoredPlan) (is : staged ≡ Ok plan) where
    ready : AskStagedReady (stages_of (Ok plan)) A h y out
    ready = subst (λ (x : Result FactoredPlan Stopped). AskStagedReady (stages_of x) A h y out) is d

    pub answerable : (x z : List ℕ) → length x ≡ largest_size → length z ≡ largest_size → Answerable (stages_of (Ok plan)) A h y x z
    answerable x z x-length z-length =
        record {
          fits = ready.fits refl;
          rows-small = ready.rows-small refl;
          columns-small = ready.columns-small refl;
          x-length = x-length;
          z-length = z-length;
          few = d.asked.few;
          work-length = d.asked.work-length;
        }

    pub line-ready : (detail : ℕ) (x z : List ℕ) → detail ≤ starts_length → length x ≡ largest_size → length z ≡ largest_size → LineReady detail plan.stated.n plan.stated.m x z out
    line-ready detail x z small x-length z-length =
        record {
          detail-small = small;
          x-few = ready.rows-small refl;
          z-few = ready.columns-small refl;
          x-length = x-length;
          z-length = z-length;
          room = d.asked.room;
        }

    -- `written` is the line of the answer that was given
    pub answered : (written : List ℕ) (line : Stages → List ℕ) → written ≡ line (stages_of (Ok plan)) → (size : ℕ) (b w' : List ℕ) → Fills out b size written → w' ≡ zeros (length h.work)
        → Prints (staged_then (stages_of staged) (line (stages_of staged))) size out b h.work w'
    unfolding staged_then
    answered written line e size b w' g clear =
        record {
          text-is = subst (Fills out b size) (e ∙ (λ t. staged_then (stages_of (sym is t)) (line (stages_of (sym is t))))) g;
          cleared = clear;
        }

-- ---- it is the text's

module _ (text y : List ℕ) (s : Stages) (A : Compressed) (w₀ : List ℕ) (h : Storage) (staged : Staged text s A w₀ h) where
  same_line : staged_line s A h y ≡ ask_of text y
  unfolding ask_of ask_read_of
  same_line =
      text-line text s A w₀ h staged (given_line (held_answer s A h y)) (λ f. given_line (answer_for (reading text) f y))
      (λ done made t. given_line
      (answer_factors_of (staged.reading-is t).p (staged.reading-is t).n (staged.reading-is t).m ((staged.factors done).plan-is t) ((staged.factors done).set_is made t) y (staged.reading-is t).n (staged.reading-is t).m work_length))

  pub asks : (size : ℕ) (b₀ b w' : List ℕ) → Prints (staged_line s A h y) size b₀ b h.work w' → Asks text y size b₀ b w₀ w'
  asks size b₀ b w' g = record { answer = subst (Fills b₀ b size) same_line g.text-is; cleared = g.cleared ∙ ap zeros (work-length text s A w₀ h staged) }

  -- what writing the line needs
  pub staged_ready : (out : List ℕ) → AskLists y out w₀ → length h.R ≡ largest_size → length h.C ≡ largest_size → AskStagedReady s A h y out
  staged_ready out d R-length C-length =
      let long = work-length text s A w₀ h staged in
      record {
        countable = record { detail-small = λ done. (staged.factors done).detail-small };
        fits = λ done. (staged.factors done).fits;
        rows-small = λ done. omega (arith, (staged.factors done).fits.R-fits, R-length);
        columns-small = λ done. omega (arith, (staged.factors done).fits.C-fits, C-length);
        asked = record { few = d.few; room = d.room; work-length = long ∙ d.work-length };
        clear = staged.cleared ∙ ap zeros (sym long);
      }
