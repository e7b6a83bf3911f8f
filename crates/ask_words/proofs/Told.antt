-- The line of what the stages came to is the text's.
use mathlib.Core.Path.{◌≡◌, ap, ◌∙◌, subst}
use mathlib.Core.List.{List}
use Prim.Native.Nat.{ℕ}
use lib.ListN.{length}
use Rattle.lists.specs.Filled.{zeros}
use Rattle.byte_buffer.specs.Fills.{Fills}
use Rattle.sparse.specs.Matrix.{Compressed}
use Rattle.sparse.specs.Set.{Storage}
use Rattle.limits.specs.Limits.{largest_size, work_length}
use Rattle.call_slots.specs.Calls.{slots_factors_of}
use Rattle.print_text.specs.Printed.{Prints}
use Rattle.stages.specs.Stages.{reading}
use Rattle.stages.specs.Staged.{Staged, StagedOwned}
use Rattle.stages.specs.Results.{Stages}
use Rattle.ask_lib.specs.Asking.{AskLists}
use Rattle.ask_lib.proofs.Following.{work-length, text-line}
use Rattle.ask_lib.proofs.Asked.{staged_ready}
use Rattle.ask_words.specs.Solving.{slots_for, solution_line, words_read_of, words_of, TellsWords}
use Rattle.ask_words.specs.Held.{held_slots, staged_words}
use Rattle.ask_words.specs.Needs.{WordsStagedReady}

module _ (text h : List ℕ) (s : Stages) (A : Compressed) (ow w₀ : List ℕ) (l : Storage) (owned : StagedOwned text s A ow w₀ l) where
  abbrev staged : Staged text s A w₀ l
  staged = owned.stages

  same_line : staged_words s A l h ≡ words_of text h
  unfolding words_of words_read_of
  same_line =
      text-line text s A w₀ l staged (solution_line (held_slots s A l h)) (λ f. solution_line (slots_for (reading text) f h))
      (λ done made t. let r = staged.reading-is t in solution_line
      (slots_factors_of r.p r.n r.m r.m ((staged.factors done).plan-is t) ((staged.factors done).set_is made t) h r.m r.n work_length))

  pub tells : (size : ℕ) (b₀ b w' : List ℕ) → Prints (staged_words s A l h) size b₀ b l.work w' → TellsWords text h size b₀ b w₀ w'
  tells size b₀ b w' g = record { answer = subst (Fills b₀ b size) same_line g.text-is; cleared = g.cleared ∙ ap zeros (work-length text s A w₀ l staged) }

  -- what writing the line needs
  pub words-ready : (out : List ℕ) → AskLists h out w₀ → length ow ≡ largest_size → length l.R ≡ largest_size → length l.C ≡ largest_size → WordsStagedReady s A ow l h out
  words-ready out d ow-length R-length C-length = record { lists = staged_ready text h s A w₀ l staged out d R-length C-length; owners-length = ow-length }
