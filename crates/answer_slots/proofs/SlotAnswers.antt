-- The steps of `solved_answer` and of `contradicted_answer`: each is ready where it is called, and what they leave.
use mathlib.Core.Path.{◌≡◌, sym, ap, ◌∙◌}
use mathlib.Core.List.{List, ◌++◌}
use Prim.Native.Nat.{ℕ}
use native.Mathlib.Omega.{arith}
use lib.ListN.{length, get_or, take, drop}
use lib.Seq.{length-take-le}
use Rattle.lists.specs.Filled.{zeros}
use Rattle.lists.specs.Tabulate.{tabulate}
use Rattle.lists.proofs.Filled.{length-zeros, zeros-at}
use Rattle.lists.proofs.Tabulate.{tabulate-ext}
use Rattle.algebra.specs.Matrix.{vector}
use Rattle.sparse.specs.Matrix.{Compressed, matrix}
use Rattle.column_space.specs.Substitution.{settle}
use Rattle.answer_question.proofs.AnswerLaws.{cleared, zeros-take, restored}
use Rattle.answer_slots.specs.Solving.{left_kernel_from, Contradicted}
use Rattle.answer_slots.specs.Needs.{UpperValuesReady, SolvedReady, ContradictReady, ContradictedReady}
use Rattle.answer_slots.proofs.SettleLoop.{settle-ext}

-- ---- solved

module _ (p r : ℕ) (U : Compressed) (C s₀ w s₁ : List ℕ) (d : SolvedReady p r U C s₀ w) (clear : s₁ ≡ zeros (length s₀)) where
  long-s : length s₁ ≡ length s₀
  long-s = ap length clear ∙ length-zeros (length s₀)

  long-t : length (take r w) ≡ r
  long-t = length-take-le r w d.rank

  cell : (i : ℕ) → get_or s₁ i 0 ≡ 0
  cell i = ap (λ (l : List ℕ). get_or l i 0) clear ∙ zeros-at (length s₀) i

  pub settle-ready : UpperValuesReady p U C (take r w) s₁
  settle-ready =
      record {
        ready =
            record {
              positive = d.positive;
              formed = rw long-s d.formed;
              rows = omega (arith, long-t, d.rows);
              order = omega (arith, long-t, d.order);
              places = rw long-s d.places;
              small = λ i h. omega (arith, cell i, d.positive);
            };
        values = d.values;
      }

  pub settle-done : (s₂ : List ℕ) → s₂ ≡ tabulate (length s₁) (settle p (length s₁) (vector C) (matrix U) (vector (take r w)) (length (take r w)) (vector s₁))
      → s₂ ≡ tabulate (length s₀) (settle p (length s₀) (vector C) (matrix U) (vector (take r w)) r (λ j. 0))
  settle-done s₂ e =
      e
      ∙ (λ x. tabulate (long-s x) (settle p (long-s x) (vector C) (matrix U) (vector (take r w)) (long-t x) (vector s₁)))
      ∙ tabulate-ext (length s₀) (settle p (length s₀) (vector C) (matrix U) (vector (take r w)) r (vector s₁)) (settle p (length s₀) (vector C) (matrix U) (vector (take r w)) r (λ j. 0))
      (settle-ext p (length s₀) (vector C) (matrix U) (vector (take r w)) r (vector s₁) (λ j. 0) (λ j b. cell j))

-- ---- contradicted

module _ (p r i : ℕ) (L : Compressed) (R w₀ work w₁ : List ℕ) (d : ContradictedReady p r i L R w₀ work) (clear : w₁ ≡ zeros (length w₀)) where
  long-w : length w₁ ≡ length w₀
  long-w = ap length clear ∙ length-zeros (length w₀)

  long-part : length (take r work) ≡ r
  long-part = length-take-le r work d.room

  pub contradict-ready : ContradictReady p i L R w₁ (take r work)
  contradict-ready =
      record {
        prime = d.prime;
        formed = rw long-part d.formed;
        rows = omega (arith, d.rows, long-w);
        shaped = rw long-part d.shaped;
        order = d.order;
        long = d.long ∙ sym long-w;
        rank = omega (arith, long-part, long-w, d.rank);
        inside = omega (arith, long-w, d.inside);
        clear = cleared w₁ (length w₀) clear;
        row = cleared (take r work) r (zeros-take r work d.room d.clear);
      }

  module _ (w₂ part : List ℕ) (kept : length part ≡ length (take r work))
      (c : Contradicted (left_kernel_from p (length w₁) (length (take r work)) (vector R) (matrix L) i) w₂ part) where
    pub contradict-done : w₂ ≡ left_kernel_from p (length w₀) r (vector R) (matrix L) i
    contradict-done = c.list ∙ (λ x. left_kernel_from p (long-w x) (long-part x) (vector R) (matrix L) i)

    -- the working row is all zero again
    pub work-again : part ++ drop r work ≡ work
    work-again = restored r work part d.room d.clear (kept ∙ long-part) c.row

    pub work-clear : part ++ drop r work ≡ zeros (length (part ++ drop r work))
    work-clear = cleared (part ++ drop r work) (length work) (work-again ∙ d.clear)
