-- One law for each way out of a call with slot values. `check` is the check of the set, stored or in a certificate.
use mathlib.Core.Path.{◌≡◌, refl, sym, ap, subst, ◌∙◌}
use mathlib.Core.Bool.{true, false}
use mathlib.Core.List.{List}
use Prim.Native.Nat.{ℕ, ◌≤◌}
use native.Mathlib.Omega.{arith}
use lib.ListN.{length}
use Rattle.lists.specs.Filled.{zeros, filled}
use Rattle.refusals.specs.Refusals.{◌▷◌, number_of, detail_of}
use Rattle.refusals.specs.Outcome.{Outcome}
use Rattle.lists.proofs.Filled.{length-zeros, filled_none, filled-whole}
use Rattle.refusals.proofs.Refusals.{fails, holds, refused, passed, both-passed, unless-passed}
use Rattle.algebra.specs.Matrix.{vector}
use Rattle.sparse.specs.Matrix.{Compressed}
use Rattle.sparse.specs.Set.{Set}
use Rattle.row_space.specs.Question.{question_outcome}
use Rattle.column_space.specs.Slots.{SlotSolution, solve_slots}
use Rattle.column_space.specs.declared.SlotVerdict.{SlotVerdict}
use Rattle.answer_question.specs.Needs.{SetReady}
use Rattle.answer_question.proofs.Passed.{question-passed, passed-ready}
use Rattle.answer_slots.specs.Needs.{SlotsReady}
use Rattle.answer_slots.specs.Solving.{SlotsAnswered}
use Rattle.call_check.specs.Calls.{check_factors_of, check_certificate_of, Checks}
use Rattle.call_check.proofs.Checked.{Checked, stored-test, bytes-test}
use Rattle.call_slots.specs.Calls.{solution_number, solution_detail, solution_of, slot_lengths, slots_after, slots_given, Solves}
use Rattle.call_slots.specs.Meaning.{Heard}
use Rattle.call_slots.specs.Solution.{Solution}
use Rattle.call_slots.proofs.Lengths.{lengths-are}

-- ---- the tests

module _ (check : Outcome) (p n m k : ℕ) (h : List ℕ) (a b : ℕ) where
  pub wrong-lengths : slot_lengths n m k h a b ≡ false → Outcome.Refused 9 0 ≡ slots_after check p n m k h a b
  unfolding slots_after
  wrong-lengths e = fails (slot_lengths n m k h a b) 9 0 (check ▷ question_outcome p h) e

  module _ (long : slot_lengths n m k h a b ≡ true) (o : Outcome) (same : o ≡ check) where
    pub check-refused : (c d : ℕ) → o ≡ Outcome.Refused c d → o ≡ slots_after check p n m k h a b
    unfolding slots_after
    check-refused c d f = holds (slot_lengths n m k h a b) 9 0 (check ▷ question_outcome p h) o long (refused o check (question_outcome p h) c d f same)

    pub slots-tested : o ≡ Outcome.Passed → (t : Outcome) → t ≡ question_outcome p h → t ≡ slots_after check p n m k h a b
    unfolding slots_after
    slots-tested f t e = holds (slot_lengths n m k h a b) 9 0 (check ▷ question_outcome p h) t long (passed o check (question_outcome p h) t f same e)

  -- the parts of a call that passed
  pub heard-parts : slots_after check p n m k h a b ≡ Outcome.Passed → Heard p n m k h a b × (check ≡ Outcome.Passed)
  unfolding slots_after
  heard-parts e =
      let (long, rest) = unless-passed (slot_lengths n m k h a b) 9 0 (check ▷ question_outcome p h) e in
      let (judged, small) = both-passed check (question_outcome p h) rest in
      let (owners, values, columns, rows) = lengths-are n m k h a b long in
      (record { owners = owners; values = values; columns = columns; rows = rows; residues = question-passed p h small }, judged)

-- ---- what the answer needs

-- the working row of a check that passed has a cell for each slot
module _ (p n m : ℕ) (A : Compressed) (v : ℕ) where
  pub factors-rows : (s : Set) → check_factors_of p n m A s v ≡ Outcome.Passed → n ≤ v
  factors-rows s h = let g = (stored-test p n m A s v).exactly.0 h in omega (arith, g.plan.few-rows, g.work)

  pub certificate-rows : (cert : List ℕ) → check_certificate_of p n m A cert v ≡ Outcome.Passed → n ≤ v
  certificate-rows cert h = let g = (bytes-test p n m A cert v).exactly.0 h in omega (arith, g.plan.few-rows, g.work)

slots-ready : (p n m k : ℕ) (A : Compressed) (s : Set) (h st w v : List ℕ) (width : ℕ)
    → Heard p n m k h (length st) (length w) → Checked p n m A s width → n ≤ width → v ≡ zeros width
    → SlotsReady p s h st w v
slots-ready p n m k A s h st w v width l c room clear =
    let wide : length v ≡ width = ap length clear ∙ length-zeros width in
    let set-ready = passed-ready p n m A s c.prime c.sized.row-order c.sized.column-order c.sized.lower-starts c.sized.upper-starts c.judged in
    record {
      set = subst (λ (i : ℕ). SetReady p i (length st) s) (sym l.rows) (subst (λ (i : ℕ). SetReady p n i s) (sym l.columns) set-ready);
      long = l.values ∙ sym l.rows;
      small = l.residues;
      room = omega (arith, l.rows, room);
      clear = clear ∙ ap zeros (sym wide);
    }

-- ---- the result

pub solution-number : (v : SlotVerdict) → solution_number (solution_of v) ≡ 0
solution-number SlotVerdict.Solved = refl
solution-number SlotVerdict.Contradiction = refl

pub solution-detail : (v : SlotVerdict) → solution_detail (solution_of v) ≡ 0
solution-detail SlotVerdict.Solved = refl
solution-detail SlotVerdict.Contradiction = refl

module _ (heard : Outcome) (a : SlotSolution) (s₀ st w₀ w v₀ v : List ℕ) where
  -- a refusal leaves both lists all zero
  refused-leaves : (c d : ℕ) → Outcome.Refused c d ≡ heard → st ≡ zeros (length s₀) → w ≡ zeros (length w₀) → v ≡ zeros (length v₀)
      → Solves (slots_given heard a) (Solution.Refused c d) s₀ st w₀ w v₀ v
  refused-leaves c d e es ew ev =
      record {
        answer = ap (λ (o : Outcome). (slots_given o a).answer) e;
        number = ap (λ (o : Outcome). number_of (slots_given o a).outcome) e;
        detail = ap (λ (o : Outcome). detail_of (slots_given o a).outcome) e;
        s-is = es ∙ sym (filled_none (length s₀)) ∙ ap (λ (o : Outcome). filled (length s₀) (slots_given o a).s) e;
        w-is = ew ∙ sym (filled_none (length w₀)) ∙ ap (λ (o : Outcome). filled (length w₀) (slots_given o a).w) e;
        cleared = ev;
      }

  -- an answer fills both lists
  answered-leaves : Outcome.Passed ≡ heard → length st ≡ length s₀ → length w ≡ length w₀ → length v ≡ length v₀
      → (t : SlotVerdict) (r : Solution) → r ≡ solution_of t → SlotsAnswered a t st w v → Solves (slots_given heard a) r s₀ st w₀ w v₀ v
  answered-leaves e ls lw lv t r f q =
      record {
        answer = f ∙ ap solution_of q.verdict ∙ ap (λ (o : Outcome). (slots_given o a).answer) e;
        number = ap solution_number f ∙ solution-number t ∙ ap (λ (o : Outcome). number_of (slots_given o a).outcome) e;
        detail = ap solution_detail f ∙ solution-detail t ∙ ap (λ (o : Outcome). detail_of (slots_given o a).outcome) e;
        s-is = sym (filled-whole (length s₀) st ls) ∙ ap (filled (length s₀)) q.s-is ∙ ap (λ (o : Outcome). filled (length s₀) (slots_given o a).s) e;
        w-is = sym (filled-whole (length w₀) w lw) ∙ ap (filled (length w₀)) q.w-is ∙ ap (λ (o : Outcome). filled (length w₀) (slots_given o a).w) e;
        cleared = q.row ∙ ap zeros lv;
      }

-- o is the outcome of the tests, and v₁ the working row after them
module _ (check : Outcome) (p n m k : ℕ) (s : Set) (h s₀ w₀ v₀ v₁ : List ℕ) (o : Outcome) (q : Checks (slots_after check p n m k h (length s₀) (length w₀)) o v₀ v₁) where
  abbrev heard : Outcome
  heard = slots_after check p n m k h (length s₀) (length w₀)

  pub refuses : (st w : List ℕ) (c d : ℕ) → o ≡ Outcome.Refused c d → st ≡ zeros (length s₀) → w ≡ zeros (length w₀)
      → Solves (slots_given heard (solve_slots p n m s (vector h))) (Solution.Refused c d) s₀ st w₀ w v₀ v₁
  refuses st w c d f es ew = refused-leaves heard (solve_slots p n m s (vector h)) s₀ st w₀ w v₀ v₁ c d (sym f ∙ q.outcome) es ew q.cleared

  pub answers : o ≡ Outcome.Passed → (st w v : List ℕ) → length st ≡ length s₀ → length w ≡ length w₀ → length v ≡ length v₁
      → (t : SlotVerdict) (r : Solution) → r ≡ solution_of t → SlotsAnswered (solve_slots p (length w₀) (length s₀) s (vector h)) t st w v
      → Solves (slots_given heard (solve_slots p n m s (vector h))) r s₀ st w₀ w v₀ v
  answers f st w v ls lw lv t r g a =
      let (l, judged) = heard-parts check p n m k h (length s₀) (length w₀) (sym q.outcome ∙ f) in
      answered-leaves heard (solve_slots p n m s (vector h)) s₀ st w₀ w v₀ v (sym f ∙ q.outcome) ls lw (lv ∙ ap length q.cleared ∙ length-zeros (length v₀)) t r g
      (subst (λ (z : SlotSolution). SlotsAnswered z t st w v) (λ j. solve_slots p (l.rows j) (l.columns j) s (vector h)) a)

  pub check-passed : o ≡ Outcome.Passed → check ≡ Outcome.Passed
  check-passed f = (heard-parts check p n m k h (length s₀) (length w₀) (sym q.outcome ∙ f)).1

  -- what the answer needs
  pub ready : o ≡ Outcome.Passed → (A : Compressed) → (check ≡ Outcome.Passed → Checked p n m A s (length v₀)) → (check ≡ Outcome.Passed → n ≤ length v₀) → SlotsReady p s h s₀ w₀ v₁
  ready f A checked rows =
      let (l, judged) = heard-parts check p n m k h (length s₀) (length w₀) (sym q.outcome ∙ f) in
      slots-ready p n m k A s h s₀ w₀ v₁ (length v₀) l (checked judged) (rows judged) q.cleared
