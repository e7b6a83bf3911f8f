-- What a call with slot values says, with what it returned and left (`Solves`), whatever set it was given, whoever made it.
--   stored-heard, bytes-heard          slot values are answered exactly if the set passes the check, there is an owner for each word, h holds n residues,
--                                      and s and w have their lengths
--   stored-after, bytes_after          so all n residues are answered where a call that checks the set has returned 0
--   stored-right, bytes-right          and then the answer is right (`SolvesRight`): solved exactly if some setting gives the slot values, with the s or w
--                                      described
--   stored-judged, bytes-judged        after the tests of lengths and plan, none of 10 to 14 is returned exactly if shape and product are right
--   stored-by, bytes-by                the numbers of the table by which it refuses
--   stored-owners, bytes-owners        9 unless there is an owner for each word
--   stored-cleared, bytes-cleared      a refusal leaves s and w all zero
--   solutions-agree                    two answers to the same slot values, from whatever sets, have one verdict
use mathlib.Core.Path.{◌≡◌, refl, sym, ap, subst, ◌∙◌}
use mathlib.Core.Logic.{◌↔◌}
use mathlib.Core.Bool.{Bool, true, false}
use mathlib.Core.List.{List, [], ◌∷◌, ◌++◌}
use Prim.Native.Nat.{ℕ}
use native.Mathlib.Omega.{arith}
use lib.ListN.{length}
use Rattle.lists.specs.Tests.{among}
use Rattle.lists.specs.Filled.{zeros, filled}
use Rattle.lists.proofs.Filled.{filled_none, filled-whole}
use Rattle.refusals.specs.Table.{plan_faults, set_faults, wrong_length, question_too_large}
use Rattle.refusals.specs.Refusals.{◌▷◌, unless, number_of, NumberFrom}
use Rattle.refusals.specs.Outcome.{Outcome}
use Rattle.refusals.proofs.Refusals.{RefusedBy, number-from, after-passed, unless_holds, refused-unless, refused-then, zero-passed}
use Rattle.algebra.specs.Matrix.{vector}
use Rattle.algebra.specs.ColumnSpace.{InColumnSpace}
use Rattle.algebra.specs.SlotAnswer.{SettingAnswer, ContradictionAnswer}
use Rattle.algebra.specs.Congruence.{◌≈⟨◌⟩◌}
use Rattle.algebra.specs.Sum.{dot}
use Rattle.sparse.specs.Matrix.{Compressed, matrix}
use Rattle.sparse.specs.Set.{Set}
use Rattle.pluq.specs.Judge.{Passes}
use Rattle.row_space.specs.Question.{question_outcome}
use Rattle.column_space.specs.Slots.{SlotSolution, solve_slots, lowest_gap}
use Rattle.column_space.specs.declared.SlotVerdict.{SlotVerdict}
use Rattle.column_space.proofs.Solutions.{solve-slots-lengths}
use Rattle.column_space.proofs.Theorems as sets
use Rattle.certificate.specs.Layout.{Sized}
use Rattle.certificate.specs.Reading.{header_ok, set_of_certificate}
use Rattle.limits.specs.Limits.{work_length}
use Rattle.call_plan.specs.Accepted.{GoodPlan}
use Rattle.call_check.specs.Calls.{check_factors_of, check_certificate_of, Checks}
use Rattle.call_check.specs.Passing.{StoredPasses, CertificatePasses}
use Rattle.call_check.proofs.Theorems.{factors-none, certificate-none, stored-passes, bytes-pass}
use Rattle.call_check.proofs.Checked.{Checked, SetTest, stored-test, bytes-test}
use Rattle.call_slots.specs.Calls.{solution_number, solution_of, slot_lengths, slots_after, slots_given, slots_factors_of, slots_certificate_of, Solves}
use Rattle.call_slots.specs.Meaning.{Heard, LeftSolved, LeftContradiction, SolvesRight, SolutionOf, from_stored, from_bytes}
use Rattle.call_slots.specs.Solution.{Solution}
use Rattle.call_slots.proofs.Lengths.{owners-differ, lengths-pass}
use Rattle.call_slots.proofs.Values.{values-hold, values-numbers, values-none}
use Rattle.call_slots.proofs.Ways.{wrong-lengths, heard-parts}

-- ---- verdicts and answers

solved-verdict : (v : SlotVerdict) → solution_of v ≡ Solution.Solved → v ≡ SlotVerdict.Solved
solved-verdict SlotVerdict.Solved e = refl
solved-verdict SlotVerdict.Contradiction e = absurd (let z : ◌≡◌ {A = ℕ} 0 1 = cc in omega arith)

contradiction-verdict : (v : SlotVerdict) → solution_of v ≡ Solution.Contradiction → v ≡ SlotVerdict.Contradiction
contradiction-verdict SlotVerdict.Solved e = absurd (let z : ◌≡◌ {A = ℕ} 0 1 = cc in omega arith)
contradiction-verdict SlotVerdict.Contradiction e = refl

given-outcome : (o : Outcome) (a : SlotSolution) → (slots_given o a).outcome ≡ o
given-outcome Outcome.Passed a = refl
given-outcome (Outcome.Refused c d) a = refl

heard-lengths : (p n m k : ℕ) (h : List ℕ) (a b : ℕ) → Heard p n m k h a b → slot_lengths n m k h a b ≡ true
heard-lengths p n m k h a b g = lengths-pass n m k h a b g.owners g.values g.columns g.rows

-- the numbers by which a call with slot values refuses
abbrev faults : List ℕ
faults = (wrong_length ∷ []) ++ ((plan_faults ++ set_faults) ++ (question_too_large ∷ []))

-- ---- for any check of a set, which passes exactly X

module _ (X : Type 0) (p n m k : ℕ) (A : Compressed) (s : Set) (h : List ℕ) (r : Solution) (s₀ st w₀ w v₀ v : List ℕ) (t : SetTest p n m A s (length v₀) X)
    (call : Solves (slots_given (slots_after t.check p n m k h (length s₀) (length w₀)) (solve_slots p n m s (vector h))) r s₀ st w₀ w v₀ v) where
  abbrev solved : SlotSolution
  solved = solve_slots p n m s (vector h)

  abbrev tested : Outcome
  tested = slots_after t.check p n m k h (length s₀) (length w₀)

  tested-numbers : RefusedBy faults tested
  unfolding slots_after among
  tested-numbers =
      refused-then (9 ∷ []) ((plan_faults ++ set_faults) ++ (15 ∷ [])) (unless (slot_lengths n m k h (length s₀) (length w₀)) 9 0) (t.check ▷ question_outcome p h)
      (refused-unless (9 ∷ []) (slot_lengths n m k h (length s₀) (length w₀)) 9 0 refl)
      (refused-then (plan_faults ++ set_faults) (15 ∷ []) t.check (question_outcome p h) t.numbers (values-numbers p h))

  number_is : solution_number r ≡ number_of tested
  number_is = call.number ∙ ap number_of (given-outcome tested solved)

  tested-passed : (solution_number r ≡ 0) ↔ (tested ≡ Outcome.Passed)
  unfolding among
  tested-passed =
      let (there, back) = zero-passed faults tested tested-numbers refl in
      ((λ e. there (sym number_is ∙ e)), λ e. number_is ∙ back e)

  by : NumberFrom faults (solution_number r)
  by = subst (NumberFrom faults) (sym number_is) (number-from faults tested tested-numbers)

  heard : (solution_number r ≡ 0) ↔ (X × Heard p n m k h (length s₀) (length w₀))
  unfolding slots_after
  heard = (
    (λ e.
        let (good, judged) = heard-parts t.check p n m k h (length s₀) (length w₀) (tested-passed.0 e) in
        (t.exactly.0 judged, good)),
    λ g.
        tested-passed.1
        (unless_holds (slot_lengths n m k h (length s₀) (length w₀)) 9 0 (t.check ▷ question_outcome p h) (heard-lengths p n m k h (length s₀) (length w₀) g.1)
        (after-passed t.check (question_outcome p h) (t.exactly.1 g.0) ∙ values-hold p h g.1.residues)),
  )

  cleared : ¬ (solution_number r ≡ 0) → (st ≡ zeros (length s₀)) × (w ≡ zeros (length w₀))
  cleared f = go tested refl
    where
      go : (o : Outcome) → tested ≡ o → (st ≡ zeros (length s₀)) × (w ≡ zeros (length w₀))
      go Outcome.Passed e = absurd (f (tested-passed.1 e))
      go (Outcome.Refused c d) e = (
        call.s-is ∙ ap (λ (o : Outcome). filled (length s₀) (slots_given o solved).s) e ∙ filled_none (length s₀),
        call.w-is ∙ ap (λ (o : Outcome). filled (length w₀) (slots_given o solved).w) e ∙ filled_none (length w₀),
      )

  -- what follows the check gives none of its numbers
  judged-none : (Y : Type 0) → k ≡ m → length h ≡ n → length s₀ ≡ m → length w₀ ≡ n → ((among (number_of (t.check ▷ question_outcome p h)) set_faults ≡ false) ↔ Y) → (among (solution_number r) set_faults ≡ false) ↔ Y
  unfolding slots_after
  judged-none Y owners values columns rows e =
      subst (λ (i : ℕ). (among i set_faults ≡ false) ↔ Y)
      (sym (number_is ∙ ap (λ (b : Bool). number_of (unless b 9 0 ▷ t.check ▷ question_outcome p h)) (lengths-pass n m k h (length s₀) (length w₀) owners values columns rows))) e

  -- there is no owner for each word: 9, whatever else is right or wrong
  unowned : ¬ (k ≡ m) → solution_number r ≡ wrong_length
  unowned f = number_is ∙ ap number_of (sym (wrong-lengths t.check p n m k h (length s₀) (length w₀) (sym (owners-differ n m k h (length s₀) (length w₀) f))))

  -- ---- the answer

  module _ (done : solution_number r ≡ 0) where
    passed : tested ≡ Outcome.Passed
    passed = tested-passed.0 done

    good : Heard p n m k h (length s₀) (length w₀)
    good = (heard.0 done).1

    c : Checked p n m A s (length v₀)
    c = t.checked (heard-parts t.check p n m k h (length s₀) (length w₀) passed).1

    answer-is : r ≡ solution_of solved.verdict
    answer-is = call.answer ∙ ap (λ (o : Outcome). (slots_given o solved).answer) passed

    is-solved : r ≡ Solution.Solved → solved.verdict ≡ SlotVerdict.Solved
    is-solved e = solved-verdict solved.verdict (sym answer-is ∙ e)

    is-contradiction : r ≡ Solution.Contradiction → solved.verdict ≡ SlotVerdict.Contradiction
    is-contradiction e = contradiction-verdict solved.verdict (sym answer-is ∙ e)

    s-left : st ≡ solved.s
    s-left =
        let (long, other) = solve-slots-lengths p n m s (vector h) in
        call.s-is ∙ ap (λ (o : Outcome). filled (length s₀) (slots_given o solved).s) passed ∙ filled-whole (length s₀) solved.s (long ∙ sym good.columns)

    w-left : w ≡ solved.w
    w-left =
        let (other, long) = solve-slots-lengths p n m s (vector h) in
        call.w-is ∙ ap (λ (o : Outcome). filled (length w₀) (slots_given o solved).w) passed ∙ filled-whole (length w₀) solved.w (long ∙ sym good.rows)

    solved-left : r ≡ Solution.Solved → LeftSolved p n m A s h st w
    solved-left e =
        let (long, right, none) = sets.solved-answer c.prime n m A s c.sized.row-order c.sized.column-order c.judged h (is-solved e) in
        record {
          length-s = ap length s-left ∙ long;
          answer = subst (λ (l : List ℕ). SettingAnswer p n m s.r (matrix A) (vector s.C) (vector h) (vector l)) (sym s-left) right;
          only = λ u l a. sets.solved-only c.prime n m A s c.sized.row-order c.sized.column-order c.judged h (is-solved e) u l a ∙ sym s-left;
          w-is = w-left ∙ none;
        }

    contradiction-left : r ≡ Solution.Contradiction → LeftContradiction p n m A s h st w
    contradiction-left e =
        let g = is-contradiction e in
        let (below, long, right, none) = sets.contradiction-answer c.prime n m A s c.sized.row-order c.sized.column-order c.judged h g in
        record {
          slot = lowest_gap p n s (vector h);
          inside = below;
          length-w = ap length w-left ∙ long;
          answer = subst (λ (l : List ℕ). ContradictionAnswer p n m s.r (matrix A) (vector s.R) (lowest_gap p n s (vector h)) (vector l)) (sym w-left) right;
          differs =
              subst (λ (l : List ℕ). ¬ (dot n (vector l) (vector h) ≈⟨ p ⟩ 0)) (sym w-left)
              (sets.contradiction-differs c.prime n m A s c.sized.row-order c.sized.column-order c.judged h g);
          lowest = sets.contradiction-lowest c.prime n m A s c.sized.row-order c.sized.column-order c.judged h g;
          only = λ u l a. sets.contradiction-only c.prime n m A s c.sized.row-order c.sized.column-order c.judged h g u l a ∙ sym w-left;
          s-is = s-left ∙ none;
        }

    right : SolvesRight p n m A s h r st w
    right =
        let (there, back) = sets.solved-exactly c.prime n m A s c.sized.row-order c.sized.column-order c.judged h in
        let (out, none) = sets.contradiction-exactly c.prime n m A s c.sized.row-order c.sized.column-order c.judged h in
        record {
          solved-exactly = (λ e. there (is-solved e), λ q. answer-is ∙ ap solution_of (back q));
          contradiction-exactly = (λ e. out (is-contradiction e), λ q. answer-is ∙ ap solution_of (none q));
          solved-left = solved-left;
          contradiction-left = contradiction-left;
        }

-- ---- from stored factors

module _ (p n m k : ℕ) (A : Compressed) (s : Set) (h : List ℕ) (r : Solution) (s₀ st w₀ w v₀ v : List ℕ)
    (call : Solves (slots_factors_of p n m k A s h (length s₀) (length w₀) (length v₀)) r s₀ st w₀ w v₀ v) where
  pub stored-heard : (solution_number r ≡ 0) ↔ (StoredPasses p n m A s (length v₀) × Heard p n m k h (length s₀) (length w₀))
  unfolding slots_factors_of
  stored-heard =
      heard _ p n m k A s h r s₀ st w₀ w v₀ v (stored-test p n m A s (length v₀)) call

  pub stored-after : (q : Outcome) (w₁ w₂ : List ℕ) → Checks (check_factors_of p n m A s (length w₁)) q w₁ w₂ → number_of q ≡ 0
      → length v₀ ≡ work_length → Heard p n m k h (length s₀) (length w₀) → solution_number r ≡ 0
  stored-after q w₁ w₂ check passed wide good =
      let g = (stored-passes p n m A s q w₁ w₂ check).0 passed in
      stored-heard.1 (record { plan = g.plan; sized = g.sized; work = wide; passes = g.passes }, good)

  pub stored-right : solution_number r ≡ 0 → SolvesRight p n m A s h r st w
  unfolding slots_factors_of
  stored-right =
      right _ p n m k A s h r s₀ st w₀ w v₀ v (stored-test p n m A s (length v₀)) call

  pub stored-judged : GoodPlan p n m A → Sized n m s → length v₀ ≡ work_length → k ≡ m → length h ≡ n → length s₀ ≡ m → length w₀ ≡ n → (among (solution_number r) set_faults ≡ false) ↔ Passes p n m A s
  unfolding slots_factors_of
  stored-judged g t l owners values columns rows =
      judged-none _ p n m k A s h r s₀ st w₀ w v₀ v (stored-test p n m A s (length v₀)) call (Passes p n m A s) owners values columns rows
      (factors-none p n m A s (length v₀) g t l (question_outcome p h) (values-none p h))

  pub stored-by : NumberFrom faults (solution_number r)
  unfolding slots_factors_of
  stored-by = by _ p n m k A s h r s₀ st w₀ w v₀ v (stored-test p n m A s (length v₀)) call

  pub stored-owners : ¬ (k ≡ m) → solution_number r ≡ wrong_length
  unfolding slots_factors_of
  stored-owners = unowned _ p n m k A s h r s₀ st w₀ w v₀ v (stored-test p n m A s (length v₀)) call

  pub stored-cleared : ¬ (solution_number r ≡ 0) → (st ≡ zeros (length s₀)) × (w ≡ zeros (length w₀))
  unfolding slots_factors_of
  stored-cleared =
      cleared _ p n m k A s h r s₀ st w₀ w v₀ v (stored-test p n m A s (length v₀)) call

-- ---- from a certificate

module _ (p n m k : ℕ) (A : Compressed) (cert h : List ℕ) (r : Solution) (s₀ st w₀ w v₀ v : List ℕ)
    (call : Solves (slots_certificate_of p n m k A cert h (length s₀) (length w₀) (length v₀)) r s₀ st w₀ w v₀ v) where
  abbrev set : Set
  set = set_of_certificate n m cert

  pub bytes-heard : (solution_number r ≡ 0) ↔ (CertificatePasses p n m A cert (length v₀) × Heard p n m k h (length s₀) (length w₀))
  unfolding slots_certificate_of
  bytes-heard =
      heard _ p n m k A set h r s₀ st w₀ w v₀ v (bytes-test p n m A cert (length v₀)) call

  pub bytes_after : (q : Outcome) (w₁ w₂ : List ℕ) → Checks (check_certificate_of p n m A cert (length w₁)) q w₁ w₂ → number_of q ≡ 0
      → length v₀ ≡ work_length → Heard p n m k h (length s₀) (length w₀) → solution_number r ≡ 0
  bytes_after q w₁ w₂ check passed wide good =
      let g = (bytes-pass p n m A cert q w₁ w₂ check).0 passed in
      bytes-heard.1 (record { plan = g.plan; work = wide; layout = g.layout; passes = g.passes }, good)

  pub bytes-right : solution_number r ≡ 0 → SolvesRight p n m A set h r st w
  unfolding slots_certificate_of
  bytes-right =
      right _ p n m k A set h r s₀ st w₀ w v₀ v (bytes-test p n m A cert (length v₀)) call

  pub bytes-judged : GoodPlan p n m A → length v₀ ≡ work_length → k ≡ m → length h ≡ n → length s₀ ≡ m → length w₀ ≡ n → (among (solution_number r) set_faults ≡ false) ↔ ((header_ok p n m cert ≡ true) × Passes p n m A set)
  unfolding slots_certificate_of
  bytes-judged g l owners values columns rows =
      judged-none _ p n m k A set h r s₀ st w₀ w v₀ v (bytes-test p n m A cert (length v₀)) call
      ((header_ok p n m cert ≡ true) × Passes p n m A set) owners values columns rows
      (certificate-none p n m A cert (length v₀) g l (question_outcome p h) (values-none p h))

  pub bytes-by : NumberFrom faults (solution_number r)
  unfolding slots_certificate_of
  bytes-by =
      by _ p n m k A set h r s₀ st w₀ w v₀ v (bytes-test p n m A cert (length v₀)) call

  pub bytes-owners : ¬ (k ≡ m) → solution_number r ≡ wrong_length
  unfolding slots_certificate_of
  bytes-owners = unowned _ p n m k A set h r s₀ st w₀ w v₀ v (bytes-test p n m A cert (length v₀)) call

  pub bytes-cleared : ¬ (solution_number r ≡ 0) → (st ≡ zeros (length s₀)) × (w ≡ zeros (length w₀))
  unfolding slots_certificate_of
  bytes-cleared =
      cleared _ p n m k A set h r s₀ st w₀ w v₀ v (bytes-test p n m A cert (length v₀)) call

-- ---- two answers to the same slot values

-- the verdict of an answer, whichever set it came from
record Decides (p n m : ℕ) (A : Compressed) (h : List ℕ) (r : Solution) : Type 0 where
  pub solves : (r ≡ Solution.Solved) ↔ InColumnSpace p n m (matrix A) (vector h)
  pub contradicts : (r ≡ Solution.Contradiction) ↔ (¬ InColumnSpace p n m (matrix A) (vector h))

decides : (p n m : ℕ) (A : Compressed) (h : List ℕ) (r : Solution) → SolutionOf p n m A h r → Decides p n m A h r
decides p n m A h r (from_stored k s s₀ st w₀ w v₀ v call done) =
    let g = stored-right p n m k A s h r s₀ st w₀ w v₀ v call done in
    record { solves = g.solved-exactly; contradicts = g.contradiction-exactly }
decides p n m A h r (from_bytes k cert s₀ st w₀ w v₀ v call done) =
    let g = bytes-right p n m k A cert h r s₀ st w₀ w v₀ v call done in
    record { solves = g.solved-exactly; contradicts = g.contradiction-exactly }

pub solutions-agree : (p n m : ℕ) (A : Compressed) (h : List ℕ) (r r' : Solution) → SolutionOf p n m A h r → SolutionOf p n m A h r'
    → ((r ≡ Solution.Solved) ↔ (r' ≡ Solution.Solved)) × ((r ≡ Solution.Contradiction) ↔ (r' ≡ Solution.Contradiction))
solutions-agree p n m A h r r' a b =
    let g = decides p n m A h r a in
    let f = decides p n m A h r' b in (
      ((λ e. f.solves.1 (g.solves.0 e)), λ e. g.solves.1 (f.solves.0 e)),
      ((λ e. f.contradicts.1 (g.contradicts.0 e)), λ e. g.contradicts.1 (f.contradicts.0 e)),
    )
