-- What is true of EVERY set that passes, whoever made it, and of the answer that `solve_slots` gives from it to slot values h.
-- A is a stored n by m matrix (document 01's plan), p a prime, s a set with n rows in R and m columns in C that the judge passes,
-- h a list of n numbers.
--   solved-exactly             the verdict is solved exactly if some setting gives the slot values
--   contradiction-exactly      and a contradiction exactly if none does
--   solved-answer              solved: s has m residues, A s = h, s is 0 at every column that is no pivot column, and w is all zero
--   solved-only                no other list is such an s
--   contradiction-answer       a contradiction: w has n residues, w A = 0, w is 1 at the lowest-numbered slot with a gap and 0 at the other
--                              slots that are no pivot rows, and s is all zero
--   contradiction-differs      w h is not 0
--   contradiction-lowest       no lower-numbered slot has such a combination that contradicts h
--   contradiction-only         no other list is such a w
--   same-slot-verdict          two sets that pass give h the same verdict
use mathlib.Core.Path.{◌≡◌, refl, sym, ap, ◌∙◌}
use mathlib.Core.Logic.{◌↔◌, inl, inr}
use mathlib.Core.List.{List}
use Prim.Native.Nat.{ℕ, ◌≤◌, ◌<◌}
use native.Mathlib.Decide.{dec_lt}
use native.Mathlib.Omega.{arith}
use lib.ListN.{length}
use lib.Seq.{ext_get_or}
use Rattle.lists.specs.Filled.{zeros}
use Rattle.refusals.specs.Outcome.{Passed}
use Rattle.algebra.specs.Congruence.{◌≈⟨◌⟩◌}
use Rattle.algebra.specs.Sum.{dot}
use Rattle.algebra.specs.Prime.{Prime}
use Rattle.algebra.specs.Matrix.{vector}
use Rattle.algebra.specs.Factors.{Factors}
use Rattle.algebra.specs.Reduction.{AllZero, Lowest}
use Rattle.algebra.specs.ColumnSpace.{InColumnSpace}
use Rattle.algebra.specs.SlotAnswer.{SettingAnswer, ContradictionAnswer}
use Rattle.algebra.proofs.Congruence.{exact, turn, ◌⊙◌, equal-residues}
use Rattle.algebra.proofs.Dot.{dot-eq}
use Rattle.algebra.proofs.Slots.{setting-unique, contradiction-unique, no-contradiction}
use Rattle.sparse.specs.Matrix.{Compressed, matrix}
use Rattle.sparse.specs.Set.{Set}
use Rattle.pluq.specs.Judge.{judge, Passes}
use Rattle.pluq.proofs.Judged.{judge-sound}
use Rattle.column_space.specs.Slots.{gap, position, lowest_gap, setting_of, left_kernel, SlotSolution, solved_by, contradicted_by, solve_slots}
use Rattle.column_space.specs.declared.SlotVerdict.{SlotVerdict}
use Rattle.column_space.specs.declared.SlotVerdict.TheVariants.{Solved, Contradiction}
use Rattle.column_space.proofs.Solutions.{position-of, position_at, slot_gap, contradicting_w, Cases, solve-slots-cases, solve-slots-lengths, left-kernel-answers, gap-product, gap-small, gap-pivot, setting-answers}

module _ {p : ℕ} (prime : Prime p) (n m : ℕ) (A : Compressed) (s : Set) (long-R : length s.R ≡ n) (long-C : length s.C ≡ m) (ok : judge p n m A s ≡ Passed) where
  passes : Passes p n m A s
  passes = judge-sound p n m A s (omega (arith, prime.two)) long-R long-C ok

  product : Factors p n m s.r (matrix A) (vector s.R) (vector s.C) (matrix s.L) (matrix s.U)
  product = passes.factors

  -- the combination at slot t, which is no pivot row
  at_slot : (t : ℕ) → t < n → ((k : ℕ) → k < s.r → ¬ (vector s.R k ≡ t))
      → let w = vector (left_kernel p n s (position n (vector s.R) t)) in
      ContradictionAnswer p n m s.r (matrix A) (vector s.R) t w × ((h : ℕ → ℕ) → dot n w h ≈⟨ p ⟩ slot_gap p n s h t)
  at_slot t b pivot =
      let (g, e) = position_at n (vector s.R) product.rows t b in
      let i = position n (vector s.R) t in
      let free : s.r ≤ i = elim (dec_lt i s.r) [ yes c ↦ absurd (pivot i c e) | no c ↦ omega arith ] in
      (rw e at (left-kernel-answers prime passes i free g), gap-product prime passes i free g)

  module _ (h : List ℕ) where
    abbrev answer : SlotSolution
    answer = solve_slots p n m s (vector h)

    abbrev low : ℕ
    low = lowest_gap p n s (vector h)

    -- ---- the two cases

    solves : answer.verdict ≡ Solved → AllZero n (slot_gap p n s (vector h)) × (answer ≡ solved_by n (setting_of p m s (vector h)))
    solves e = go (solve-slots-cases p n m s (vector h))
      where
        go : Cases p n m s (vector h) → AllZero n (slot_gap p n s (vector h)) × (answer ≡ solved_by n (setting_of p m s (vector h)))
        go (inl c) = c
        go (inr (lowest, q)) = absurd (let z : ◌≡◌ {A = ℕ} 0 1 = cc in omega arith)

    contradicts : answer.verdict ≡ Contradiction → Lowest n (slot_gap p n s (vector h)) low × (answer ≡ contradicted_by m (contradicting_w p n s (vector h)))
    contradicts e = go (solve-slots-cases p n m s (vector h))
      where
        go : Cases p n m s (vector h) → Lowest n (slot_gap p n s (vector h)) low × (answer ≡ contradicted_by m (contradicting_w p n s (vector h)))
        go (inl (none, q)) = absurd (let z : ◌≡◌ {A = ℕ} 0 1 = cc in omega arith)
        go (inr c) = c

    -- ---- s and w

    pub solved-answer : answer.verdict ≡ Solved
        → (length answer.s ≡ m) × SettingAnswer p n m s.r (matrix A) (vector s.C) (vector h) (vector answer.s) × (answer.w ≡ zeros n)
    solved-answer e =
        let (none, q) = solves e in
        ((solve-slots-lengths p n m s (vector h)).0, rw q (setting-answers prime passes (vector h) none), ap (λ (a : SlotSolution). a.w) q)

    pub solved-only : answer.verdict ≡ Solved → (t : List ℕ) → length t ≡ m → SettingAnswer p n m s.r (matrix A) (vector s.C) (vector h) (vector t) → t ≡ answer.s
    solved-only e t long a =
        let (long-s, b, w-is) = solved-answer e in
        ext_get_or 0 t answer.s (long ∙ sym long-s) (λ j g. setting-unique prime product (vector h) (vector t) (vector answer.s) a b j (omega arith))

    -- the slot with the lowest gap is no pivot row
    no-pivot : answer.verdict ≡ Contradiction → (k : ℕ) → k < s.r → ¬ (vector s.R k ≡ low)
    no-pivot e k b q =
        let (lowest, z) = contradicts e in
        lowest.here (ap (gap p s (vector h)) (ap (position n (vector s.R)) (sym q) ∙ position-of n (vector s.R) product.rows k (omega (arith, product.rank-rows))) ∙ gap-pivot prime passes (vector h) k b)

    pub contradiction-answer : answer.verdict ≡ Contradiction
        → (lowest_gap p n s (vector h) < n) × (length answer.w ≡ n)
        × ContradictionAnswer p n m s.r (matrix A) (vector s.R) (lowest_gap p n s (vector h)) (vector answer.w) × (answer.s ≡ zeros m)
    contradiction-answer e =
        let (lowest, q) = contradicts e in
        (lowest.within, (solve-slots-lengths p n m s (vector h)).1, rw q (at_slot low lowest.within (no-pivot e)).0, ap (λ (a : SlotSolution). a.s) q)

    pub contradiction-differs : answer.verdict ≡ Contradiction → ¬ (dot n (vector answer.w) (vector h) ≈⟨ p ⟩ 0)
    contradiction-differs e z =
        let (lowest, q) = contradicts e in
        lowest.here (equal-residues (gap-small prime passes (vector h) (position n (vector s.R) low)) (omega (arith, prime.two))
        (turn ((at_slot low lowest.within (no-pivot e)).1 (vector h)) ⊙ (rw q at z)))

    pub contradiction-lowest : answer.verdict ≡ Contradiction
        → (i : ℕ) → i < lowest_gap p n s (vector h) → (u : List ℕ) → ContradictionAnswer p n m s.r (matrix A) (vector s.R) i (vector u) → dot n (vector u) (vector h) ≈⟨ p ⟩ 0
    contradiction-lowest e i b u a =
        let lowest = (contradicts e).0 in
        let (c, times) = at_slot i (omega (arith, lowest.within)) a.pivot in
        exact (dot-eq n {v = vector h} (contradiction-unique prime product i (vector u) (vector (left_kernel p n s (position n (vector s.R) i))) a c) (λ t g. refl))
        ⊙ times (vector h)
        ⊙ exact (lowest.before i b)

    pub contradiction-only : answer.verdict ≡ Contradiction
        → (u : List ℕ) → length u ≡ n → ContradictionAnswer p n m s.r (matrix A) (vector s.R) (lowest_gap p n s (vector h)) (vector u) → u ≡ answer.w
    contradiction-only e u long a =
        let (within, long-w, b, s-is) = contradiction-answer e in
        ext_get_or 0 u answer.w (long ∙ sym long-w) (λ t g. contradiction-unique prime product low (vector u) (vector answer.w) a b t (omega arith))

    -- ---- the verdict

    solved-in : answer.verdict ≡ Solved → InColumnSpace p n m (matrix A) (vector h)
    unfolding InColumnSpace
    solved-in e = (vector answer.s, (solved-answer e).1.gives)

    contradiction-out : answer.verdict ≡ Contradiction → ¬ InColumnSpace p n m (matrix A) (vector h)
    unfolding InColumnSpace
    contradiction-out e (t, gives) =
        contradiction-differs e (no-contradiction p n m (matrix A) (vector h) t (vector answer.w) gives (contradiction-answer e).2.kernel)

    pub solved-exactly : (answer.verdict ≡ Solved) ↔ InColumnSpace p n m (matrix A) (vector h)
    solved-exactly = (solved-in, λ o. go o answer.verdict refl)
      where
        go : InColumnSpace p n m (matrix A) (vector h) → (v : SlotVerdict) → answer.verdict ≡ v → v ≡ Solved
        go o Solved e = refl
        go o Contradiction e = absurd (contradiction-out e o)

    pub contradiction-exactly : (answer.verdict ≡ Contradiction) ↔ (¬ InColumnSpace p n m (matrix A) (vector h))
    contradiction-exactly = (contradiction-out, λ none. go none answer.verdict refl)
      where
        go : (¬ InColumnSpace p n m (matrix A) (vector h)) → (v : SlotVerdict) → answer.verdict ≡ v → v ≡ Contradiction
        go none Solved e = absurd (none (solved-in e))
        go none Contradiction e = refl

pub same-slot-verdict : {p : ℕ} → Prime p → (n m : ℕ) (A : Compressed) (s s' : Set)
    → length s.R ≡ n → length s.C ≡ m → judge p n m A s ≡ Passed
    → length s'.R ≡ n → length s'.C ≡ m → judge p n m A s' ≡ Passed
    → (h : List ℕ) → (solve_slots p n m s (vector h)).verdict ≡ (solve_slots p n m s' (vector h)).verdict
same-slot-verdict {p} prime n m A s s' lR lC ok lR' lC' ok' h = go (solve_slots p n m s (vector h)).verdict refl
  where
    go : (v : SlotVerdict) → (solve_slots p n m s (vector h)).verdict ≡ v → v ≡ (solve_slots p n m s' (vector h)).verdict
    go Solved e = sym ((solved-exactly prime n m A s' lR' lC' ok' h).1 ((solved-exactly prime n m A s lR lC ok h).0 e))
    go Contradiction e = sym ((contradiction-exactly prime n m A s' lR' lC' ok' h).1 ((contradiction-exactly prime n m A s lR lC ok h).0 e))
