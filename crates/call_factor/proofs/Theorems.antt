-- What the call that factors a stored plan says, with what it returned and left (`Leaves`).
--   factored-exactly       0 is returned exactly if the plan is good, the lists have their lengths, and L and U fit
--   factored-set           0: what stands in the lists, cut to its lengths, is the set of the pivot rules
--   factored-passes        it has the published shape and the product A
--   factored-rank          and the rank returned is the rank
--   factored-structural    the number of structural pivots is that of the pivot rules
--   factored-rules         the structural pivots, and the set that they lead to, obey the five rules
--   factored-diagonal      the row of L of each structural pivot holds its diagonal alone
--   factored-seven         7 is returned, for a good plan and lists of their lengths, exactly if L or U has more entries than its lists hold
--   factored-row           at the first row in processing order that overflows either
--   factored-by            the numbers of the table by which it refuses
--   refusal-cleared        what a refusal leaves, whatever its number: all lists 0, and no rank
--   factored-cleared       so a call that refused leaves that
use mathlib.Core.Path.{◌≡◌, refl, sym, ap, subst, ◌∙◌}
use mathlib.Core.Logic.{◌↔◌, inl, inr}
use mathlib.Core.Bool.{true, true≢false}
use mathlib.Core.List.{[], ◌∷◌, ◌++◌}
use mathlib.Core.Option.{Option, none, some}
use Prim.Native.Nat.{ℕ, ◌<◌}
use native.Mathlib.Omega.{arith}
use lib.ListN.{length}
use Rattle.lists.specs.Tests.{among}
use Rattle.refusals.specs.Table.{plan_faults, storage_too_short}
use Rattle.refusals.specs.Refusals.{number_of, detail_of, NumberFrom}
use Rattle.refusals.specs.Outcome.{Outcome}
use Rattle.refusals.specs.Outcome.{Passed, Refused}
use Rattle.lists.proofs.Filled.{filled_none}
use Rattle.refusals.proofs.Refusals.{RefusedBy, among-left, zero-passed}
use Rattle.algebra.specs.Rank.{Rank}
use Rattle.sparse.specs.Matrix.{Compressed, matrix, row_of}
use Rattle.sparse.specs.Set.{Set, Storage}
use Rattle.pluq.specs.Judge.{Passes}
use Rattle.elimination.specs.Selection as rules
use Rattle.elimination.specs.Rules.{FollowsRules}
use Rattle.elimination.proofs.Rules.{follows-rules}
use Rattle.elimination.specs.Factoring.{schedule, nothing, first_over, factor}
use Rattle.elimination.specs.Overflow.{Overflows}
use Rattle.elimination.proofs.Room.{none-enough, enough-none, some-overflows}
use Rattle.call_plan.specs.Accepted.{GoodPlan}
use Rattle.call_plan.proofs.Plans.{good-prime, good-plan, good-passes, plan-numbers}
use Rattle.factor_all.specs.Factorization.{Factorization, refusal, done, unless_over, factoring_from, factoring, Leaves}
use Rattle.factor_all.specs.OwnSet.{own_set}
use Rattle.factor_all.specs.Factored.{Factored}
use Rattle.factor_all.proofs.OwnSet.{own-set, own-set-passes, own-rank}
use Rattle.call_factor.specs.Lengths.{lent_lengths, lent_outcome}
use Rattle.call_factor.specs.Calls.{unless_refused, factor_call_of}
use Rattle.call_factor.specs.Accepted.{LentRight, FactorsFit, Factorable, FactorCleared}
use Rattle.call_factor.specs.declared.Lent.{Lent}
use Rattle.call_factor.proofs.LentLists.{lent-right, right-lent}

-- ---- the tests before factoring

module _ (p n m : ℕ) (A : Compressed) (l : Lent) where
  pub lent-good : lent_outcome p n m A l ≡ Passed → GoodPlan p n m A × LentRight n m l
  unfolding lent_outcome
  lent-good e = let (g, t) = good-plan p n m A (lent_lengths n m l) e in (g, lent-right n m l t)

  pub lent-passes : GoodPlan p n m A → LentRight n m l → lent_outcome p n m A l ≡ Passed
  unfolding lent_outcome
  lent-passes g t = good-passes p n m A (lent_lengths n m l) g (right-lent n m l t)

  lent-numbers : RefusedBy plan_faults (lent_outcome p n m A l)
  unfolding lent_outcome
  lent-numbers = plan-numbers p n m A (lent_lengths n m l)

  lent-zero : (number_of (lent_outcome p n m A l) ≡ 0) ↔ (lent_outcome p n m A l ≡ Passed)
  unfolding among
  lent-zero = zero-passed plan_faults (lent_outcome p n m A l) lent-numbers refl

  pub call-factoring : lent_outcome p n m A l ≡ Passed → factor_call_of p n m A l ≡ factoring p n m A l.lc l.uc
  unfolding factor_call_of
  call-factoring e = ap (λ (o : Outcome). unless_refused o (factoring p n m A l.lc l.uc)) e

  pub call-passed : number_of (factor_call_of p n m A l).outcome ≡ 0 → lent_outcome p n m A l ≡ Passed
  unfolding factor_call_of
  call-passed e = lent-zero.0 (go (lent_outcome p n m A l) e)
    where
      go : (o : Outcome) → number_of (unless_refused o (factoring p n m A l.lc l.uc)).outcome ≡ 0 → number_of o ≡ 0
      go Passed z = refl
      go (Refused c d) z = z

  -- ---- what factoring comes to

  -- the first row that overflows, if any does
  abbrev pub over : Option ℕ
  over = first_over p m (matrix A) l.lc l.uc nothing (schedule n (rules.structural A n m))

  abbrev pub whole : Factorization
  whole = done (length (rules.structural A n m)) (factor p n m A)

  pub call-is : lent_outcome p n m A l ≡ Passed → factor_call_of p n m A l ≡ unless_over over whole
  unfolding factoring factoring_from factor
  call-is = call-factoring

  pub fits-exactly : (over ≡ none) ↔ FactorsFit p n m A l
  unfolding factor
  fits-exactly = (
    (λ e. let h = none-enough p n m (matrix A) (rules.structural A n m) l.lc l.uc e in record { lower = h.0; upper = h.1 }),
    λ h. enough-none p n m (matrix A) (rules.structural A n m) l.lc l.uc h.lower h.upper,
  )

  over_none : (o : Option ℕ) → number_of (unless_over o whole).outcome ≡ 0 → o ≡ none
  over_none none e = refl
  over_none (some i) e = absurd (omega arith)

  over-some : (o : Option ℕ) → number_of (unless_over o whole).outcome ≡ 7 → o ≡ some (detail_of (unless_over o whole).outcome)
  over-some none e = absurd (omega arith)
  over-some (some i) e = refl

  call-number : (o : Outcome) → RefusedBy plan_faults o → number_of (unless_refused o (unless_over over whole)).outcome ≡ 7 → o ≡ Passed
  unfolding among
  call-number Passed h e = refl
  call-number (Refused c d) h e = absurd (let z : ◌≡◌ {A = ℕ} 0 1 = cc in omega arith)

  pub call-zero : (number_of (factor_call_of p n m A l).outcome ≡ 0) ↔ Factorable p n m A l
  call-zero = (
    (λ e.
        let tested = call-passed e in
        let (g, t) = lent-good tested in
        record { plan = g; lists = t; fits = fits-exactly.0 (over_none over (ap (λ (g : Factorization). number_of g.outcome) (sym (call-is tested)) ∙ e)) }),
    λ h.
        ap (λ (g : Factorization). number_of g.outcome) (call-is (lent-passes h.plan h.lists))
        ∙ ap (λ (o : Option ℕ). number_of (unless_over o whole).outcome) (fits-exactly.1 h.fits),
  )

  call-seven : GoodPlan p n m A → LentRight n m l → (number_of (factor_call_of p n m A l).outcome ≡ 7) ↔ (¬ FactorsFit p n m A l)
  call-seven g t = (
    (λ e f. absurd (let z : ◌≡◌ {A = ℕ} 7 0 = sym e ∙ call-zero.1 (record { plan = g; lists = t; fits = f }) in omega arith)),
    λ f. ap (λ (g : Factorization). number_of g.outcome) (call-is (lent-passes g t)) ∙ go over refl f,
  )
    where
      go : (o : Option ℕ) → over ≡ o → (¬ FactorsFit p n m A l) → number_of (unless_over o whole).outcome ≡ 7
      go none e f = absurd (f (fits-exactly.0 e))
      go (some i) e f = refl

  call-cases : (P : Factorization → Type 0) → ((c d : ℕ) → among c plan_faults ≡ true → P (refusal c d)) → P (unless_over over whole) → P (factor_call_of p n m A l)
  unfolding factor_call_of factoring factoring_from factor
  call-cases P refused passed = go (lent_outcome p n m A l) lent-numbers
    where
      go : (o : Outcome) → RefusedBy plan_faults o → P (unless_refused o (unless_over over whole))
      go Passed h = passed
      go (Refused c d) h = refused c d h

-- ---- what a call returned and left

pub refusal-cleared : (c d : ℕ) (o : Factored) (S : Storage) → Leaves (refusal c d) o S → FactorCleared o S
refusal-cleared c d o S h =
    record {
      rank = h.rank;
      structural = h.structural;
      R = h.R ∙ filled_none (length S.R);
      C = h.C ∙ filled_none (length S.C);
      L-starts = h.L-starts ∙ filled_none (length S.L.starts);
      L-columns = h.L-columns ∙ filled_none (length S.L.cols);
      L-values = h.L-values ∙ filled_none (length S.L.vals);
      U-starts = h.U-starts ∙ filled_none (length S.U.starts);
      U-columns = h.U-columns ∙ filled_none (length S.U.cols);
      U-values = h.U-values ∙ filled_none (length S.U.vals);
    }

module _ (p n m : ℕ) (A : Compressed) (l : Lent) (o : Factored) (S : Storage) (call : Leaves (factor_call_of p n m A l) o S) where
  abbrev number : ℕ
  number = number_of o.outcome

  pub factored-exactly : (number ≡ 0) ↔ Factorable p n m A l
  factored-exactly = let (there, back) = call-zero p n m A l in ((λ e. there (sym call.number ∙ e)), λ h. call.number ∙ back h)

  pub factored-seven : GoodPlan p n m A → LentRight n m l → (number ≡ 7) ↔ (¬ FactorsFit p n m A l)
  factored-seven g t = let (there, back) = call-seven p n m A l g t in ((λ e. there (sym call.number ∙ e)), λ h. call.number ∙ back h)

  pub factored-row : number ≡ 7 → Overflows p m (matrix A) l.lc l.uc nothing (schedule n (rules.structural A n m)) (detail_of o.outcome)
  unfolding among
  factored-row e =
      some-overflows p n m (matrix A) (rules.structural A n m) l.lc l.uc (detail_of o.outcome)
      (call-cases p n m A l (λ (g : Factorization). number_of g.outcome ≡ 7 → detail_of o.outcome ≡ detail_of g.outcome → over p n m A l ≡ some (detail_of o.outcome))
      (λ c d h z q. absurd (true≢false (sym h ∙ ap (λ (k : ℕ). among k plan_faults) z)))
      (λ z q. over-some p n m A l (over p n m A l) z ∙ ap some (sym q)) (sym call.number ∙ e) call.detail)

  pub factored-by : NumberFrom (plan_faults ++ (storage_too_short ∷ [])) number
  unfolding among
  factored-by =
      subst (NumberFrom (plan_faults ++ (7 ∷ []))) (sym call.number)
      (call-cases p n m A l (λ (g : Factorization). NumberFrom (plan_faults ++ (7 ∷ [])) (number_of g.outcome)) (λ c d h. inr (among-left c plan_faults (7 ∷ []) h)) (go (over p n m A l)))
    where
      go : (t : Option ℕ) → NumberFrom (plan_faults ++ (7 ∷ [])) (number_of (unless_over t (whole p n m A l)).outcome)
      go none = inl refl
      go (some i) = inr refl

  pub factored-cleared : ¬ (number ≡ 0) → FactorCleared o S
  factored-cleared f = call-cases p n m A l (λ (g : Factorization). Leaves g o S → FactorCleared o S) (λ c d h. refusal-cleared c d o S) (go (over p n m A l)) call
    where
      go : (t : Option ℕ) → Leaves (unless_over t (whole p n m A l)) o S → FactorCleared o S
      go none h = absurd (f h.number)
      go (some i) h = refusal-cleared 7 i o S h

  module _ (zero : number ≡ 0) where
    accepted : Factorable p n m A l
    accepted = factored-exactly.0 zero

    leaves : Leaves (factoring p n m A l.lc l.uc) o S
    leaves = subst (λ (g : Factorization). Leaves g o S) (call-factoring p n m A l (lent-passes p n m A l accepted.plan accepted.lists)) call

    pub factored-set : own_set n m o.rank S ≡ factor p n m A
    factored-set = let g = accepted.plan in own-set p n m A (good-prime g) g.formed g.rows l.lc l.uc o S leaves zero

    pub factored-passes : Passes p n m A (own_set n m o.rank S)
    factored-passes = let g = accepted.plan in own-set-passes p n m A (good-prime g) g.formed g.rows l.lc l.uc o S leaves zero

    pub factored-rank : Rank p n m (matrix A) o.rank
    factored-rank = let g = accepted.plan in own-rank p n m A (good-prime g) g.formed g.rows l.lc l.uc o S leaves zero

    pub factored-structural : o.structural ≡ length (rules.structural A n m)
    factored-structural =
        let same = call-is p n m A l (lent-passes p n m A l accepted.plan accepted.lists) in
        call.structural
        ∙ ap (λ (g : Factorization). g.structural) same
        ∙ ap (λ (t : Option ℕ). (unless_over t (whole p n m A l)).structural) ((fits-exactly p n m A l).1 accepted.fits)

    pub factored-rules : FollowsRules p n m A
    factored-rules = let g = accepted.plan in follows-rules p n m A g.formed g.rows

    pub factored-diagonal : (k : ℕ) → k < o.structural → row_of (own_set n m o.rank S).L.starts k (own_set n m o.rank S).L.cols ≡ k ∷ []
    factored-diagonal k h =
        ap (λ (s : Set). row_of s.L.starts k s.L.cols) factored-set ∙ factored-rules.diagonal k (subst (λ (z : ℕ). k < z) factored-structural h)
