-- What a factoring call gives, whatever its outcome: how many entries L and U have, and how large its numbers are.
use mathlib.Core.Path.{◌≡◌, refl, sym, ap, ◌∙◌}
use mathlib.Core.Bool.{Bool, true, false, ◌&&◌}
use mathlib.Core.Option.{Option, none, some}
use Prim.Native.Nat.{ℕ, ◌≤◌}
use native.Mathlib.Omega.{arith}
use lib.ListN.{length, get_or}
use Rattle.refusals.specs.Refusals.{◌▷◌, unless, detail_of}
use Rattle.refusals.specs.Outcome.{Outcome}
use Rattle.refusals.specs.Outcome.{Passed, Refused}
use Rattle.residue.specs.Range.{is_modulus}
use Rattle.residue.proofs.Primes.{modulus-prime}
use Rattle.sparse.specs.Matrix.{Compressed, matrix, form}
use Rattle.sparse.specs.Set.{Set}
use Rattle.sparse.proofs.DenseLaws.{compress-lengths}
use Rattle.elimination.specs.Selection.{structural}
use Rattle.elimination.specs.Pivots.{Found, uppers_of, turns}
use Rattle.elimination.specs.Factoring.{schedule, nothing, first_over, factored, factor_from, factor, lowers_of}
use Rattle.elimination.proofs.Selected.{structural-pairs}
use Rattle.elimination.proofs.Theorem.{StoredFactors, factor-stored}
use Rattle.call_plan.specs.Tests.{plan_lengths, limits_ok, plan_outcome}
use Rattle.call_plan.specs.Accepted.{GoodPlan}
use Rattle.factor_all.specs.Factorization.{Factorization, refusal, done, unless_over, factoring_from, factoring}
use Rattle.call_factor.specs.Lengths.{lent_lengths, lent_outcome}
use Rattle.call_factor.specs.Calls.{unless_refused, factor_call_of}
use Rattle.call_factor.specs.declared.Lent.{Lent}
use Rattle.call_factor.proofs.Theorems.{lent-good}
use Rattle.stages.proofs.Outcomes.{not-passed}
use Rattle.stages.proofs.Rows.{row_inside}

pub record Counted (n : ℕ) (o : Factorization) : Type 0 where
  pub lower_last : get_or o.L.starts n 0 ≡ length o.L.vals
  pub lower-paired : length o.L.cols ≡ length o.L.vals
  pub upper-last : get_or o.U.starts o.rank 0 ≡ length o.U.vals
  pub upper-paired : length o.U.cols ≡ length o.U.vals
  pub rank-small : o.rank ≤ n
  pub detail-small : detail_of o.outcome ≤ n
  pub emptied : {k d : ℕ} → o.outcome ≡ Refused k d → (length o.L.vals ≡ 0) × (length o.U.vals ≡ 0)

counted-refusal : (n c d : ℕ) → d ≤ n → Counted n (refusal c d)
counted-refusal n c d h = record { lower_last = refl; lower-paired = refl; upper-last = refl; upper-paired = refl; rank-small = omega arith; detail-small = h; emptied = λ e. (refl, refl) }

-- the tests before factoring have no detail
no-detail : (t : Bool) (k : ℕ) (o : Outcome) → detail_of o ≡ 0 → detail_of (unless t k 0 ▷ o) ≡ 0
no-detail true k o h = h
no-detail false k o h = refl

last-detail : (t : Bool) (k : ℕ) → detail_of (unless t k 0) ≡ 0
last-detail true k = refl
last-detail false k = refl

module _ (p n m : ℕ) (A : Compressed) (l : Lent) where
  module _ (passed : lent_outcome p n m A l ≡ Passed) where
    good : GoodPlan p n m A
    good = (lent-good p n m A l passed).0

    abbrev g : Set
    g = factor p n m A

    stored : StoredFactors p n m (matrix A) g
    stored = factor-stored p n m A (modulus-prime p good.modulus) good.formed good.rows

    counted-done : Counted n (done (length (structural A n m)) g)
    unfolding factor factor_from factored
    counted-done =
        record {
          lower_last = ap (λ (k : ℕ). get_or g.L.starts k 0) (sym lower) ∙ (compress-lengths (lowers_of end)).last-start;
          lower-paired = (compress-lengths (lowers_of end)).paired;
          upper-last = ap (λ (k : ℕ). get_or g.U.starts k 0) (sym upper) ∙ (compress-lengths (uppers_of end)).last-start;
          upper-paired = (compress-lengths (uppers_of end)).paired;
          rank-small = stored.factors.rank-rows;
          detail-small = omega arith;
          emptied = λ e. absurd (not-passed e refl);
        }
      where
        end : Found
        end = turns p m (matrix A) nothing (schedule n (structural A n m))

        lower : length (lowers_of end) ≡ n
        lower = omega (arith, stored.L-starts, (compress-lengths (lowers_of end)).starts-are)

        upper : length (uppers_of end) ≡ g.r
        upper = omega (arith, stored.U-starts, (compress-lengths (uppers_of end)).starts-are)

    counted-over : (a b : ℕ) (o : Option ℕ) → first_over p m (matrix A) a b nothing (schedule n (structural A n m)) ≡ o → Counted n (unless_over o (done (length (structural A n m)) g))
    counted-over a b none e = counted-done
    counted-over a b (some i) e =
        counted-refusal n 7 i (omega (arith, row_inside p n m (matrix A) (structural A n m) (structural-pairs p n m A good.formed good.rows) a b i e))

    counted-factoring : (a b : ℕ) → Counted n (factoring p n m A a b)
    unfolding factoring factoring_from factor
    counted-factoring a b = counted-over a b (first_over p m (matrix A) a b nothing (schedule n (structural A n m))) refl

  lent-detail : detail_of (lent_outcome p n m A l) ≡ 0
  unfolding lent_outcome plan_outcome
  lent-detail =
      no-detail (plan_lengths n A && lent_lengths n m l) 9 (plan_outcome p n m A)
      (no-detail (is_modulus p) 1 (unless (limits_ok n m A) 2 0 ▷ unless (form p m A) 8 0)
      (no-detail (limits_ok n m A) 2 (unless (form p m A) 8 0) (last-detail (form p m A) 8)))

  pub counted : Counted n (factor_call_of p n m A l)
  unfolding factor_call_of
  counted = go (lent_outcome p n m A l) refl
    where
      go : (o : Outcome) → lent_outcome p n m A l ≡ o → Counted n (unless_refused o (factoring p n m A l.lc l.uc))
      go Passed e = counted-factoring e l.lc l.uc
      go (Refused c d) e = counted-refusal n c d (omega (arith, ap detail_of (sym e) ∙ lent-detail))
