-- What follows from the tests before factoring: the lists that passed are ready, and both ways out leave what the call says.
use mathlib.Core.Path.{◌≡◌, sym, subst, ◌∙◌}
use mathlib.Core.Bool.{true}
use Prim.Native.Nat.{ℕ, ◌≤◌}
use native.Mathlib.Omega.{arith}
use lib.ListN.{length}
use lib.Seq.{length-take-le}
use Rattle.refusals.specs.Outcome.{Outcome}
use Rattle.refusals.specs.Outcome.{Passed, Refused}
use Rattle.residue.proofs.Primes.{modulus-prime}
use Rattle.sparse.specs.Matrix.{Compressed, form}
use Rattle.sparse.specs.Set.{Storage}
use Rattle.limits.specs.Limits.{largest_size}
use Rattle.call_plan.proofs.Plans.{good-plan, small_product}
use Rattle.factor_passes.specs.Needs.{narrowed}
use Rattle.factor_passes.proofs.WorkingRow.{KeptLengths, part-clear, zeros-self}
use Rattle.factor_all.specs.Factorization.{factoring, Leaves}
use Rattle.factor_all.specs.Needs.{AllClear, FactorReady}
use Rattle.factor_all.specs.Factored.{Factored}
use Rattle.factor_all.proofs.FromPairs.{leaves-refused}
use Rattle.call_factor.specs.Lengths.{lent_of, lent_lengths, lent_outcome}
use Rattle.call_factor.specs.Calls.{unless_refused, factor_call_of}
use Rattle.call_factor.specs.declared.Lent.{Lent}
use Rattle.call_factor.specs.Accepted.{LentRight}
use Rattle.call_factor.proofs.LentLists.{lent-right}

-- lists of the same lengths
pub kept_same : (S S' : Storage) → KeptLengths S S' → lent_of S' ≡ lent_of S
kept_same S S' h t =
    record {
      rows = h.R-long t;
      columns = h.C-long t;
      ls = h.ls-long t;
      lc = h.lc-long t;
      lv = h.lv-long t;
      us = h.us-long t;
      uc = h.uc-long t;
      uv = h.uv-long t;
      work = h.w-long t;
    }

module _ (p n m : ℕ) (A : Compressed) (S : Storage) where
  pub ready : lent_outcome p n m A (lent_of S) ≡ Passed → AllClear S → FactorReady p n m A S
  unfolding lent_outcome
  ready passed clear =
      let (g, right) = good-plan p n m A (lent_lengths n m (lent_of S)) passed in
      let l : LentRight n m (lent_of S) = lent-right n m (lent_of S) right in
      let few-rows : length S.R ≤ largest_size = omega (arith, l.rows, g.few-rows) in
      let few-columns : length S.C ≤ largest_size = omega (arith, l.columns, g.few-columns) in
      let fits : length S.C ≤ length S.work = omega (arith, l.work) in
      let wide : length (narrowed S).work ≡ length S.C = length-take-le (length S.C) S.work fits in
      record {
        lists =
            record {
              lent =
                  record {
                    prime = modulus-prime p g.modulus;
                    formed = subst (λ (k : ℕ). form p k A ≡ true) (sym (wide ∙ l.columns)) g.formed;
                    rows = omega (arith, g.rows, l.rows);
                    columns = sym wide;
                    L-starts = omega (arith, l.ls, l.rows);
                    U-starts = omega (arith, l.us, l.rows);
                    L-paired = l.lower;
                    U-paired = l.upper;
                    n-narrow = omega arith;
                    m-narrow = omega arith;
                    small = rw wide (small_product (length S.R) (length S.C) few-rows few-columns);
                    clear = zeros-self (narrowed S).work (length S.C) (part-clear S.work clear.w-clear (length S.C) fits);
                  };
              n-narrow = few-rows;
              m-narrow = few-columns;
              n-fits = omega (arith, l.work);
              m-fits = fits;
              clear = clear.w-clear;
            };
        n-rows = l.rows;
        m-columns = l.columns;
        clear = clear;
      }

  pub call-refused : (l : Lent) (k d : ℕ) → lent_outcome p n m A l ≡ Refused k d → AllClear S → Leaves (factor_call_of p n m A l) (record { outcome = Refused k d; rank = 0; structural = 0 }) S
  unfolding factor_call_of
  call-refused l k d e h =
      subst (λ (o : Outcome). Leaves (unless_refused o (factoring p n m A l.lc l.uc)) (record { outcome = Refused k d; rank = 0; structural = 0 }) S) (sym e) (leaves-refused k d S h)

  -- the lengths are the same before and after clearing
  pub call-done : (l l' : Lent) → l' ≡ l → (o : Factored) → lent_outcome p n m A l ≡ Passed → Leaves (factoring p n m A l'.lc l'.uc) o S → Leaves (factor_call_of p n m A l) o S
  unfolding factor_call_of
  call-done l l' same o e h =
      subst (λ (t : Outcome). Leaves (unless_refused t (factoring p n m A l.lc l.uc)) o S) (sym e)
      (subst (λ (k : Lent). Leaves (factoring p n m A k.lc k.uc) o S) same h)
