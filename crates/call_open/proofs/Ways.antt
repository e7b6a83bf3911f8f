-- One law for each way out of a call that lists the open columns. `check` is the check of the set, stored or in a certificate.
use mathlib.Core.Path.{◌≡◌, sym, ap, subst, ◌∙◌}
use mathlib.Core.List.{List}
use Prim.Native.Nat.{ℕ, ◌≤◌}
use native.Mathlib.Omega.{arith}
use lib.Dec.{eqb}
use lib.ListN.{length}
use borrow.Author.Tests.{eq-eqb, ne_eqb}
use Rattle.lists.specs.Filled.{zeros, filled}
use Rattle.refusals.specs.Refusals.{number_of, detail_of}
use Rattle.refusals.specs.Outcome.{Outcome}
use Rattle.refusals.specs.Outcome.{Passed, Refused}
use Rattle.lists.proofs.Filled.{length-zeros, filled_none, filled-whole}
use Rattle.refusals.proofs.Refusals.{fails, holds}
use Rattle.sparse.specs.Matrix.{Compressed}
use Rattle.sparse.specs.Set.{Set}
use Rattle.row_space.specs.Solve.{open_columns}
use Rattle.answer_question.proofs.Passed.{passed-ready}
use Rattle.answer_open.specs.Needs.{EchelonPassed, ColumnsReady}
use Rattle.answer_open.specs.Opening.{ColumnsListed, AllColumns}
use Rattle.answer_open.proofs.AllColumns.{set-factor}
use Rattle.limits.specs.Limits.{largest_size}
use Rattle.call_check.specs.Calls.{Checks}
use Rattle.call_check.proofs.Checked.{Checked}
use Rattle.call_open.specs.Calls.{columns_after, Listed, listed, Lists}

-- what the open columns need
pub columns-ready : (p n m : ℕ) (A : Compressed) (s : Set) (l w : List ℕ) (width : ℕ) → length l ≡ m → m ≤ largest_size → Checked p n m A s width → w ≡ zeros width
    → ColumnsReady p s.r s.U s.C l w
columns-ready p n m A s l w width long few c clear =
    let wide : length w ≡ width = ap length clear ∙ length-zeros width in
    record {
      factor = subst (EchelonPassed p s.r s.U s.C) (sym long) (set-factor p n m s (passed-ready p n m A s c.prime c.sized.row-order c.sized.column-order c.sized.lower-starts c.sized.upper-starts c.judged));
      narrow = omega arith;
      room = omega (arith, c.room);
      clear = clear ∙ ap zeros (sym wide);
    }

-- the same of an equal set
pub ready_by : (p : ℕ) (s s' : Set) (l w : List ℕ) → s ≡ s' → ColumnsReady p s'.r s'.U s'.C l w → ColumnsReady p s.r s.U s.C l w
ready_by p s s' l w e h = subst (λ (t : Set). ColumnsReady p t.r t.U t.C l w) (sym e) h

-- the columns of U and C are those of every set that has them
pub columns_of : (p : ℕ) (s s' : Set) (b : ℕ) (l w : List ℕ) → s ≡ s' → length l ≡ b → AllColumns p s.r s.C s.U l w → ColumnsListed (open_columns p b s') l w
columns_of p s s' b l w e long a = record { list = a.list s.R s.L ∙ (λ j. open_columns p (long j) (e j)); row = a.row }

-- the number and the detail follow from the outcome
pub leaves : (g : Listed) (r : Outcome) (l₀ l w₀ w : List ℕ) → r ≡ g.outcome → l ≡ filled (length l₀) g.list → w ≡ zeros (length w₀) → Lists g r l₀ l w₀ w
leaves g r l₀ l w₀ w e el ew = record { outcome = e; number = ap number_of e; detail = ap detail_of e; list-is = el; cleared = ew }

module _ (after : Outcome) (cells l₀ l w₀ w : List ℕ) where
  -- a refusal leaves the list all zero
  pub refused-leaves : (k d : ℕ) → Refused k d ≡ after → l ≡ zeros (length l₀) → w ≡ zeros (length w₀) → Lists (listed after cells) (Refused k d) l₀ l w₀ w
  refused-leaves k d e el ew =
      leaves (listed after cells) (Refused k d) l₀ l w₀ w (ap (λ (u : Outcome). (listed u cells).outcome) e)
      (el ∙ sym (filled_none (length l₀)) ∙ ap (λ (u : Outcome). filled (length l₀) (listed u cells).list) e) ew

  passed-leaves : Passed ≡ after → length l ≡ length l₀ → length w ≡ length w₀ → ColumnsListed cells l w → Lists (listed after cells) Passed l₀ l w₀ w
  passed-leaves e ll lw a =
      leaves (listed after cells) Passed l₀ l w₀ w (ap (λ (u : Outcome). (listed u cells).outcome) e)
      (sym (filled-whole (length l₀) l ll) ∙ ap (filled (length l₀)) a.list ∙ ap (λ (u : Outcome). filled (length l₀) (listed u cells).list) e)
      (a.row ∙ ap zeros lw)

module _ (check : Outcome) (p m : ℕ) (s : Set) (l₀ w₀ : List ℕ) where
  abbrev after : Outcome
  after = columns_after check m (length l₀)

  pub wrong-length : (length l₀ ≡ m → ⊥) → (l w : List ℕ) → l ≡ zeros (length l₀) → w ≡ zeros (length w₀) → Lists (listed after (open_columns p m s)) (Refused 9 0) l₀ l w₀ w
  unfolding columns_after
  wrong-length h l w el ew = refused-leaves after (open_columns p m s) l₀ l w₀ w 9 0 (fails (eqb (length l₀) m) 9 0 check (ne_eqb (length l₀) m h)) el ew

  -- w₁ is the working row after the check
  module _ (long : length l₀ ≡ m) (w₁ : List ℕ) where
    next : (o : Outcome) → Checks check o w₀ w₁ → o ≡ after
    unfolding columns_after
    next o q = holds (eqb (length l₀) m) 9 0 check o (eq-eqb (length l₀) m long) q.outcome

    pub refuses : (k d : ℕ) → Checks check (Refused k d) w₀ w₁ → (l : List ℕ) → l ≡ zeros (length l₀) → Lists (listed after (open_columns p m s)) (Refused k d) l₀ l w₀ w₁
    refuses k d q l el = refused-leaves after (open_columns p m s) l₀ l w₀ w₁ k d (next (Refused k d) q) el q.cleared

    pub lists : Checks check Passed w₀ w₁ → (l w : List ℕ) → length l ≡ length l₀ → length w ≡ length w₁ → ColumnsListed (open_columns p (length l₀) s) l w → Lists (listed after (open_columns p m s)) Passed l₀ l w₀ w
    lists q l w ll lw a =
        passed-leaves after (open_columns p m s) l₀ l w₀ w (next Passed q) ll (lw ∙ ap length q.cleared ∙ length-zeros (length w₀))
        (subst (λ (b : ℕ). ColumnsListed (open_columns p b s) l w) long a)
