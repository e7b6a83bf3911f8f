-- What factoring leaves in lists of the largest lengths: the entry counts, and the set.
use mathlib.Core.Path.{◌≡◌, refl, sym, ap, ◌∙◌, subst}
use mathlib.Core.List.{List}
use Prim.Native.Nat.{ℕ, ◌+◌, ◌≤◌, ◌<◌}
use native.Mathlib.Omega.{arith}
use lib.ListN.{length, get_or, take}
use Rattle.lists.specs.Filled.{zeros}
use Rattle.refusals.specs.Refusals.{number_of}
use Rattle.residue.proofs.Primes.{modulus-prime}
use Rattle.sparse.specs.Matrix.{Compressed, compressed}
use Rattle.sparse.specs.Set.{set_of, Storage}
use Rattle.text_plan.specs.Call.{ReadAnswer}
use Rattle.text_owners.specs.Call.{TextAnswer, text_call_of, GivesText}
use Rattle.text_plan.specs.Call.{Reading, reading_of}
use Rattle.text_plan.specs.declared.Stated.{Stated}
use Rattle.refusals.specs.declared.Refusal.{Refusal}
use Rattle.std.specs.Prelude.{Result}
use Rattle.limits.specs.Limits.{largest_entries}
use Rattle.call_plan.specs.Accepted.{GoodPlan}
use Rattle.factor_all.specs.Factorization.{Factorization, factoring, Leaves}
use Rattle.factor_all.specs.OwnSet.{own_set}
use Rattle.factor_all.specs.Factored.{Factored}
use Rattle.factor_all.proofs.OwnSet.{own-set, own-outcome}
use Rattle.call_factor.specs.Lengths.{lent_of, lent_outcome}
use Rattle.refusals.specs.Outcome.{Passed, Refused}
use Rattle.call_factor.specs.Calls.{factor_call_of}
use Rattle.call_factor.specs.declared.Lent.{Lent}
use Rattle.stages.specs.Results.{Stages}
use Rattle.stages.specs.Stages.{read_text, lent_for, factored_of, set_factored}
use Rattle.text_plan.specs.Held.{held_plan}
use Rattle.text_owners.proofs.Theorems.{read-good}
use Rattle.stages.specs.Lists.{SetLists, StageLists, OwnedLists, Held}
use Rattle.stages.specs.Needs.{Lendable, cut_to, HeldFactored}
use Rattle.stages.specs.Staged.{Fits, held_set, FactorsHeld, StagedOwned}
use Rattle.stages.proofs.Outcomes.{not-passed}
use Rattle.stages.proofs.Lists.{filled-fits, filled-cell, cut-cell, cut-cut}
use Rattle.stages.proofs.Holding.{Small, as-reading, small, held, answer-is}
use Rattle.call_factor.proofs.Theorems.{lent-good, call-passed, call-factoring}
use Rattle.stages.proofs.Counts.{Counted, counted}

module _ (r : Reading) (A : Compressed) (f : Factored) (h : Storage) (plan : Held r A) (few : Small r) (lists : SetLists h) (left : HeldFactored r A f h) where
  abbrev p : ℕ
  p = r.p

  abbrev n : ℕ
  n = r.n

  abbrev m : ℕ
  m = r.m

  abbrev A' : Compressed
  A' = held_plan r A

  abbrev o : Factorization
  o = factor_call_of p n m A' (lent_for n m)

  c : Counted n o
  c = counted p n m A' (lent_for n m)

  abbrev result : Stages
  result = record { reading = r; factored = f; lower = get_or h.L.starts r.n 0; upper = get_or h.U.starts f.rank 0 }

  -- ---- the entry counts

  lower-cell : get_or (take (n + 1) h.L.starts) n 0 ≡ get_or h.L.starts n 0
  lower-cell = cut-cell h.L.starts (n + 1) n (omega arith)

  rank-fits : f.rank ≤ r.n
  rank-fits = omega (arith, left.rank, c.rank-small)

  upper-cell : get_or (take (n + 1) h.U.starts) f.rank 0 ≡ get_or h.U.starts f.rank 0
  upper-cell = cut-cell h.U.starts (n + 1) f.rank (omega (arith, rank-fits))

  lower-count : get_or h.L.starts n 0 ≡ length o.L.vals
  lower-count = sym lower-cell ∙ ap (λ (l : List ℕ). get_or l n 0) left.L-starts ∙ filled-cell (length (take (n + 1) h.L.starts)) n o.L.starts ∙ c.lower_last

  upper-count : get_or h.U.starts f.rank 0 ≡ length o.U.vals
  upper-count =
      sym upper-cell
      ∙ ap (λ (l : List ℕ). get_or l f.rank 0) left.U-starts
      ∙ filled-cell (length (take (n + 1) h.U.starts)) f.rank o.U.starts
      ∙ ap (λ (k : ℕ). get_or o.U.starts k 0) left.rank
      ∙ c.upper-last

  -- a refusal leaves no entries
  pub none-lower : {k d : ℕ} → f.outcome ≡ Refused k d → get_or h.L.starts n 0 ≡ 0
  none-lower e = lower-count ∙ (c.emptied (sym left.outcome ∙ e)).0

  pub none-upper : {k d : ℕ} → f.outcome ≡ Refused k d → get_or h.U.starts f.rank 0 ≡ 0
  none-upper e = upper-count ∙ (c.emptied (sym left.outcome ∙ e)).1

  fits : Fits result A h
  fits =
      record {
        plan = plan;
        R-fits = omega (arith, few.rows, lists.R-length);
        C-fits = omega (arith, few.columns, lists.C-length);
        L-starts = omega (arith, few.rows, lists.L-lists.starts-length);
        L-columns = omega (arith, lower-count, c.lower-paired, filled-fits h.L.cols o.L.cols left.L-columns);
        L-values = omega (arith, lower-count, filled-fits h.L.vals o.L.vals left.L-values);
        U-starts = omega (arith, rank-fits, few.rows, lists.U-lists.starts-length);
        U-columns = omega (arith, upper-count, c.upper-paired, filled-fits h.U.cols o.U.cols left.U-columns);
        U-values = omega (arith, upper-count, filled-fits h.U.vals o.U.vals left.U-values);
      }

  -- ---- the set

  abbrev c' : Storage
  c' = cut_to n m h

  cut : held_set result h ≡ own_set n m f.rank c'
  cut t =
      set_of f.rank (sym (cut-cut h.R n n (omega arith)) t) (sym (cut-cut h.C m m (omega arith)) t)
      (compressed (sym (cut-cut h.L.starts (n + 1) (n + 1) (omega arith)) t) (take (sym lower-cell t) h.L.cols) (take (sym lower-cell t) h.L.vals))
      (compressed (sym (cut-cut h.U.starts (f.rank + 1) (n + 1) (omega (arith, rank-fits))) t) (take (sym upper-cell t) h.U.cols) (take (sym upper-cell t) h.U.vals))

  module _ (z : f.outcome ≡ Passed) where
    passed : lent_outcome p n m A' (lent_for n m) ≡ Passed
    passed = call-passed p n m A' (lent_for n m) (sym left.number ∙ ap number_of z)

    plain : o ≡ factoring p n m A' largest_entries largest_entries
    plain = call-factoring p n m A' (lent_for n m) passed

    leaves : Leaves (factoring p n m A' largest_entries largest_entries) f c'
    leaves = subst (λ (q : Factorization). Leaves q f c') plain left

    g : GoodPlan p n m A'
    g = (lent-good p n m A' (lent_for n m) passed).0

    set : held_set result h ≡ set_factored o
    set =
        cut
        ∙ own-set p n m A' (modulus-prime p g.modulus) g.formed g.rows largest_entries largest_entries f c' leaves (ap number_of z)
        ∙ sym (ap set_factored (plain ∙ own-outcome p n m A' (modulus-prime p g.modulus) g.formed g.rows largest_entries largest_entries f c' leaves (ap number_of z)))

  abbrev answered : ReadAnswer
  answered = record { result = r; starts = A.starts; columns = A.cols; values = A.vals }

  factors : FactorsHeld answered result A h
  unfolding factored_of
  factors =
      record {
        fits = fits;
        plan-is = refl;
        outcome-is = left.outcome;
        detail-small = omega (arith, left.detail, c.detail-small, few.rows);
        rank_is = left.rank;
        structural-is = left.structural;
        lower-is = lower-count;
        upper_is = upper-count;
        set_is = set;
      }

  -- of the text that was read
  of-text : (text ow w₀ : List ℕ) → length h.work ≡ length w₀ → GivesText (read_text text) r A.starts A.cols A.vals ow → StagedOwned text result A ow w₀ h
  of-text text ow w₀ e g =
      record {
        stages =
            record {
              reading-is = g.plan.result-is;
              factors = λ z. subst (λ (x : ReadAnswer). FactorsHeld x result A h) (answer-is text r A g.plan) factors;
              cleared = left.work ∙ ap zeros e;
            };
        owners-are = g.owners-are;
      }

-- ---- reading, then factoring

-- what a call gave, by what its result is
pub given-as : {x y : Result Stated Refusal} {g : TextAnswer} {starts columns values ow : List ℕ} → x ≡ y → GivesText g (reading_of x) starts columns values ow
    → GivesText g (reading_of y) starts columns values ow
given-as {g = g} {starts = starts} {columns = columns} {values = values} {ow = ow} = subst (λ (x : Result Stated Refusal). GivesText g (reading_of x) starts columns values ow)

pub lengths-same : (h' h : Storage) → length h'.R ≡ length h.R → length h'.C ≡ length h.C
    → length h'.L.starts ≡ length h.L.starts → length h'.L.cols ≡ length h.L.cols → length h'.L.vals ≡ length h.L.vals
    → length h'.U.starts ≡ length h.U.starts → length h'.U.cols ≡ length h.U.cols → length h'.U.vals ≡ length h.U.vals
    → length h'.work ≡ length h.work → lent_of h' ≡ lent_of h
lengths-same h' h rows columns ls lc lv us uc uv work t =
    record { rows = rows t; columns = columns t; ls = ls t; lc = lc t; lv = lv t; us = us t; uc = uc t; uv = uv t; work = work t }

module _ (text : List ℕ) (A₀ A : Compressed) (ow₀ ow : List ℕ) (h : Storage) (o : OwnedLists A₀ ow₀ h) (r : Reading)
    (read : GivesText (text_call_of text (length A₀.starts) (length A₀.cols) (length A₀.vals) (length ow₀)) r A.starts A.cols A.vals ow) where
  abbrev d : StageLists A₀ h
  d = o.lists

  given : GivesText (read_text text) r A.starts A.cols A.vals ow
  given = as-reading text A₀ d.plan (length ow₀) o.owners-length r A ow read

  limits : Small r
  limits = small text r A given.plan

  pub read-refused : (f : Factored) (h' : Storage) (lower upper : ℕ) {k d : ℕ} → r.outcome ≡ Refused k d → h'.work ≡ zeros (length h.work)
      → StagedOwned text (record { reading = r; factored = f; lower = lower; upper = upper }) A ow h.work h'
  read-refused f h' lower upper e z =
      record { stages = record { reading-is = given.plan.result-is; factors = λ q. absurd (not-passed e q); cleared = z }; owners-are = given.owners-are }

  module _ (starts-same : length A.starts ≡ length A₀.starts) (columns-same : length A.cols ≡ length A₀.cols) (Values-same : length A.vals ≡ length A₀.vals) where
    in-lists : Held r A
    in-lists =
        held text r A given.plan
        (record {
          starts-length = starts-same ∙ d.plan.starts-length;
          columns-length = columns-same ∙ d.plan.columns-length;
          values_length = Values-same ∙ d.plan.values_length;
        })

    pub lendable : r.outcome ≡ Passed → Lendable r A h
    lendable e =
        record {
          plan = in-lists;
          rows-small = limits.rows;
          columns-small = limits.columns;
          good = read-good text (length A₀.starts) (length A₀.cols) (length A₀.vals) (length ow₀) r A.starts A.cols A.vals ow read (ap number_of e);
          set = d.set;
          work-length = d.work-length;
        }

    module _ (f : Factored) (h' : Storage) (same : lent_of h' ≡ lent_of h) (left : HeldFactored r A f h') where
      set-lists : SetLists h'
      set-lists =
          record {
            R-length = ap (λ (l : Lent). l.rows) same ∙ d.set.R-length;
            C-length = ap (λ (l : Lent). l.columns) same ∙ d.set.C-length;
            L-lists =
                record {
                  starts-length = ap (λ (l : Lent). l.ls) same ∙ d.set.L-lists.starts-length;
                  columns-length = ap (λ (l : Lent). l.lc) same ∙ d.set.L-lists.columns-length;
                  values_length = ap (λ (l : Lent). l.lv) same ∙ d.set.L-lists.values_length;
                };
            U-lists =
                record {
                  starts-length = ap (λ (l : Lent). l.us) same ∙ d.set.U-lists.starts-length;
                  columns-length = ap (λ (l : Lent). l.uc) same ∙ d.set.U-lists.columns-length;
                  values_length = ap (λ (l : Lent). l.uv) same ∙ d.set.U-lists.values_length;
                };
          }

      pub lower-inside : r.n < length h'.L.starts
      lower-inside = omega (arith, limits.rows, set-lists.L-lists.starts-length)

      pub upper-inside : f.rank < length h'.U.starts
      upper-inside = omega (arith, rank-fits r A f h' in-lists limits set-lists left, limits.rows, set-lists.U-lists.starts-length)

      pub staged : StagedOwned text (record { reading = r; factored = f; lower = get_or h'.L.starts r.n 0; upper = get_or h'.U.starts f.rank 0 }) A ow h.work h'
      staged = of-text r A f h' in-lists limits set-lists left text ow h.work (ap (λ (l : Lent). l.work) same) given

      pub factoring-refused : {k d : ℕ} → f.outcome ≡ Refused k d → StagedOwned text (record { reading = r; factored = f; lower = 0; upper = 0 }) A ow h.work h'
      factoring-refused e =
          subst (λ (x : Type 0). x)
          (λ t. StagedOwned text
          (record {
            reading = r;
            factored = f;
            lower = none-lower r A f h' in-lists limits set-lists left e t;
            upper = none-upper r A f h' in-lists limits set-lists left e t;
          })
          A ow h.work h')
          staged
