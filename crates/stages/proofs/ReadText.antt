-- The plan that the stages read from a text.
--   reading-exactly    reading passes exactly if the text states a plan of at most 16,384 entries and the owners of its words
--   reading-holds      and then it holds that plan
--   owners-read        and those owners
--   reading-good       which every later call takes
--   reading-alike      texts of one plan with any owners, or none, are read as the same plan
--   owners_of          and as the owners that they state
--   reading-numbers    else it is refused by 9, 1 to 7 or 16
--   row-overflows      the row at which its factors overflow is the first in processing order
--   factored-is        factoring it is done, or refused by 7 at the first row that overflows
--   factored-whole     done, with the set of the pivot rules, where L and U fit
--   factored-over      else refused by 7 at the first row in processing order that overflows
use mathlib.Core.Path.{◌≡◌, refl, ap, ◌∙◌}
use mathlib.Core.Logic.{◌↔◌}
use mathlib.Core.List.{List, ◌++◌}
use mathlib.Core.Option.{Option, none, some}
use Prim.Native.Nat.{ℕ, ◌≤◌}
use lib.ListN.{length}
use Rattle.refusals.specs.Table.{text_faults, storage_too_short}
use Rattle.refusals.specs.Refusals.{number_of}
use Rattle.refusals.specs.Outcome.{Passed, Refused}
use Rattle.refusals.proofs.Refusals.{RefusedBy}
use Rattle.sparse.specs.Matrix.{Compressed, matrix}
use Rattle.elimination.specs.Selection.{structural}
use Rattle.elimination.proofs.Room.{some-overflows}
use Rattle.lists.specs.Filled.{filled}
use Rattle.limits.specs.Limits.{largest_entries, largest_text, starts_length}
use Rattle.call_plan.specs.Accepted.{GoodPlan}
use Rattle.text_plan.specs.Held.{plan_of, HoldsPlan}
use Rattle.text_owners.specs.Call.{owners_length}
use Rattle.text_judge.specs.declared.judge.Sizes.{Sizes}
use Rattle.text_plan.specs.Stating.{StatedEntry, Plan, plan_text}
use Rattle.text_owners.specs.Stating.{StatesOwners, StatesText}
use Rattle.text_owners.proofs.Theorems.{read-exactly, holds-stated, owners-stated, read-good, refused-by, owners-alone}
use Rattle.factor_all.specs.Factorization.{Factorization, unless_over}
use Rattle.call_factor.proofs.Theorems.{over, whole, call-is, lent-passes, fits-exactly}
use Rattle.stages.specs.Stages.{read_text, reading, owners_read, lent_for, factored_of}
use Rattle.stages.proofs.Holding.{as_call}
use Rattle.stages.proofs.Lending.{lent-right}
use Rattle.stages.specs.Meaning.{FitsAll, OverflowsAt}

module _ (text : List ℕ) where
  pub reading-exactly : (number_of (reading text).result.outcome ≡ 0) ↔ StatesText largest_entries text
  reading-exactly =
      let (there, back) =
      read-exactly text starts_length largest_entries largest_entries owners_length (reading text).result (reading text).starts (reading text).columns (reading text).values (owners_read text)
      (as_call text)
      in
      ((λ e. (there e).3), λ h. back (refl, refl, refl, h))

  pub reading-holds : (h : StatesText largest_entries text) → HoldsPlan h.sizes h.triples (reading text).result (reading text).starts (reading text).columns (reading text).values
  reading-holds h =
      holds-stated text starts_length largest_entries largest_entries owners_length (reading text).result (reading text).starts (reading text).columns (reading text).values (owners_read text)
      (as_call text) refl refl refl h

  pub owners-read : (h : StatesText largest_entries text) → owners_read text ≡ filled owners_length h.owners
  owners-read h =
      owners-stated text starts_length largest_entries largest_entries owners_length (reading text).result (reading text).starts (reading text).columns (reading text).values (owners_read text)
      (as_call text) refl refl refl h

  pub reading-good : StatesText largest_entries text → GoodPlan (reading text).result.p (reading text).result.n (reading text).result.m (plan_of (reading text))
  reading-good h =
      read-good text starts_length largest_entries largest_entries owners_length (reading text).result (reading text).starts (reading text).columns (reading text).values (owners_read text)
      (as_call text) (reading-exactly.1 h)

  -- ---- as an outcome

  pub outcome-passed : ((reading text).result.outcome ≡ Passed) ↔ StatesText largest_entries text
  outcome-passed = ((λ e. reading-exactly.0 (ap number_of e)), λ h. (reading-holds h).done)

  pub reading-numbers : RefusedBy text_faults (reading text).result.outcome
  reading-numbers =
      refused-by text starts_length largest_entries largest_entries owners_length (reading text).result (reading text).starts (reading text).columns (reading text).values (owners_read text)
      (as_call text)

  -- ---- factoring the plan that was read

  abbrev p : ℕ
  p = (reading text).result.p

  abbrev n : ℕ
  n = (reading text).result.n

  abbrev m : ℕ
  m = (reading text).result.m

  abbrev A : Compressed
  A = plan_of (reading text)

  -- the first row that overflows 16,384 entries of L or of U
  abbrev pub first_row : Option ℕ
  first_row = over p n m A (lent_for n m)

  -- the set of the pivot rules, as factoring gives it
  abbrev pub whole_set : Factorization
  whole_set = whole p n m A (lent_for n m)

  pub fits_all : (first_row ≡ none) ↔ FitsAll (reading text)
  fits_all = fits-exactly p n m A (lent_for n m)

  pub row-overflows : (i : ℕ) → first_row ≡ some i → OverflowsAt (reading text) i
  row-overflows i e = some-overflows p n m (matrix A) (structural A n m) largest_entries largest_entries i e

  module _ (states : StatesText largest_entries text) where
    pub factored-is : factored_of (reading text) ≡ unless_over first_row whole_set
    unfolding factored_of
    factored-is = call-is p n m A (lent_for n m) (lent-passes p n m A (lent_for n m) (reading-good states) (lent-right n m))

    pub factored-whole : FitsAll (reading text) → factored_of (reading text) ≡ whole_set
    factored-whole h = factored-is ∙ ap (λ (o : Option ℕ). unless_over o whole_set) (fits_all.1 h)

    pub factored-over : ¬ FitsAll (reading text) → (i : ℕ) × ((factored_of (reading text)).outcome ≡ Refused storage_too_short i) × OverflowsAt (reading text) i
    factored-over f = go first_row refl
      where
        go : (o : Option ℕ) → first_row ≡ o → (i : ℕ) × ((factored_of (reading text)).outcome ≡ Refused storage_too_short i) × OverflowsAt (reading text) i
        go none e = absurd (f (fits_all.0 e))
        go (some i) e = (i, ap (λ (g : Factorization). g.outcome) (factored-is ∙ ap (λ (o : Option ℕ). unless_over o whole_set) e), row-overflows i e)

-- ---- the text of one plan, with the owners vs stated by what follows it

module _ (s : Sizes) (ts : List StatedEntry) (foot vs : List ℕ) (plan : Plan largest_entries s ts) (states : StatesOwners s.m foot vs) (short : length (plan_text s ts ++ foot) ≤ largest_text) where
  abbrev pub states-text : StatesText largest_entries (plan_text s ts ++ foot)
  states-text = record { sizes = s; triples = ts; plan = plan; foot = foot; owners = vs; owners-stated = states; text-is = refl; short = short }

  pub owners_of : owners_read (plan_text s ts ++ foot) ≡ filled owners_length vs
  owners_of = owners-read (plan_text s ts ++ foot) states-text

pub reading-alike : (s : Sizes) (ts : List StatedEntry) (foot foot' vs vs' : List ℕ) → Plan largest_entries s ts → StatesOwners s.m foot vs → StatesOwners s.m foot' vs'
    → length (plan_text s ts ++ foot) ≤ largest_text → length (plan_text s ts ++ foot') ≤ largest_text → reading (plan_text s ts ++ foot) ≡ reading (plan_text s ts ++ foot')
unfolding read_text
reading-alike s ts foot foot' vs vs' = owners-alone s largest_entries ts foot foot' vs vs'
