-- What a reading says it left in the lists is there.
use mathlib.Core.Path.{◌≡◌, refl, sym, ap, subst}
use mathlib.Core.List.{List}
use Prim.Native.Nat.{ℕ, zero, suc, ◌≤◌}
use native.Mathlib.Omega.{arith}
use lib.ListN.{length}
use Rattle.refusals.specs.Refusals.{number_of}
use Rattle.text_plan.specs.Call.{ReadAnswer, Gives}
use Rattle.text_plan.specs.Call.{Reading}
use Rattle.text_plan.specs.Held.{held_plan, plan_of}
use Rattle.text_owners.specs.Call.{owners_length, TextAnswer, text_call_of, GivesText}
use Rattle.text_owners.proofs.Theorems.{read-exactly, holds-stated, read-good, read-cleared}
use Rattle.sparse.specs.Matrix.{Compressed}
use Rattle.limits.specs.Limits.{largest_size, largest_entries, starts_length}
use Rattle.stages.specs.Stages.{read_text, reading, owners_read}
use Rattle.stages.specs.Lists.{Largest, Held}

-- ---- the numbers of a reading keep the limits
pub record Small (r : Reading) : Type 0 where
  pub rows : r.n ≤ largest_size
  pub columns : r.m ≤ largest_size
  pub entries : r.count ≤ largest_entries

module _ (text : List ℕ) where
  abbrev x : ReadAnswer
  x = reading text

  -- the reading as a call
  pub as_call : GivesText (text_call_of text starts_length largest_entries largest_entries owners_length) x.result x.starts x.columns x.values (owners_read text)
  unfolding read_text
  as_call = record { plan = record { result-is = refl; starts-are = refl; columns-are = refl; values-are = refl }; owners-are = refl }

  reading_small : Small x.result
  reading_small = go (number_of x.result.outcome) refl
    where
      go : (k : ℕ) → number_of x.result.outcome ≡ k → Small x.result
      go zero e =
          let (a, b, c, states) = (read-exactly text starts_length largest_entries largest_entries owners_length x.result x.starts x.columns x.values (owners_read text) as_call).0 e in
          let held = holds-stated text starts_length largest_entries largest_entries owners_length x.result x.starts x.columns x.values (owners_read text) as_call refl refl refl states in
          let good = read-good text starts_length largest_entries largest_entries owners_length x.result x.starts x.columns x.values (owners_read text) as_call e in
          record { rows = good.few-rows; columns = good.few-columns; entries = omega (arith, held.entries-stored, good.few-entries) }
      go (suc k) e =
          let cleared = read-cleared text starts_length largest_entries largest_entries owners_length x.result x.starts x.columns x.values (owners_read text) as_call (λ z. omega (arith, e, z)) in
          record {
            rows = omega (arith, ap (λ (r : Reading). r.n) cleared.result-is);
            columns = omega (arith, ap (λ (r : Reading). r.m) cleared.result-is);
            entries = omega (arith, ap (λ (r : Reading). r.count) cleared.result-is);
          }

module _ (text : List ℕ) (A₀ : Compressed) (large : Largest A₀) (k : ℕ) (long : k ≡ owners_length) (r : Reading) (A : Compressed) (ow : List ℕ) where
  -- the call on lists of the largest lengths
  pub as-reading : GivesText (text_call_of text (length A₀.starts) (length A₀.cols) (length A₀.vals) k) r A.starts A.cols A.vals ow
      → GivesText (read_text text) r A.starts A.cols A.vals ow
  unfolding read_text
  as-reading g =
      subst (λ (y : TextAnswer). GivesText y r A.starts A.cols A.vals ow)
      (λ t. text_call_of text (large.starts-length t) (large.columns-length t) (large.values_length t) (long t)) g

module _ (text : List ℕ) (r : Reading) (A : Compressed) (g : Gives (reading text) r A.starts A.cols A.vals) where
  pub small : Small r
  small = subst Small (sym g.result-is) (reading_small text)

  pub held : Largest A → Held r A
  held large =
      record {
        rows = omega (arith, small.rows, large.starts-length);
        columns-fit = omega (arith, small.entries, large.columns-length);
        values-fit = omega (arith, small.entries, large.values_length);
      }

  -- the answer that the reading gave
  pub answer-is : record { result = r; starts = A.starts; columns = A.cols; values = A.vals } ≡ reading text
  answer-is t = record { result = g.result-is t; starts = g.starts-are t; columns = g.columns-are t; values = g.values-are t }

  pub plan-is : held_plan r A ≡ plan_of (reading text)
  plan-is t = plan_of (answer-is t)
