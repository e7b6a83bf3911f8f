-- A plan's text, read and then factored: the stages that the calls on a text begin with.
--   read_text text            the reading of a text into lists of the largest lengths: the plan, and the owners of its words
--   reading text             the plan
--   owners_read text          the owners, 2,048 bytes
--   lent_for n m              the lists that are lent to factoring: R, C and the starts of their lengths, and room for 16,384 entries of L and of U each
--   factored_of x             the factoring of the plan that was read
--   set_factored g            the set that factoring gives
use Rattle.std.specs.Prelude.{ℕ, ◌+◌, List}
use Rattle.sparse.specs.Set.{Set, set_of}
use Rattle.limits.specs.Limits.{starts_length, largest_entries, work_length}
use Rattle.text_plan.specs.Call.{ReadAnswer}
use Rattle.text_plan.specs.Held.{plan_of}
use Rattle.text_owners.specs.Call.{owners_length, TextAnswer, text_call_of}
use Rattle.factor_all.specs.Factorization.{Factorization}
use Rattle.call_factor.specs.Calls.{factor_call_of}
use Rattle.call_factor.specs.declared.Lent.{Lent}

-- ---- reading

unfoldable pub read_text : List ℕ → TextAnswer
read_text text = text_call_of text starts_length largest_entries largest_entries owners_length

abbrev pub reading : List ℕ → ReadAnswer
reading text = (read_text text).plan

abbrev pub owners_read : List ℕ → List ℕ
owners_read text = (read_text text).owners

-- ---- factoring

abbrev pub lent_for : ℕ → ℕ → Lent
lent_for n m =
    record {
      rows = n;
      columns = m;
      ls = n + 1;
      lc = largest_entries;
      lv = largest_entries;
      us = n + 1;
      uc = largest_entries;
      uv = largest_entries;
      work = work_length;
    }

unfoldable pub factored_of : ReadAnswer → Factorization
factored_of x = let r = x.result in factor_call_of r.p r.n r.m (plan_of x) (lent_for r.n r.m)

abbrev pub set_factored : Factorization → Set
set_factored g = set_of g.rank g.R g.C g.L g.U
