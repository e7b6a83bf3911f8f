-- The plan that a text states, and the plan that a call leaves in the lent lists.
--   held_plan r A            the plan that a reading left in the lists A: n + 1 starts, and as many columns and values as entries were counted
--   plan_of x                the same of an answer
--   StatesPlan room text    the text states a plan that lists with room for so many entries can hold
--   HoldsPlan s ts r ..     the reading r and the lists hold the plan with the sizes s and the triples ts: it passed, p, n and m are those sizes,
--                           the entries are as many as the triples whose value is not 0 modulo p, the matrix has the residue of v at i and j where
--                           the triple i + 1, j + 1, v is stated and 0 where none is, and it is stored in its form: n + 1 starts, and so on
--   ReadCleared r ..        a refusal: p, n, m and the entry count are 0, and every list that was lent is all zero
use Rattle.std.specs.Prelude.{ℕ, ◌+◌, ◌<◌, ◌≡◌, List, true, length, take}
use Rattle.lists.specs.Filled.{zeros}
use Rattle.refusals.specs.Outcome.{Passed}
use Rattle.sparse.specs.Matrix.{Compressed, compressed, matrix, form}
use Rattle.text_judge.specs.declared.judge.Sizes.{Sizes}
use Rattle.text_opening.specs.Reading.{kept}
use Rattle.text_plan.specs.Stating.{StatedEntry, Plan, plan_text, entries_of, stated_at}
use Rattle.text_plan.specs.Call.{Reading, ReadAnswer, refusal_of}

abbrev pub held_plan : Reading → Compressed → Compressed
held_plan r A = compressed (take (r.n + 1) A.starts) (take r.count A.cols) (take r.count A.vals)

abbrev pub plan_of : ReadAnswer → Compressed
plan_of x = held_plan x.result (compressed x.starts x.columns x.values)

pub record StatesPlan (room : ℕ) (text : List ℕ) : Type 0 where
  pub sizes : Sizes
  pub triples : List StatedEntry
  pub plan : Plan room sizes triples
  pub text-is : text ≡ plan_text sizes triples

pub record HoldsPlan (s : Sizes) (ts : List StatedEntry) (r : Reading) (starts columns values : List ℕ) : Type 0 where
  pub done : r.outcome ≡ Passed
  pub modulus-is : r.p ≡ s.modulus.p
  pub rows_are : r.n ≡ s.n
  pub columns-are : r.m ≡ s.m
  pub count-is : r.count ≡ length (kept (entries_of s.modulus.p ts))
  pub cells : (i j : ℕ) → i < s.n → j < s.m → matrix (held_plan r (compressed starts columns values)) i j ≡ stated_at s.modulus.p ts i j
  pub starts-stored : length (held_plan r (compressed starts columns values)).starts ≡ s.n + 1
  pub entries-stored : length (held_plan r (compressed starts columns values)).cols ≡ r.count
  pub formed : form s.modulus.p s.m (held_plan r (compressed starts columns values)) ≡ true

pub record ReadCleared (a b c : ℕ) (r : Reading) (starts columns values : List ℕ) : Type 0 where
  pub result-is : r ≡ refusal_of r.outcome
  pub starts-are : starts ≡ zeros a
  pub columns-are : columns ≡ zeros b
  pub values-are : values ≡ zeros c
