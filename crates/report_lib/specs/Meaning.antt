-- What a report says of the plan that was read, and of the owners vs of its words.
--   TellsOpen p n m A t     the test t is true for column j exactly if the unit vector of j is in the row space of A (its word is open)
--   ReportsRight x vs out   out is the report of a plan's numbers, of the owners and of marks for its words:
--     modulus-is ..         p, n, m and the number of entries are those that were read
--     rank_is               the rank is the greatest number of independent rows
--     structural-is         the structural pivots are as many as the pivot rules find
--     lower-is, upper_is    L and U of the factors by the pivot rules have so many entries
--     marks-are             a word is printed as open exactly if its unit vector is in the row space of the plan
--     last_line             it ends with the totals of these marks
--     open-total ..         which are the number of open words, whoever tells them, and the number of the others: together m
use Rattle.std.specs.Prelude.{◌≡◌, ◌↔◌, Bool, true, not, List, ◌++◌, ℕ, ◌+◌, ◌<◌, length}
use Rattle.lists.specs.Tests.{count}
use Rattle.algebra.specs.Sum.{δ}
use Rattle.algebra.specs.Rank.{Rank}
use Rattle.algebra.specs.RowSpace.{InRowSpace}
use Rattle.sparse.specs.Matrix.{Compressed, matrix}
use Rattle.elimination.specs.Selection.{structural}
use Rattle.text_plan.specs.Call.{ReadAnswer}
use Rattle.text_plan.specs.Held.{plan_of}
use Rattle.call_open.specs.Meaning.{MarksOpen}
use Rattle.print_text.specs.declared.lines.Summary.{Summary}
use Rattle.print_text.specs.Lines.{open_count, closed_count, totals_line}
use Rattle.print_text.specs.Report.{report_text}
use Rattle.stages.specs.Meaning.{factors_of}

abbrev pub TellsOpen : (p n m : ℕ) → Compressed → (ℕ → Bool) → Type 0
TellsOpen p n m A t = (j : ℕ) → j < m → (t j ≡ true) ↔ InRowSpace p n m (matrix A) (δ j)

pub record ReportsRight (x : ReadAnswer) (vs out : List ℕ) : Type 0 where
  pub summary : Summary
  pub marks : List ℕ
  pub printed-is : out ≡ report_text summary vs marks
  pub modulus-is : summary.modulus ≡ x.result.p
  pub slots-are : summary.slots ≡ x.result.n
  pub words_are : summary.words ≡ x.result.m
  pub entries-are : summary.entries ≡ x.result.count
  pub rank_is : Rank x.result.p x.result.n x.result.m (matrix (plan_of x)) summary.rank
  pub structural-is : summary.structural ≡ length (structural (plan_of x) x.result.n x.result.m)
  pub lower-is : summary.lower ≡ length (factors_of x).L.cols
  pub upper_is : summary.upper ≡ length (factors_of x).U.cols
  pub marks-are : MarksOpen x.result.p x.result.n x.result.m (plan_of x) marks
  pub last_line : (front : List ℕ) × (out ≡ front ++ totals_line marks)
  pub open-total : (t : ℕ → Bool) → TellsOpen x.result.p x.result.n x.result.m (plan_of x) t → open_count marks ≡ count x.result.m t
  pub closed-total : (t : ℕ → Bool) → TellsOpen x.result.p x.result.n x.result.m (plan_of x) t → closed_count marks ≡ count x.result.m (λ j. not (t j))
  pub totals-sum : open_count marks + closed_count marks ≡ x.result.m
