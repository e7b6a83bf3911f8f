-- A question y answered from a set of factors (document 01, "Questions").
--   remainder p s y      y reduced by all rows of U
--   multiples_of p s y    the multiples of U's rows that were taken away, in order
--   lowest_of m v         the lowest-numbered place below m at which v is not 0; m where there is none
--   Solved               the verdict, x and z
--   opened, closed       open with x, where z is all zero; closed with z, where x is
--   solve p n m s y      open: x by substitution through L, placed at the pivot rows; closed: z by substitution through U
--   is_open               true for open, false for closed
--   open_columns p m s    a cell for each column: 1 where its unit question is open, 0 where it is closed (document 01's open words)
use Rattle.std.specs.Prelude.{ℕ, Bool, true, false, cond, List, eqb, leb}
use Rattle.lists.specs.Filled.{zeros}
use Rattle.lists.specs.Tabulate.{tabulate}
use Rattle.lists.specs.Tests.{first}
use Rattle.algebra.specs.Sum.{δ}
use Rattle.algebra.specs.Matrix.{Vector, vector}
use Rattle.algebra.specs.Reduction.{reduced, multiple}
use Rattle.sparse.specs.Matrix.{matrix}
use Rattle.sparse.specs.Set.{Set}
use Rattle.row_space.specs.Substitution.{through_l, through_u}
use Rattle.row_space.specs.declared.Verdict.{Verdict}
use Rattle.row_space.specs.declared.Verdict.TheVariants.{Open, Closed}

abbrev pub remainder : ℕ → Set → Vector → Vector
remainder p s y = reduced p (vector s.C) (matrix s.U) s.r y

abbrev pub multiples_of : ℕ → Set → Vector → Vector
multiples_of p s y = multiple p (vector s.C) (matrix s.U) y

unfoldable pub lowest_of : ℕ → Vector → ℕ
lowest_of m v = first m (λ j. eqb (v j) 0)

abbrev pub is_open : Verdict → Bool
is_open Open = true
is_open Closed = false

pub record Solved : Type 0 where
  pub verdict : Verdict
  pub x : List ℕ
  pub z : List ℕ

abbrev pub opened : ℕ → List ℕ → Solved
opened m x = record { verdict = Open; x = x; z = zeros m }

abbrev pub closed : ℕ → List ℕ → Solved
closed n z = record { verdict = Closed; x = zeros n; z = z }

unfoldable pub solve : (p n m : ℕ) → Set → Vector → Solved
solve p n m s y =
    cond (leb m (lowest_of m (remainder p s y)))
    (opened m (through_l p n s.r (vector s.R) (matrix s.L) (multiples_of p s y)))
    (closed n (through_u p m s.r (vector s.C) (matrix s.U) (δ (lowest_of m (remainder p s y)))))

unfoldable pub open_columns : (p m : ℕ) → Set → List ℕ
open_columns p m s = tabulate m (λ j. cond (leb m (lowest_of m (remainder p s (δ j)))) 1 0)
