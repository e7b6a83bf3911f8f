-- Slot values h answered from a set of factors (document 02, slip 6): the setting of the words that gives them, or a combination of the slots that shows
-- that none does.
--   in_order R h                 the slot values in the order R
--   values p s h                t with L t = d on the pivot rows, where d is h in the set's order
--   gap p s h i                 what the slot at position i of the order has over row i of L times t
--   position n R t              the position of slot t in the order R
--   lowest_gap p n s h           the lowest-numbered slot with a gap; n where there is none
--   setting_of p m s h           the setting: U s = t, 0 at every column that is no pivot column
--   left_kernel p n s i          w with w A = 0: 1 at the slot at position i, 0 at the other slots that are no pivot rows
--   SlotSolution                the verdict, s and w
--   solved_by, contradicted_by    solved with s, where w is all zero; a contradiction with w, where s is
--   solve_slots p n m s h        solved if there is no gap, else the contradiction at the lowest-numbered slot with a gap
use Rattle.std.specs.Prelude.{ℕ, ◌-◌, ◌*◌, ◌%◌, cond, not, List, eqb, leb}
use Rattle.lists.specs.Filled.{zeros}
use Rattle.lists.specs.Tabulate.{tabulate}
use Rattle.lists.specs.Tests.{first}
use Rattle.algebra.specs.Sum.{place}
use Rattle.algebra.specs.Matrix.{Vector, vector}
use Rattle.sparse.specs.Matrix.{matrix}
use Rattle.sparse.specs.Set.{Set}
use Rattle.row_space.specs.Substitution.{put, back_l}
use Rattle.row_space.specs.Solve.{lowest_of}
use Rattle.column_space.specs.Substitution.{lacking, forward, settle}
use Rattle.column_space.specs.declared.SlotVerdict.{SlotVerdict}
use Rattle.column_space.specs.declared.SlotVerdict.TheVariants.{Solved, Contradiction}

abbrev pub in_order : Vector → Vector → Vector
in_order R h = λ i. h (R i)

unfoldable pub values : ℕ → Set → Vector → Vector
values p s h = forward p (matrix s.L) s.r (in_order (vector s.R) h)

unfoldable pub gap : ℕ → Set → Vector → ℕ → ℕ
gap p s h i = lacking p s.r (matrix s.L i) (values p s h) (in_order (vector s.R) h i)

unfoldable pub position : ℕ → Vector → ℕ → ℕ
position n R t = first n (λ i. not (eqb (R i) t))

unfoldable pub lowest_gap : (p n : ℕ) → Set → Vector → ℕ
lowest_gap p n s h = lowest_of n (λ t. gap p s h (position n (vector s.R) t))

unfoldable pub setting_of : (p m : ℕ) → Set → Vector → List ℕ
setting_of p m s h = tabulate m (settle p m (vector s.C) (matrix s.U) (values p s h) s.r (λ j. 0))

-- at the pivot rows stands v with v L = - L[i]
unfoldable pub left_kernel : (p n : ℕ) → Set → ℕ → List ℕ
left_kernel p n s i =
    tabulate n
    (put (place s.r (vector s.R) (back_l p (matrix s.L) s.r (λ l. ((p - 1) * matrix s.L i l) % p)))
    (vector s.R i) 1)

pub record SlotSolution : Type 0 where
  pub verdict : SlotVerdict
  pub s : List ℕ
  pub w : List ℕ

abbrev pub solved_by : ℕ → List ℕ → SlotSolution
solved_by n s = record { verdict = Solved; s = s; w = zeros n }

abbrev pub contradicted_by : ℕ → List ℕ → SlotSolution
contradicted_by m w = record { verdict = Contradiction; s = zeros m; w = w }

unfoldable pub solve_slots : (p n m : ℕ) → Set → Vector → SlotSolution
solve_slots p n m s h =
    cond (leb n (lowest_gap p n s h))
    (solved_by n (setting_of p m s h))
    (contradicted_by m (left_kernel p n s (position n (vector s.R) (lowest_gap p n s h))))
