-- The answer to slot values from a set that passed: what each step gives, and what the answer leaves.
--   SlotAt R i v                   v is the slot at position i of the order R; the number of slots where i is no position
--   gap_from p R L h t i            what the slot at position i has over row i of L times the values t
--   LowestBelow n R g i b          b is the position of the lowest-numbered slot with a gap among the positions below i; n where none has one
--   lowest_position p R L h t       the position in R of the lowest-numbered slot with a gap; the number of slots where there is none
--   left_kernel_from p n r R L i     w with w A = 0 in n cells: v with v L = - L[i] at the pivot rows, and 1 at the slot at position i
--   Contradicted ws w work         w is the list ws, and the working row is all zero
--   ValuesFound p r R L h w i      the first r cells of w are t with L t = d on the first r rows; i is the position of the lowest-numbered slot with a gap
--   SolvedAs ss s w                w is all zero, and s is the list ss
--   ContradictedAs ws s w work     s is all zero, w is the list ws, and the working row is all zero
--   SlotsAnswered a v s w work     the verdict, s and w are those of a, and the working row is all zero
use Rattle.std.specs.Prelude.{ℕ, ◌-◌, ◌*◌, ◌%◌, ◌≤◌, ◌<◌, ◌≡◌, ◌≢◌, List, length, get_or, take}
use Rattle.lists.specs.Filled.{zeros}
use Rattle.lists.specs.Tabulate.{tabulate}
use Rattle.algebra.specs.Sum.{place}
use Rattle.algebra.specs.Matrix.{Vector, Matrix, vector}
use Rattle.row_space.specs.Substitution.{put, back_l}
use Rattle.row_space.specs.Solve.{lowest_of}
use Rattle.column_space.specs.Substitution.{lacking, forward}
use Rattle.column_space.specs.Slots.{in_order, position, SlotSolution}
use Rattle.column_space.specs.declared.SlotVerdict.{SlotVerdict}

pub record SlotAt (R : List ℕ) (i v : ℕ) : Type 0 where
  pub inside : i < length R → v ≡ get_or R i 0
  pub beyond : length R ≤ i → v ≡ length R

abbrev pub gap_from : ℕ → Vector → Matrix → Vector → List ℕ → ℕ → ℕ
gap_from p R L h t i = lacking p (length t) (L i) (vector t) (in_order R h i)

pub record LowestBelow (n : ℕ) (R g : Vector) (i b : ℕ) : Type 0 where
  pub within : b ≤ n
  pub found : b < n → (b < i) × (g b ≢ 0)
  pub least : (k : ℕ) → k < i → g k ≢ 0 → (b < n) × (R b ≤ R k)

unfoldable pub lowest_position : (p n : ℕ) → Vector → Matrix → Vector → List ℕ → ℕ
lowest_position p n R L h t = position n R (lowest_of n (λ j. gap_from p R L h t (position n R j)))

abbrev pub left_kernel_from : (p n r : ℕ) → Vector → Matrix → ℕ → List ℕ
left_kernel_from p n r R L i = tabulate n (put (place r R (back_l p L r (λ l. ((p - 1) * L i l) % p))) (R i) 1)

pub record Contradicted (ws w work : List ℕ) : Type 0 where
  pub list : w ≡ ws
  pub row : work ≡ zeros (length work)

pub record ValuesFound (p r : ℕ) (R : Vector) (L : Matrix) (h : Vector) (w : List ℕ) (i : ℕ) : Type 0 where
  pub values : take r w ≡ tabulate r (forward p L r (in_order R h))
  pub lowest : i ≡ lowest_position p (length w) R L h (take r w)

pub record SolvedAs (ss s w : List ℕ) : Type 0 where
  pub w-is : w ≡ zeros (length w)
  pub s-is : s ≡ ss

pub record ContradictedAs (ws s w work : List ℕ) : Type 0 where
  pub s-is : s ≡ zeros (length s)
  pub w-is : w ≡ ws
  pub row : work ≡ zeros (length work)

pub record SlotsAnswered (a : SlotSolution) (v : SlotVerdict) (s w work : List ℕ) : Type 0 where
  pub verdict : v ≡ a.verdict
  pub s-is : s ≡ a.s
  pub w-is : w ≡ a.w
  pub row : work ≡ zeros (length work)
