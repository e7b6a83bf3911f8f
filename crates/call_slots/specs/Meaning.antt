-- What slot values and their answer mean, without an order of tests.
--   Heard p n m k h a b         k = m owners, h holds n residues, and s and w have m and n cells
--   LeftSolved ..               solved, as left in the lists: s has m residues, A s = h, s is 0 at every column that is no pivot column, no other list is so,
--                               and w is all zero
--   LeftContradiction ..        a contradiction, as left in the lists: w has n residues, w A = 0, w h is not 0, w is 1 at one slot that is no pivot row and 0
--                               at the others; a w of this form at a lower-numbered slot does not work; no other list is so, and s is all zero
--   SolvesRight .. h r st w     the answer r with the lists st and w, from the set s:
--     solved-exactly            r is solved exactly if some setting gives the slot values h
--     contradiction-exactly     and a contradiction exactly if none does
--     solved-left, contradiction-left   s and w are as described
--   SolutionOf p n m A h r      r is the answer that some call gave to h, from stored factors or from a certificate, and did not refuse
use Rattle.std.specs.Prelude.{ℕ, ◌<◌, ◌≡◌, ◌↔◌, List, length}
use Rattle.lists.specs.Filled.{zeros}
use Rattle.algebra.specs.Congruence.{◌≈⟨◌⟩◌}
use Rattle.algebra.specs.Sum.{dot}
use Rattle.algebra.specs.Matrix.{vector}
use Rattle.algebra.specs.ColumnSpace.{InColumnSpace}
use Rattle.algebra.specs.SlotAnswer.{SettingAnswer, ContradictionAnswer}
use Rattle.sparse.specs.Row.{Below}
use Rattle.sparse.specs.Matrix.{Compressed, matrix}
use Rattle.sparse.specs.Set.{Set}
use Rattle.call_slots.specs.Calls.{solution_number, slots_factors_of, slots_certificate_of, Solves}
use Rattle.call_slots.specs.Solution.{Solution}

pub record Heard (p n m k : ℕ) (h : List ℕ) (a b : ℕ) : Type 0 where
  pub owners : k ≡ m
  pub values : length h ≡ n
  pub columns : a ≡ m
  pub rows : b ≡ n
  pub residues : Below p h

pub record LeftSolved (p n m : ℕ) (A : Compressed) (s : Set) (h st w : List ℕ) : Type 0 where
  pub length-s : length st ≡ m
  pub answer : SettingAnswer p n m s.r (matrix A) (vector s.C) (vector h) (vector st)
  pub only : (t : List ℕ) → length t ≡ m → SettingAnswer p n m s.r (matrix A) (vector s.C) (vector h) (vector t) → t ≡ st
  pub w-is : w ≡ zeros n

pub record LeftContradiction (p n m : ℕ) (A : Compressed) (s : Set) (h st w : List ℕ) : Type 0 where
  pub slot : ℕ
  pub inside : slot < n
  pub length-w : length w ≡ n
  pub answer : ContradictionAnswer p n m s.r (matrix A) (vector s.R) slot (vector w)
  pub differs : ¬ (dot n (vector w) (vector h) ≈⟨ p ⟩ 0)
  pub lowest : (i : ℕ) → i < slot → (u : List ℕ) → ContradictionAnswer p n m s.r (matrix A) (vector s.R) i (vector u) → dot n (vector u) (vector h) ≈⟨ p ⟩ 0
  pub only : (u : List ℕ) → length u ≡ n → ContradictionAnswer p n m s.r (matrix A) (vector s.R) slot (vector u) → u ≡ w
  pub s-is : st ≡ zeros m

pub record SolvesRight (p n m : ℕ) (A : Compressed) (s : Set) (h : List ℕ) (r : Solution) (st w : List ℕ) : Type 0 where
  pub solved-exactly : (r ≡ Solution.Solved) ↔ InColumnSpace p n m (matrix A) (vector h)
  pub contradiction-exactly : (r ≡ Solution.Contradiction) ↔ (¬ InColumnSpace p n m (matrix A) (vector h))
  pub solved-left : r ≡ Solution.Solved → LeftSolved p n m A s h st w
  pub contradiction-left : r ≡ Solution.Contradiction → LeftContradiction p n m A s h st w

pub data SolutionOf (p n m : ℕ) (A : Compressed) (h : List ℕ) (r : Solution) : Type 0 where
  from_stored : (k : ℕ) (s : Set) (s₀ st w₀ w v₀ v : List ℕ) → Solves (slots_factors_of p n m k A s h (length s₀) (length w₀) (length v₀)) r s₀ st w₀ w v₀ v → solution_number r ≡ 0 → SolutionOf p n m A h r
  from_bytes : (k : ℕ) (cert s₀ st w₀ w v₀ v : List ℕ) → Solves (slots_certificate_of p n m k A cert h (length s₀) (length w₀) (length v₀)) r s₀ st w₀ w v₀ v → solution_number r ≡ 0 → SolutionOf p n m A h r
