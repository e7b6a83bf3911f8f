-- The parts of `solve` joined: each is ready where it is called, and what they leave is what `solve_slots` gives.
use mathlib.Core.Path.{◌≡◌, refl, sym, ap, ◌∙◌}
use mathlib.Core.Bool.{Bool, cond}
use mathlib.Core.List.{List}
use Prim.Native.Nat.{ℕ, zero, suc, ◌≤◌, ◌<◌}
use native.Mathlib.Decide.{dec_lt}
use native.Mathlib.Omega.{arith}
use lib.ListN.{length, get_or, take}
use lib.Seq.{length-take-le}
use borrow.Author.Tests.{le-leb, lt-leb}
use Rattle.lists.specs.Filled.{zeros}
use Rattle.lists.specs.Tabulate.{tabulate}
use Rattle.lists.proofs.Tabulate.{tabulate-at}
use Rattle.algebra.specs.Matrix.{Vector, Matrix, vector, Permutation}
use Rattle.sparse.specs.Row.{Below}
use Rattle.sparse.specs.Matrix.{matrix}
use Rattle.sparse.specs.Set.{Set}
use Rattle.pluq.proofs.Orders.{permutation-means}
use Rattle.row_space.specs.Substitution.{put}
use Rattle.row_space.specs.Solve.{lowest_of}
use Rattle.column_space.specs.Substitution.{lacking, forward, settle}
use Rattle.column_space.specs.Slots.{in_order, values, gap, position, lowest_gap, setting_of, left_kernel, solved_by, contradicted_by, solve_slots}
use Rattle.column_space.specs.declared.SlotVerdict.TheVariants.{Solved, Contradiction}
use Rattle.column_space.proofs.Substitutions.{forward-small}
use Rattle.column_space.proofs.Solutions.{position_at}
use Rattle.answer_slots.specs.Solving.{lowest_position, left_kernel_from, ValuesFound, SolvedAs, ContradictedAs, SlotsAnswered}
use Rattle.answer_slots.specs.Needs.{SolvedReady, SlotsReady}
use Rattle.answer_slots.proofs.Positions.{position-below, lowest-most}
use Rattle.answer_slots.proofs.ContradictionLaws.{left-kernel-from}
use Rattle.answer_slots.proofs.FoundValues.{gap-listed}

-- ---- the definitions, from the values in a list

pub settle-values : (p m : ℕ) (C : Vector) (U : Matrix) (k : ℕ) (t t' s : Vector) → ((l : ℕ) → l < k → t l ≡ t' l) → settle p m C U t k s ≡ settle p m C U t' k s
unfolding settle
settle-values p m C U zero t t' s h = refl
settle-values p m C U (suc k) t t' s h =
    ap (λ (x : ℕ). settle p m C U t k (put s (C k) (lacking p m (U k) s x))) (h k (omega arith))
    ∙ settle-values p m C U k t t' (put s (C k) (lacking p m (U k) s (t' k))) (λ l b. h l (omega arith))

module _ (p : ℕ) (s : Set) (h : Vector) (l : List ℕ) (e : l ≡ tabulate s.r (forward p (matrix s.L) s.r (in_order (vector s.R) h))) where
  pub lowest-listed : (n : ℕ) → lowest_position p n (vector s.R) (matrix s.L) h l ≡ position n (vector s.R) (lowest_gap p n s h)
  unfolding lowest_position lowest_gap gap values
  lowest-listed n =
      λ x. position n (vector s.R) (lowest_of n (λ j.
      gap-listed p s.r (vector s.R) (matrix s.L) h (forward p (matrix s.L) s.r (in_order (vector s.R) h)) l e (position n (vector s.R) j) x))

  pub setting-listed : (m : ℕ) → tabulate m (settle p m (vector s.C) (matrix s.U) (vector l) s.r (λ j. 0)) ≡ setting_of p m s h
  unfolding setting_of values
  setting-listed m =
      ap (tabulate m)
      (settle-values p m (vector s.C) (matrix s.U) s.r (vector l) (forward p (matrix s.L) s.r (in_order (vector s.R) h)) (λ j. 0)
      (λ i b. ap (λ (z : List ℕ). get_or z i 0) e ∙ tabulate-at s.r (forward p (matrix s.L) s.r (in_order (vector s.R) h)) i b))

-- ---- the two cases of `solve_slots`

module _ (p n m : ℕ) (s : Set) (h : Vector) (order : Permutation n (vector s.R)) (i : ℕ) (e : i ≡ position n (vector s.R) (lowest_gap p n s h)) where
  abbrev t : ℕ
  t = lowest_gap p n s h

  most : t ≤ n
  unfolding lowest_gap
  most = lowest-most n (λ j. gap p s h (position n (vector s.R) j))

  pub slots-are-solved : n ≤ i → solve_slots p n m s h ≡ solved_by n (setting_of p m s h)
  unfolding solve_slots
  slots-are-solved b =
      ap (λ (x : Bool). cond x (solved_by n (setting_of p m s h)) (contradicted_by m (left_kernel p n s (position n (vector s.R) t)))) (le-leb n t over)
    where
      over : n ≤ t
      over = elim (dec_lt t n) [
        | yes l ↦ absurd (omega (arith, e, (position_at n (vector s.R) order t l).0))
        | no l ↦ omega arith
      ]

  pub slots-are-contradicted : i < n → solve_slots p n m s h ≡ contradicted_by m (left_kernel p n s i)
  unfolding solve_slots
  slots-are-contradicted b =
      ap (λ (x : Bool). cond x (solved_by n (setting_of p m s h)) (contradicted_by m (left_kernel p n s (position n (vector s.R) t))))
      (lt-leb n t (position-below n (vector s.R) order t most (omega (arith, e))))
      ∙ ap (λ (k : ℕ). contradicted_by m (left_kernel p n s k)) (sym e)

-- ---- the parts

module _ (p : ℕ) (s : Set) (h s₀ w₀ work : List ℕ) (d : SlotsReady p s h s₀ w₀ work) where
  abbrev n : ℕ
  n = length w₀

  abbrev m : ℕ
  m = length s₀

  pos : 0 < p
  pos = omega (arith, d.set.prime.two)

  order : Permutation n (vector s.R)
  order = permutation-means n s.R d.set.long-R d.set.rows

  module _ (w₁ : List ℕ) (i : ℕ) (long-w : length w₁ ≡ length w₀) (f : ValuesFound p s.r (vector s.R) (matrix s.L) (vector h) w₁ i) where
    is-position : i ≡ position n (vector s.R) (lowest_gap p n s (vector h))
    is-position =
        f.lowest
        ∙ ap (λ (k : ℕ). lowest_position p k (vector s.R) (matrix s.L) (vector h) (take s.r w₁)) long-w
        ∙ lowest-listed p s (vector h) (take s.r w₁) f.values n

    pub slots-contradicted : (s₂ w₂ work₂ : List ℕ) → i < length h → length s₂ ≡ length s₀
        → ContradictedAs (left_kernel_from p (length w₁) s.r (vector s.R) (matrix s.L) i) s₂ w₂ work₂
        → SlotsAnswered (solve_slots p (length w₀) (length s₀) s (vector h)) Contradiction s₂ w₂ work₂
    slots-contradicted s₂ w₂ work₂ b long-s a =
        rw (slots-are-contradicted p n m s (vector h) order i is-position (omega (arith, d.long)))
        (record {
          verdict = refl;
          s-is = a.s-is ∙ ap zeros long-s;
          w-is = a.w-is ∙ ap (λ (k : ℕ). left_kernel_from p k s.r (vector s.R) (matrix s.L) i) long-w ∙ sym (left-kernel-from p n s i);
          row = a.row;
        })

    small : Below p (take s.r w₁)
    small k b =
        rw (ap (λ (l : List ℕ). get_or l k 0) f.values
        ∙ tabulate-at s.r (forward p (matrix s.L) s.r (in_order (vector s.R) (vector h))) k (omega (arith, length-take-le s.r w₁ (omega (arith, d.set.rank-rows, long-w)))))
        (forward-small p (matrix s.L) s.r (in_order (vector s.R) (vector h)) k pos)

    pub slots-solve : SolvedReady p s.r s.U s.C s₀ w₁
    slots-solve =
        record {
          positive = pos;
          formed = d.set.U-form;
          rows = omega (arith, d.set.long-U);
          order = omega (arith, d.set.rank-columns, d.set.long-C);
          places = λ k b. (permutation-means m s.C d.set.long-C d.set.columns).below k (omega (arith, d.set.long-C));
          rank = omega (arith, d.set.rank-rows, long-w);
          values = small;
        }

    pub slots-solved : (s₂ w₂ : List ℕ) → length h ≤ i → length w₂ ≡ length w₁
        → SolvedAs (tabulate (length s₀) (settle p (length s₀) (vector s.C) (matrix s.U) (vector (take s.r w₁)) s.r (λ j. 0))) s₂ w₂
        → SlotsAnswered (solve_slots p (length w₀) (length s₀) s (vector h)) Solved s₂ w₂ work
    slots-solved s₂ w₂ b kept a =
        rw (slots-are-solved p n m s (vector h) order i is-position (omega (arith, d.long)))
        (record {
          verdict = refl;
          s-is = a.s-is ∙ setting-listed p s (vector h) (take s.r w₁) f.values m;
          w-is = a.w-is ∙ ap zeros (kept ∙ long-w);
          row = d.clear;
        })
