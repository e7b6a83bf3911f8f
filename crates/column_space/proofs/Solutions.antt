-- What `solve_slots` computes: a setting that gives the slot values, or a combination of the slots that contradicts them.
--   position-of, position_at                   the position of a slot in the row order
--   solve-slots-cases, solve-slots-lengths     no slot has a gap, or there is a lowest one; the lengths of s and w
--   left-kernel-answers, gap-product           w at a position that is no pivot row's: its form, w A = 0, and w h is the slot's gap
--   gap-small, gap-pivot, setting-answers      a gap is a residue; pivot rows have none; where no slot has one the setting gives h
use mathlib.Core.Path.{◌≡◌, refl, sym, ap, ◌∙◌}
use mathlib.Core.Logic.{◌≢◌, ◌⊎◌, inl, inr}
use mathlib.Core.Bool.{Bool, cond, not}
use mathlib.Core.List.{List}
use Prim.Native.Nat.{ℕ, ◌+◌, ◌-◌, ◌*◌, ◌≤◌, ◌<◌}
use native.Mathlib.Decide.{ℕ_discrete, dec_lt}
use native.Mathlib.Omega.{arith}
use lib.Dec.{eqb}
use lib.ListN.{length}
use borrow.Author.Tests.{eq-eqb, ne_eqb, le-leb, lt-leb}
use Rattle.lists.specs.Tabulate.{tabulate}
use Rattle.lists.proofs.Filled.{length-zeros}
use Rattle.lists.proofs.Tabulate.{length-tabulate, tabulate-at}
use Rattle.lists.proofs.Tests.{first-fails}
use Rattle.algebra.specs.Congruence.{◌≈⟨◌⟩◌}
use Rattle.algebra.specs.Sum.{dot, place}
use Rattle.algebra.specs.Prime.{Prime}
use Rattle.algebra.specs.Matrix.{Vector, Matrix, Distinct, Permutation, vector}
use Rattle.algebra.specs.Reduction.{AllZero, Lowest}
use Rattle.algebra.specs.ColumnSpace.{GivesSlots, InLeftKernel}
use Rattle.algebra.specs.SlotAnswer.{SettingAnswer, ContradictionAnswer}
use Rattle.algebra.proofs.Congruence.{exact, turn, ◌⊙◌, ◌⊕◌, same_refl, same-mod, minus, cancel}
use Rattle.algebra.proofs.Dot.{dot-eq, dot-left, dot-right, dot-comm, dot-scale, dot-assoc, dot-place, place_at, place-off}
use Rattle.algebra.proofs.Finite.{onto}
use Rattle.algebra.proofs.Substitution.{stores-dot, Right, right-ends}
use Rattle.residue.specs.Inverse.{Invertible}
use Rattle.sparse.specs.Matrix.{Compressed, matrix}
use Rattle.sparse.specs.Set.{Set}
use Rattle.pluq.specs.Judge.{Passes}
use Rattle.row_space.specs.Substitution.{put, back_l}
use Rattle.row_space.specs.Solve.{lowest_of}
use Rattle.row_space.proofs.Substitutions.{put-here, put_other, back_l-small, back_l-solves}
use Rattle.row_space.proofs.Solutions.{lowest-cases, passed-diagonal, passed-rows}
use Rattle.column_space.specs.Substitution.{settle}
use Rattle.column_space.specs.Slots.{in_order, values, gap, position, lowest_gap, setting_of, left_kernel, SlotSolution, solved_by, contradicted_by, solve_slots}
use Rattle.column_space.proofs.Substitutions.{lacking-small, lacking-adds, lacking-none, lacking-zero, forward-solves, settle-kept, settle-small, settle-right}

-- ---- the position of a slot in the order

pub position-of : (n : ℕ) (R : Vector) → Permutation n R → (i : ℕ) → i < n → position n R (R i) ≡ i
unfolding position
position-of n R d i h =
    first-fails n (λ k. not (eqb (R k) (R i))) i h
    (λ k b. ap not (ne_eqb (R k) (R i) (λ e. omega (arith, d.apart k i (omega arith) h e))))
    (ap not (eq-eqb (R i) (R i) refl))

pub position_at : (n : ℕ) (R : Vector) → Permutation n R → (t : ℕ) → t < n → (position n R t < n) × (R (position n R t) ≡ t)
position_at n R d t h =
    let (i, b, e) = onto n R d t h in
    let q : position n R t ≡ i = ap (position n R) (sym e) ∙ position-of n R d i b in
    (omega arith, ap R q ∙ e)

-- ---- the two cases of `solve_slots`

-- the gap of each slot
abbrev pub slot_gap : (p n : ℕ) → Set → Vector → Vector
slot_gap p n s h = λ t. gap p s h (position n (vector s.R) t)

abbrev pub contradicting_w : (p n : ℕ) → Set → Vector → List ℕ
contradicting_w p n s h = left_kernel p n s (position n (vector s.R) (lowest_gap p n s h))

abbrev pub Cases : (p n m : ℕ) → Set → Vector → Type 0
Cases p n m s h =
    (AllZero n (slot_gap p n s h) × (solve_slots p n m s h ≡ solved_by n (setting_of p m s h)))
    ⊎ (Lowest n (slot_gap p n s h) (lowest_gap p n s h) × (solve_slots p n m s h ≡ contradicted_by m (contradicting_w p n s h)))

-- no slot has a gap, or `lowest_gap` is the lowest-numbered slot that has one
abbrev GapCases : (p n : ℕ) → Set → Vector → Type 0
GapCases p n s h =
    ((n ≤ lowest_gap p n s h) × AllZero n (slot_gap p n s h)) ⊎ ((lowest_gap p n s h < n) × Lowest n (slot_gap p n s h) (lowest_gap p n s h))

gap-cases : (p n : ℕ) (s : Set) (h f : Vector) → lowest_gap p n s h ≡ lowest_of n f → ((t : ℕ) → f t ≡ slot_gap p n s h t) → GapCases p n s h
unfolding AllZero
gap-cases p n s h f e same = rw e (go (lowest-cases n f))
  where
    go : ((n ≤ lowest_of n f) × AllZero n f) ⊎ ((lowest_of n f < n) × Lowest n f (lowest_of n f))
        → ((n ≤ lowest_of n f) × AllZero n (slot_gap p n s h)) ⊎ ((lowest_of n f < n) × Lowest n (slot_gap p n s h) (lowest_of n f))
    go (inl (b, none)) = inl (b, λ t g. sym (same t) ∙ none t g)
    go (inr (b, low)) = inr (b, record { within = b; here = λ z. low.here (same (lowest_of n f) ∙ z); before = λ t g. sym (same t) ∙ low.before t g })

lowest-gap : (p n : ℕ) (s : Set) (h : Vector) → GapCases p n s h
unfolding lowest_gap
lowest-gap p n s h = gap-cases p n s h _ refl (λ t. refl)

pub solve-slots-cases : (p n m : ℕ) (s : Set) (h : Vector) → Cases p n m s h
unfolding solve_slots
solve-slots-cases p n m s h = go (lowest-gap p n s h)
  where
    pick : Bool → SlotSolution
    pick b = cond b (solved_by n (setting_of p m s h)) (contradicted_by m (contradicting_w p n s h))

    go : GapCases p n s h → Cases p n m s h
    go (inl (b, none)) = inl (none, ap pick (le-leb n (lowest_gap p n s h) b))
    go (inr (b, low)) = inr (low, ap pick (lt-leb n (lowest_gap p n s h) b))

length-setting : (p m : ℕ) (s : Set) (h : Vector) → length (setting_of p m s h) ≡ m
unfolding setting_of
length-setting p m s h = length-tabulate m _

length-left_kernel : (p n : ℕ) (s : Set) (i : ℕ) → length (left_kernel p n s i) ≡ n
unfolding left_kernel
length-left_kernel p n s i = length-tabulate n _

-- s and w have their lengths in both
pub solve-slots-lengths : (p n m : ℕ) (s : Set) (h : Vector) → (length (solve_slots p n m s h).s ≡ m) × (length (solve_slots p n m s h).w ≡ n)
solve-slots-lengths p n m s h =
    elim (solve-slots-cases p n m s h) [
      | inl c ↦ (ap (λ (a : SlotSolution). length a.s) c.1 ∙ length-setting p m s h, ap (λ (a : SlotSolution). length a.w) c.1 ∙ length-zeros n)
      | inr c ↦ (ap (λ (a : SlotSolution). length a.s) c.1 ∙ length-zeros m, ap (λ (a : SlotSolution). length a.w) c.1 ∙ length-left_kernel p n s _)
    ]

module _ {p : ℕ} (prime : Prime p) {n m : ℕ} {A : Compressed} {s : Set} (ok : Passes p n m A s) where
  pos : 0 < p
  pos = omega (arith, prime.two)

  abbrev r : ℕ
  r = s.r

  abbrev R : Vector
  R = vector s.R

  abbrev C : Vector
  C = vector s.C

  abbrev L : Matrix
  L = matrix s.L

  abbrev U : Matrix
  U = matrix s.U

  diagonal : (k : ℕ) → k < r → Invertible p (L k k)
  diagonal = passed-diagonal prime ok

  pivot-rows : Distinct r n R
  pivot-rows = passed-rows prime ok

  -- ---- w at a position i that is no pivot row's, where v L = d and d is less row i of L

  module _ (i : ℕ) (free : r ≤ i) (inside : i < n) (d : Vector) (less-row : (k : ℕ) → k < r → d k ≈⟨ p ⟩ (p - 1) * L i k) where
    abbrev v : Vector
    v = back_l p L r d

    abbrev w : Vector
    w = put (place r R v) (R i) 1

    off : (k : ℕ) → r ≤ k → k < n → place r R v (R k) ≡ 0
    off k h g = place-off r R v (R k) (λ l b e. omega (arith, ok.factors.rows.apart l k (omega arith) g e))

    w-other : (t : ℕ) → t ≢ R i → w t ≡ place r R v t
    w-other t e = put_other (place r R v) (R i) 1 t e

    placed-small : (t : ℕ) → t < n → place r R v t < p
    placed-small t h =
        let o = onto n R ok.factors.rows t h in
        let q : R o.0 ≡ t = o.2 in
        rw (← q) (go o.0 o.1 (dec_lt o.0 r))
      where
        go : (k : ℕ) → k < n → Dec (k < r) → place r R v (R k) < p
        go k g (yes b) = rw (place_at r n R v pivot-rows k b) (back_l-small p L r d k pos)
        go k g (no b) = rw (off k (omega arith) g) pos

    w-small : (t : ℕ) → t < n → w t < p
    w-small t h = go (ℕ_discrete t (R i))
      where
        go : Dec (t ≡ R i) → w t < p
        go (yes e) = rw e (omega (arith, put-here (place r R v) (R i) 1, prime.two))
        go (no e) = omega (arith, w-other t e, placed-small t h)

    -- the slot's own value, and the pivot rows' values times v
    w-times : (f : Vector) → dot n w f ≡ dot r v (λ k. f (R k)) + f (R i)
    w-times f =
        dot-comm n w f
        ∙ stores-dot n (R i) 1 (place r R v) w f (ok.factors.rows.below i inside) (record { old = off i free inside; new = put-here (place r R v) (R i) 1; kept = w-other })
        ∙ omega (arith, dot-comm n f (place r R v), dot-place r n R v f pivot-rows.below)

    -- v times the pivot rows of L, times t, is less row i of L times t
    v-times : (t : Vector) → dot r v (λ k. dot r (L k) t) ≈⟨ p ⟩ (p - 1) * dot r (L i) t
    v-times t =
        exact (sym (dot-assoc r r v L t))
        ⊙ dot-left r t (λ k g.
        exact (dot-comm r v (λ a. L a k))
        ⊙ back_l-solves prime r L ok.factors.L-above diagonal r (omega arith) d k g
        ⊙ less-row k g)
        ⊙ exact (dot-scale r (p - 1) (L i) t)

    w-kernel : InLeftKernel p n m (matrix A) w
    unfolding InLeftKernel
    w-kernel j h =
        let u : Vector = λ k. U k j in
        exact (w-times (λ t. matrix A t j))
        ⊙ (dot-right r v (λ k g. ok.factors.product k j (omega (arith, ok.factors.rank-rows)) h) ⊙ v-times u) ⊕ ok.factors.product i j inside h
        ⊙ exact (omega arith)
        ⊙ minus 0 (dot r (L i) u) pos

    w-answers : ContradictionAnswer p n m r (matrix A) R (R i) w
    w-answers =
        record {
          residues = w-small;
          kernel = w-kernel;
          pivot = λ k h e. omega (arith, ok.factors.rows.apart k i (omega arith) inside e);
          one = put-here (place r R v) (R i) 1;
          others = λ k h g e. w-other (R k) e ∙ off k h g;
        }

    w_list : ContradictionAnswer p n m r (matrix A) R (R i) (vector (tabulate n w))
    unfolding InLeftKernel
    w_list =
        let a = w-answers in
        let at = tabulate-at n w in
        record {
          residues = λ t h. rw (at t h) (a.residues t h);
          kernel = λ j h. exact (dot-eq n {v = λ t. matrix A t j} at (λ t g. refl)) ⊙ a.kernel j h;
          pivot = a.pivot;
          one = at (R i) (ok.factors.rows.below i inside) ∙ a.one;
          others = λ k h g e. at (R k) (ok.factors.rows.below k g) ∙ a.others k h g e;
        }

    w-gap : (h : Vector) → dot n (vector (tabulate n w)) h ≈⟨ p ⟩ gap p s h i
    unfolding gap values
    w-gap h =
        let t = values p s h in
        cancel (dot r (L i) t)
        (exact (dot-eq n {v = h} (tabulate-at n w) (λ t g. refl) ∙ w-times h) ⊕ same_refl (dot r (L i) t)
        ⊙ dot-right r v (λ k g. turn (forward-solves prime r L ok.factors.L-above diagonal (in_order R h) k g)) ⊕ same_refl (h (R i)) ⊕ same_refl (dot r (L i) t)
        ⊙ v-times t ⊕ same_refl (h (R i)) ⊕ same_refl (dot r (L i) t)
        ⊙ exact (omega arith)
        ⊙ minus (h (R i)) (dot r (L i) t) pos
        ⊙ turn (lacking-adds p r (L i) t (h (R i)) pos))

  -- `left_kernel` is such a list
  left-kernel-is : (i : ℕ)
      → (d : Vector) × (left_kernel p n s i ≡ tabulate n (put (place r R (back_l p L r d)) (R i) 1)) × ((k : ℕ) → k < r → d k ≈⟨ p ⟩ (p - 1) * L i k)
  unfolding left_kernel
  left-kernel-is i = (_, refl, λ k g. same-mod ((p - 1) * L i k))

  pub left-kernel-answers : (i : ℕ) → s.r ≤ i → i < n → ContradictionAnswer p n m s.r (matrix A) (vector s.R) (vector s.R i) (vector (left_kernel p n s i))
  left-kernel-answers i free inside = let (d, e, less-row) = left-kernel-is i in rw e (w_list i free inside d less-row)

  -- w h is the slot's gap
  pub gap-product : (i : ℕ) → s.r ≤ i → i < n → (h : Vector) → dot n (vector (left_kernel p n s i)) h ≈⟨ p ⟩ gap p s h i
  gap-product i free inside h = let (d, e, less-row) = left-kernel-is i in rw e (w-gap i free inside d less-row h)

  -- ---- the gaps and the setting

  module _ (h : Vector) where
    pub gap-small : (i : ℕ) → gap p s h i < p
    unfolding gap
    gap-small i = lacking-small p r (L i) (values p s h) (in_order R h i) pos

    -- a pivot row has none
    pub gap-pivot : (i : ℕ) → i < s.r → gap p s h i ≡ 0
    unfolding gap values
    gap-pivot i b = lacking-none p r (L i) (values p s h) (in_order R h i) pos (forward-solves prime r L ok.factors.L-above diagonal (in_order R h) i b)

    -- the setting as a vector
    abbrev z : Vector
    z = settle p m C U (values p s h) r (λ j. 0)

    z-right : Right prime ok.factors (values p s h) 0 z
    z-right =
        settle-right prime ok.factors (values p s h) r (omega arith) (λ j. 0)
        (record { done = λ l b g. absurd (omega arith); todo = λ l b. refl })

    z-gives : AllZero n (slot_gap p n s h) → GivesSlots p n m (matrix A) h z
    unfolding GivesSlots AllZero gap
    z-gives none t b =
        let (i, g, e) = onto n R ok.factors.rows t b in
        let q : gap p s h i ≡ 0 = ap (gap p s h) (sym (ap (position n R) (sym e) ∙ position-of n R ok.factors.rows i g)) ∙ none t b in
        rw (← e) (right-ends prime ok.factors (values p s h) z z-right i g ⊙ lacking-zero p r (L i) (values p s h) (h (R i)) pos q)

    z-answers : AllZero n (slot_gap p n s h) → SettingAnswer p n m r (matrix A) C h z
    z-answers none =
        record {
          residues = λ j b. settle-small p m C U (values p s h) r (λ j. 0) pos (λ j. pos) j;
          gives = z-gives none;
          others = λ l b g.
              settle-kept p m C U (values p s h) r (λ j. 0) (C l)
              (λ k d e. omega (arith, ok.factors.columns.apart k l (omega (arith, ok.factors.rank-columns)) g e));
        }

    pub setting-answers : AllZero n (slot_gap p n s h) → SettingAnswer p n m s.r (matrix A) (vector s.C) h (vector (setting_of p m s h))
    unfolding setting_of GivesSlots
    setting-answers none =
        let a = z-answers none in
        let at = tabulate-at m z in
        record {
          residues = λ j b. rw (at j b) (a.residues j b);
          gives = λ t b. exact (dot-eq m {u = matrix A t} (λ j g. refl) at) ⊙ a.gives t b;
          others = λ l b g. at (C l) (ok.factors.columns.below l g) ∙ a.others l b g;
        }
