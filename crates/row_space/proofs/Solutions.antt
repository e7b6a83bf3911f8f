-- What `solve` computes is the answer that document 01 describes.
use mathlib.Core.Path.{◌≡◌, refl, ap, ◌∙◌}
use mathlib.Core.Logic.{◌⊎◌, inl, inr}
use mathlib.Core.Bool.{Bool, cond}
use mathlib.Core.List.{List}
use Prim.Native.Nat.{ℕ, ◌≤◌, ◌<◌}
use native.Mathlib.Decide.{ℕ_discrete, dec_lt}
use native.Mathlib.Omega.{arith}
use lib.Dec.{eqb, leb}
use lib.ListN.{length}
use borrow.Author.Tests.{eqb-true, eqb-false, le-leb, lt-leb}
use Rattle.lists.specs.Filled.{zeros}
use Rattle.lists.specs.Tabulate.{tabulate}
use Rattle.lists.specs.Tests.{first}
use Rattle.lists.proofs.Filled.{length-zeros, zeros-replicate}
use Rattle.lists.proofs.Tabulate.{length-tabulate, tabulate-at}
use Rattle.lists.proofs.Tests.{first-before, first-here}
use Rattle.algebra.specs.Sum.{δ, place}
use Rattle.algebra.specs.Prime.{Prime}
use Rattle.algebra.specs.Matrix.{Vector, Matrix, Distinct, vector}
use Rattle.algebra.specs.RowSpace.{Combines}
use Rattle.algebra.specs.Reduction.{AllZero, Lowest}
use Rattle.algebra.specs.Answer.{OpenAnswer, ClosedAnswer, AnswerOpen, AnswerClosed, Answer}
use Rattle.algebra.proofs.Congruence.{exact, turn, ◌⊙◌}
use Rattle.algebra.proofs.Dot.{dot-eq, dot-left, dot-comm, dot-place, place_at, place-off}
use Rattle.algebra.proofs.Finite.{onto}
use Rattle.algebra.proofs.Reduction.{taken, reduced-split}
use Rattle.algebra.proofs.Verdict.{combination, closed-answer}
use Rattle.residue.specs.Inverse.{Invertible}
use Rattle.sparse.specs.Matrix.{Compressed, matrix}
use Rattle.sparse.specs.Set.{Set}
use Rattle.sparse.proofs.Rows.{form-below}
use Rattle.pluq.specs.Judge.{Passes}
use Rattle.row_space.specs.Substitution.{back_l, back_u, through_l, through_u}
use Rattle.row_space.specs.Solve.{remainder, multiples_of, lowest_of, is_open, Solved, opened, closed, solve}
use Rattle.row_space.specs.declared.Verdict.{Verdict}
use Rattle.row_space.specs.declared.Verdict.TheVariants.{Open, Closed}
use Rattle.row_space.proofs.Substitutions.{back_l-small, back_l-solves}
use Rattle.row_space.proofs.ClosedAnswers.{unit-kernel, closed-cells}

-- the two cases of `solve`
abbrev open_x : (p n : ℕ) → Set → Vector → List ℕ
open_x p n s y = through_l p n s.r (vector s.R) (matrix s.L) (multiples_of p s y)

abbrev closed_z : (p m : ℕ) → Set → Vector → List ℕ
closed_z p m s y = through_u p m s.r (vector s.C) (matrix s.U) (δ (lowest_of m (remainder p s y)))

-- a vector is all zero below m, or has a lowest place at which it is not 0
pub lowest-cases : (m : ℕ) (w : Vector) → ((m ≤ lowest_of m w) × AllZero m w) ⊎ ((lowest_of m w < m) × Lowest m w (lowest_of m w))
unfolding AllZero lowest_of
lowest-cases m w = go (dec_lt j m)
  where
    j : ℕ
    j = first m (λ j. eqb (w j) 0)

    before : (i : ℕ) → i < j → w i ≡ 0
    before i h = eqb-true (w i) 0 (first-before m (λ j. eqb (w j) 0) i h)

    go : Dec (j < m) → ((m ≤ j) × AllZero m w) ⊎ ((j < m) × Lowest m w j)
    go (yes h) = inr (h, record { within = h; here = eqb-false (w j) 0 (first-here m (λ j. eqb (w j) 0) h); before = before })
    go (no h) = inl (omega arith, λ i b. before i (omega arith))

pub solve-cases : (p n m : ℕ) (s : Set) (y : Vector)
    → (AllZero m (remainder p s y) × (solve p n m s y ≡ opened m (open_x p n s y)))
    ⊎ (Lowest m (remainder p s y) (lowest_of m (remainder p s y)) × (solve p n m s y ≡ closed n (closed_z p m s y)))
unfolding solve
solve-cases p n m s y = go (lowest-cases m (remainder p s y))
  where
    j : ℕ
    j = lowest_of m (remainder p s y)

    pick : Bool → Solved
    pick b = cond b (opened m (open_x p n s y)) (closed n (closed_z p m s y))

    go : ((m ≤ j) × AllZero m (remainder p s y)) ⊎ ((j < m) × Lowest m (remainder p s y) j)
        → (AllZero m (remainder p s y) × (pick (leb m j) ≡ opened m (open_x p n s y))) ⊎ (Lowest m (remainder p s y) j × (pick (leb m j) ≡ closed n (closed_z p m s y)))
    go (inl (h, none)) = inl (none, ap pick (le-leb m j h))
    go (inr (h, low)) = inr (low, ap pick (lt-leb m j h))

-- x and z have their lengths in both
pub solve-lengths : (p n m : ℕ) (s : Set) (y : Vector) → (length (solve p n m s y).x ≡ n) × (length (solve p n m s y).z ≡ m)
solve-lengths p n m s y =
    elim (solve-cases p n m s y) [
      | inl c ↦ (ap (λ (a : Solved). length a.x) c.1 ∙ length-tabulate n _, ap (λ (a : Solved). length a.z) c.1 ∙ length-zeros m)
      | inr c ↦ (ap (λ (a : Solved). length a.x) c.1 ∙ length-zeros n, ap (λ (a : Solved). length a.z) c.1 ∙ length-tabulate m _)
    ]

-- L's diagonal can be divided by, and no two pivot rows are equal
module _ {p : ℕ} (prime : Prime p) {n m : ℕ} {A : Compressed} {s : Set} (ok : Passes p n m A s) where
  pub passed-diagonal : (k : ℕ) → k < s.r → Invertible p (matrix s.L k k)
  passed-diagonal k h =
      record {
        prime = prime;
        nonzero = elim (ℕ_discrete (matrix s.L k k) 0) [ yes e ↦ absurd (ok.factors.L-diagonal k h (exact e)) | no e ↦ omega arith ];
        below = form-below p s.r s.L.starts s.L.cols s.L.vals ok.L-form k k (omega (arith, prime.two));
      }

  pub passed-rows : Distinct s.r n (vector s.R)
  passed-rows =
      record {
        below = λ a h. ok.factors.rows.below a (omega (arith, ok.factors.rank-rows));
        apart = λ a b h g e. ok.factors.rows.apart a b (omega (arith, ok.factors.rank-rows)) (omega (arith, ok.factors.rank-rows)) e;
      }

module _ {p : ℕ} (prime : Prime p) {n m : ℕ} {A : Compressed} {s : Set} (ok : Passes p n m A s) (y : List ℕ) (small : (j : ℕ) → j < m → vector y j < p) where
  pos : 0 < p
  pos = omega (arith, prime.two)

  abbrev r : ℕ
  r = s.r

  abbrev R : Vector
  R = vector s.R

  abbrev C : Vector
  C = vector s.C

  abbrev L : Matrix
  L = matrix s.L

  abbrev U : Matrix
  U = matrix s.U

  abbrev v : Vector
  v = back_l p L r (multiples_of p s (vector y))

  inside : (k : ℕ) → k < r → C k < m
  inside k h = ok.factors.columns.below k (omega (arith, ok.factors.rank-columns))

  diagonal : (k : ℕ) → k < r → Invertible p (L k k)
  diagonal = passed-diagonal prime ok

  pivot-rows : Distinct r n R
  pivot-rows = passed-rows prime ok

  off : (i : ℕ) → r ≤ i → i < n → place r R v (R i) ≡ 0
  off i h g = place-off r R v (R i) (λ k b e. omega (arith, ok.factors.rows.apart k i (omega arith) g e))

  x-small : (t : ℕ) → t < n → place r R v t < p
  x-small t h =
      let o = onto n R ok.factors.rows t h in
      let q : R o.0 ≡ t = o.2 in
      rw (← q) (go o.0 o.1 (dec_lt o.0 r))
    where
      go : (i : ℕ) → i < n → Dec (i < r) → place r R v (R i) < p
      go i g (yes b) = rw (place_at r n R v pivot-rows i b) (back_l-small p L r (multiples_of p s (vector y)) i pos)
      go i g (no b) = rw (off i (omega arith) g) pos

  -- ---- as vectors

  x-answers : AllZero m (remainder p s (vector y)) → OpenAnswer p n m r (matrix A) R (vector y) (place r R v)
  unfolding Combines AllZero taken
  x-answers none =
      record {
        residues = x-small;
        combines = λ j h.
            exact (dot-place r n R v (λ i. matrix A i j) (λ i g. ok.factors.rows.below i (omega (arith, ok.factors.rank-rows))))
            ⊙ combination prime ok.factors v j h
            ⊙ dot-left r (λ k. U k j) (λ k g. exact (dot-comm r v (λ i. L i k)) ⊙ back_l-solves prime r L ok.factors.L-above diagonal r (omega arith) (multiples_of p s (vector y)) k g)
            ⊙ exact (omega (arith, none j h))
            ⊙ turn (reduced-split p pos m r C U inside (vector y) small r (omega arith) j);
        others = off;
      }

  z-answers : (j : ℕ) → Lowest m (remainder p s (vector y)) j → ClosedAnswer p n m r (matrix A) C j (back_u p m C U r (δ j))
  z-answers j low = unit-kernel prime ok.factors j (closed-answer prime ok.factors (vector y) small j low).1.pivot

  -- ---- as lists

  open-list : AllZero m (remainder p s (vector y)) → AnswerOpen p n m r (matrix A) R C U y (tabulate n (place r R v)) (zeros m)
  unfolding Combines
  open-list none =
      let a = x-answers none in
      let at = tabulate-at n (place r R v) in
      record {
        remainder = none;
        length-x = length-tabulate n (place r R v);
        x-is =
            record {
              residues = λ i h. rw (at i h) (a.residues i h);
              combines = λ j h. exact (dot-eq n {v = λ i. matrix A i j} at (λ i g. refl)) ⊙ a.combines j h;
              others = λ i h g. at (R i) (ok.factors.rows.below i g) ∙ a.others i h g;
            };
        z-is = zeros-replicate m;
      }

  closed-list : (j : ℕ) → Lowest m (remainder p s (vector y)) j → AnswerClosed p n m r (matrix A) R C U y (zeros n) (tabulate m (back_u p m C U r (δ j)))
  closed-list j low =
      record {
        column = j;
        remainder = low;
        length-z = length-tabulate m (back_u p m C U r (δ j));
        z-is = closed-cells ok.factors.columns low.within (tabulate-at m (back_u p m C U r (δ j))) (z-answers j low);
        x-is = zeros-replicate n;
      }

  abbrev Cases : Type 0
  Cases =
      (AllZero m (remainder p s (vector y)) × (solve p n m s (vector y) ≡ opened m (open_x p n s (vector y))))
      ⊎ (Lowest m (remainder p s (vector y)) (lowest_of m (remainder p s (vector y))) × (solve p n m s (vector y) ≡ closed n (closed_z p m s (vector y))))

  pub solve-open : (solve p n m s (vector y)).verdict ≡ Open
      → AnswerOpen p n m s.r (matrix A) (vector s.R) (vector s.C) (matrix s.U) y (solve p n m s (vector y)).x (solve p n m s (vector y)).z
  solve-open e = go (solve-cases p n m s (vector y))
    where
      go : Cases → AnswerOpen p n m r (matrix A) R C U y (solve p n m s (vector y)).x (solve p n m s (vector y)).z
      go (inl (none, q)) = rw q (open-list none)
      go (inr (low, q)) = absurd (let z : ◌≡◌ {A = ℕ} 0 1 = cc in omega arith)

  pub solve-closed : (solve p n m s (vector y)).verdict ≡ Closed
      → (a : AnswerClosed p n m s.r (matrix A) (vector s.R) (vector s.C) (matrix s.U) y (solve p n m s (vector y)).x (solve p n m s (vector y)).z)
      × (a.column ≡ lowest_of m (remainder p s (vector y)))
  unfolding closed-list
  solve-closed e = go (solve-cases p n m s (vector y))
    where
      go : Cases → (a : AnswerClosed p n m r (matrix A) R C U y (solve p n m s (vector y)).x (solve p n m s (vector y)).z) × (a.column ≡ lowest_of m (remainder p s (vector y)))
      go (inl (none, q)) = absurd (let z : ◌≡◌ {A = ℕ} 0 1 = cc in omega arith)
      go (inr (low, q)) = rw q (closed-list (lowest_of m (remainder p s (vector y))) low, refl)

  -- document 01's answer, in both cases
  pub solve-answers : let a = solve p n m s (vector y) in Answer p n m s.r (matrix A) (vector s.R) (vector s.C) (matrix s.U) y (is_open a.verdict) a.x a.z
  unfolding Answer
  solve-answers = go (solve p n m s (vector y)).verdict refl
    where
      go : (v : Verdict) → (solve p n m s (vector y)).verdict ≡ v → Answer p n m r (matrix A) R C U y (is_open v) (solve p n m s (vector y)).x (solve p n m s (vector y)).z
      go Open e = solve-open e
      go Closed e = (solve-closed e).0
