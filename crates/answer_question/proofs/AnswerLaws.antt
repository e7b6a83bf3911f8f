-- What the answer's parts come to: `solve` in its two cases, and a set that passed is ready to answer.
use mathlib.Core.Path.{◌≡◌, sym, ap, ◌∙◌}
use mathlib.Core.Bool.{Bool, cond}
use mathlib.Core.List.{List, ◌++◌}
use Prim.Native.Nat.{ℕ, ◌*◌, ◌%◌, ◌≤◌, ◌<◌}
use native.Mathlib.Decide.{ℕ_discrete}
use native.Mathlib.Omega.{arith}
use lib.ListN.{length, get_or, set, take, drop, length-set, take-append-drop}
use lib.Seq.{ext_get_or, length-take-le, take_all, get_or-take, get_or-set_same, get_or-set_other}
use borrow.Author.Tests.{le-leb, lt-leb}
use Rattle.lists.specs.Filled.{zeros}
use Rattle.lists.specs.Tabulate.{tabulate}
use Rattle.lists.proofs.Filled.{zeros-at, length-zeros}
use Rattle.lists.proofs.Tabulate.{tabulate-ext}
use Rattle.algebra.specs.Sum.{δ, place}
use Rattle.algebra.specs.Matrix.{Vector, Matrix, vector}
use Rattle.algebra.specs.Reduction.{reduced}
use Rattle.algebra.proofs.Dot.{δ-same, δ-other}
use Rattle.sparse.specs.Row.{Below}
use Rattle.sparse.specs.Matrix.{Compressed, matrix}
use Rattle.sparse.specs.Set.{Set}
use Rattle.sparse.proofs.Subtraction.{below_set}
use Rattle.row_space.specs.Substitution.{back_u, through_l, through_u}
use Rattle.row_space.specs.Solving.{residues}
use Rattle.row_space.specs.Solve.{remainder, multiples_of, lowest_of, opened, closed, solve}
use Rattle.row_space.specs.Needs.{UpperReady}
use Rattle.row_space.proofs.LowerLoop.{back_l-ext}
use Rattle.row_space.proofs.UpperLoop.{back_u-ext}
use Rattle.answer_question.specs.Needs.{QuestionReady, OpenReady, ClosedReady}
use Rattle.answer_question.specs.Reducing.{Reduced, QuestionReduced}
use Rattle.answer_question.proofs.ReduceLoop.{residue-cell, lowest-remains}

-- ---- x and z depend on the cells that are read only

pub x-ext : (n r : ℕ) (R : Vector) (p : ℕ) (L : Matrix) (d d' : Vector) → ((l : ℕ) → l < r → d l ≡ d' l)
    → through_l p n r R L d ≡ through_l p n r R L d'
x-ext n r R p L d d' h = λ j. tabulate n (place r R (λ i. back_l-ext p L r d d' h i j))

pub residues-take : (p n : ℕ) (l : List ℕ) (i : ℕ) → i < n → residues p (take n l) i ≡ residues p l i
residues-take p n l i h = ap (λ (x : ℕ). x % p) (get_or-take n l i 0 h)

-- a list that is 1 at j and 0 elsewhere
pub unit-cell : (m j t : ℕ) → j < m → get_or (set (zeros m) j 1) t 0 ≡ δ j t
unit-cell m j t h = elim (ℕ_discrete j t) [
  | yes e ↦ rw (← e) (get_or-set_same (zeros m) j 1 0 (omega (arith, length-zeros m)) ∙ sym (δ-same j))
  | no e ↦ get_or-set_other (zeros m) j t 1 0 (λ q. e (sym q)) ∙ zeros-at m t ∙ sym (δ-other j t e)
]

pub z-unit : (p m : ℕ) (C : Vector) (U : Matrix) (r j : ℕ) → j < m
    → through_u p m r C U (vector (set (zeros m) j 1)) ≡ through_u p m r C U (δ j)
z-unit p m C U r j h =
    tabulate-ext m (back_u p m C U r (vector (set (zeros m) j 1))) (back_u p m C U r (δ j))
    (back_u-ext p m C U r (vector (set (zeros m) j 1)) (δ j) (λ t b. unit-cell m j t h))

-- ---- the two cases of `solve`

module _ (p n m : ℕ) (s : Set) (y : Vector) (j : ℕ) (e : j ≡ lowest_of m (remainder p s y)) where
  abbrev x-open : List ℕ
  x-open = through_l p n s.r (vector s.R) (matrix s.L) (multiples_of p s y)

  abbrev z-closed : ℕ → List ℕ
  z-closed i = through_u p m s.r (vector s.C) (matrix s.U) (δ i)

  pub solve-is-open : m ≤ j → solve p n m s y ≡ opened m x-open
  unfolding solve
  solve-is-open h =
      ap (λ (b : Bool). cond b (opened m x-open) (closed n (z-closed (lowest_of m (remainder p s y)))))
      (le-leb m (lowest_of m (remainder p s y)) (omega (arith, e)))

  pub solve-is-closed : j < m → solve p n m s y ≡ closed n (z-closed j)
  unfolding solve
  solve-is-closed h =
      ap (λ (b : Bool). cond b (opened m x-open) (closed n (z-closed (lowest_of m (remainder p s y)))))
      (lt-leb m (lowest_of m (remainder p s y)) (omega (arith, e)))
      ∙ ap (λ (i : ℕ). closed n (z-closed i)) (sym e)

-- ---- cleared lists

pub cleared : (l : List ℕ) (n : ℕ) → l ≡ zeros n → l ≡ zeros (length l)
cleared l n e = e ∙ ap zeros (sym (ap length e ∙ length-zeros n))

pub zeros-take : (m : ℕ) (w : List ℕ) → m ≤ length w → w ≡ zeros (length w) → take m w ≡ zeros m
zeros-take m w h e =
    ext_get_or 0 (take m w) (zeros m) (length-take-le m w h ∙ sym (length-zeros m))
    (λ i b. let c : i < m = omega (arith, length-take-le m w h) in
    get_or-take m w i 0 c ∙ ap (λ (l : List ℕ). get_or l i 0) e ∙ zeros-at (length w) i ∙ sym (zeros-at m i))

-- a working row whose lent part is all zero again is what it was
pub restored : (m : ℕ) (w part : List ℕ) → m ≤ length w → w ≡ zeros (length w) → length part ≡ m → part ≡ zeros (length part) → part ++ drop m w ≡ w
restored m w part h e long z =
    ap (λ (l : List ℕ). l ++ drop m w) (z ∙ ap zeros long ∙ sym (zeros-take m w h e)) ∙ take-append-drop m w

-- ---- the reduction of a question

module _ (p r : ℕ) (U : Compressed) (C y a w₀ w₁ : List ℕ) (d : QuestionReady p r U C y a w₀) (loaded : w₁ ≡ take (length w₀) y) where
  is-question : w₁ ≡ y
  is-question = loaded ∙ take_all (length w₀) y (omega (arith, d.long))

  wide : length w₁ ≡ length w₀
  wide = ap length is-question ∙ d.long

  pub question-done : (w₂ w₃ a₂ : List ℕ) (j : ℕ) → Reduced p (vector C) (matrix U) r (vector w₁) a₂ w₂ → j ≡ lowest_of (length w₂) (residues p w₂) → w₃ ≡ zeros (length w₂)
      → QuestionReduced p (vector C) (matrix U) r (vector y) a₂ w₃ j
  question-done w₂ w₃ a₂ j t e z =
      let long : length w₃ ≡ length w₂ = ap length z ∙ length-zeros (length w₂) in
      record {
        lowest =
            e ∙ lowest-remains p (vector C) (matrix U) r (vector w₁) w₂ t.remains
            ∙ (λ i. lowest_of (sym long i) (reduced p (vector C) (matrix U) r (vector (is-question i))));
        multiples = λ i h. t.multiples i h ∙ ap (λ (l : List ℕ). reduced p (vector C) (matrix U) i (vector l) (vector C i)) is-question;
        row = cleared w₃ (length w₂) z;
      }

-- ---- open

module _ (p : ℕ) (L : Compressed) (R x₀ z₀ w₀ w₁ x₁ : List ℕ) (d : OpenReady p L R x₀ z₀ w₀) (loaded : w₁ ≡ take (length w₀) z₀) (clear : x₁ ≡ zeros (length x₀)) where
  long-w : length w₁ ≡ length w₀
  long-w = ap length loaded ∙ length-take-le (length w₀) z₀ d.rank-columns

  long-x : length x₁ ≡ length x₀
  long-x = ap length clear ∙ length-zeros (length x₀)

  cells : Below (p * p) w₁
  cells i h =
      residue-cell p (get_or w₁ i 0)
      (rw (ap (λ (l : List ℕ). get_or l i 0) loaded ∙ get_or-take (length w₀) z₀ i 0 (omega (arith, long-w))) (d.small i (omega (arith, long-w))))

  pub open_done : (x₂ : List ℕ) → x₂ ≡ through_l p (length x₁) (length w₁) (vector R) (matrix L) (residues p w₁)
      → x₂ ≡ through_l p (length x₀) (length w₀) (vector R) (matrix L) (residues p z₀)
  open_done x₂ e =
      e
      ∙ (λ i. through_l p (long-x i) (long-w i) (vector R) (matrix L) (residues p (loaded i)))
      ∙ x-ext (length x₀) (length w₀) (vector R) p (matrix L) (residues p (take (length w₀) z₀)) (residues p z₀) (residues-take p (length w₀) z₀)

-- ---- closed

module _ (p r j : ℕ) (U : Compressed) (C z₀ z₁ : List ℕ) (d : ClosedReady p r j U C z₀) (clear : z₁ ≡ zeros (length z₀)) where
  long-z : length (set z₁ j 1) ≡ length z₀
  long-z = length-set z₁ j 1 ∙ ap length clear ∙ length-zeros (length z₀)

  pub closed-ready : UpperReady p r U C (set z₁ j 1)
  closed-ready =
      record {
        positive = omega (arith, d.prime.two);
        formed = rw long-z d.formed;
        rows = d.rows;
        order = d.order;
        places = rw long-z d.places;
        small = below_set p z₁ j 1 (λ i h. omega (arith, d.prime.two, ap (λ (l : List ℕ). get_or l i 0) clear ∙ zeros-at (length z₀) i)) d.prime.two;
      }

  pub closed-done : (z₂ : List ℕ) → z₂ ≡ through_u p (length (set z₁ j 1)) r (vector C) (matrix U) (vector (set z₁ j 1))
      → z₂ ≡ through_u p (length z₀) r (vector C) (matrix U) (δ j)
  closed-done z₂ e =
      e
      ∙ (λ i. through_u p (long-z i) r (vector C) (matrix U) (vector (set (clear i) j 1)))
      ∙ z-unit p (length z₀) (vector C) (matrix U) r j d.inside
