-- Each question has an answer, and one only; its verdict says whether the question is open.
use mathlib.Core.Path.{◌≡◌, refl, sym, ap, ◌∙◌}
use mathlib.Core.Logic.{◌⊎◌, inl, inr}
use mathlib.Core.Bool.{Bool, true, false}
use mathlib.Core.List.{List, [], ◌∷◌}
use Prim.Native.Nat.{ℕ, zero, suc, ◌<◌}
use native.Mathlib.Decide.{dec_lt}
use native.Mathlib.Omega.{arith}
use lib.ListN.{length, get_or, replicate}
use lib.Seq.{ext_get_or}
use Rattle.algebra.specs.Prime.{Prime}
use Rattle.algebra.specs.Matrix.{Vector, Matrix, vector}
use Rattle.algebra.specs.RowSpace.{Combines, InRowSpace, InKernel}
use Rattle.algebra.specs.Factors.{Factors}
use Rattle.algebra.specs.Reduction.{reduced, AllZero, Lowest}
use Rattle.algebra.specs.Answer.{ClosedAnswer, Answer}
use Rattle.algebra.specs.Settings.{Determined, Undetermined}
use Rattle.algebra.proofs.Dot.{dot-eq}
use Rattle.algebra.proofs.Congruence.{◌⊙◌, exact}
use Rattle.algebra.proofs.Finite.{lowest}
use Rattle.algebra.proofs.Verdict.{open-answer, closed-answer, not-both}
use Rattle.algebra.proofs.Settings.{row-space-determined, kernel-undetermined}
use Rattle.algebra.proofs.Unique.{open-unique, closed-unique}

-- the list f 0, .., f (n - 1)
tab : ℕ → (ℕ → ℕ) → List ℕ
tab zero f = []
tab (suc n) f = f 0 ∷ tab n (λ i. f (suc i))

tab-length : (n : ℕ) (f : ℕ → ℕ) → length (tab n f) ≡ n
unfolding tab
tab-length zero f = refl
tab-length (suc n) f = ap suc (tab-length n (λ i. f (suc i)))

tab-at : (n : ℕ) (f : ℕ → ℕ) (i : ℕ) → i < n → get_or (tab n f) i 0 ≡ f i
unfolding tab
tab-at zero f i h = absurd (omega arith)
tab-at (suc n) f zero h = refl
tab-at (suc n) f (suc i) h = tab-at n (λ i. f (suc i)) i (omega arith)

lowest-unique : (m : ℕ) (w : Vector) (j j' : ℕ) → Lowest m w j → Lowest m w j' → j ≡ j'
lowest-unique m w j j' a b = go (dec_lt j j') (dec_lt j' j)
  where
    go : Dec (j < j') → Dec (j' < j) → j ≡ j'
    go (yes h) d = absurd (a.here (b.before j h))
    go (no h) (yes g) = absurd (b.here (a.before j' g))
    go (no h) (no g) = omega arith

module _ {p : ℕ} (prime : Prime p) {n m r : ℕ} {A : Matrix} {R C : ℕ → ℕ} {L U : Matrix} (f : Factors p n m r A R C L U) (y : List ℕ) where
  clash : AllZero m (reduced p C U r (vector y)) → (j : ℕ) → Lowest m (reduced p C U r (vector y)) j → ⊥
  unfolding AllZero
  clash zeros j low = low.here (zeros j low.within)

  pub answer-unique : (b b' : Bool) (x z x' z' : List ℕ) → Answer p n m r A R C U y b x z → Answer p n m r A R C U y b' x' z'
      → (b ≡ b') × (x ≡ x') × (z ≡ z')
  unfolding Answer
  answer-unique true true x z x' z' a a' = (
    refl,
    ext_get_or 0 x x' (a.length-x ∙ sym a'.length-x) (λ i h. open-unique prime f (vector y) (vector x) (vector x') a.x-is a'.x-is i (omega (arith, a.length-x))),
    a.z-is ∙ sym a'.z-is,
  )
  answer-unique true false x z x' z' a a' = absurd (clash a.remainder a'.column a'.remainder)
  answer-unique false true x z x' z' a a' = absurd (clash a'.remainder a.column a.remainder)
  answer-unique false false x z x' z' a a' = (refl, a.x-is ∙ sym a'.x-is, same)
    where
      column : a.column ≡ a'.column
      column = lowest-unique m (reduced p C U r (vector y)) a.column a'.column a.remainder a'.remainder

      other : ClosedAnswer p n m r A C a.column (vector z')
      other = rw column a'.z-is

      same : z ≡ z'
      same = ext_get_or 0 z z' (a.length-z ∙ sym a'.length-z) (λ i h. closed-unique prime f a.column (vector z) (vector z') a.z-is other i (omega (arith, a.length-z)))

  module _ (small : (j : ℕ) → j < m → vector y j < p) where
    pub answer : (b : Bool) × (x : List ℕ) × (z : List ℕ) × Answer p n m r A R C U y b x z
    unfolding Answer Combines InKernel
    answer = go (lowest m (reduced p C U r (vector y)))
      where
        go : AllZero m (reduced p C U r (vector y)) ⊎ ((j : ℕ) × Lowest m (reduced p C U r (vector y)) j)
            → (b : Bool) × (x : List ℕ) × (z : List ℕ) × Answer p n m r A R C U y b x z
        go (inl zeros) =
            let (x, a) = open-answer prime f (vector y) small zeros in (
              true,
              tab n x,
              replicate m 0,
              record {
                remainder = zeros;
                length-x = tab-length n x;
                x-is =
                    record {
                      residues = λ i h. rw (tab-at n x i h) (a.residues i h);
                      combines = λ j h. exact (dot-eq n {v = λ i. A i j} (tab-at n x) (λ i g. refl)) ⊙ a.combines j h;
                      others = λ i h g. tab-at n x (R i) (f.rows.below i g) ∙ a.others i h g;
                    };
                z-is = refl;
              },
            )
        go (inr (j, low)) =
            let (z, a, apart) = closed-answer prime f (vector y) small j low in (
              false,
              replicate n 0,
              tab m z,
              record {
                column = j;
                remainder = low;
                length-z = tab-length m z;
                z-is =
                    record {
                      residues = λ t h. rw (tab-at m z t h) (a.residues t h);
                      kernel = λ i h. exact (dot-eq m {u = A i} (λ t g. refl) (tab-at m z)) ⊙ a.kernel i h;
                      pivot = a.pivot;
                      one = tab-at m z j low.within ∙ a.one;
                      others = λ l h g e. tab-at m z (C l) (f.columns.below l g) ∙ a.others l h g e;
                    };
                x-is = refl;
              },
            )

    pub open-right : (x z : List ℕ) → Answer p n m r A R C U y true x z → InRowSpace p n m A (vector y)
    unfolding Answer InRowSpace
    open-right x z a = (vector x, a.x-is.combines)

    pub closed-right : (x z : List ℕ) → Answer p n m r A R C U y false x z → ¬ InRowSpace p n m A (vector y)
    unfolding Answer InRowSpace
    closed-right x z a o =
        let c = closed-answer prime f (vector y) small a.column a.remainder in
        c.2 (not-both n m A (vector y) o.0 c.0 o.1 c.1.kernel)

    pub open-tells : (x z : List ℕ) → Answer p n m r A R C U y true x z → Determined p n m A (vector y)
    open-tells x z a = row-space-determined p n m A (vector y) (open-right x z a)

    pub closed-tells : (x z : List ℕ) → Answer p n m r A R C U y false x z → Undetermined p n m A (vector y)
    unfolding Answer
    closed-tells x z a =
        let c = closed-answer prime f (vector y) small a.column a.remainder in
        kernel-undetermined prime n m A (vector y) c.0 c.1.kernel c.2
