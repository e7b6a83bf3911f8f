-- A set of factors answers each question, and its verdict is right.
use mathlib.Core.Path.{◌≡◌, sym, ap, ◌∙◌}
use mathlib.Core.Logic.{◌≢◌, ◌⊎◌, inl, inr, ◌↔◌}
use Prim.Native.Nat.{ℕ, ◌+◌, ◌-◌, ◌*◌, ◌%◌, ◌≤◌, ◌<◌}
use native.Mathlib.Nat.{mod-lt, mod-eq_of_lt}
use native.Mathlib.Omega.{arith}
use Rattle.algebra.specs.Congruence.{◌≈⟨◌⟩◌}
use Rattle.algebra.specs.Sum.{dot, δ, place}
use Rattle.algebra.specs.Prime.{Prime}
use Rattle.algebra.specs.Matrix.{Vector, Matrix}
use Rattle.algebra.specs.RowSpace.{Combines, InRowSpace, InKernel}
use Rattle.algebra.specs.Factors.{Factors}
use Rattle.algebra.specs.Reduction.{reduced, AllZero, Lowest}
use Rattle.algebra.specs.Answer.{OpenAnswer, ClosedAnswer}
use Rattle.algebra.proofs.Congruence.{exact, turn, ◌⊙◌, ◌⊕◌, same_refl, same-mod, minus, equal-residues}
use Rattle.algebra.proofs.Inverse.{one_not_zero}
use Rattle.algebra.proofs.Dot.{dot-left, dot-right, dot-none, dot-comm, dot-add, dot-assoc, dot-δ, dot-place, place-off, δ-same, δ-other}
use Rattle.algebra.proofs.Triangular.{Triangular, Solution, solve}
use Rattle.algebra.proofs.Finite.{onto, lowest}
use Rattle.algebra.proofs.Reduction.{taken, reduced-small, reduced-split, reduced-pivot}

-- x with x A = y leaves no z with A z = 0 and y z not 0
pub not-both : {p : ℕ} (n m : ℕ) (A : Matrix) (y x z : Vector) → Combines p n m A y x → InKernel p n m A z → dot m y z ≈⟨ p ⟩ 0
unfolding Combines InKernel
not-both n m A y x z g u =
    turn (dot-left m z g)
    ⊙ exact (dot-assoc n m x A z)
    ⊙ dot-right n x {v' = λ i. 0} u
    ⊙ exact (dot-none n x)

module _ {p : ℕ} (prime : Prime p) {n m r : ℕ} {A : Matrix} {R C : ℕ → ℕ} {L U : Matrix} (f : Factors p n m r A R C L U) where
  -- the two triangles
  pub L-triangular : Triangular p r (λ k i. L i k)
  L-triangular = record { left = λ k l h g. f.L-above l k h g; diagonal = f.L-diagonal }

  pub U-triangular : Triangular p r (λ k l. U k (C l))
  U-triangular = record { left = f.U-left; diagonal = λ k h e. one_not_zero prime (rw (f.U-unit k h) at e) }

  -- a combination of the pivot rows, as a combination of the rows of U
  pub combination : (v : Vector) (j : ℕ) → j < m → dot r v (λ i. A (R i) j) ≈⟨ p ⟩ dot r (λ k. dot r v (λ i. L i k)) (λ k. U k j)
  combination v j h =
      dot-right r v (λ i g. f.product i j (omega (arith, f.rank-rows)) h)
      ⊙ exact (sym (dot-assoc r r v L (λ k. U k j)))

  -- a row of A times z, by the rows of U times z
  pub row-times : (z : Vector) (i : ℕ) → i < n → dot m (A (R i)) z ≈⟨ p ⟩ dot r (L i) (λ k. dot m (U k) z)
  row-times z i h =
      dot-left m z (λ j g. f.product i j h g)
      ⊙ exact (dot-assoc r m (L i) U z)

  -- what U does not tell apart, A does not
  pub kernel-from-U : (z : Vector) → ((k : ℕ) → k < r → dot m (U k) z ≈⟨ p ⟩ 0) → InKernel p n m A z
  unfolding InKernel
  kernel-from-U z h t g =
      let s = onto n R f.rows t g in
      let e : R s.0 ≡ t = s.2 in
      rw (← e) (row-times z s.0 s.1
      ⊙ dot-right r (L s.0) {v' = λ i. 0} h
      ⊙ exact (dot-none r (L s.0)))

  -- ---- a question: m residues

  module _ (y : Vector) (small : (j : ℕ) → j < m → y j < p) where
    pos : 0 < p
    pos = omega (arith, prime.two)

    inside : (k : ℕ) → k < r → C k < m
    inside k h = f.columns.below k (omega (arith, f.rank-columns))

    c : Vector
    c = taken p pos m r C U inside y small

    w : Vector
    w = reduced p C U r y

    split : (j : ℕ) → y j ≈⟨ p ⟩ w j + dot r c (λ l. U l j)
    unfolding c w
    split = reduced-split p pos m r C U inside y small r (omega arith)

    pub open-answer : AllZero m (reduced p C U r y) → (x : Vector) × OpenAnswer p n m r A R y x
    unfolding Combines AllZero w
    open-answer zeros = (
      λ t. place r R v t % p,
      record {
        residues = λ i h. mod-lt (place r R v i) pos;
        combines = λ j h.
            dot-left n (λ i. A i j) (λ i g. same-mod (place r R v i))
            ⊙ exact (dot-place r n R v (λ i. A i j) (λ i g. f.rows.below i (omega (arith, f.rank-rows))))
            ⊙ combination v j h
            ⊙ dot-left r (λ k. U k j) (λ k g. exact (dot-comm r v (λ i. L i k)) ⊙ s.solves k g)
            ⊙ exact (omega (arith, zeros j h))
            ⊙ turn (split j);
        others = λ i h g. ap (λ (z : ℕ). z % p) (place-off r R v (R i) (λ k b e. off k i b h g e)) ∙ mod-eq_of_lt pos;
      },
    )
      where
        s : Solution p r (λ k i. L i k) c
        s = solve prime (λ k i. L i k) r L-triangular c

        v : Vector
        v = s.v

        off : (k i : ℕ) → k < r → r ≤ i → i < n → R k ≢ R i
        off k i b h g e = omega (arith, f.rows.apart k i (omega arith) g e)

    pub closed-answer : (j : ℕ) → Lowest m (reduced p C U r y) j → (z : Vector) × ClosedAnswer p n m r A C j z × (¬ (dot m y z ≈⟨ p ⟩ 0))
    unfolding w
    closed-answer j low = (
      z,
      record {
        residues = λ t h. mod-lt (z₀ t) pos;
        kernel = kernel-from-U z U-times;
        pivot = apart;
        one = ap (λ (t : ℕ). t % p) (omega (arith, δ-same j, place-off r C v j apart)) ∙ mod-eq_of_lt prime.two;
        others = λ l h g e. ap (λ (t : ℕ). t % p) (omega (arith, δ-other j (C l) (λ d. e (sym d)), place-off r C v (C l) (λ k b d. off k l b h g d))) ∙ mod-eq_of_lt pos;
      },
      λ e. low.here (equal-residues (reduced-small p pos m r C U inside y small r j low.within) pos (turn y-times ⊙ e)),
    )
      where
        s : Solution p r (λ k l. U k (C l)) (λ k. (p - 1) * U k j)
        s = solve prime (λ k l. U k (C l)) r U-triangular (λ k. (p - 1) * U k j)

        v : Vector
        v = s.v

        z₀ : Vector
        z₀ t = δ j t + place r C v t

        z : Vector
        z t = z₀ t % p

        at-pivot : (l : ℕ) → l < r → w (C l) ≡ 0
        at-pivot = reduced-pivot p pos m r C U inside y small f.U-left f.U-unit

        apart : (l : ℕ) → l < r → C l ≢ j
        apart l h e = low.here (rw e at (at-pivot l h))

        off : (k l : ℕ) → k < r → r ≤ l → l < m → C k ≢ C l
        off k l b h g e = omega (arith, f.columns.apart k l (omega arith) g e)

        times : (g : Vector) → dot m g z ≈⟨ p ⟩ g j + dot r v (λ l. g (C l))
        times g =
            dot-right m g (λ t b. same-mod (z₀ t))
            ⊙ exact (dot-comm m g z₀ ∙ dot-add m (δ j) (place r C v) g ∙ omega (arith, dot-δ m j g low.within, dot-place r m C v g inside))

        U-times : (k : ℕ) → k < r → dot m (U k) z ≈⟨ p ⟩ 0
        U-times k h =
            times (U k)
            ⊙ exact (omega (arith, dot-comm r v (λ l. U k (C l)))) ⊙ same_refl 0 ⊕ s.solves k h ⊕ same_refl (U k j)
            ⊙ minus 0 (U k j) pos

        y-times : dot m y z ≈⟨ p ⟩ w j
        y-times =
            dot-left m z (λ t b. split t)
            ⊙ exact (dot-add m w (λ t. dot r c (λ l. U l t)) z)
            ⊙ times w ⊕ (exact (dot-assoc r m c U z) ⊙ dot-right r c {v' = λ k. 0} U-times)
            ⊙ same_refl (w j) ⊕ dot-right r v {v' = λ k. 0} (λ l h. exact (at-pivot l h)) ⊕ same_refl (dot r c (λ k. 0))
            ⊙ exact (omega (arith, dot-none r v, dot-none r c))

    -- open exactly if the remainder is all zero
    pub verdict : AllZero m (reduced p C U r y) ↔ InRowSpace p n m A y
    unfolding InRowSpace
    verdict = (λ zeros. let a = open-answer zeros in (a.0, a.1.combines), λ o. go o (lowest m (reduced p C U r y)))
      where
        go : InRowSpace p n m A y → AllZero m (reduced p C U r y) ⊎ ((j : ℕ) × Lowest m (reduced p C U r y) j) → AllZero m (reduced p C U r y)
        go o (inl zeros) = zeros
        go o (inr low) = let a = closed-answer low.0 low.1 in absurd (a.2 (not-both n m A y o.0 a.0 o.1 a.1.kernel))

-- two sets of factors of one plan give the same verdict
pub same-verdict : {p : ℕ} → Prime p → {n m : ℕ} {A : Matrix} {r : ℕ} {R C : ℕ → ℕ} {L U : Matrix} {r' : ℕ} {R' C' : ℕ → ℕ} {L' U' : Matrix}
    → Factors p n m r A R C L U → Factors p n m r' A R' C' L' U' → (y : Vector) → ((j : ℕ) → j < m → y j < p)
    → AllZero m (reduced p C U r y) → AllZero m (reduced p C' U' r' y)
same-verdict prime f g y small h = (verdict prime g y small).1 ((verdict prime f y small).0 h)
