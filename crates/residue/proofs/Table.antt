-- The table's rule, by computing over the whole table, and the test by it.
--   table-primes     the table is the list of the numbers below 256 that `is_prime` accepts
--   entry-large      each entry is at least 2
--   entry-small      and below 256; `square-fits`: so that its square has 32 bits
--   rises            each entry is above those before it
--   complete         each prime below 256 is an entry
--   failing-composite   a number that does not pass the table is no prime
use Prim.Native.Nat.{ℕ, zero, suc, ◌*◌, ◌%◌, ◌^◌, ◌≤◌, ◌<◌}
use mathlib.Core.Path.{◌≡◌, refl, sym, ap, ◌∙◌}
use mathlib.Core.Logic.{◌⊎◌, inl, inr, ⊎_elim}
use mathlib.Core.Bool.{Bool, true, false, not, ◌&&◌, ◌||◌, false≢true, true≢false}
use mathlib.Core.List.{List, [], ◌∷◌}
use native.Mathlib.Nat.{eq-or-lt_of_le, le_of_suc-le-suc, lt_of_not-le, mul-le-mul}
use native.Mathlib.Decide.{dec_le}
use native.Mathlib.Omega.{arith}
use borrow.Author.Tests.{leb-true, ltb-true, eqb-true, le-leb, lt-leb, eq-eqb}
use lib.Dec.{leb, ltb, eqb}
use Rattle.algebra.specs.Prime.{Prime}
use Rattle.lists.specs.Tests.{all}
use Rattle.lists.proofs.Tests.{all-at, all_pass, all-fail}
use Rattle.lists.proofs.Bools.{and_both, and_left, and_right, or_cases}
use Rattle.residue.specs.Primality.{is_prime, divided_below, small_primes, small_prime, primes_below, passes_table}
use Rattle.residue.proofs.Primes.{prime-true, divided-false}

-- ---- the rule

pub table-primes : small_primes ≡ primes_below 256
unfolding small_primes primes_below is_prime divided_below
table-primes = refl

all_large : all 54 (λ i. leb 2 (small_prime i)) ≡ true
unfolding all small_primes small_prime
all_large = refl

pub entry-large : (i : ℕ) → i < 54 → 2 ≤ small_prime i
entry-large i h = leb-true 2 (small_prime i) (all-at 54 (λ i. leb 2 (small_prime i)) all_large i h)

all_small : all 54 (λ i. ltb (small_prime i) 256) ≡ true
unfolding all small_primes small_prime
all_small = refl

pub entry-small : (i : ℕ) → i < 54 → small_prime i < 256
entry-small i h = ltb-true (small_prime i) 256 (all-at 54 (λ i. ltb (small_prime i) 256) all_small i h)

pub square-fits : (i : ℕ) → i < 54 → small_prime i * small_prime i < 2 ^ 32
square-fits i h =
    let small = entry-small i h in
    let square : small_prime i * small_prime i ≤ 255 * 255 = mul-le-mul {n₁ = small_prime i} {m₁ = small_prime i} {n₂ = 255} {m₂ = 255} (omega arith) (omega arith) in
    omega arith

all-rise : all 53 (λ i. ltb (small_prime i) (small_prime (suc i))) ≡ true
unfolding all small_primes small_prime
all-rise = refl

pub rises : (i j : ℕ) → i < j → j < 54 → small_prime i < small_prime j
rises i zero h g = absurd (omega arith)
rises i (suc j) h g =
    let step : small_prime j < small_prime (suc j) = ltb-true _ _ (all-at 53 (λ i. ltb (small_prime i) (small_prime (suc i))) all-rise j (omega arith)) in
    ⊎_elim (λ (e : i ≡ j). rw e step) (λ l. omega (arith, step, rises i j l (omega arith))) (eq-or-lt_of_le (le_of_suc-le-suc h))

index_of : ℕ → List ℕ → ℕ
index_of q [] = 0
index_of q (x ∷ xs) = elim (eqb q x) [ true ↦ 0 | false ↦ suc (index_of q xs) ]

listed : ℕ → Bool
listed q = not (is_prime q) || (ltb (index_of q small_primes) 54 && eqb (small_prime (index_of q small_primes)) q)

all_listed : all 256 listed ≡ true
unfolding all listed is_prime divided_below small_primes small_prime index_of
all_listed = refl

pub complete : (q : ℕ) → q < 256 → Prime q → (i : ℕ) × (i < 54) × (small_prime i ≡ q)
complete q h prime = ⊎_elim no-prime found (or_cases (not (is_prime q)) (ltb k 54 && eqb (small_prime k) q) (unfold listed in all-at 256 listed all_listed q h))
  where
    k : ℕ
    k = index_of q small_primes

    no-prime : not (is_prime q) ≡ true → (i : ℕ) × (i < 54) × (small_prime i ≡ q)
    no-prime e = absurd (false≢true (ap not (sym (prime-true q prime)) ∙ e))

    found : (ltb k 54 && eqb (small_prime k) q) ≡ true → (i : ℕ) × (i < 54) × (small_prime i ≡ q)
    found e = (k, ltb-true k 54 (and_left (ltb k 54) (eqb (small_prime k) q) e), eqb-true (small_prime k) q (and_right (ltb k 54) (eqb (small_prime k) q) e))

-- ---- the test by the table

-- what `passes_table` says of an entry
abbrev pub passes : ℕ → ℕ → Bool
passes p i = not (leb (small_prime i * small_prime i) p && eqb (p % small_prime i) 0)

pub above-passes : (p i : ℕ) → p < small_prime i * small_prime i → passes p i ≡ true
above-passes p i h = ap (λ (b : Bool). not (b && eqb (p % small_prime i) 0)) (lt-leb _ _ h)

pub undivided-passes : (p i : ℕ) → (p % small_prime i ≡ 0 → ⊥) → passes p i ≡ true
undivided-passes p i n = go (leb (small_prime i * small_prime i) p && eqb (p % small_prime i) 0) refl
  where
    go : (b : Bool) → (leb (small_prime i * small_prime i) p && eqb (p % small_prime i) 0) ≡ b → not b ≡ true
    go true e = absurd (n (eqb-true _ _ (and_right (leb (small_prime i * small_prime i) p) (eqb (p % small_prime i) 0) e)))
    go false e = refl

-- the end at the root: the entries that follow are larger
pub root-passes : (p i : ℕ) → i < 54 → p < small_prime i * small_prime i → ((k : ℕ) → k < i → passes p k ≡ true) → passes_table p ≡ true
unfolding passes_table
root-passes p i h lt before = all_pass 54 (passes p) (λ k g. elim (dec_le i k) [ yes le ↦ after k g (eq-or-lt_of_le le) | no n ↦ before k (lt_of_not-le n) ])
  where
    after : (k : ℕ) → k < 54 → (i ≡ k) ⊎ (i < k) → passes p k ≡ true
    after k g (inl e) = above-passes p k (rw (sym e) lt)
    after k g (inr l) =
        let le : small_prime i ≤ small_prime k = omega (arith, rises i k l g) in
        above-passes p k (omega (arith, lt, mul-le-mul le le))

pub divided-fails : (p i : ℕ) → i < 54 → small_prime i * small_prime i ≤ p → p % small_prime i ≡ 0 → passes_table p ≡ false
unfolding passes_table
divided-fails p i h le z = all-fail 54 (passes p) i h (ap not (and_both (leb (small_prime i * small_prime i) p) _ (le-leb _ _ le) (eq-eqb _ _ z)))

prime-passing : (p : ℕ) → is_prime p ≡ true → passes_table p ≡ true
unfolding passes_table
prime-passing p e = all_pass 54 (passes p) (λ i g. go i g (leb (small_prime i * small_prime i) p && eqb (p % small_prime i) 0) refl)
  where
    go : (i : ℕ) → i < 54 → (b : Bool) → (leb (small_prime i * small_prime i) p && eqb (p % small_prime i) 0) ≡ b → not b ≡ true
    go i g false t = refl
    go i g true t =
        let le = leb-true _ _ (and_left (leb (small_prime i * small_prime i) p) (eqb (p % small_prime i) 0) t) in
        let z = eqb-true _ _ (and_right (leb (small_prime i * small_prime i) p) (eqb (p % small_prime i) 0) t) in
        absurd (true≢false (sym e ∙ divided-false p (small_prime i) (entry-large i g) le z))

-- the table decides against
pub failing-composite : (p : ℕ) → passes_table p ≡ false → is_prime p ≡ false
failing-composite p e = go (is_prime p) refl
  where
    go : (b : Bool) → is_prime p ≡ b → b ≡ false
    go true f = sym (prime-passing p f) ∙ e
    go false f = refl
