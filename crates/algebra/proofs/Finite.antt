-- Searches below a bound, and permutations.
use mathlib.Core.Path.{◌≡◌, refl}
use mathlib.Core.Logic.{◌≢◌, ◌⊎◌, inl, inr}
use Prim.Native.Nat.{ℕ, zero, suc, ◌-◌, ◌≤◌, ◌<◌}
use native.Mathlib.Nat.{le_step, lt-suc_self}
use native.Mathlib.Decide.{ℕ_discrete, dec_lt}
use native.Mathlib.Omega.{arith}
use Rattle.algebra.specs.Matrix.{Vector, Distinct}
use Rattle.algebra.specs.Reduction.{AllZero, Lowest}
use Rattle.algebra.proofs.Dot.{below_suc}

-- the first place below n at which P fails, or none
pub search-first : (P : ℕ → Type 0) → ((i : ℕ) → Dec (P i)) → (n : ℕ)
    → ((i : ℕ) → i < n → P i) ⊎ ((j : ℕ) × (j < n) × (¬ P j) × ((i : ℕ) → i < j → P i))
search-first P dec zero = inl (λ i h. absurd (omega arith))
search-first P dec (suc n) = go (search-first P dec n) (dec n)
  where
    go : ((i : ℕ) → i < n → P i) ⊎ ((j : ℕ) × (j < n) × (¬ P j) × ((i : ℕ) → i < j → P i)) → Dec (P n)
        → ((i : ℕ) → i < suc n → P i) ⊎ ((j : ℕ) × (j < suc n) × (¬ P j) × ((i : ℕ) → i < j → P i))
    go (inl all) (yes h) = inl (below_suc P n h all)
    go (inl all) (no h) = inr (n, lt-suc_self n, h, all)
    go (inr s) d = inr (s.0, le_step s.1, s.2, s.3)

pub lowest : (m : ℕ) (w : Vector) → AllZero m w ⊎ ((j : ℕ) × Lowest m w j)
unfolding AllZero
lowest m w = go (search-first (λ j. w j ≡ 0) (λ j. ℕ_discrete (w j) 0) m)
  where
    go : AllZero m w ⊎ ((j : ℕ) × (j < m) × (¬ (w j ≡ 0)) × ((i : ℕ) → i < j → w i ≡ 0)) → AllZero m w ⊎ ((j : ℕ) × Lowest m w j)
    go (inl all) = inl all
    go (inr s) = inr (s.0, record { within = s.1; here = s.2; before = s.3 })

-- numbers other than v, closed up
close : ℕ → ℕ → ℕ
close v x = elim (dec_lt v x) [ yes h ↦ x - 1 | no h ↦ x ]

close-cases : (v x : ℕ) → ((v < x) × (close v x ≡ x - 1)) ⊎ ((x ≤ v) × (close v x ≡ x))
unfolding close
close-cases v x = go (dec_lt v x)
  where
    go : (d : Dec (v < x)) → let c : ℕ = elim d [ yes h ↦ x - 1 | no h ↦ x ] in ((v < x) × (c ≡ x - 1)) ⊎ ((x ≤ v) × (c ≡ x))
    go (yes h) = inl (h, refl)
    go (no h) = inr (omega arith, refl)

close-below : (n v x : ℕ) → x < suc n → v < suc n → x ≢ v → close v x < n
close-below n v x h g k = go (close-cases v x)
  where
    go : ((v < x) × (close v x ≡ x - 1)) ⊎ ((x ≤ v) × (close v x ≡ x)) → close v x < n
    go (inl c) = omega arith
    go (inr c) = omega arith

close-inj : (v x y : ℕ) → x ≢ v → y ≢ v → close v x ≡ close v y → x ≡ y
close-inj v x y h g e = go (close-cases v x) (close-cases v y)
  where
    go : ((v < x) × (close v x ≡ x - 1)) ⊎ ((x ≤ v) × (close v x ≡ x)) → ((v < y) × (close v y ≡ y - 1)) ⊎ ((y ≤ v) × (close v y ≡ y)) → x ≡ y
    go (inl c) (inl d) = omega arith
    go (inl c) (inr d) = omega arith
    go (inr c) (inl d) = omega arith
    go (inr c) (inr d) = omega arith

close-distinct : (s n v : ℕ) (w : ℕ → ℕ) → Distinct s (suc n) w → v < suc n → ((a : ℕ) → a < s → w a ≢ v) → Distinct s n (λ a. close v (w a))
close-distinct s n v w d g k =
    record {
      below = λ a h. close-below n v (w a) (d.below a h) g (k a h);
      apart = λ a b h l e. d.apart a b h l (close-inj v (w a) (w b) (k a h) (k b l) e);
    }

-- no n + 1 distinct numbers are below n
pub pigeons : (n : ℕ) (w : ℕ → ℕ) → ¬ Distinct (suc n) n w
pigeons zero w d = absurd (omega (arith, d.below 0 (omega arith)))
pigeons (suc n) w d =
    pigeons n (λ a. close (w (suc n)) (w a))
    (close-distinct (suc n) n (w (suc n)) w
    (record { below = λ a h. d.below a (le_step h); apart = λ a b h l e. d.apart a b (le_step h) (le_step l) e })
    (d.below (suc n) (lt-suc_self (suc n)))
    (λ a h e. omega (arith, d.apart a (suc n) (le_step h) (lt-suc_self (suc n)) e)))

-- a permutation has each number
pub onto : (n : ℕ) (w : ℕ → ℕ) → Distinct n n w → (t : ℕ) → t < n → (a : ℕ) × (a < n) × (w a ≡ t)
onto zero w d t h = absurd (omega arith)
onto (suc n) w d t h = go (search-first (λ a. w a ≢ t) (λ a. not-dec (ℕ_discrete (w a) t)) (suc n))
  where
    not-dec : {A : Type 0} → Dec A → Dec (¬ A)
    not-dec (yes x) = no (λ f. f x)
    not-dec (no f) = yes f

    found : (a : ℕ) → ¬ (w a ≢ t) → Dec (w a ≡ t) → w a ≡ t
    found a f (yes e) = e
    found a f (no g) = absurd (f g)

    go : ((a : ℕ) → a < suc n → w a ≢ t) ⊎ ((j : ℕ) × (j < suc n) × (¬ (w j ≢ t)) × ((i : ℕ) → i < j → w i ≢ t)) → (a : ℕ) × (a < suc n) × (w a ≡ t)
    go (inl none) = absurd (pigeons n (λ a. close t (w a)) (close-distinct (suc n) n t w d h none))
    go (inr s) = (s.0, s.1, found s.0 s.2 (ℕ_discrete (w s.0) t))

-- a choice for each number below s
pub choose : (P : ℕ → ℕ → Type 0) (s : ℕ) → ((a : ℕ) → a < s → (i : ℕ) × P a i) → (g : ℕ → ℕ) × ((a : ℕ) → a < s → P a (g a))
choose P s f = (λ a. pick a (dec_lt a s), λ a h. right a (dec_lt a s) h)
  where
    pick : (a : ℕ) → Dec (a < s) → ℕ
    pick a (yes h) = (f a h).0
    pick a (no h) = 0

    right : (a : ℕ) (d : Dec (a < s)) → a < s → P a (pick a d)
    right a (yes h) g = (f a h).1
    right a (no h) g = absurd (h g)
