-- The product of a set, compared with the matrix row by row.
use mathlib.Core.Path.{◌≡◌, refl, sym, ap, ◌∙◌}
use mathlib.Core.Bool.{Bool, true, false, ◌&&◌}
use mathlib.Core.List.{List}
use Prim.Native.Nat.{ℕ, zero, suc, ◌+◌, ◌-◌, ◌*◌, ◌%◌, ◌≤◌, ◌<◌}
use native.Mathlib.Omega.{arith}
use native.Mathlib.Nat.{zero-mod, mul-le-mul_left}
use lib.Dec.{eqb}
use lib.ListN.{length, get_or, set, length-set}
use lib.Seq.{get_or-set_same, get_or-set_other, ext_get_or}
use native.Mathlib.Decide.{ℕ_discrete}
use borrow.Author.Tests.{eqb-true, eqb-false, eq-eqb, ne_eqb}
use Rattle.lists.specs.Filled.{zeros}
use Rattle.lists.specs.Tests.{all}
use Rattle.lists.proofs.Filled.{zeros-at, length-zeros}
use Rattle.algebra.specs.Congruence.{◌≈⟨◌⟩◌}
use Rattle.algebra.specs.Matrix.{Vector, Matrix}
use Rattle.algebra.specs.Sum.{dot}
use Rattle.algebra.proofs.Congruence.{exact, turn, ◌⊙◌, ◌⊕◌, same_refl, minus, cancel, cancel-zero}
use Rattle.sparse.specs.Matrix.{Compressed, row_of, matrix, form}
use Rattle.sparse.specs.Row.{Below, weigh}
use Rattle.sparse.specs.WorkingRow.{SubtractedTo, Subtracted}
use Rattle.sparse.proofs.Entries.{weigh-dot, row-columns}
use Rattle.sparse.proofs.Rows.{form-row}
use Rattle.pluq.specs.Judge.{agrees}
use Rattle.check_product.specs.Combination.{is_combination}
use Rattle.check_product.specs.Sweep.{TestedAndCleared}

-- ---- tests

pub all_snoc : (n : ℕ) (t : ℕ → Bool) → all (n + 1) t ≡ (all n t && t n)
unfolding all
all_snoc zero t = and-true (t 0)
  where
    and-true : (b : Bool) → (b && true) ≡ b
    and-true true = refl
    and-true false = refl
all_snoc (suc n) t =
    ap (λ (k : ℕ). all k t) (let q : suc n + 1 ≡ suc (n + 1) = omega arith in q)
    ∙ ap (λ (b : Bool). t 0 && b) (all_snoc n (λ i. t (suc i)))
    ∙ assoc (t 0) (all n (λ i. t (suc i))) (t (suc n))
  where
    assoc : (a b c : Bool) → (a && (b && c)) ≡ ((a && b) && c)
    assoc true b c = refl
    assoc false b c = refl

pub all_same : (n : ℕ) (t u : ℕ → Bool) → ((i : ℕ) → i < n → t i ≡ u i) → all n t ≡ all n u
unfolding all
all_same zero t u h = refl
all_same (suc n) t u h = λ j. h 0 (omega arith) j && all_same n (λ i. t (suc i)) (λ i. u (suc i)) (λ i g. h (suc i) (omega arith)) j

pub eqb_same : (a b c d : ℕ) → (a ≡ b → c ≡ d) → (c ≡ d → a ≡ b) → eqb a b ≡ eqb c d
eqb_same a b c d h g = go (eqb a b) refl
  where
    go : (t : Bool) → eqb a b ≡ t → t ≡ eqb c d
    go true e = sym (eq-eqb c d (h (eqb-true a b e)))
    go false e = sym (ne_eqb c d (λ q. eqb-false a b e (g q)))

-- ---- the test of a row

-- b taken away from the working row: all cells stand for 0 exactly if the row was b modulo p
row-agrees : {e : ℕ} (p m : ℕ) (b : Vector) (w₀ w : List ℕ) → length w₀ ≡ m → SubtractedTo p e b w₀ w
    → all m (λ j. eqb (get_or w j 0 % p) 0) ≡ all m (λ j. eqb (get_or w₀ j 0 % p) (b j % p))
row-agrees p m b w₀ w long d =
    all_same m (λ j. eqb (get_or w j 0 % p) 0) (λ j. eqb (get_or w₀ j 0 % p) (b j % p))
    (λ j h. eqb_same (get_or w j 0 % p) 0 (get_or w₀ j 0 % p) (b j % p) (there j h) (back j h))
  where
    there : (j : ℕ) → j < m → get_or w j 0 % p ≡ 0 → get_or w₀ j 0 % p ≡ b j % p
    there j h e =
        let z : get_or w j 0 ≈⟨ p ⟩ 0 = record { same = e ∙ sym (zero-mod p) } in
        let f : get_or w₀ j 0 ≈⟨ p ⟩ b j = turn (d.cells j (omega arith)) ⊙ z ⊕ same_refl (b j) ⊙ exact (omega arith) in
        f.same

    back : (j : ℕ) → j < m → get_or w₀ j 0 % p ≡ b j % p → get_or w j 0 % p ≡ 0
    back j h e =
        let f : get_or w₀ j 0 ≈⟨ p ⟩ b j = record { same = e } in
        let z : get_or w j 0 ≈⟨ p ⟩ 0 = cancel-zero (b j) (d.cells j (omega arith) ⊙ f) in
        z.same ∙ zero-mod p

-- from a row of zeros a is taken away p - 1 times: the cells stand for a
loaded : (p : ℕ) (a : Vector) (w₀ w : List ℕ) → 1 ≤ p → w₀ ≡ zeros (length w₀) → Subtracted p (λ j. (p - 1) * a j) w₀ w → (j : ℕ) → j < length w₀ → get_or w j 0 % p ≡ a j % p
loaded p a w₀ w pos none d j h =
    let whole : get_or w j 0 + (p - 1) * a j ≈⟨ p ⟩ 0 = d.cells j h ⊙ exact (ap (λ (l : List ℕ). get_or l j 0) none ∙ zeros-at (length w₀) j) in
    let f : get_or w j 0 ≈⟨ p ⟩ a j = cancel ((p - 1) * a j) (whole ⊙ turn (minus 0 (a j) pos) ⊙ exact (omega arith)) in
    f.same

-- ---- the test and the clearing of the working row

pub record Clearing (p : ℕ) (w₀ w : List ℕ) (zero : Bool) (j : ℕ) : Type 0 where
  pub long : length w ≡ length w₀
  pub emptied : (k : ℕ) → k < j → get_or w k 0 ≡ 0
  pub kept : (k : ℕ) → j ≤ k → get_or w k 0 ≡ get_or w₀ k 0
  pub so_far : zero ≡ all j (λ k. eqb (get_or w₀ k 0 % p) 0)

pub clearing-starts : (p : ℕ) (w : List ℕ) → Clearing p w w true 0
unfolding all
clearing-starts p w = record { long = refl; emptied = λ k h. absurd (omega arith); kept = λ k h. refl; so_far = refl }

pub clearing-turn : (p : ℕ) (w₀ w : List ℕ) (z z' : Bool) (j : ℕ) → j < length w → z' ≡ (z && eqb (get_or w j 0 % p) 0) → Clearing p w₀ w z j → Clearing p w₀ (set w j 0) z' (j + 1)
clearing-turn p w₀ w z z' j h e d =
    record {
      long = length-set w j 0 ∙ d.long;
      emptied = λ k g. gone k g (ℕ_discrete k j);
      kept = λ k g. get_or-set_other w j k 0 0 (λ q. omega arith) ∙ d.kept k (omega arith);
      so_far = e ∙ (λ i. d.so_far i && eqb (d.kept j (omega arith) i % p) 0) ∙ sym (all_snoc j (λ k. eqb (get_or w₀ k 0 % p) 0));
    }
  where
    gone : (k : ℕ) → k < j + 1 → Dec (k ≡ j) → get_or (set w j 0) k 0 ≡ 0
    gone k g (yes q) = ap (λ (i : ℕ). get_or (set w j 0) i 0) q ∙ get_or-set_same w j 0 0 h
    gone k g (no q) = get_or-set_other w j k 0 0 q ∙ d.emptied k (omega arith)

pub clearing-ends : (p : ℕ) (w₀ w : List ℕ) (z : Bool) (j : ℕ) → j ≡ length w → Clearing p w₀ w z j → TestedAndCleared p w₀ w z
clearing-ends p w₀ w z j h d =
    let q : j ≡ length w₀ = omega (arith, d.long) in
    record {
      tested = d.so_far ∙ ap (λ (n : ℕ). all n (λ k. eqb (get_or w₀ k 0 % p) 0)) q;
      cleared = ext_get_or 0 w (zeros (length w₀)) (d.long ∙ sym (length-zeros (length w₀))) (λ k g. d.emptied k (omega arith) ∙ sym (zeros-at (length w₀) k));
    }

-- a loop that stops at the first that fails, and leaves w as it was
pub record Scanning (n : ℕ) (t : ℕ → Bool) (w₀ w : List ℕ) (i : ℕ) : Type 0 where
  pub same : w ≡ w₀
  pub passed : (k : ℕ) → k < i → t k ≡ true

-- zeros are cells
pub zero-below : (p : ℕ) (w : List ℕ) → 0 < p → w ≡ zeros (length w) → Below (p * p) w
zero-below p w h z i g = omega (arith, ap (λ (l : List ℕ). get_or l i 0) z ∙ zeros-at (length w) i, mul-le-mul_left {m = 1} {n = p} p h)

-- the product taken away, and the row tested and cleared
pub cleared-combination : {e : ℕ} (p : ℕ) (ks vs : List ℕ) (U : Matrix) (w₀ w w' : List ℕ) (z : Bool) → SubtractedTo p e (λ j. weigh ks vs (λ k. U k j)) w₀ w → TestedAndCleared p w w' z
    → (z ≡ is_combination p w₀ ks vs U) × (w' ≡ zeros (length w₀))
unfolding is_combination
cleared-combination p ks vs U w₀ w w' z d t = (
  t.tested
      ∙ ap (λ (n : ℕ). all n (λ j. eqb (get_or w j 0 % p) 0)) d.long
      ∙ row-agrees p (length w₀) (λ j. weigh ks vs (λ k. U k j)) w₀ w refl d,
  t.cleared ∙ ap zeros d.long,
)

-- where A's row R[i] stands in the working row and the other row is L's row i: whether they agree
pub combination-agrees : (p r : ℕ) (A : Compressed) (R : Vector) (L : Compressed) (U : Matrix) (i k : ℕ) (ks vs w₀ w : List ℕ) → 1 ≤ p → w₀ ≡ zeros (length w₀) → form p r L ≡ true → k ≡ R i
    → ks ≡ row_of L.starts i L.cols → vs ≡ row_of L.starts i L.vals → Subtracted p (λ j. (p - 1) * matrix A k j) w₀ w
    → is_combination p w ks vs U ≡ agrees p (length w₀) r (matrix A) R (matrix L) U i
unfolding is_combination agrees
combination-agrees p r A R L U i k ks vs w₀ w pos none f e ek es d =
    ap (λ (n : ℕ). all n (λ j. eqb (get_or w j 0 % p) (weigh ks vs (λ u. U u j) % p))) d.long
    ∙ all_same (length w₀) (λ j. eqb (get_or w j 0 % p) (weigh ks vs (λ u. U u j) % p)) (λ j. eqb (matrix A (R i) j % p) (dot r (matrix L i) (λ u. U u j) % p))
    (λ j h. λ x. eqb (own j h x) (product j x % p))
  where
    own : (j : ℕ) → j < length w₀ → get_or w j 0 % p ≡ matrix A (R i) j % p
    own j h = loaded p (matrix A k) w₀ w pos none d j h ∙ ap (λ (u : ℕ). matrix A u j % p) e

    product : (j : ℕ) → weigh ks vs (λ u. U u j) ≡ dot r (matrix L i) (λ u. U u j)
    product j =
        (λ x. weigh (ek x) (es x) (λ u. U u j))
        ∙ weigh-dot r (row_of L.starts i L.cols) (row_of L.starts i L.vals) (λ u. U u j)
        (row-columns p r (row_of L.starts i L.cols) (row_of L.starts i L.vals) (form-row p r L.starts L.cols L.vals f i))
