-- How many lists there are.
--   count-only       the lists with P have one number
--   count-through    a map that is one-to-one from the lists with P onto the lists with Q carries it over
--   count_none       0, where no list has P
--   tuples-count     the lists of k numbers below p are p ^ k, numbered by their digits
use mathlib.Core.Path.{◌≡◌, refl, sym, ap, ap₂, subst, ◌∙◌}
use mathlib.Core.List.{List, [], ◌∷◌}
use Prim.Native.Nat.{ℕ, zero, suc, ◌+◌, ◌*◌, ◌/◌, ◌%◌, ◌^◌, ◌≤◌, ◌<◌}
use native.Mathlib.Nat.{mod-lt, mod-add-div, mod-eq_of_lt, add-mul-mod_self_left, add-mul-div_left, div-eq_of_lt, div-lt_iff_lt-mul, pow-zero, pow-suc, zero-add, le_antisymm}
use native.Mathlib.Decide.{dec_lt}
use native.Mathlib.Omega.{arith}
use lib.ListN.{length, get_or, drop}
use Rattle.algebra.specs.Matrix.{vector}
use Rattle.algebra.specs.Odds.{Count}
use Rattle.algebra.proofs.Finite.{pigeons, choose}

-- each list of one numbering has a number in the other, and no two the same
not_more : (P : List ℕ → Type 0) (k k' : ℕ) → Count P k → Count P k' → k ≤ k'
not_more P k k' c d = go (dec_lt k' k)
  where
    numbers : (g : ℕ → ℕ) × ((a : ℕ) → a < k → (g a < k') × (d.nth (g a) ≡ c.nth a))
    numbers = choose (λ a i. (i < k') × (d.nth i ≡ c.nth a)) k (λ a h. let s = d.all (c.nth a) (c.each a h) in (s.0, (s.1, s.2)))

    go : Dec (k' < k) → k ≤ k'
    go (no h) = omega arith
    go (yes h) =
        absurd (pigeons k' numbers.0
        (record {
          below = λ a l. (numbers.1 a (omega arith)).0;
          apart = λ a b l o e. c.apart a b (omega arith) (omega arith) (sym (numbers.1 a (omega arith)).1 ∙ ap d.nth e ∙ (numbers.1 b (omega arith)).1);
        }))

pub count-only : (P : List ℕ → Type 0) (k k' : ℕ) → Count P k → Count P k' → k ≡ k'
count-only P k k' c d = le_antisymm (not_more P k k' c d) (not_more P k' k d c)

pub count-through : (P Q : List ℕ → Type 0) (k : ℕ) (f : List ℕ → List ℕ) → ((c : List ℕ) → P c → Q (f c))
    → ((c d : List ℕ) → P c → P d → f c ≡ f d → c ≡ d) → ((s : List ℕ) → Q s → (c : List ℕ) × P c × (f c ≡ s)) → Count P k → Count Q k
count-through P Q k f into one onto c =
    record {
      nth = λ a. f (c.nth a);
      each = λ a h. into (c.nth a) (c.each a h);
      apart = λ a b h l e. c.apart a b h l (one (c.nth a) (c.nth b) (c.each a h) (c.each b l) e);
      all = λ s q. let (t, w, e) = onto s q in let (a, h, g) = c.all t w in (a, h, ap f g ∙ e);
    }

pub count_none : (P : List ℕ → Type 0) → ((s : List ℕ) → ¬ P s) → Count P 0
count_none P none =
    record {
      nth = λ a. [];
      each = λ a h. absurd (omega arith);
      apart = λ a b h l e. absurd (omega arith);
      all = λ s w. absurd (none s w);
    }

-- the lists of k numbers below p
pub record Tuple (p k : ℕ) (c : List ℕ) : Type 0 where
  pub long : length c ≡ k
  pub below : (i : ℕ) → i < k → vector c i < p

tuple-cons : {p : ℕ} (k x : ℕ) (c : List ℕ) → x < p → Tuple p k c → Tuple p (suc k) (x ∷ c)
tuple-cons {p} k x c h t = record { long = ap suc t.long; below = cell }
  where
    cell : (i : ℕ) → i < suc k → vector (x ∷ c) i < p
    cell zero l = h
    cell (suc i) l = t.below i (omega arith)

tuple-tail : {p : ℕ} (k x : ℕ) (c : List ℕ) → Tuple p (suc k) (x ∷ c) → Tuple p k c
tuple-tail k x c t = record { long = omega (arith, t.long); below = λ i l. t.below (suc i) (omega arith) }

module _ (p : ℕ) (pos : 0 < p) where
  -- the empty list, and no other
  none-count : Count (Tuple p 0) (p ^ 0)
  none-count =
      record {
        nth = λ a. [];
        each = λ a h. record { long = refl; below = λ i l. absurd (omega arith) };
        apart = λ a b h l e. omega (arith, pow-zero p);
        all = go;
      }
    where
      go : (s : List ℕ) → Tuple p 0 s → (a : ℕ) × (a < p ^ 0) × (◌≡◌ {A = List ℕ} [] s)
      go [] t = (0, omega (arith, pow-zero p), refl)
      go (x ∷ xs) t = absurd (omega (arith, t.long))

  -- the lowest digit, and the rest
  more-count : (k : ℕ) → Count (Tuple p k) (p ^ k) → Count (Tuple p (suc k)) (p ^ suc k)
  more-count k c =
      record {
        nth = λ a. (a % p) ∷ c.nth (a / p);
        each = λ a h. tuple-cons k (a % p) (c.nth (a / p)) (mod-lt a pos) (c.each (a / p) (rest a h));
        apart = λ a b h l e.
            let low : a % p ≡ b % p = ap (λ (s : List ℕ). get_or s 0 0) e in
            let high : a / p ≡ b / p = c.apart (a / p) (b / p) (rest a h) (rest b l) (ap (λ (s : List ℕ). drop 1 s) e) in
            sym (mod-add-div a p) ∙ ap₂ {C = ℕ} (λ (x q : ℕ). x + p * q) low high ∙ mod-add-div b p;
        all = go;
      }
    where
      rest : (a : ℕ) → a < p ^ suc k → a / p < p ^ k
      rest a h = (div-lt_iff_lt-mul pos).1 (subst (λ (q : ℕ). a < q) (pow-suc p k) h)

      go : (s : List ℕ) → Tuple p (suc k) s → (a : ℕ) × (a < p ^ suc k) × (◌≡◌ {A = List ℕ} ((a % p) ∷ c.nth (a / p)) s)
      go [] t = absurd (omega (arith, t.long))
      go (x ∷ xs) t =
          let (a, h, e) = c.all xs (tuple-tail k x xs t) in
          let low : (x + p * a) % p ≡ x = add-mul-mod_self_left x p a ∙ mod-eq_of_lt (t.below 0 (omega arith)) in
          let high : (x + p * a) / p ≡ a = add-mul-div_left x a pos ∙ ap (λ (z : ℕ). z + a) (div-eq_of_lt (t.below 0 (omega arith))) ∙ zero-add a in (
            x + p * a,
            subst (λ (q : ℕ). x + p * a < q) (sym (pow-suc p k)) ((div-lt_iff_lt-mul pos).0 (subst (λ (z : ℕ). z < p ^ k) (sym high) h)),
            ap₂ {C = List ℕ} (λ (z : ℕ) (l : List ℕ). z ∷ l) low (ap c.nth high ∙ e),
          )

pub tuples-count : (p : ℕ) → 0 < p → (k : ℕ) → Count (Tuple p k) (p ^ k)
tuples-count p pos zero = none-count p pos
tuples-count p pos (suc k) = more-count p pos k (tuples-count p pos k)
