-- The nonzero cells of a dense row: in parts, one after another, and as many after scaling.
use mathlib.Core.Path.{◌≡◌, refl, sym, ap, ◌∙◌}
use mathlib.Core.List.{List, [], ◌∷◌, ◌++◌, map-append}
use Prim.Native.Nat.{ℕ, zero, suc, ◌+◌, ◌*◌, ◌%◌, ◌<◌}
use native.Mathlib.Nat.{add-zero, one-mul, mod-mod, mod-eq_of_lt, zero-mod, mul-zero}
use native.Mathlib.Omega.{arith}
use native.Mathlib.Numerals.{add-one}
use lib.ListN.{length, get_or, take, drop, set, length-append, length-map, take-append-drop}
use lib.Seq.{sets, length-sets, take-suc}
use Rattle.lists.specs.Tabulate.{tabulate}
use Rattle.lists.proofs.Steps.{drop-step, sets-append}
use Rattle.algebra.proofs.Inverse.{no-divisors}
use Rattle.residue.specs.Inverse.{Invertible}
use Rattle.sparse.specs.Dense.{columns_from, nonzeros, scaled}
use Rattle.sparse.specs.Storing.{DenseStored}

-- ---- in parts

pub columns-append : (j : ℕ) (xs ys : List ℕ) → columns_from j (xs ++ ys) ≡ columns_from j xs ++ columns_from (j + length xs) ys
unfolding columns_from
columns-append j [] ys = ap (λ (k : ℕ). columns_from k ys) (sym (add-zero j))
columns-append j (zero ∷ xs) ys = columns-append (suc j) xs ys ∙ ap (λ (k : ℕ). columns_from (suc j) xs ++ columns_from k ys) (omega arith)
columns-append j (suc v ∷ xs) ys =
    ap (λ (l : List ℕ). j ∷ l) (columns-append (suc j) xs ys ∙ ap (λ (k : ℕ). columns_from (suc j) xs ++ columns_from k ys) (omega arith))

pub nonzeros-append : (xs ys : List ℕ) → nonzeros (xs ++ ys) ≡ nonzeros xs ++ nonzeros ys
unfolding nonzeros
nonzeros-append [] ys = refl
nonzeros-append (zero ∷ xs) ys = nonzeros-append xs ys
nonzeros-append (suc v ∷ xs) ys = ap (λ (l : List ℕ). suc v ∷ l) (nonzeros-append xs ys)

pub count-append : (xs ys : List ℕ) → length (nonzeros (xs ++ ys)) ≡ length (nonzeros xs) + length (nonzeros ys)
count-append xs ys = ap length (nonzeros-append xs ys) ∙ length-append (nonzeros xs) (nonzeros ys)

pub length-columns : (j : ℕ) (row : List ℕ) → length (columns_from j row) ≡ length (nonzeros row)
unfolding columns_from nonzeros
length-columns j [] = refl
length-columns j (zero ∷ row) = length-columns (suc j) row
length-columns j (suc v ∷ row) = ap suc (length-columns (suc j) row)

-- ---- stored in parts

pub stored-none : (j at : ℕ) (cols vals : List ℕ) → DenseStored j at [] cols vals cols vals at
unfolding nonzeros columns_from
stored-none j at cols vals = record { place = omega arith; columns = refl; values = refl }

pub stored-then : (j at : ℕ) (xs ys cols₀ vals₀ cols₁ vals₁ cols₂ vals₂ : List ℕ) (next₁ next₂ : ℕ) → DenseStored j at xs cols₀ vals₀ cols₁ vals₁ next₁
    → DenseStored (j + length xs) next₁ ys cols₁ vals₁ cols₂ vals₂ next₂ → DenseStored j at (xs ++ ys) cols₀ vals₀ cols₂ vals₂ next₂
stored-then j at xs ys cols₀ vals₀ cols₁ vals₁ cols₂ vals₂ next₁ next₂ a b =
    record {
      place = omega (arith, a.place, b.place, count-append xs ys);
      columns =
          b.columns
          ∙ (λ i. sets (a.columns i) ((a.place ∙ ap (λ (n : ℕ). at + n) (sym (length-columns j xs))) i) (columns_from (j + length xs) ys))
          ∙ sym (ap (sets cols₀ at) (columns-append j xs ys) ∙ sets-append cols₀ at (columns_from j xs) (columns_from (j + length xs) ys));
      values =
          b.values
          ∙ (λ i. sets (a.values i) (a.place i) (nonzeros ys))
          ∙ sym (ap (sets vals₀ at) (nonzeros-append xs ys) ∙ sets-append vals₀ at (nonzeros xs) (nonzeros ys));
    }

-- the lists stay as long as they were
module _ (j at : ℕ) (row cols₀ vals₀ cols vals : List ℕ) (next : ℕ) (s : DenseStored j at row cols₀ vals₀ cols vals next) where
  pub stored-columns : length cols ≡ length cols₀
  stored-columns = ap length s.columns ∙ length-sets cols₀ at (columns_from j row)

  pub stored-values : length vals ≡ length vals₀
  stored-values = ap length s.values ∙ length-sets vals₀ at (nonzeros row)

-- one cell: nothing is stored of a 0
pub stored-zero : (j at v : ℕ) (cols vals : List ℕ) → v ≡ 0 → DenseStored j at (v ∷ []) cols vals cols vals at
unfolding nonzeros columns_from
stored-zero j at zero cols vals e = record { place = omega arith; columns = refl; values = refl }
stored-zero j at (suc v) cols vals e = absurd (omega arith)

pub stored_one : (j at v : ℕ) (cols vals : List ℕ) → (v ≡ 0 → ⊥) → DenseStored j at (v ∷ []) cols vals (set cols at j) (set vals at v) (at + 1)
unfolding nonzeros columns_from
stored_one j at zero cols vals e = absurd (e refl)
stored_one j at (suc v) cols vals e = record { place = refl; columns = refl; values = refl }

-- ---- one after another

pub nonzeros-zero : (v : ℕ) (row : List ℕ) → v ≡ 0 → length (nonzeros (v ∷ row)) ≡ length (nonzeros row)
unfolding nonzeros
nonzeros-zero zero row e = refl
nonzeros-zero (suc v) row e = absurd (omega arith)

pub nonzeros-one : (v : ℕ) (row : List ℕ) → (v ≡ 0 → ⊥) → length (nonzeros (v ∷ row)) ≡ suc (length (nonzeros row))
unfolding nonzeros
nonzeros-one zero row e = absurd (e refl)
nonzeros-one (suc v) row e = refl

pub length-scaled : (p c : ℕ) (w : List ℕ) → length (scaled p c w) ≡ length w
unfolding scaled
length-scaled p c w = length-map w (λ (x : ℕ). c * (x % p) % p)

pub scaled-append : (p c : ℕ) (xs ys : List ℕ) → scaled p c (xs ++ ys) ≡ scaled p c xs ++ scaled p c ys
unfolding scaled
scaled-append p c xs ys = map-append (λ (x : ℕ). c * (x % p) % p) xs ys

module _ (p c : ℕ) (w : List ℕ) where
  pub scaled-drop : (j : ℕ) → j < length w → scaled p c (drop j w) ≡ c * (get_or w j 0 % p) % p ∷ scaled p c (drop (j + 1) w)
  unfolding scaled
  scaled-drop j h = ap (scaled p c) (drop-step w j (get_or w j 0) h refl)

  pub scaled-take : (j : ℕ) → j < length w → scaled p c (take (j + 1) w) ≡ scaled p c (take j w) ++ (c * (get_or w j 0 % p) % p ∷ [])
  unfolding scaled
  scaled-take j h = ap (λ (k : ℕ). scaled p c (take k w)) (add-one j) ∙ ap (scaled p c) (take-suc w j 0 h) ∙ scaled-append p c (take j w) (get_or w j 0 ∷ [])

  pub scaled-split : (j : ℕ) → scaled p c w ≡ scaled p c (take j w) ++ scaled p c (drop j w)
  scaled-split j = ap (scaled p c) (sym (take-append-drop j w)) ∙ scaled-append p c (take j w) (drop j w)

-- by index
pub scaled-tabulate : (p c : ℕ) (w : List ℕ) → scaled p c w ≡ tabulate (length w) (λ j. c * (get_or w j 0 % p) % p)
unfolding scaled tabulate
scaled-tabulate p c [] = refl
scaled-tabulate p c (x ∷ w) = ap (λ (l : List ℕ). c * (x % p) % p ∷ l) (scaled-tabulate p c w)

-- ---- as many after scaling

-- once is as it is
pub scaled-once : (p x : ℕ) → 1 * (x % p) % p ≡ x % p
scaled-once p x = ap (λ (y : ℕ). y % p) (one-mul (x % p)) ∙ mod-mod x p

-- an invertible multiple of a residue is 0 only where the residue is
pub scaled-zero : (p c x : ℕ) → Invertible p c → c * (x % p) % p ≡ 0 → x % p ≡ 0
scaled-zero p c x i e =
    let q = no-divisors i.prime {a = c} {b = x % p} (λ z. omega (arith, i.nonzero, sym (mod-eq_of_lt i.below) ∙ z.same ∙ zero-mod p)) (record { same = e ∙ sym (zero-mod p) }) in
    sym (mod-mod x p) ∙ q.same ∙ zero-mod p

pub zero-scaled : (p c x : ℕ) → x % p ≡ 0 → c * (x % p) % p ≡ 0
zero-scaled p c x e = ap (λ (y : ℕ). c * y % p) e ∙ ap (λ (y : ℕ). y % p) (mul-zero c) ∙ zero-mod p

same_count : (v u : ℕ) (xs ys : List ℕ) → (v ≡ 0 → u ≡ 0) → (u ≡ 0 → v ≡ 0) → length (nonzeros xs) ≡ length (nonzeros ys)
    → length (nonzeros (v ∷ xs)) ≡ length (nonzeros (u ∷ ys))
unfolding nonzeros
same_count zero zero xs ys f g e = e
same_count zero (suc u) xs ys f g e = absurd (omega (arith, f refl))
same_count (suc v) zero xs ys f g e = absurd (omega (arith, g refl))
same_count (suc v) (suc u) xs ys f g e = ap suc e

-- the count of the cells that stand for another residue than 0 is that of the entries stored of any invertible multiple
pub count-scaled : (p c : ℕ) (w : List ℕ) → Invertible p c → length (nonzeros (scaled p c w)) ≡ length (nonzeros (scaled p 1 w))
unfolding scaled
count-scaled p c [] i = refl
count-scaled p c (x ∷ w) i =
    same_count (c * (x % p) % p) (1 * (x % p) % p) (scaled p c w) (scaled p 1 w)
    (λ e. zero-scaled p 1 x (scaled-zero p c x i e)) (λ e. zero-scaled p c x (sym (scaled-once p x) ∙ e)) (count-scaled p c w i)
