-- From the cells that pivot rule 1 leaves to the structural pivots in order.
use mathlib.Core.Path.{◌≡◌, refl, sym, ap, ◌∙◌, subst}
use mathlib.Core.Logic.{◌⊎◌, inl, inr}
use mathlib.Core.List.{List, [], ◌∷◌, ◌++◌}
use mathlib.Core.Option.{Option, none, some}
use Prim.Native.Nat.{ℕ, zero, suc, ◌≤◌, ◌<◌}
use native.Mathlib.Nat.{eq-or-lt_of_le, le_of_suc-le-suc}
use native.Mathlib.Decide.{dec_lt}
use native.Mathlib.Omega.{arith}
use lib.ListN.{length, get_or, get_or-eq_default}
use Rattle.lists.specs.Filled.{zeros}
use Rattle.lists.proofs.Filled.{length-zeros}
use Rattle.sparse.specs.Matrix.{Compressed}
use Rattle.elimination.specs.Structural.{Pair, paired, chosen, leading}
use Rattle.lists.specs.Members.{Member}
use Rattle.elimination.specs.Selection.{pair_at}
use Rattle.factor_names.specs.Sized.{SmallMatrix}
use Rattle.factor_names.specs.Named.{ByColumn}
use Rattle.factor_select.specs.Needs.{NameReady}
use Rattle.factor_order.specs.Needs.{Searchable}
use Rattle.factor_order.specs.Search.{row_in, Chosen}

-- ---- the pairs of the first columns

in_left : (q : Pair) (xs ys : List Pair) → Member q xs → Member q (xs ++ ys)
in_left q [] ys x' = elim x' [ ]
in_left q (x ∷ xs) ys (inl e) = inl e
in_left q (x ∷ xs) ys (inr m) = inr (in_left q xs ys m)

in_right : (q : Pair) (xs ys : List Pair) → Member q ys → Member q (xs ++ ys)
in_right q [] ys m = m
in_right q (x ∷ xs) ys m = inr (in_right q xs ys m)

in_either : (q : Pair) (xs ys : List Pair) → Member q (xs ++ ys) → Member q xs ⊎ Member q ys
in_either q [] ys m = inr m
in_either q (x ∷ xs) ys (inl e) = inl (inl e)
in_either q (x ∷ xs) ys (inr m) = elim (in_either q xs ys m) [ inl k ↦ inl (inr k) | inr k ↦ inr k ]

paired-in : (c i : ℕ) (o : Option ℕ) → o ≡ some i → Member (pair_at i c) (paired c o)
paired-in c i o e = subst (λ (x : Option ℕ). Member (pair_at i c) (paired c x)) (sym e) (inl refl)

in-paired : (c : ℕ) (b : Pair) (o : Option ℕ) → Member b (paired c o) → (o ≡ some b.row) × (b.column ≡ c)
in-paired c b none x' = elim x' [ ]
in-paired c b (some i) (inl e) = (ap (λ (q : Pair). some q.row) (sym e), ap (λ (q : Pair). q.column) e)
in-paired c b (some i) (inr x') = elim x' [ ]

leading-in : (A : Compressed) (n m c i : ℕ) → c < m → chosen A c n ≡ some i → Member (pair_at i c) (leading A n m)
unfolding leading
leading-in A n zero c i h e = absurd (omega arith)
leading-in A n (suc m) c i h e = go (eq-or-lt_of_le (le_of_suc-le-suc h)) (leading-in A n m c i)
  where
    go : (c ≡ m) ⊎ (c < m) → (c < m → chosen A c n ≡ some i → Member (pair_at i c) (leading A n m)) → Member (pair_at i c) (leading A n m ++ paired m (chosen A m n))
    go (inl q) ih = in_right (pair_at i c) (leading A n m) (paired m (chosen A m n)) (subst (λ (k : ℕ). Member (pair_at i c) (paired k (chosen A k n))) q (paired-in c i (chosen A c n) e))
    go (inr l) ih = in_left (pair_at i c) (leading A n m) (paired m (chosen A m n)) (ih l e)

in-leading : (A : Compressed) (n m : ℕ) (b : Pair) → Member b (leading A n m) → (b.column < m) × (chosen A b.column n ≡ some b.row)
unfolding leading
in-leading A n zero b k = elim k [ ]
in-leading A n (suc m) b k = go (in_either b (leading A n m) (paired m (chosen A m n)) k) (in-leading A n m b)
  where
    go : Member b (leading A n m) ⊎ Member b (paired m (chosen A m n)) → (Member b (leading A n m) → (b.column < m) × (chosen A b.column n ≡ some b.row)) → (b.column < suc m) × (chosen A b.column n ≡ some b.row)
    go (inl x) ih = let r = ih x in (omega (arith, r.0), r.1)
    go (inr x) ih = let r = in-paired m b (chosen A m n) x in (omega (arith, r.1), ap (λ (k : ℕ). chosen A k n) r.1 ∙ r.0)

some-cell : (x i : ℕ) → row_in x ≡ some i → x ≡ suc i
some-cell zero i e = absurd (none-some e)
  where
    none-some : none ≡ some i → ⊥
    none-some q = let z : ◌≡◌ {A = ℕ} 0 1 = cc in absurd (omega arith)
some-cell (suc k) i e = let q : k ≡ i = cc in ap suc q

-- the cells name document 01's pivots
pub leading-named : (A : Compressed) (n : ℕ) (w : List ℕ) → Chosen A n w → ByColumn w (leading A n (length w))
leading-named A n w s =
    record {
      right = λ c i e. leading-in A n (length w) c i (inside c i e) (sym (s.rows c (inside c i e)) ∙ ap row_in e);
      all = λ b k. let r = in-leading A n (length w) b k in some-cell (get_or w b.column 0) b.row (s.rows b.column r.0 ∙ r.1);
    }
  where
    inside : (c i : ℕ) → get_or w c 0 ≡ suc i → c < length w
    inside c i e = go (dec_lt c (length w))
      where
        go : Dec (c < length w) → c < length w
        go (yes h) = h
        go (no h) = absurd (omega (arith, get_or-eq_default w 0 (let l : length w ≤ c = omega arith in l)))

-- ---- from what is lent to what is found

module _ (p n m : ℕ) (A : Compressed) (R₀ C₀ w₀ : List ℕ) (h : Searchable p n m A R₀ C₀ w₀) where
  wide : length w₀ ≡ m
  wide = ap length h.w-clear ∙ length-zeros m

  module _ (w : List ℕ) (long : length w ≡ m) where
    sized : SmallMatrix p n (length w) A
    sized = record { formed = rw long h.formed; rows = h.rows; n-small = h.n-small; m-small = rw long h.m-small }

    pub name-ready : (v : List ℕ) → v ≡ zeros n → Chosen A n w → NameReady p n A w v
    name-ready v z s = record { sized = sized; leading-named = leading-named A n w s; clear = z }
