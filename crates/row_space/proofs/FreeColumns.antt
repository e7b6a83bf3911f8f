-- The free columns of a set: the columns after the first r of its column order C, rising.
--   count, inside, rising    how many there are, that they are columns, and that they rise
--   exactly                  a column is one of them exactly if it is no pivot column
--   at                       each is no pivot column
--   orderly                  the pivot columns as C has them, and then the free ones: a column order that agrees with C below r
use mathlib.Core.Path.{◌≡◌, refl, sym, ap, ◌∙◌}
use mathlib.Core.Logic.{◌↔◌}
use mathlib.Core.Bool.{Bool, true, false, ◌||◌}
use mathlib.Core.List.{List, ◌++◌}
use Prim.Native.Nat.{ℕ, ◌+◌, ◌-◌, ◌≤◌, ◌<◌}
use native.Mathlib.Omega.{arith}
use lib.ListN.{length, get_or, take, length-append, get_or-append}
use lib.Seq.{length-take-le, get_or-take, get_or-append-add}
use Rattle.lists.specs.Tests.{among}
use Rattle.lists.specs.Rest.{rest}
use Rattle.algebra.specs.Matrix.{Vector, Distinct, Permutation, vector}
use Rattle.algebra.proofs.Listed.{among-append, among-place}
use Rattle.algebra.proofs.Completion.{completed, completed-length, completed-among, rest-each, rest-rising}
use Rattle.sparse.specs.Set.{Set}
use Rattle.row_space.specs.Kernel.{free_columns}
use Rattle.row_space.proofs.ClosedAnswers.{Free}

module _ (m : ℕ) (s : Set) (long : length s.C ≡ m) (rank : s.r ≤ m) (order : Permutation m (vector s.C)) where
  abbrev pivots : List ℕ
  pivots = take s.r s.C

  pivots-length : length pivots ≡ s.r
  pivots-length = length-take-le s.r s.C (omega arith)

  pivots-at : (l : ℕ) → l < s.r → get_or pivots l 0 ≡ vector s.C l
  pivots-at l h = get_or-take s.r s.C l 0 h

  distinct : Distinct (length pivots) m (vector pivots)
  distinct =
      record {
        below = λ a h. let g : a < s.r = omega (arith, pivots-length) in rw (pivots-at a g) (order.below a (omega arith));
        apart = λ a b h g e.
            let i : a < s.r = omega (arith, pivots-length) in
            let j : b < s.r = omega (arith, pivots-length) in
            order.apart a b (omega arith) (omega arith) (sym (pivots-at a i) ∙ e ∙ pivots-at b j);
      }

  pub count : length (free_columns m s) ≡ m - s.r
  unfolding free_columns
  count = omega (arith, completed-length pivots m distinct, length-append pivots (rest pivots m), pivots-length)

  pub inside : (l : ℕ) → l < m - s.r → get_or (free_columns m s) l 0 < m
  unfolding free_columns
  inside l h = rest-each pivots m l (omega (arith, count))

  pub rising : (a b : ℕ) → a < b → b < m - s.r → get_or (free_columns m s) a 0 < get_or (free_columns m s) b 0
  unfolding free_columns
  rising a b h g = rest-rising pivots m a b h (omega (arith, count))

  -- ---- the pivot columns, and then the free ones

  unfoldable pub orderly : Vector
  orderly = vector (pivots ++ rest pivots m)

  pub orderly-order : Permutation m orderly
  unfolding orderly
  orderly-order = completed pivots m distinct

  pub orderly-pivot : (l : ℕ) → l < s.r → orderly l ≡ vector s.C l
  unfolding orderly
  orderly-pivot l h = get_or-append pivots (rest pivots m) 0 l (omega (arith, pivots-length)) ∙ pivots-at l h

  pub orderly-free : (l : ℕ) → orderly (s.r + l) ≡ get_or (free_columns m s) l 0
  unfolding orderly free_columns
  orderly-free l = ap (λ (k : ℕ). get_or (pivots ++ rest pivots m) (k + l) 0) (sym pivots-length) ∙ get_or-append-add pivots (rest pivots m) l 0

  -- ---- free columns are those that are no pivot columns

  pub at : (l : ℕ) → l < m - s.r → Free s.r (vector s.C) (get_or (free_columns m s) l 0)
  at l h k g e =
      let q = orderly-pivot k g ∙ e ∙ sym (orderly-free l) in
      omega (arith, orderly-order.apart k (s.r + l) (omega arith) (omega arith) q)

  only : (c : ℕ) → among c (free_columns m s) ≡ true → Free s.r (vector s.C) c
  only c e = let (l, h, q) = among-place (free_columns m s) c e in λ k g d. at l (omega (arith, count)) k g (d ∙ sym q)

  each : (c : ℕ) → c < m → Free s.r (vector s.C) c → among c (free_columns m s) ≡ true
  unfolding free_columns
  each c h free = go (among c pivots) refl (sym (among-append pivots (rest pivots m) c) ∙ completed-among pivots m c h)
    where
      go : (b : Bool) → among c pivots ≡ b → (among c pivots || among c (rest pivots m)) ≡ true → among c (rest pivots m) ≡ true
      go true e q =
          let (l, k, d) = among-place pivots c e in
          let g : l < s.r = omega (arith, pivots-length) in
          absurd (free l g (sym (pivots-at l g) ∙ d))
      go false e q = ap (λ (b : Bool). b || among c (rest pivots m)) (sym e) ∙ q

  pub exactly : (c : ℕ) → c < m → (among c (free_columns m s) ≡ true) ↔ Free s.r (vector s.C) c
  exactly c h = (only c, each c h)
