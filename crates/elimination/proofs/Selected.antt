-- Slip 9's structural pivots of a well-formed matrix.
--   structural-ordering    they are the pairs selected, each once, in an order that obeys the rule (so none is lost)
--   structural-only        in the only such order
--   pairs-columns          pairs that can be pivots have different columns
--   pairs-short            so there are at most as many as rows, and as columns
--   structural-pairs       they can be pivots of the matrix as it stands
--   structural-leading     document 01's structural pivots are among them
--   structural-acyclic     no chain through the others comes back
--   structural-most        an entry of another row in an unused column closes a cycle
use Prim.Native.Nat.{ℕ, ◌+◌, ◌≤◌, ◌<◌}
use native.Mathlib.Decide.{dec_lt}
use mathlib.Core.Path.{◌≡◌, refl, sym, ap, ◌∙◌}
use mathlib.Core.Bool.{Bool, true, false, not, true≢false, false≢true}
use mathlib.Core.List.{List}
use native.Mathlib.Omega.{arith}
use lib.Dec.{eqb}
use lib.ListN.{length, get_or, get_or-map}
use borrow.Author.Tests.{eqb-true, eq-eqb}
use Rattle.algebra.specs.Matrix.{Matrix, Distinct, vector}
use Rattle.algebra.proofs.Finite.{pigeons}
use Rattle.sparse.specs.Matrix.{Compressed, matrix, form}
use Rattle.elimination.specs.Structural.{Pair, leading}
use Rattle.elimination.specs.Pairs.{Pairs, pair_rows, pair_columns}
use Rattle.lists.specs.Tests.{among}
use Rattle.lists.specs.Members.{Member}
use Rattle.elimination.proofs.Pairs.{no_pair, leading-pairs}
use Rattle.elimination.specs.Chains.{Back}
use Rattle.elimination.specs.Selection.{nonzero, without, extended_to, Ordering, selected, structural}
use Rattle.elimination.proofs.Members.{in-at, named-fewer, apart-at}
use Rattle.elimination.proofs.Paths.{back-wider, closes-back}
use Rattle.elimination.proofs.Kept.{Sound, pairs-sound, extended_to-sound}
use Rattle.elimination.proofs.Ordering.{ordered-right, obeys-at, order-only}
use Rattle.elimination.proofs.Acyclic.{no-cycle}
use Rattle.elimination.proofs.Most.{extended_to-grows, extended_to-most}

nonzero-zero : (A : Matrix) (i j : ℕ) → nonzero A i j ≡ false → A i j ≡ 0
nonzero-zero A i j e = go (eqb (A i j) 0) refl e
  where
    go : (b : Bool) → eqb (A i j) 0 ≡ b → not b ≡ false → A i j ≡ 0
    go true s e = eqb-true (A i j) 0 s
    go false s e = absurd (true≢false e)

nonzero-not : (A : Matrix) (i j : ℕ) → nonzero A i j ≡ true → ¬ (A i j ≡ 0)
nonzero-not A i j e z = false≢true (sym (ap not (eq-eqb (A i j) 0 z)) ∙ e)

-- ---- pairs in an order that obeys the rule can be pivots

module _ (n m : ℕ) (A : Matrix) (ps : List Pair) (s : Sound (nonzero A) n m ps) (qs : List Pair) (o : Ordering (nonzero A) ps qs) where
  row_at : (k : ℕ) → get_or (pair_rows qs) k 0 ≡ (get_or qs k no_pair).row
  row_at k = get_or-map (λ q. q.row) qs k no_pair

  column-at : (k : ℕ) → get_or (pair_columns qs) k 0 ≡ (get_or qs k no_pair).column
  column-at k = get_or-map (λ q. q.column) qs k no_pair

  chosen : (k : ℕ) → k < length qs → Member (get_or qs k no_pair) ps
  chosen k h = o.from (get_or qs k no_pair) (in-at qs k h)

  pub ordering-pairs : Pairs n m A qs
  ordering-pairs =
      record {
        rows = record { below = λ k h. omega (arith, row_at k, s.row (get_or qs k no_pair) (chosen k h)); apart = distinct };
        columns = λ k h. omega (arith, column-at k, s.column (get_or qs k no_pair) (chosen k h));
        here = λ k h z. nonzero-not A (get_or qs k no_pair).row (get_or qs k no_pair).column (s.entry (get_or qs k no_pair) (chosen k h)) ((λ t. A (sym (row_at k) t) (sym (column-at k) t)) ∙ z);
        before = λ k l b h. (λ t. A (row_at l t) (column-at k t)) ∙ nonzero-zero A (get_or qs l no_pair).row (get_or qs k no_pair).column (obeys-at (nonzero A) qs o.apart o.obeys k l b h);
      }
    where
      distinct : (a b : ℕ) → a < length qs → b < length qs → get_or (pair_rows qs) a 0 ≡ get_or (pair_rows qs) b 0 → a ≡ b
      distinct a b h g e = go (dec_lt a b) (dec_lt b a)
        where
          rows : (get_or qs a no_pair).row ≡ (get_or qs b no_pair).row
          rows = sym (row_at a) ∙ e ∙ row_at b

          go : Dec (a < b) → Dec (b < a) → a ≡ b
          go (yes l) t = absurd (apart-at qs o.apart a b l g (sym rows))
          go (no l) (yes r) = absurd (apart-at qs o.apart b a r h rows)
          go (no l) (no r) = omega arith

-- no column comes twice
pub pairs-columns : (n m : ℕ) (A : Matrix) (ps : List Pair) → Pairs n m A ps → Distinct (length ps) m (vector (pair_columns ps))
pairs-columns n m A ps h = record { below = h.columns; apart = λ a b l r e. go a b l r e (dec_lt a b) (dec_lt b a) }
  where
    never : (k l : ℕ) → k < l → l < length ps → get_or (pair_columns ps) k 0 ≡ get_or (pair_columns ps) l 0 → ⊥
    never k l b g e = h.here l g (ap (A (get_or (pair_rows ps) l 0)) (sym e) ∙ h.before k l b g)

    go : (a b : ℕ) → a < length ps → b < length ps → get_or (pair_columns ps) a 0 ≡ get_or (pair_columns ps) b 0 → Dec (a < b) → Dec (b < a) → a ≡ b
    go a b l r e (yes s) t = absurd (never a b s r e)
    go a b l r e (no s) (yes t) = absurd (never b a t l (sym e))
    go a b l r e (no s) (no t) = omega arith

-- different numbers below n are at most n
distinct-short : (s n : ℕ) (v : ℕ → ℕ) → Distinct s n v → s ≤ n
distinct-short s n v d = go (dec_lt n s)
  where
    go : Dec (n < s) → s ≤ n
    go (yes h) = absurd (pigeons n v (record { below = λ a l. d.below a (omega arith); apart = λ a b l k e. d.apart a b (omega arith) (omega arith) e }))
    go (no h) = omega arith

pub pairs-short : (n m : ℕ) (A : Matrix) (ps : List Pair) → Pairs n m A ps → (length ps ≤ n) × (length ps ≤ m)
pairs-short n m A ps h =
    (distinct-short (length ps) n (vector (pair_rows ps)) h.rows, distinct-short (length ps) m (vector (pair_columns ps)) (pairs-columns n m A ps h))

-- ---- of a well-formed matrix

module _ (p n m : ℕ) (A : Compressed) (formed : form p m A ≡ true) (many : length A.starts ≡ n + 1) where
  abbrev has : ℕ → ℕ → Bool
  has = nonzero (matrix A)

  pub selected-sound : Sound has n m (selected A n m)
  unfolding selected
  selected-sound = extended_to-sound has n m (leading A n m) n (omega arith) (pairs-sound n m (matrix A) (leading A n m) (leading-pairs p n m A formed many))

  pub structural-ordering : Ordering has (selected A n m) (structural A n m)
  unfolding structural
  structural-ordering =
      let s = selected-sound in
      ordered-right has s.rank (length (selected A n m)) (selected A n m) refl s.apart s.rising

  pub structural-only : (qs : List Pair) → Ordering has (selected A n m) qs → qs ≡ structural A n m
  structural-only qs o =
      let s = structural-ordering in
      order-only has qs (structural A n m) o.apart s.apart (λ b l. s.all b (o.from b l)) (λ b l. o.all b (s.from b l)) o.obeys s.obeys

  pub structural-pairs : Pairs n m (matrix A) (structural A n m)
  structural-pairs = ordering-pairs n m (matrix A) (selected A n m) selected-sound (structural A n m) structural-ordering

  pub structural-leading : (q : Pair) → Member q (leading A n m) → Member q (structural A n m)
  unfolding selected
  structural-leading q h = structural-ordering.all q (extended_to-grows has m (leading A n m) n q h)

  pub structural-acyclic : (q : Pair) → Member q (structural A n m) → ¬ Back has (without q.row (structural A n m)) q.row q.column
  structural-acyclic =
      let s = selected-sound in
      let o = structural-ordering in
      no-cycle has s.rank (structural A n m) o.apart (λ b q m l. s.rising b q (o.from b m) (o.from q l))

  pub structural-most : (i j : ℕ) → i < n → j < m → among i (pair_rows (structural A n m)) ≡ false → among j (pair_columns (structural A n m)) ≡ false
      → has i j ≡ true → Back has (structural A n m) i j
  unfolding selected
  structural-most i j h l r c e =
      let all : (q : Pair) → Member q (extended_to has m (leading A n m) n) → Member q (structural A n m) = structural-ordering.all in
      back-wider has (selected A n m) (structural A n m) all i j
      (closes-back has (selected A n m) i j
      (extended_to-most has m (leading A n m) n i h (named-fewer (λ q. q.row) (selected A n m) (structural A n m) all i r) j l e
      (named-fewer (λ q. q.column) (selected A n m) (structural A n m) all j c)))
