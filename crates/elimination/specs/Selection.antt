-- The structural pivots (document 01's rule 1, and document 02's slip 9): their choice and their order.
--   nonzero A i j            row i of the matrix A has an entry in column j
--   pair_at i c               the pair of row i and column c
--   unfit has ps i j         row i has no entry in column j, or the column is used, or the pair (i, j) closes a cycle
--   extended has m ps i      ps and row i with its lowest-numbered column that is fit; ps alone where row i is chosen or has no such column
--   extended_to has m ps n    the same for the rows below n, by number
--   selected A n m           the pairs of document 01's rule, and those added
--   free has waiting q       no other waiting row has an entry in q's column
--   lower_pair a o            of the pair a and the choice o the one with the lower row
--   lowest has waiting qs    of the pairs qs that are free the one with the lowest row
--   without i ps             ps without the pair of row i
--   ordered has k waiting    k times the lowest-numbered free row, which then waits no more
--   leads_to has i q          1 where row i is another than q's and has an entry in q's column, else 0
--   degree has waiting q     how many of the waiting rows lead to q: none where q is free
--   structural A n m         the selected pairs in that order
--   Takes has ps i c         c is row i's lowest-numbered entry in an unused column whose choice closes no cycle
--   NoneLeft has m ps i      every entry of row i in an unused column closes a cycle
--   Free has waiting q       no other waiting row leads to q
--   Next has waiting q       q is the lowest-numbered such row of those waiting
--   Obeys has qs             each pair of the list is the next of those from it on
--   Apart ps                 no two of the pairs have the same row
--   Ordering has ps qs       qs lists each of the pairs ps once, in an order that obeys the rule
use Rattle.std.specs.Prelude.{ℕ, zero, suc, ◌+◌, ◌≤◌, ◌<◌, ◌≡◌, Bool, true, false, cond, not, ◌&&◌, ◌||◌, List, [], ◌∷◌, ◌++◌, length, eqb, leb}
use Rattle.std.proofs.Math.Option.{Option, none, some}
use Rattle.lists.specs.Tests.{first, among}
use Rattle.algebra.specs.Matrix.{Matrix}
use Rattle.sparse.specs.Matrix.{Compressed, matrix}
use Rattle.elimination.specs.Structural.{Pair, leading}
use Rattle.elimination.specs.Pairs.{pair_rows, pair_columns}
use Rattle.lists.specs.Members.{Member}
use Rattle.elimination.specs.Chains.{Back, closes}

abbrev pub nonzero : Matrix → ℕ → ℕ → Bool
nonzero A i j = not (eqb (A i j) 0)

abbrev pub pair_at : ℕ → ℕ → Pair
pair_at i c = record { row = i; column = c }

unfoldable pub lower_pair : Pair → Option Pair → Option Pair
lower_pair a none = some a
lower_pair a (some b) = cond (leb a.row b.row) (some a) (some b)

unfoldable pub without : ℕ → List Pair → List Pair
without i [] = []
without i (b ∷ bs) = cond (eqb b.row i) (without i bs) (b ∷ without i bs)

module _ (has : ℕ → ℕ → Bool) where
  -- ---- the choice

  unfoldable pub unfit : List Pair → ℕ → ℕ → Bool
  unfit ps i j = not (has i j) || (among j (pair_columns ps) || closes has ps i j)

  unfoldable pub extended : ℕ → List Pair → ℕ → List Pair
  extended m ps i =
      let c = first m (unfit ps i) in
      cond (among i (pair_rows ps) || leb m c) ps (ps ++ (pair_at i c ∷ []))

  unfoldable pub extended_to : ℕ → List Pair → ℕ → List Pair
  extended_to m ps zero = ps
  extended_to m ps (suc i) = extended m (extended_to m ps i) i

  -- ---- what the choice is asked for

  pub record Takes (ps : List Pair) (i c : ℕ) : Type 0 where
    pub entry : has i c ≡ true
    pub unused : among c (pair_columns ps) ≡ false
    pub clear : ¬ Back has ps i c
    pub lowest : (j : ℕ) → j < c → has i j ≡ true → among j (pair_columns ps) ≡ false → Back has ps i j

  abbrev pub NoneLeft : ℕ → List Pair → ℕ → Type 0
  NoneLeft m ps i = (j : ℕ) → j < m → has i j ≡ true → among j (pair_columns ps) ≡ false → Back has ps i j

  -- ---- the order

  unfoldable pub free : List Pair → Pair → Bool
  free [] q = true
  free (b ∷ bs) q = (eqb b.row q.row || not (has b.row q.column)) && free bs q

  unfoldable pub lowest : List Pair → List Pair → Option Pair
  lowest waiting [] = none
  lowest waiting (q ∷ qs) = let o = lowest waiting qs in cond (free waiting q) (lower_pair q o) o

  unfoldable pub ordered : ℕ → List Pair → List Pair
  ordered zero waiting = []
  ordered (suc k) waiting = elim (lowest waiting waiting) [ none ↦ [] | some q ↦ q ∷ ordered k (without q.row waiting) ]

  -- ---- the order by counts

  unfoldable pub leads_to : ℕ → Pair → ℕ
  leads_to i q = cond (eqb i q.row || not (has i q.column)) 0 1

  unfoldable pub degree : List Pair → Pair → ℕ
  degree [] q = 0
  degree (b ∷ bs) q = leads_to b.row q + degree bs q

  -- ---- what the order is asked for

  abbrev pub Free : List Pair → Pair → Type 0
  Free waiting q = (b : Pair) → Member b waiting → ¬ (b.row ≡ q.row) → has b.row q.column ≡ false

  pub record Next (waiting : List Pair) (q : Pair) : Type 0 where
    pub free : Free waiting q
    pub lowest : (b : Pair) → Member b waiting → Free waiting b → q.row ≤ b.row

  unfoldable pub Obeys : List Pair → Type 0
  Obeys [] = Unit {0}
  Obeys (q ∷ qs) = Next (q ∷ qs) q × Obeys qs

unfoldable pub Apart : List Pair → Type 0
Apart [] = Unit {0}
Apart (q ∷ qs) = ((b : Pair) → Member b qs → ¬ (b.row ≡ q.row)) × Apart qs

pub record Ordering (has : ℕ → ℕ → Bool) (ps qs : List Pair) : Type 0 where
  pub many : length qs ≡ length ps
  pub from : (b : Pair) → Member b qs → Member b ps
  pub all : (b : Pair) → Member b ps → Member b qs
  pub apart : Apart qs
  pub obeys : Obeys has qs

-- ---- of a stored matrix

unfoldable pub selected : Compressed → ℕ → ℕ → List Pair
selected A n m = extended_to (nonzero (matrix A)) m (leading A n m) n

unfoldable pub structural : Compressed → ℕ → ℕ → List Pair
structural A n m = ordered (nonzero (matrix A)) (length (selected A n m)) (selected A n m)
