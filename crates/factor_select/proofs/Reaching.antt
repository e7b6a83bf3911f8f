-- The search from a row: what is stamped is reached through a pivot, and the whole rows of the columns that left the queue are stamped.
--   Reaching               the loop's invariant
--   own-ready ..           what the visit of the row itself needs
--   reaching-starts        the invariant after it
--   next-ready ..          what the visit of a queued column's row needs
--   reaching-turn          the invariant after it
--   reaching-ends          once all queued columns were visited exactly the columns that close a cycle with the row have the stamp
use Prim.Native.Nat.{ℕ, suc, ◌+◌, ◌-◌, ◌≤◌, ◌<◌}
use mathlib.Core.Path.{◌≡◌, refl, sym, ap, ◌∙◌, subst}
use mathlib.Core.Bool.{Bool, true, false, true≢false}
use mathlib.Core.Logic.{◌⊎◌, inl, inr}
use mathlib.Core.List.{List}
use native.Mathlib.Omega.{arith}
use native.Mathlib.Decide.{dec_lt}
use lib.Dec.{eqb}
use lib.ListN.{length, get_or}
use borrow.Author.Tests.{eqb-true, eq-eqb}
use Rattle.sparse.specs.Matrix.{Compressed, matrix, row_of}
use Rattle.elimination.specs.Structural.{Pair, leading}
use Rattle.lists.specs.Members.{Member}
use Rattle.elimination.specs.Chains.{one, Back, closes}
use Rattle.elimination.specs.Selection.{nonzero, pair_at}
use Rattle.elimination.proofs.Pairs.{leading-pairs}
use Rattle.elimination.proofs.Paths.{chain-join, entry-chain, path-chain, chain-path}
use Rattle.elimination.proofs.Kept.{Sound, pairs-sound, extended_to-sound}
use Rattle.elimination.proofs.Steps.{Searched, searched}
use Rattle.elimination.specs.Rules.{pivots_to}
use Rattle.factor_names.specs.Sized.{RowWithin}
use Rattle.factor_names.proofs.RowEntries.{row-stored, row_inside, row_has, has-row}
use Rattle.factor_select.specs.Search.{Used, Trail, VisitReady, Visited}
use Rattle.factor_select.specs.Needs.{SearchReady}
use Rattle.factor_select.proofs.Trails.{Got, visited-still, visited-kept}

-- a way back goes on through a pivot of the column that it came to
back_on : (has : ℕ → ℕ → Bool) (ps : List Pair) (i j : ℕ) (q : Pair) → Member q ps → Back has ps i q.column → has q.row j ≡ true → Back has ps i j
back_on has ps i j q m b e =
    record {
      by = b.by;
      chosen = b.chosen;
      leads = b.leads;
      onward = chain-path has ps b.by.row j (chain-join has q ps b.by.row j m (path-chain has ps b.by.row q.column b.onward) (entry-chain has ps q.row j e));
    }

-- cells that got the mark or were left, twice
pub kept_then : {mark a b c : ℕ} → (b ≡ a) ⊎ (b ≡ mark) → (c ≡ b) ⊎ (c ≡ mark) → (c ≡ a) ⊎ (c ≡ mark)
kept_then d (inr e) = inr e
kept_then (inl d) (inl e) = inl (e ∙ d)
kept_then (inr d) (inl e) = inr (e ∙ d)

-- the row of a column's pivot, as its cell names it
abbrev pub row_at : List ℕ → ℕ → ℕ
row_at w c = get_or w c 0 - 1

-- `stamps₀` are the stamps where the loop began
pub record Reaching (A : Compressed) (n i mark : ℕ) (w stamps₀ stamps queue : List ℕ) (tail head : ℕ) : Type 0 where
  pub trail : Trail w stamps queue mark tail
  pub own : (j : ℕ) → nonzero (matrix A) i j ≡ true → Used w j → get_or stamps j 0 ≡ mark
  pub whole : (k : ℕ) → k < head → (j : ℕ) → nonzero (matrix A) (row_at w (get_or queue k 0)) j ≡ true → get_or stamps j 0 ≡ mark
  pub back : (j : ℕ) → get_or stamps j 0 ≡ mark → Back (nonzero (matrix A)) (pivots_to A n (length w) i) i j
  pub kept : (j : ℕ) → (get_or stamps j 0 ≡ get_or stamps₀ j 0) ⊎ (get_or stamps j 0 ≡ mark)

module _ {p n i : ℕ} {A : Compressed} {w v stamps₀ queue₀ : List ℕ} {mark : ℕ} (h : SearchReady p n i A w v stamps₀ queue₀ mark) where
  abbrev has : ℕ → ℕ → Bool
  has = nonzero (matrix A)

  abbrev ps : List Pair
  ps = pivots_to A n (length w) i

  -- the columns of row k
  abbrev row : ℕ → List ℕ
  row k = row_of A.starts k A.cols

  sound : Sound has n (length w) ps
  sound =
      extended_to-sound has n (length w) (leading A n (length w)) i (omega (arith, h.row))
      (pairs-sound n (length w) (matrix A) (leading A n (length w)) (leading-pairs p n (length w) A h.sized.formed h.sized.rows))

  -- a used column has a pivot
  pivot : (c : ℕ) → Used w c → Member (pair_at (row_at w c) c) ps
  pivot c u = h.named.by-column.right c (row_at w c) (omega arith)

  -- what holds of each stored column holds of each column with an entry
  each-entry : (P : ℕ → Type 0) (k : ℕ) → ((t : ℕ) → t < length (row k) → P (get_or (row k) t 0)) → (j : ℕ) → has k j ≡ true → P j
  each-entry P k f j e = let s = has-row p n (length w) A h.sized k j e in subst P s.2 (f s.0 s.1)

  entry_at : (k j t : ℕ) → t < length (row k) → get_or (row k) t 0 ≡ j → has k j ≡ true
  entry_at k j t l e = subst (λ (c : ℕ). has k c ≡ true) e (row_has p n (length w) A h.sized k t l)

  -- ---- the row's own columns

  pub own-stored : RowWithin A.starts A.cols i
  own-stored = row-stored p n (length w) A h.sized i h.row

  -- at first no column has the stamp
  unmarked : (j : ℕ) → ¬ (get_or stamps₀ j 0 ≡ mark)
  unmarked j e = omega (arith, h.unmarked j)

  pub own-ready : (r : List ℕ) → r ≡ row i → VisitReady r w stamps₀ queue₀ mark 0
  own-ready r e =
      record {
        trail =
            record {
              stamps-long = h.stamps-long;
              queue_long = h.queue_long;
              distinct = record { below = λ a l. absurd (omega arith); apart = λ a b l. absurd (omega arith) };
              used = λ k l. absurd (omega arith);
              stamped = λ k l. absurd (omega arith);
              all = λ j l s. absurd (unmarked j s);
            };
        inside = rw e (row_inside p n (length w) A h.sized i);
      }

  module _ (r : List ℕ) (of : r ≡ row i) (stamps queue : List ℕ) (tail : ℕ) (u : Visited true r w stamps₀ queue₀ mark 0 stamps queue tail) where
    own-visited : Visited true (row i) w stamps₀ queue₀ mark 0 stamps queue tail
    own-visited = rw of at u

    -- a used column of the row is reached through its own pivot
    own_back : (j : ℕ) → get_or stamps j 0 ≡ mark → Back has ps i j
    own_back j s = go (own-visited.kept j)
      where
        go : (get_or stamps j 0 ≡ get_or stamps₀ j 0) ⊎ Got true (row i) w stamps mark j → Back has ps i j
        go (inl e) = absurd (unmarked j (sym e ∙ s))
        go (inr (t, l, e, inl a, m)) = absurd (true≢false a)
        go (inr (t, l, e, inr a, m)) =
            record { by = pair_at (row_at w j) j; chosen = pivot j a; leads = entry_at i j t l e; onward = one (sound.entry (pair_at (row_at w j) j) (pivot j a)) }

    pub reaching-starts : Reaching A n i mark w stamps stamps queue tail 0
    reaching-starts =
        record {
          trail = u.trail;
          own = each-entry (λ c. Used w c → get_or stamps c 0 ≡ mark) i (λ t l a. own-visited.stamped t l (inr a));
          whole = λ k l. absurd (omega arith);
          back = own_back;
          kept = λ j. inl refl;
        }

  -- ---- the next queued column

  module _ {stamps₁ stamps queue : List ℕ} {tail head : ℕ} (g : Reaching A n i mark w stamps₁ stamps queue tail head) (more : head < tail) (c : ℕ) (stands : c ≡ get_or queue head 0) where
    next-used : Used w c
    next-used = subst (Used w) (sym stands) (g.trail.used head more)

    next-pivot : Member (pair_at (row_at w c) c) ps
    next-pivot = pivot c next-used

    pub next-stored : RowWithin A.starts A.cols (row_at w c)
    next-stored = row-stored p n (length w) A h.sized (row_at w c) (sound.row (pair_at (row_at w c) c) next-pivot)

    pub next-ready : (r : List ℕ) → r ≡ row (row_at w c) → VisitReady r w stamps queue mark tail
    next-ready r e = record { trail = g.trail; inside = rw e (row_inside p n (length w) A h.sized (row_at w c)) }

    module _ (r : List ℕ) (of : r ≡ row (row_at w c)) (stamps₂ queue₂ : List ℕ) (tail₂ : ℕ) (u : Visited false r w stamps queue mark tail stamps₂ queue₂ tail₂) where
      next-visited : Visited false (row (row_at w c)) w stamps queue mark tail stamps₂ queue₂ tail₂
      next-visited = rw of at u

      -- the row's columns are reached through the pivot
      next-back : (j : ℕ) → get_or stamps₂ j 0 ≡ mark → Back has ps i j
      next-back j s = go (next-visited.kept j)
        where
          go : (get_or stamps₂ j 0 ≡ get_or stamps j 0) ⊎ Got false (row (row_at w c)) w stamps₂ mark j → Back has ps i j
          go (inl e) = g.back j (sym e ∙ s)
          go (inr (t, l, e, a, m)) =
              back_on has ps i j (pair_at (row_at w c) c) next-pivot (g.back c (ap (λ (x : ℕ). get_or stamps x 0) stands ∙ g.trail.stamped head more)) (entry_at (row_at w c) j t l e)

      next-whole : (k : ℕ) → k < head + 1 → (j : ℕ) → has (row_at w (get_or queue₂ k 0)) j ≡ true → get_or stamps₂ j 0 ≡ mark
      next-whole k l j = go (dec_lt k head)
        where
          P : ℕ → Type 0
          P x = has (row_at w x) j ≡ true → get_or stamps₂ j 0 ≡ mark

          same : get_or queue₂ k 0 ≡ get_or queue k 0
          same = u.queue-kept k (omega arith)

          go : Dec (k < head) → P (get_or queue₂ k 0)
          go (yes b) = subst P (sym same) (λ e. visited-still u j (g.whole k b j e))
          go (no b) =
              let last : k ≡ head = omega arith in
              subst P (stands ∙ ap (λ (x : ℕ). get_or queue x 0) (sym last) ∙ sym same) (each-entry (λ x. get_or stamps₂ x 0 ≡ mark) (row_at w c) (λ t b. next-visited.stamped t b (inl refl)) j)

      pub reaching-turn : Reaching A n i mark w stamps₁ stamps₂ queue₂ tail₂ (head + 1)
      reaching-turn =
          record {
            trail = u.trail;
            own = λ j e a. visited-still u j (g.own j e a);
            whole = next-whole;
            back = next-back;
            kept = λ j. kept_then (g.kept j) (visited-kept u j);
          }

  -- ---- the end

  module _ {stamps₁ stamps queue : List ℕ} {tail head : ℕ} (g : Reaching A n i mark w stamps₁ stamps queue tail head) (over : tail ≤ head) where
    -- the column of a pivot that the row has, or that is stamped, was in the queue
    pivot-whole : (q : Pair) → Member q ps → (has i q.column ≡ true) ⊎ (get_or stamps q.column 0 ≡ mark) → (j : ℕ) → has q.row j ≡ true → get_or stamps j 0 ≡ mark
    pivot-whole q m d j e =
        let cell : get_or w q.column 0 ≡ suc q.row = h.named.by-column.all q m in
        let used : Used w q.column = λ z. omega arith in
        let s = g.trail.all q.column (sound.column q m) (stamped d used) used in
        let named : q.row ≡ row_at w (get_or queue s.0 0) = omega (arith, ap (λ (c : ℕ). get_or w c 0) s.2) in
        g.whole s.0 (omega (arith, s.1)) j (subst (λ (k : ℕ). has k j ≡ true) named e)
      where
        stamped : (has i q.column ≡ true) ⊎ (get_or stamps q.column 0 ≡ mark) → Used w q.column → get_or stamps q.column 0 ≡ mark
        stamped (inl e) a = g.own q.column e a
        stamped (inr e) a = e

    done : Searched has ps i (λ j. eqb (get_or stamps j 0) mark)
    done =
        record {
          right = λ j e. g.back j (eqb-true (get_or stamps j 0) mark e);
          whole = λ q m d j e. eq-eqb (get_or stamps j 0) mark (pivot-whole q m (plain q d) j e);
        }
      where
        plain : (q : Pair) → (has i q.column ≡ true) ⊎ (eqb (get_or stamps q.column 0) mark ≡ true) → (has i q.column ≡ true) ⊎ (get_or stamps q.column 0 ≡ mark)
        plain q (inl e) = inl e
        plain q (inr e) = inr (eqb-true (get_or stamps q.column 0) mark e)

    pub reaching-ends : (j : ℕ) → eqb (get_or stamps j 0) mark ≡ closes has ps i j
    reaching-ends j = searched has ps i (λ j. eqb (get_or stamps j 0) mark) done j
