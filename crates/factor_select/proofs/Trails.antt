-- The search's lists: what touching one column does to them, and how visits join.
--   trail-few, trail-room                      the queue has room for each column that has no stamp
--   Got                                        a column of a row that has the stamp
--   touch-room, touch-queued                   one column that is queued
--   visited-none, visited-turn                 the columns of a row, one after the other
--   visited-still, visited-kept                a stamp stays, and no other cell changes
use Prim.Native.Nat.{ℕ, zero, suc, ◌+◌, ◌≤◌, ◌<◌}
use mathlib.Core.Path.{◌≡◌, refl, sym, ap, ◌∙◌, subst}
use mathlib.Core.Bool.{Bool}
use mathlib.Core.Logic.{◌⊎◌, inl, inr, ⊎_elim}
use mathlib.Core.List.{List, [], ◌∷◌, ◌++◌}
use native.Mathlib.Omega.{arith}
use native.Mathlib.Numerals.{add-one}
use native.Mathlib.Decide.{ℕ_discrete, dec_lt}
use lib.ListN.{length, get_or, set, take, length-append, length-set, get_or-append}
use lib.Seq.{get_or-set_same, get_or-set_other, get_or-append_seam, take-suc}
use Rattle.algebra.specs.Matrix.{Distinct, vector}
use Rattle.algebra.proofs.Finite.{pigeons, onto}
use Rattle.factor_select.specs.Search.{Used, Wanted, Trail, TouchReady, Visited}

-- a cell after one was written: that one, or another
abbrev Cell : List ℕ → ℕ → ℕ → ℕ → Type 0
Cell l i v k = ((k ≡ i) × (get_or (set l i v) k 0 ≡ v)) ⊎ ((¬ (k ≡ i)) × (get_or (set l i v) k 0 ≡ get_or l k 0))

cell-either : (l : List ℕ) (i v k : ℕ) → i < length l → Cell l i v k
cell-either l i v k h = go (ℕ_discrete k i)
  where
    go : Dec (k ≡ i) → Cell l i v k
    go (yes e) = inl (e, ap (λ (x : ℕ). get_or (set l i v) x 0) e ∙ get_or-set_same l i v 0 h)
    go (no e) = inr (e, get_or-set_other l i k v 0 e)

-- what is written once is there, also where it stood before
set_keeps : (l : List ℕ) (i v k : ℕ) → i < length l → get_or l k 0 ≡ v → get_or (set l i v) k 0 ≡ v
set_keeps l i v k h e = go (cell-either l i v k h)
  where
    go : Cell l i v k → get_or (set l i v) k 0 ≡ v
    go (inl s) = s.1
    go (inr s) = s.1 ∙ e

-- distinct numbers below m are at most m
distinct-few : (n m : ℕ) (v : ℕ → ℕ) → Distinct n m v → n ≤ m
distinct-few n m v d = go (dec_lt m n)
  where
    go : Dec (m < n) → n ≤ m
    go (yes h) = absurd (pigeons m v (record { below = λ a l. d.below a (omega arith); apart = λ a b l k e. d.apart a b (omega arith) (omega arith) e }))
    go (no h) = omega arith

module _ (w stamps queue : List ℕ) (mark tail : ℕ) (t : Trail w stamps queue mark tail) where
  pub trail-few : tail ≤ length w
  trail-few = distinct-few tail (length w) (vector queue) t.distinct

  -- a full queue has every column, and each has the stamp
  pub trail-room : (j : ℕ) → j < length w → ¬ (get_or stamps j 0 ≡ mark) → tail < length w
  trail-room j h free = go (dec_lt tail (length w))
    where
      go : Dec (tail < length w) → tail < length w
      go (yes l) = l
      go (no l) =
          let full : tail ≡ length w = omega (arith, trail-few) in
          let s = onto (length w) (vector queue) (subst (λ (n : ℕ). Distinct n (length w) (vector queue)) full t.distinct) j h in
          absurd (free (ap (λ (x : ℕ). get_or stamps x 0) (sym s.2) ∙ t.stamped s.0 (omega (arith, s.1))))

-- column j is a wanted one of the row, and has the stamp
abbrev pub Got : Bool → List ℕ → List ℕ → List ℕ → ℕ → ℕ → Type 0
Got own row w stamps mark j = (t : ℕ) × (t < length row) × (get_or row t 0 ≡ j) × Wanted own w j × (get_or stamps j 0 ≡ mark)

-- ---- one column

module _ (own : Bool) (w stamps queue : List ℕ) (mark tail j cell : ℕ) (h : TouchReady w stamps queue mark tail j cell) where
  inside : j < length stamps
  inside = omega (arith, h.inside, h.trail.stamps-long)

  -- a wanted column gets the stamp
  gets-stamp : Wanted own w j → (queue₁ : List ℕ) (tail₁ : ℕ) → Trail w (set stamps j mark) queue₁ mark tail₁ → tail ≤ tail₁ → ((k : ℕ) → k < tail → get_or queue₁ k 0 ≡ get_or queue k 0)
      → Visited own (j ∷ []) w stamps queue mark tail (set stamps j mark) queue₁ tail₁
  gets-stamp a queue₁ tail₁ trail grows same =
      record { trail = trail; tail-grows = grows; queue-kept = same; stamped = stamped; kept = λ c. kept c (cell-either stamps j mark c inside) }
    where
      stamped : (t : ℕ) → t < 1 → Wanted own w (get_or (j ∷ []) t 0) → get_or (set stamps j mark) (get_or (j ∷ []) t 0) 0 ≡ mark
      stamped zero l b = get_or-set_same stamps j mark 0 inside
      stamped (suc t) l b = absurd (omega arith)

      kept : (c : ℕ) → Cell stamps j mark c
          → (get_or (set stamps j mark) c 0 ≡ get_or stamps c 0) ⊎ Got own (j ∷ []) w (set stamps j mark) mark c
      kept c (inl s) = inr (0, omega arith, sym s.0, subst (Wanted own w) (sym s.0) a, s.1)
      kept c (inr s) = inl s.1

  -- a used column that has no stamp
  module _ (free : ¬ (get_or stamps j 0 ≡ mark)) (used : ¬ (cell ≡ 0)) where
    pub touch-room : tail < length queue
    touch-room = omega (arith, h.trail.queue_long, trail-room w stamps queue mark tail h.trail j h.inside free)

    -- the queue's cells: the new one, and those that were there
    abbrev Queued : ℕ → Type 0
    Queued k = ((k ≡ tail) × (get_or (set queue tail j) k 0 ≡ j)) ⊎ ((k < tail) × (get_or (set queue tail j) k 0 ≡ get_or queue k 0))

    queued-either : (k : ℕ) → k < tail + 1 → Queued k
    queued-either k l = go (cell-either queue tail j k touch-room)
      where
        go : Cell queue tail j k → Queued k
        go (inl s) = inl s
        go (inr s) = let o : ¬ (k ≡ tail) = s.0 in inr (omega arith, s.1)

    -- what holds of the new one and of those that were there holds of each
    each : (P : ℕ → Type 0) → P j → ((k : ℕ) → k < tail → P (get_or queue k 0)) → (k : ℕ) → k < tail + 1 → P (get_or (set queue tail j) k 0)
    each P new old k l = go (queued-either k l)
      where
        go : Queued k → P (get_or (set queue tail j) k 0)
        go (inl s) = subst P (sym s.1) new
        go (inr s) = subst P (sym s.1) (old k s.0)

    -- the column was not queued before
    fresh : (k : ℕ) → k < tail → ¬ (get_or queue k 0 ≡ j)
    fresh k l e = free (ap (λ (x : ℕ). get_or stamps x 0) (sym e) ∙ h.trail.stamped k l)

    apart : (a b : ℕ) → a < tail + 1 → b < tail + 1 → get_or (set queue tail j) a 0 ≡ get_or (set queue tail j) b 0 → a ≡ b
    apart a b l r e = go (queued-either a l) (queued-either b r)
      where
        go : Queued a → Queued b → a ≡ b
        go (inl s) (inl u) = s.0 ∙ sym u.0
        go (inl s) (inr u) = absurd (fresh b u.0 (sym u.1 ∙ sym e ∙ s.1))
        go (inr s) (inl u) = absurd (fresh a s.0 (sym s.1 ∙ e ∙ u.1))
        go (inr s) (inr u) = h.trail.distinct.apart a b s.0 u.0 (sym s.1 ∙ e ∙ u.1)

    same : (k : ℕ) → k < tail → get_or (set queue tail j) k 0 ≡ get_or queue k 0
    same k l = get_or-set_other queue tail k j 0 (λ e. omega arith)

    all : (c : ℕ) → c < length w → get_or (set stamps j mark) c 0 ≡ mark → Used w c → (k : ℕ) × (k < tail + 1) × (get_or (set queue tail j) k 0 ≡ c)
    all c l s u = go (cell-either stamps j mark c inside)
      where
        go : Cell stamps j mark c → (k : ℕ) × (k < tail + 1) × (get_or (set queue tail j) k 0 ≡ c)
        go (inl r) = (tail, omega arith, get_or-set_same queue tail j 0 touch-room ∙ sym r.0)
        go (inr r) = let o = h.trail.all c l (sym r.1 ∙ s) u in (o.0, omega (arith, o.1), same o.0 o.1 ∙ o.2)

    pub touch-queued : Visited own (j ∷ []) w stamps queue mark tail (set stamps j mark) (set queue tail j) (tail + 1)
    touch-queued = gets-stamp (inr is-used) (set queue tail j) (tail + 1) trail (omega arith) same
      where
        is-used : Used w j
        is-used e = used (h.cell-is ∙ e)

        trail : Trail w (set stamps j mark) (set queue tail j) mark (tail + 1)
        trail =
            record {
              stamps-long = length-set stamps j mark ∙ h.trail.stamps-long;
              queue_long = length-set queue tail j ∙ h.trail.queue_long;
              distinct = record { below = each (λ c. c < length w) h.inside h.trail.distinct.below; apart = apart };
              used = each (Used w) is-used h.trail.used;
              stamped = each (λ c. get_or (set stamps j mark) c 0 ≡ mark) (get_or-set_same stamps j mark 0 inside) (λ k l. set_keeps stamps j mark (get_or queue k 0) inside (h.trail.stamped k l));
              all = all;
            }

-- ---- the columns of a row

pub visited-none : (own : Bool) (w stamps queue : List ℕ) (mark tail : ℕ) → Trail w stamps queue mark tail → Visited own [] w stamps queue mark tail stamps queue tail
visited-none own w stamps queue mark tail t =
    record { trail = t; tail-grows = omega arith; queue-kept = λ k l. refl; stamped = λ k l. absurd (omega arith); kept = λ j. inl refl }

module _ {own : Bool} {xs w stamps₀ queue₀ : List ℕ} {mark tail₀ : ℕ} {stamps queue : List ℕ} {tail : ℕ} (v : Visited own xs w stamps₀ queue₀ mark tail₀ stamps queue tail) where
  pub visited-kept : (j : ℕ) → (get_or stamps j 0 ≡ get_or stamps₀ j 0) ⊎ (get_or stamps j 0 ≡ mark)
  visited-kept j = ⊎_elim (λ s. inl s) (λ s. inr s.4) (v.kept j)

  pub visited-still : (j : ℕ) → get_or stamps₀ j 0 ≡ mark → get_or stamps j 0 ≡ mark
  visited-still j e = ⊎_elim (λ s. s ∙ e) (λ s. s) (visited-kept j)

module _ {own : Bool} {xs w stamps₀ queue₀ : List ℕ} {mark tail₀ : ℕ} {stamps₁ queue₁ : List ℕ} {tail₁ : ℕ} (v : Visited own xs w stamps₀ queue₀ mark tail₀ stamps₁ queue₁ tail₁)
    {x : ℕ} {stamps queue : List ℕ} {tail : ℕ} (u : Visited own (x ∷ []) w stamps₁ queue₁ mark tail₁ stamps queue tail) where
  many : length (xs ++ (x ∷ [])) ≡ length xs + 1
  many = length-append xs (x ∷ [])

  old : (t : ℕ) → t < length xs → get_or (xs ++ (x ∷ [])) t 0 ≡ get_or xs t 0
  old t h = get_or-append xs (x ∷ []) 0 t h

  new : get_or (xs ++ (x ∷ [])) (length xs) 0 ≡ x
  new = get_or-append_seam xs x [] 0

  stamped : (t : ℕ) → t < length (xs ++ (x ∷ [])) → Wanted own w (get_or (xs ++ (x ∷ [])) t 0) → get_or stamps (get_or (xs ++ (x ∷ [])) t 0) 0 ≡ mark
  stamped t h = go (dec_lt t (length xs))
    where
      P : ℕ → Type 0
      P j = Wanted own w j → get_or stamps j 0 ≡ mark

      go : Dec (t < length xs) → P (get_or (xs ++ (x ∷ [])) t 0)
      go (yes l) = subst P (sym (old t l)) (λ a. visited-still u (get_or xs t 0) (v.stamped t l a))
      go (no l) =
          let last : t ≡ length xs = omega (arith, many) in
          subst P (sym (ap (λ (k : ℕ). get_or (xs ++ (x ∷ [])) k 0) last ∙ new)) (u.stamped 0 (omega arith))

  kept : (j : ℕ) → (get_or stamps j 0 ≡ get_or stamps₀ j 0) ⊎ Got own (xs ++ (x ∷ [])) w stamps mark j
  kept j = go (v.kept j) (u.kept j)
    where
      go : (get_or stamps₁ j 0 ≡ get_or stamps₀ j 0) ⊎ Got own xs w stamps₁ mark j → (get_or stamps j 0 ≡ get_or stamps₁ j 0) ⊎ Got own (x ∷ []) w stamps mark j
          → (get_or stamps j 0 ≡ get_or stamps₀ j 0) ⊎ Got own (xs ++ (x ∷ [])) w stamps mark j
      go (inl s) (inl r) = inl (r ∙ s)
      go (inr s) (inl r) = inr (s.0, omega (arith, s.1, many), old s.0 s.1 ∙ s.2, s.3, r ∙ s.4)
      go s (inr (zero, l, e, a, m)) = inr (length xs, omega (arith, many), new ∙ e, a, m)
      go s (inr (suc t, l, e, a, m)) = absurd (omega arith)

  -- one column more
  visited-more : Visited own (xs ++ (x ∷ [])) w stamps₀ queue₀ mark tail₀ stamps queue tail
  visited-more =
      record {
        trail = u.trail;
        tail-grows = omega (arith, v.tail-grows, u.tail-grows);
        queue-kept = λ k l. u.queue-kept k (omega (arith, v.tail-grows)) ∙ v.queue-kept k l;
        stamped = stamped;
        kept = kept;
      }

-- a loop over the columns of a row
module _ (row : List ℕ) (t : ℕ) {own : Bool} {w stamps₀ queue₀ : List ℕ} {mark tail₀ : ℕ} {stamps₁ queue₁ : List ℕ} {tail₁ : ℕ}
    (v : Visited own (take t row) w stamps₀ queue₀ mark tail₀ stamps₁ queue₁ tail₁) where
  pub visited-turn : {stamps queue : List ℕ} {tail : ℕ} → t < length row → Visited own (get_or row t 0 ∷ []) w stamps₁ queue₁ mark tail₁ stamps queue tail
      → Visited own (take (t + 1) row) w stamps₀ queue₀ mark tail₀ stamps queue tail
  visited-turn h u = rw (add-one, take-suc row t 0) (visited-more v u)
