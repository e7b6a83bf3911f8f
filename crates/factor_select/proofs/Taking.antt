-- What row i takes at its turn, by what the search answered; the cells then name the pairs chosen once row i was taken too.
--   chosen-extended   it was chosen before
--   none-extended     no column is fit
--   one-extended      it takes its lowest-numbered fit column
--   turn-ready ..     rows taken one after the other
--   select-ready      what taking all rows starts from, with cleared stamps
use Prim.Native.Nat.{ℕ, ◌+◌, ◌-◌, ◌≤◌, ◌<◌}
use mathlib.Core.Path.{◌≡◌, refl, sym, ap, ◌∙◌, subst}
use mathlib.Core.Bool.{Bool, true, false, true≢false}
use mathlib.Core.Logic.{◌⊎◌, inl, inr}
use mathlib.Core.List.{List, [], ◌∷◌, ◌++◌}
use native.Mathlib.Decide.{ℕ_discrete}
use native.Mathlib.Numerals.{add-one}
use native.Mathlib.Omega.{arith}
use lib.ListN.{length, get_or, set, length-set}
use Rattle.lists.specs.Filled.{zeros}
use Rattle.lists.proofs.Filled.{zeros-at, length-zeros}
use Rattle.lists.proofs.Tests.{first-before, first-here}
use Rattle.sparse.specs.Matrix.{Compressed, matrix}
use Rattle.elimination.specs.Structural.{Pair, leading}
use Rattle.elimination.specs.Pairs.{pair_rows}
use Rattle.lists.specs.Tests.{among}
use Rattle.elimination.specs.Selection.{nonzero, pair_at, unfit, extended, extended_to}
use Rattle.elimination.specs.Rules.{pivots_to}
use Rattle.elimination.proofs.Members.{in-named, none_named}
use Rattle.elimination.proofs.Steps.{extended-chosen, extended-left, extended-taken}
use Rattle.factor_names.specs.Sized.{SmallMatrix}
use Rattle.factor_names.specs.Named.{ByColumn, ByRow, Named}
use Rattle.factor_select.specs.Search.{Survivor}
use Rattle.factor_select.specs.Needs.{NameReady, SearchReady, ExtendReady, Extended, SelectReady}
use Rattle.factor_select.proofs.Cells.{added-column, added-row}
use Rattle.factor_select.proofs.Surviving.{used-unfit, column-used}

module _ (p n i : ℕ) (A : Compressed) (w v stamps₀ queue₀ : List ℕ) (ready : ExtendReady p n i A w v stamps₀ queue₀) where
  abbrev m : ℕ
  m = length w

  abbrev has : ℕ → ℕ → Bool
  has = nonzero (matrix A)

  abbrev ps : List Pair
  ps = pivots_to A n m i

  abbrev named : Named A n m i w v
  named = ready.before.named

  -- ---- whether it is chosen, by its cell

  row-chosen : ¬ (get_or v i 0 ≡ 0) → among i (pair_rows ps) ≡ true
  row-chosen h = in-named (λ q. q.row) ps (pair_at i (get_or v i 0 - 1)) (named.by_row.right i (get_or v i 0 - 1) (omega arith))

  row-left : get_or v i 0 ≡ 0 → among i (pair_rows ps) ≡ false
  row-left e = none_named (λ q. q.row) ps i (λ q h r. omega (arith, named.by_row.all q h, ap (λ (t : ℕ). get_or v t 0) r, e))

  next : pivots_to A n m (i + 1) ≡ extended has m ps i
  unfolding extended_to
  next = ap (pivots_to A n m) (add-one i)

  stays : extended has m ps i ≡ ps → Named A n m (i + 1) w v
  stays e =
      record {
        columns-long = refl;
        rows_long = named.rows_long;
        by-column = subst (ByColumn w) (sym (next ∙ e)) named.by-column;
        by_row = subst (ByRow v) (sym (next ∙ e)) named.by_row;
      }

  pub chosen-extended : ¬ (get_or v i 0 ≡ 0) → Extended A n m (i + 1) w v stamps₀ queue₀
  chosen-extended h =
      record {
        named = stays (extended-chosen has m ps i (row-chosen h));
        stamps-long = ready.before.stamps-long;
        queue_long = ready.before.queue_long;
        unmarked = λ j. omega (arith, ready.before.unmarked j);
      }

  pub search-ready : SearchReady p n i A w v stamps₀ queue₀ (i + 1)
  search-ready =
      record {
        sized = ready.sized;
        named = named;
        row = ready.row;
        stamps-long = ready.before.stamps-long;
        queue_long = ready.before.queue_long;
        unmarked = λ j. omega (arith, ready.before.unmarked j);
      }

  -- ---- after the search

  module _ (stamps queue : List ℕ) (r : ℕ) (found : Survivor A n m i (i + 1) stamps₀ stamps r) (stamps-long : length stamps ≡ length stamps₀) (queue_long : length queue ≡ length queue₀) where
    before : (j : ℕ) → j < r → unfit has ps i j ≡ true
    before j l = first-before m (unfit has ps i) j (omega (arith, found.lowest))

    none : m ≤ r → extended has m ps i ≡ ps
    none past = extended-left has m ps i (λ j l. before j (omega arith))

    here : r < m → unfit has ps i r ≡ false
    here inside = subst (λ (j : ℕ). unfit has ps i j ≡ false) (sym found.lowest) (first-here m (unfit has ps i) (omega (arith, found.lowest)))

    -- the column was not used
    unnamed : r < m → get_or w r 0 ≡ 0
    unnamed inside = go (ℕ_discrete (get_or w r 0) 0)
      where
        go : Dec (get_or w r 0 ≡ 0) → get_or w r 0 ≡ 0
        go (yes e) = e
        go (no u) = absurd (true≢false (sym (used-unfit has ps i r (column-used w ps named.by-column r u)) ∙ here inside))

    one : get_or v i 0 ≡ 0 → r < m → extended has m ps i ≡ ps ++ (pair_at i r ∷ [])
    one e inside = extended-taken has m ps i r (row-left e) inside before (here inside)

    one-named : get_or v i 0 ≡ 0 → r < m → Named A n m (i + 1) (set w r (i + 1)) (set v i (r + 1))
    one-named e inside =
        record {
          columns-long = length-set w r (i + 1);
          rows_long = length-set v i (r + 1) ∙ named.rows_long;
          by-column = subst (ByColumn (set w r (i + 1))) (sym (next ∙ one e inside)) (added-column ps w i r inside (unnamed inside) named.by-column);
          by_row = subst (ByRow (set v i (r + 1))) (sym (next ∙ one e inside)) (added-row ps v i r (omega (arith, named.rows_long, ready.row)) e named.by_row);
        }

    marked : (j : ℕ) → get_or stamps j 0 ≤ i + 1
    marked j = go (found.kept j)
      where
        go : (get_or stamps j 0 ≡ get_or stamps₀ j 0) ⊎ (get_or stamps j 0 ≡ i + 1) → get_or stamps j 0 ≤ i + 1
        go (inl e) = omega (arith, ready.before.unmarked j)
        go (inr e) = omega arith

    pub none-extended : m ≤ r → Extended A n m (i + 1) w v stamps queue
    none-extended past =
        record {
          named = stays (none past);
          stamps-long = stamps-long ∙ ready.before.stamps-long;
          queue_long = queue_long ∙ ready.before.queue_long;
          unmarked = marked;
        }

    pub one-extended : get_or v i 0 ≡ 0 → r < m → Extended A n m (i + 1) (set w r (i + 1)) (set v i (r + 1)) stamps queue
    one-extended e inside =
        record {
          named = one-named e inside;
          stamps-long = stamps-long ∙ ready.before.stamps-long;
          queue_long = queue_long ∙ ready.before.queue_long;
          unmarked = marked;
        }

-- ---- row after row

module _ (p n : ℕ) (A : Compressed) (w₀ v₀ stamps₀ queue₀ : List ℕ) (ready : SelectReady p n A w₀ v₀ stamps₀ queue₀)
    (i : ℕ) (w v stamps queue : List ℕ) (h : Extended A n (length w₀) i w v stamps queue) where
  pub turn-ready : i < n → ExtendReady p n i A w v stamps queue
  turn-ready row =
      let long : length w₀ ≡ length w = sym h.named.columns-long in
      record { sized = subst (λ (m : ℕ). SmallMatrix p n m A) long ready.sized; row = row; before = subst (λ (m : ℕ). Extended A n m i w v stamps queue) long h }

  pub stamps-long : length stamps ≡ length stamps₀
  stamps-long = h.stamps-long ∙ sym ready.before.stamps-long

  pub queue_long : length queue ≡ length queue₀
  queue_long = h.queue_long ∙ sym ready.before.queue_long

  pub turns-end : i ≡ n → Extended A n (length w₀) n w v stamps queue
  turns-end e = subst (λ (k : ℕ). Extended A n (length w₀) k w v stamps queue) e h

-- ---- the start

-- a part of a local list that is cleared
module _ (p n : ℕ) (A : Compressed) (w v₀ v stamps queue : List ℕ) (ready : NameReady p n A w v₀) (long : length v ≡ length v₀) (named : ByRow v (leading A n (length w)))
    (stamps-clear : stamps ≡ zeros (length w)) (queue-clear : queue ≡ zeros (length w)) where
  leading-both : Named A n (length w) 0 w v
  unfolding extended_to
  leading-both =
      record {
        columns-long = refl;
        rows_long = long ∙ ap length ready.clear ∙ length-zeros n;
        by-column = ready.leading-named;
        by_row = named;
      }

  pub select-ready : SelectReady p n A w v stamps queue
  select-ready =
      record {
        sized = ready.sized;
        before = record {
          named = leading-both;
          stamps-long = ap length stamps-clear ∙ length-zeros (length w);
          queue_long = ap length queue-clear ∙ length-zeros (length w);
          unmarked = λ j. omega (arith, ap (λ (l : List ℕ). get_or l j 0) stamps-clear, zeros-at (length w) j);
        };
      }
