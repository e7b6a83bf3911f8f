-- Refusal 7: some row is the first to overflow exactly if L or U has more entries than its room.
use mathlib.Core.Path.{◌≡◌, refl, sym, ap, ◌∙◌}
use mathlib.Core.Bool.{Bool, true, false, cond, true≢false}
use mathlib.Core.List.{List, [], ◌∷◌, ◌++◌, map}
use mathlib.Core.Option.{none, some}
use Prim.Native.Nat.{ℕ, ◌+◌, ◌≤◌}
use native.Mathlib.Omega.{arith}
use lib.Dec.{leb}
use lib.ListN.{length, length-append}
use borrow.Author.Tests.{leb-true, le-leb}
use Rattle.lists.proofs.Bools.{and_both, and_left, and_right}
use Rattle.algebra.specs.Matrix.{Matrix}
use Rattle.sparse.specs.Set.{Set}
use Rattle.sparse.specs.Dense.{nonzeros, columns_from, all_columns, compress}
use Rattle.sparse.proofs.DenseLaws.{columns-length}
use Rattle.elimination.specs.Structural.{Pair}
use Rattle.elimination.specs.Pivots.{Pivot, Dependent, Found, uppers_of, with_pivot, with_dependent, Turn, pair, other, turn, turns}
use Rattle.elimination.specs.Factoring.{schedule, nothing, lowers_of, entries, row_of_turn, fits, first_over, factored, factor_from}
use Rattle.elimination.specs.Overflow.{EntriesFit, Overflows}
use Rattle.elimination.proofs.Turns.{other-either}

-- ---- how many entries

-- the entries of rows are the columns stored
pub entries-stored : (rows : List (List ℕ)) → entries rows ≡ length (compress rows).cols
unfolding entries compress all_columns
entries-stored [] = refl
entries-stored (row ∷ rows) = omega (arith, entries-stored rows, columns-length 0 row, length-append (columns_from 0 row) (all_columns rows))

pub entries-append : (rows more : List (List ℕ)) → entries (rows ++ more) ≡ entries rows + entries more
unfolding entries
entries-append [] more = omega arith
entries-append (row ∷ rows) more = omega (arith, entries-append rows more)

entries-more : {B : Type 0} (row : B → List ℕ) (xs : List B) (y : B) → entries (map row (xs ++ (y ∷ []))) ≡ entries (map row xs) + length (nonzeros (row y))
unfolding entries
entries-more row [] y = omega arith
entries-more row (x ∷ xs) y = omega (arith, entries-more row xs y)

-- ---- they never fall from turn to turn

pub record Grows (f f' : Found) : Type 0 where
  pub L : entries (lowers_of f) ≤ entries (lowers_of f')
  pub U : entries (uppers_of f) ≤ entries (uppers_of f')

lowers-entries : (f : Found) → entries (lowers_of f) ≡ entries (map (λ q. q.lower) f.pivots) + entries (map (λ d. d.lower) f.dependents)
unfolding lowers_of
lowers-entries f = entries-append (map (λ q. q.lower) f.pivots) (map (λ d. d.lower) f.dependents)

one-pivot : (f : Found) (q : Pivot) → Grows f (record { pivots = f.pivots ++ (q ∷ []); dependents = f.dependents })
unfolding uppers_of
one-pivot f q =
    let after : Found = record { pivots = f.pivots ++ (q ∷ []); dependents = f.dependents } in
    record {
      L = omega (arith, lowers-entries f, lowers-entries after, entries-more (λ x. x.lower) f.pivots q);
      U = omega (arith, entries-more (λ x. x.upper) f.pivots q);
    }

one-dependent : (f : Found) (d : Dependent) → Grows f (record { pivots = f.pivots; dependents = f.dependents ++ (d ∷ []) })
unfolding uppers_of
one-dependent f d =
    let after : Found = record { pivots = f.pivots; dependents = f.dependents ++ (d ∷ []) } in
    record { L = omega (arith, lowers-entries f, lowers-entries after, entries-more (λ x. x.lower) f.dependents d); U = omega arith }

module _ (p m : ℕ) (A : Matrix) where
  turn-grows : (f : Found) (t : Turn) → Grows f (turn p m A f t)
  unfolding turn with_pivot with_dependent
  turn-grows f (pair q) = one-pivot f _
  turn-grows f (other i) = other-either p m A f i (Grows f) (one-dependent f _) (λ c. one-pivot f _)

  pub turns-grow : (f : Found) (ts : List Turn) → Grows f (turns p m A f ts)
  unfolding turns
  turns-grow f [] = record { L = omega arith; U = omega arith }
  turns-grow f (t ∷ ts) =
      let a = turn-grows f t in
      let b = turns-grow (turn p m A f t) ts in
      record { L = omega (arith, a.L, b.L); U = omega (arith, a.U, b.U) }

-- ---- the first row that overflows

fits-holds : (roomL roomU : ℕ) (f : Found) → fits roomL roomU f ≡ true → EntriesFit roomL roomU f
unfolding fits
fits-holds roomL roomU f e =
    record {
      L = leb-true (entries (lowers_of f)) roomL (and_left (leb (entries (lowers_of f)) roomL) (leb (entries (uppers_of f)) roomU) e);
      U = leb-true (entries (uppers_of f)) roomU (and_right (leb (entries (lowers_of f)) roomL) (leb (entries (uppers_of f)) roomU) e);
    }

holds_fits : (roomL roomU : ℕ) (f : Found) → EntriesFit roomL roomU f → fits roomL roomU f ≡ true
unfolding fits
holds_fits roomL roomU f h = and_both (leb (entries (lowers_of f)) roomL) (leb (entries (uppers_of f)) roomU) (le-leb (entries (lowers_of f)) roomL h.L) (le-leb (entries (uppers_of f)) roomU h.U)

module _ (p m : ℕ) (A : Matrix) (roomL roomU : ℕ) where
  -- what fits later fitted before
  pub fits-before : (f : Found) (ts : List Turn) → EntriesFit roomL roomU (turns p m A f ts) → EntriesFit roomL roomU f
  fits-before f ts h = let g = turns-grow p m A f ts in record { L = omega (arith, g.L, h.L); U = omega (arith, g.U, h.U) }

  -- where none overflows, the whole fits, and the other way about
  pub none_over : (f : Found) (ts : List Turn) → EntriesFit roomL roomU f → first_over p m A roomL roomU f ts ≡ none → EntriesFit roomL roomU (turns p m A f ts)
  unfolding first_over turns
  none_over f [] h e = h
  none_over f (t ∷ ts) h e = go (fits roomL roomU (turn p m A f t)) refl e (none_over (turn p m A f t) ts)
    where
      go : (b : Bool) → fits roomL roomU (turn p m A f t) ≡ b → cond b (first_over p m A roomL roomU (turn p m A f t) ts) (some (row_of_turn t)) ≡ none
          → (EntriesFit roomL roomU (turn p m A f t) → first_over p m A roomL roomU (turn p m A f t) ts ≡ none → EntriesFit roomL roomU (turns p m A (turn p m A f t) ts)) → EntriesFit roomL roomU (turns p m A (turn p m A f t) ts)
      go true q e ih = ih (fits-holds roomL roomU (turn p m A f t) q) e
      go false q e ih = let z : ◌≡◌ {A = ℕ} 0 1 = cc in absurd (omega arith)

  pub whole-fits : (f : Found) (ts : List Turn) → EntriesFit roomL roomU (turns p m A f ts) → first_over p m A roomL roomU f ts ≡ none
  unfolding first_over turns
  whole-fits f [] h = refl
  whole-fits f (t ∷ ts) h =
      ap (λ (b : Bool). cond b (first_over p m A roomL roomU (turn p m A f t) ts) (some (row_of_turn t))) (holds_fits roomL roomU (turn p m A f t) (fits-before (turn p m A f t) ts h))
      ∙ whole-fits (turn p m A f t) ts h

  pub first-overflows : (f : Found) (ts : List Turn) (i : ℕ) → EntriesFit roomL roomU f → first_over p m A roomL roomU f ts ≡ some i → Overflows p m A roomL roomU f ts i
  unfolding first_over turns
  first-overflows f [] i h e = let z : ◌≡◌ {A = ℕ} 0 1 = cc in absurd (omega arith)
  first-overflows f (t ∷ ts) i h e = go (fits roomL roomU (turn p m A f t)) refl e (first-overflows (turn p m A f t) ts i)
    where
      go : (b : Bool) → fits roomL roomU (turn p m A f t) ≡ b → cond b (first_over p m A roomL roomU (turn p m A f t) ts) (some (row_of_turn t)) ≡ some i
          → (EntriesFit roomL roomU (turn p m A f t) → first_over p m A roomL roomU (turn p m A f t) ts ≡ some i → Overflows p m A roomL roomU (turn p m A f t) ts i) → Overflows p m A roomL roomU f (t ∷ ts) i
      go true q e ih =
          let o = ih (fits-holds roomL roomU (turn p m A f t) q) e in
          record {
            before = t ∷ o.before;
            at = o.at;
            after = o.after;
            split = ap (λ (l : List Turn). t ∷ l) o.split;
            row = o.row;
            fitted = o.fitted;
            over = o.over;
          }
      go false q e ih =
          record {
            before = [];
            at = t;
            after = ts;
            split = refl;
            row = (cc);
            fitted = h;
            over = λ k. true≢false (sym (holds_fits roomL roomU (turn p m A f t) k) ∙ q);
          }

-- ---- of the finished factors

module _ (p n m : ℕ) (A : Matrix) (pairs : List Pair) (roomL roomU : ℕ) where
  abbrev finished : Set
  finished = factor_from p n m A pairs

  at_first : EntriesFit roomL roomU nothing
  unfolding lowers_of uppers_of entries
  at_first = record { L = omega arith; U = omega arith }

  -- 7 is not returned exactly if the factors fit
  pub none-enough : first_over p m A roomL roomU nothing (schedule n pairs) ≡ none → (length finished.L.cols ≤ roomL) × (length finished.U.cols ≤ roomU)
  unfolding factor_from factored
  none-enough e =
      let f : Found = turns p m A nothing (schedule n pairs) in
      let h = none_over p m A roomL roomU nothing (schedule n pairs) at_first e in
      (omega (arith, h.L, entries-stored (lowers_of f)), omega (arith, h.U, entries-stored (uppers_of f)))

  pub enough-none : length finished.L.cols ≤ roomL → length finished.U.cols ≤ roomU → first_over p m A roomL roomU nothing (schedule n pairs) ≡ none
  unfolding factor_from factored
  enough-none l u =
      let f : Found = turns p m A nothing (schedule n pairs) in
      whole-fits p m A roomL roomU nothing (schedule n pairs) (record { L = omega (arith, l, entries-stored (lowers_of f)); U = omega (arith, u, entries-stored (uppers_of f)) })

  -- and otherwise at the first row that overflows
  pub some-overflows : (i : ℕ) → first_over p m A roomL roomU nothing (schedule n pairs) ≡ some i → Overflows p m A roomL roomU nothing (schedule n pairs) i
  some-overflows i e = first-overflows p m A roomL roomU nothing (schedule n pairs) i at_first e
