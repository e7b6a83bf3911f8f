-- The invariant holds of what the whole schedule finds.
use mathlib.Core.Path.{◌≡◌, refl, sym, ap, ◌∙◌, subst}
use mathlib.Core.List.{List, [], ◌∷◌, ◌++◌, map}
use Prim.Native.Nat.{ℕ, suc, ◌<◌}
use native.Mathlib.Omega.{arith}
use lib.ListN.{length, get_or, length-append, get_or-map, get_or-append}
use lib.Seq.{append_snoc, get_or-append_seam}
use Rattle.algebra.specs.Prime.{Prime}
use Rattle.algebra.specs.Matrix.{Matrix}
use Rattle.elimination.specs.Structural.{Pair}
use Rattle.elimination.specs.Pairs.{pair_rows, pair_columns, Pairs}
use Rattle.elimination.specs.Pivots.{Found, columns_of, rank_of, with_pivot, Turn, pair, other, turn, turns}
use Rattle.lists.specs.Rest.{rest}
use Rattle.elimination.specs.Factoring.{schedule, nothing}
use Rattle.algebra.proofs.Listed.{map-append}
use Rattle.algebra.proofs.Completion.{rest-each}
use Rattle.elimination.specs.Invariant.{Invariant}
use Rattle.elimination.proofs.Invariant.{columns-many, nothing-holds}
use Rattle.elimination.proofs.Turns.{other-holds, pair-holds}
use Rattle.elimination.proofs.Pairs.{no_pair}

pub turns-append : (p m : ℕ) (A : Matrix) (f : Found) (ts us : List Turn) → turns p m A f (ts ++ us) ≡ turns p m A (turns p m A f ts) us
unfolding turns
turns-append p m A f [] us = refl
turns-append p m A f (t ∷ ts) us = turns-append p m A (turn p m A f t) ts us

pair-columns : (p m : ℕ) (A : Matrix) (f : Found) (q : Pair) → columns_of (turn p m A f (pair q)) ≡ columns_of f ++ (q.column ∷ [])
unfolding turn with_pivot columns_of
pair-columns p m A f q = map-append (λ x. x.column) f.pivots _

module _ (p n m : ℕ) (A : Matrix) (prime : Prime p) (small : (i j : ℕ) → i < n → j < m → A i j < p) where
  pub others-hold : (f : Found) (xs : List ℕ) → Invariant p n m A f → ((k : ℕ) → k < length xs → get_or xs k 0 < n) → Invariant p n m A (turns p m A f (map other xs))
  unfolding turns
  others-hold f [] v h = v
  others-hold f (x ∷ xs) v h = others-hold (turn p m A f (other x)) xs (other-holds p n m A prime small f v x (h 0 (omega arith))) (λ k l. h (suc k) (omega arith))

  -- the pairs `done` have been taken, and `todo` follow
  pairs-hold : (f : Found) (done todo : List Pair) → Pairs n m A (done ++ todo) → columns_of f ≡ pair_columns done → Invariant p n m A f
      → Invariant p n m A (turns p m A f (map pair todo))
  unfolding turns
  pairs-hold f done [] h e v = v
  pairs-hold f done (q ∷ todo) h e v =
      pairs-hold (turn p m A f (pair q)) (done ++ (q ∷ [])) todo (subst (Pairs n m A) (sym (append_snoc done q todo)) h)
      (pair-columns p m A f q ∙ ap (λ (l : List ℕ). l ++ (q.column ∷ [])) e ∙ sym (map-append (λ x. x.column) done (q ∷ [])))
      (pair-holds p n m A prime small f v q
      (subst (λ (i : ℕ). i < n) row (h.rows.below (length done) within))
      (subst (λ (c : ℕ). c < m) column (h.columns (length done) within))
      (λ z. h.here (length done) within ((λ t. A (row t) (column t)) ∙ z))
      (λ k l. (λ t. A (sym row t) (earlier k l t)) ∙ h.before k (length done) (omega (arith, many)) within))
    where
      all : List Pair
      all = done ++ q ∷ todo

      many : rank_of f ≡ length done
      many = sym (columns-many f) ∙ ap length e ∙ length-columns done
        where
          length-columns : (ps : List Pair) → length (pair_columns ps) ≡ length ps
          length-columns [] = refl
          length-columns (x ∷ ps) = ap suc (length-columns ps)

      within : length done < length all
      within = omega (arith, length-append done (q ∷ todo))

      row : get_or (pair_rows all) (length done) 0 ≡ q.row
      row = get_or-map (λ x. x.row) all (length done) no_pair ∙ ap (λ (x : Pair). x.row) (get_or-append_seam done q todo no_pair)

      column : get_or (pair_columns all) (length done) 0 ≡ q.column
      column = get_or-map (λ x. x.column) all (length done) no_pair ∙ ap (λ (x : Pair). x.column) (get_or-append_seam done q todo no_pair)

      earlier : (k : ℕ) → k < rank_of f → get_or (columns_of f) k 0 ≡ get_or (pair_columns all) k 0
      earlier k l =
          ap (λ (cs : List ℕ). get_or cs k 0) e
          ∙ get_or-map (λ x. x.column) done k no_pair
          ∙ ap (λ (x : Pair). x.column) (sym (get_or-append done (q ∷ todo) no_pair k (omega (arith, many))))
          ∙ sym (get_or-map (λ x. x.column) all k no_pair)

  pub schedule-holds : (ps : List Pair) → Pairs n m A ps → Invariant p n m A (turns p m A nothing (schedule n ps))
  unfolding schedule columns_of
  schedule-holds ps h =
      rw (turns-append p m A nothing (map pair ps) (map other (rest (pair_rows ps) n)))
      (others-hold (turns p m A nothing (map pair ps)) (rest (pair_rows ps) n) (pairs-hold nothing [] ps h refl (nothing-holds p n m A)) (rest-each (pair_rows ps) n))
