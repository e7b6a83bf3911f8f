-- Laws of `pieces`: how it goes on at a byte, the first piece as a part of the text, the cut after it, and that the pieces joined again are the text.
use mathlib.Core.Path.{◌≡◌, refl, sym, ap, ◌∙◌}
use mathlib.Core.List.{List, [], ◌∷◌}
use mathlib.Core.Bool.{Bool, true, false, cond}
use Prim.Native.Nat.{ℕ, suc, ◌+◌, ◌≤◌, ◌<◌, zero-le, suc-le-suc}
use native.Mathlib.Nat.{le_of_suc-le-suc, not-suc-le-zero, le_refl, suc_inj}
use native.Mathlib.Numerals.{add-one, one-add}
use native.Mathlib.Omega.{arith}
use lib.ListN.{length, get_or, take, drop, length-drop}
use lib.Seq.{drop-cons, drop-length, drop-drop}
use lib.Dec.{eqb, ltb}
use borrow.Author.Tests.{eq-eqb, ne_eqb, ltb-false}
use Rattle.std.specs.Prelude.{unwrap_or, Some, None}
use Rattle.std.specs.List.{position, position_or_len}
use Rattle.std.proofs.lemmas.List.Recursion.{is_position_or_len}
use Rattle.text_fields.specs.Pieces.{Pieces, last, more, prepend, pieces, first_piece}

pub pieces-hit : (s b : ℕ) (bs : List ℕ) → b ≡ s → pieces s (b ∷ bs) ≡ more [] (pieces s bs)
unfolding pieces
pieces-hit s b bs e = rw (eq-eqb b s e)

pub pieces-miss : (s b : ℕ) (bs : List ℕ) → (b ≡ s → ⊥) → pieces s (b ∷ bs) ≡ prepend b (pieces s bs)
unfolding pieces
pieces-miss s b bs e = rw (ne_eqb b s e)

pub first-prepend : (b : ℕ) (t : Pieces) → first_piece (prepend b t) ≡ b ∷ first_piece t
first-prepend b (last l) = refl
first-prepend b (more l t) = refl

-- the first piece from a place: nothing at the end and at a separator, else one byte more than from the next place
pub first-end : (s : ℕ) (l : List ℕ) (e : ℕ) → e ≡ length l → first_piece (pieces s (drop e l)) ≡ []
unfolding pieces
first-end s l e h = rw (h, drop-length l)

pub first-hit : (s : ℕ) (l : List ℕ) (e : ℕ) → e < length l → get_or l e 0 ≡ s → first_piece (pieces s (drop e l)) ≡ []
first-hit s l e h q = rw (drop-cons l e 0 h, pieces-hit s (get_or l e 0) (drop (suc e) l) q)

pub first-miss : (s : ℕ) (l : List ℕ) (e : ℕ) → e < length l → (get_or l e 0 ≡ s → ⊥) → length (first_piece (pieces s (drop e l))) ≡ suc (length (first_piece (pieces s (drop (e + 1) l))))
first-miss s l e h q =
    rw (add-one e, drop-cons l e 0 h, pieces-miss s (get_or l e 0) (drop (suc e) l) q, first-prepend (get_or l e 0) (pieces s (drop (suc e) l)))

step-le : (b n : ℕ) (p : Pieces) (t : Bool) → length (first_piece p) ≤ n → length (first_piece (cond t (more [] p) (prepend b p))) ≤ suc n
step-le b n p true h = zero-le
step-le b n (last l) false h = suc-le-suc h
step-le b n (more l q) false h = suc-le-suc h

pub first-le : (s : ℕ) (l : List ℕ) → length (first_piece (pieces s l)) ≤ length l
unfolding pieces
first-le s [] = le_refl 0
first-le s (b ∷ bs) = step-le b (length bs) (pieces s bs) (eqb b s) (first-le s bs)

-- its length: how many bytes precede the first separator
first-long : (s : ℕ) (l : List ℕ) → length (first_piece (pieces s l)) ≡ position_or_len (λ b. eqb b s) l
unfolding pieces
first-long s l = is_position_or_len (λ r. length (first_piece (pieces s r))) (λ b. eqb b s) refl (λ b bs. step b (pieces s bs) (eqb b s)) l
  where
    step : (b : ℕ) (p : Pieces) (t : Bool) → length (first_piece (cond t (more [] p) (prepend b p))) ≡ cond t 0 (1 + length (first_piece p))
    step b p true = refl
    step b (last r) false = sym (one-add (length r))
    step b (more r q) false = sym (one-add (length r))

pub first-found : (s : ℕ) (l : List ℕ) → unwrap_or (position (λ b. eqb b s) l) (length l) ≡ length (first_piece (pieces s l))
first-found s l = rw (first-long s l) (go (ltb (position_or_len (λ b. eqb b s) l) (length l)) refl)
  where
    go : (t : Bool) → ltb (position_or_len (λ b. eqb b s) l) (length l) ≡ t → unwrap_or (cond t (Some (position_or_len (λ b. eqb b s) l)) None) (length l) ≡ position_or_len (λ b. eqb b s) l
    go true e = refl
    go false e = omega (arith, ltb-false (position_or_len (λ b. eqb b s) l) (length l) e, first-long s l, first-le s l)

step-prefix : (b : ℕ) (bs : List ℕ) (p : Pieces) (t : Bool) → take (length (first_piece p)) bs ≡ first_piece p
    → take (length (first_piece (cond t (more [] p) (prepend b p)))) (b ∷ bs) ≡ first_piece (cond t (more [] p) (prepend b p))
step-prefix b bs p true h = refl
step-prefix b bs (last l) false h = ap (λ (r : List ℕ). b ∷ r) h
step-prefix b bs (more l q) false h = ap (λ (r : List ℕ). b ∷ r) h

pub first-prefix : (s : ℕ) (l : List ℕ) → take (length (first_piece (pieces s l))) l ≡ first_piece (pieces s l)
unfolding pieces
first-prefix s [] = refl
first-prefix s (b ∷ bs) = step-prefix b bs (pieces s bs) (eqb b s) (first-prefix s bs)

step_cut : (s b : ℕ) (bs : List ℕ) (p : Pieces) (t : Bool) → p ≡ pieces s bs
    → (length (first_piece p) < length bs → p ≡ more (first_piece p) (pieces s (drop (suc (length (first_piece p))) bs)))
    → length (first_piece (cond t (more [] p) (prepend b p))) < suc (length bs)
    → cond t (more [] p) (prepend b p) ≡ more (first_piece (cond t (more [] p) (prepend b p))) (pieces s (drop (suc (length (first_piece (cond t (more [] p) (prepend b p))))) (b ∷ bs)))
step_cut s b bs p true e ih h = ap (more []) e
step_cut s b bs (last l) false e ih h = ap (prepend b) (ih (le_of_suc-le-suc h))
step_cut s b bs (more l q) false e ih h = ap (prepend b) (ih (le_of_suc-le-suc h))

-- the first piece is shorter than the text: a separator ends it, and the rest starts after that
pub pieces-cut : (s : ℕ) (l : List ℕ) → length (first_piece (pieces s l)) < length l → pieces s l ≡ more (first_piece (pieces s l)) (pieces s (drop (suc (length (first_piece (pieces s l)))) l))
unfolding pieces
pieces-cut s [] h = absurd (not-suc-le-zero h)
pieces-cut s (b ∷ bs) h = step_cut s b bs (pieces s bs) (eqb b s) refl (pieces-cut s bs) h

step-whole : (b : ℕ) (bs : List ℕ) (p : Pieces) (t : Bool)
    → (length (first_piece p) ≡ length bs → p ≡ last bs)
    → length (first_piece (cond t (more [] p) (prepend b p))) ≡ suc (length bs)
    → cond t (more [] p) (prepend b p) ≡ last (b ∷ bs)
step-whole b bs p true ih h = absurd (omega arith)
step-whole b bs (last l) false ih h = ap (prepend b) (ih (suc_inj h))
step-whole b bs (more l q) false ih h = ap (prepend b) (ih (suc_inj h))

pub pieces_whole : (s : ℕ) (l : List ℕ) → length (first_piece (pieces s l)) ≡ length l → pieces s l ≡ last l
unfolding pieces
pieces_whole s [] h = refl
pieces_whole s (b ∷ bs) h = step-whole b bs (pieces s bs) (eqb b s) (pieces_whole s bs) h

-- ---- the piece r that `piece` gives at a place, for a caller
module _ (s : ℕ) (l r : List ℕ) (at : ℕ) (h : at ≤ length l) (e : r ≡ first_piece (pieces s (drop at l))) where
  pub piece-end : at + length r ≤ length l
  piece-end = omega (arith, ap length e, first-le s (drop at l), length-drop at l)

  -- it goes to the end: no separator follows it
  pub piece-last : at + length r ≡ length l → pieces s (drop at l) ≡ last r
  piece-last q =
      let long : length (first_piece (pieces s (drop at l))) ≡ length (drop at l) = omega (arith, ap length e, length-drop at l) in
      pieces_whole s (drop at l) long ∙ ap last (sym (ap first_piece (pieces_whole s (drop at l) long)) ∙ sym e)

  -- it ends before: the next piece starts one byte on
  pub piece-more : (next : ℕ) → at + length r < length l → next ≡ at + length r + 1 → pieces s (drop at l) ≡ more r (pieces s (drop next l))
  piece-more next q n =
      let short : length (first_piece (pieces s (drop at l))) < length (drop at l) = omega (arith, ap length e, length-drop at l) in
      let place : at + suc (length (first_piece (pieces s (drop at l)))) ≡ next = omega (arith, ap length e) in
      pieces-cut s (drop at l) short ∙ ap (λ (k : List ℕ). more k (pieces s (drop (suc (length (first_piece (pieces s (drop at l))))) (drop at l)))) (sym e)
      ∙ ap (λ (k : List ℕ). more r (pieces s k)) (drop-drop (suc (length (first_piece (pieces s (drop at l))))) at l ∙ ap (λ (k : ℕ). drop k l) place)
