-- Where a plan's text ends: one law for each way out of looking for a line of owners, and that the place lies in the text.
use mathlib.Core.Path.{◌≡◌, refl, sym, ap, ◌∙◌}
use mathlib.Core.Bool.{Bool, true, false, cond}
use mathlib.Core.List.{List}
use Prim.Native.Nat.{ℕ, ◌+◌, ◌≤◌}
use native.Mathlib.Omega.{arith}
use lib.Dec.{eqb}
use lib.ListN.{length, drop, length-drop}
use borrow.Author.Tests.{eq-eqb, ne_eqb, eqb-false}
use Rattle.text_fields.specs.Pieces.{pieces, first_piece}
use Rattle.text_fields.proofs.Cuts.{first-le}
use Rattle.text_owners.specs.Ending.{end_in}
use Rattle.text_owners.specs.Owners.{is_owners_word}
use Rattle.ask.specs.Ending.{owners_end, text_end, PlanTextEnds}

-- the bytes of a line l of owners, where w says that it is one and b that it goes to the end
abbrev bytes_of : List ℕ → (w b : Bool) → ℕ
bytes_of l w b = cond w (cond b (length l) (length l + 1)) 0

module _ (foot l : List ℕ) (e : l ≡ first_piece (pieces 10 foot)) where
  first-line : owners_end foot ≡ bytes_of l (is_owners_word (first_piece (pieces 32 l))) (eqb (length l) (length foot))
  unfolding owners_end
  first-line = ap (λ (k : List ℕ). bytes_of k (is_owners_word (first_piece (pieces 32 k))) (eqb (length k) (length foot))) (sym e)

  pub no-owners : false ≡ is_owners_word (first_piece (pieces 32 l)) → 0 ≡ owners_end foot
  no-owners w = sym (first-line ∙ ap (λ (t : Bool). bytes_of l t (eqb (length l) (length foot))) (sym w))

  module _ (w : true ≡ is_owners_word (first_piece (pieces 32 l))) where
    owners-line : owners_end foot ≡ bytes_of l true (eqb (length l) (length foot))
    owners-line = first-line ∙ ap (λ (t : Bool). bytes_of l t (eqb (length l) (length foot))) (sym w)

    pub to_the_end : length l ≡ length foot → length l ≡ owners_end foot
    to_the_end h = sym (owners-line ∙ ap (bytes_of l true) (eq-eqb (length l) (length foot) h))

    pub with-line-feed : (length l ≡ length foot → ⊥) → length l + 1 ≡ owners_end foot
    with-line-feed h = sym (owners-line ∙ ap (bytes_of l true) (ne_eqb (length l) (length foot) h))

owners-inside : (foot : List ℕ) → owners_end foot ≤ length foot
unfolding owners_end
owners-inside foot = go (is_owners_word (first_piece (pieces 32 l))) (eqb (length l) (length foot)) refl
  where
    l : List ℕ
    l = first_piece (pieces 10 foot)

    go : (w b : Bool) → eqb (length l) (length foot) ≡ b → bytes_of l w b ≤ length foot
    go false b h = omega arith
    go true true h = first-le 10 foot
    go true false h = omega (arith, first-le 10 foot, other h)
      where
        other : eqb (length l) (length foot) ≡ false → (length l ≡ length foot → ⊥)
        other q = eqb-false (length l) (length foot) q

pub ends : (text : List ℕ) (at k : ℕ) → at ≡ end_in (pieces 10 text) → at ≤ length text → k ≡ owners_end (drop at text) → PlanTextEnds text (at + k)
unfolding text_end
ends text at k e h q =
    record {
      end_is = ap (λ (j : ℕ). at + j) q ∙ ap (λ (j : ℕ). j + owners_end (drop j text)) e;
      inside = omega (arith, q, owners-inside (drop at text), length-drop at text);
    }
