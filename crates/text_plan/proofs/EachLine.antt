-- One line of a text and the next: what the loops over the lines share, whether they read triples that rise or collect them.
use mathlib.Core.Path.{◌≡◌, refl, sym, ap, ◌∙◌}
use mathlib.Core.List.{List, [], ◌∷◌}
use mathlib.Core.Bool.{Bool, true, false, cond}
use Prim.Native.Nat.{ℕ, ◌+◌, ◌≤◌}
use native.Mathlib.Nat.{le_of_eq}
use native.Mathlib.Omega.{arith}
use lib.ListN.{drop_of_length-le, length, drop, length-drop}
use lib.Dec.{eqb}
use Rattle.text_fields.specs.Pieces.{Pieces, last, more, prepend, pieces}
use Rattle.text_fields.proofs.Cuts.{piece-end, piece-last, piece-more}
use Rattle.text_lines.specs.Line.{line_at, line_end, Ends}
use Rattle.text_lines.specs.declared.Place.{Place}
use Rattle.text_judge.specs.declared.judge.Sizes.{Sizes}
use Rattle.text_opening.specs.Reading.{Entry, refused, accepted, ending}
use Rattle.text_opening.specs.Opening.{Limits}

-- nothing follows the last line
pub ending-none : (s : Sizes) (k : ℕ) (seen : List Entry) (text : List ℕ) (at : ℕ) → at ≡ length text → ending s k seen (pieces 10 (drop at text)) ≡ accepted s seen
unfolding pieces
ending-none s k seen text at h = rw (drop_of_length-le text (le_of_eq (sym h)))

-- something follows the last line
ending-more : (s : Sizes) (k : ℕ) (seen : List Entry) (l : List ℕ) → (length l ≡ 0 → ⊥) → ending s k seen (pieces 10 l) ≡ refused 3 k
unfolding pieces
ending-more s k seen [] h = absurd (h refl)
ending-more s k seen (b ∷ bs) h = go (eqb b 10) (pieces 10 bs)
  where
    go : (t : Bool) (p : Pieces) → ending s k seen (cond t (more [] p) (prepend b p)) ≡ refused 3 k
    go true p = refl
    go false (last l) = refl
    go false (more l q) = refl

pub ending-some : (s : Sizes) (k : ℕ) (seen : List Entry) (text : List ℕ) (at : ℕ) → at ≤ length text → (at ≡ length text → ⊥) → ending s k seen (pieces 10 (drop at text)) ≡ refused 3 k
ending-some s k seen text at h n = ending-more s k seen (drop at text) (λ q. n (omega (arith, length-drop at text)))

-- the text ends where a line should begin
pub no_lines : (text : List ℕ) (at : ℕ) → length text ≤ at → pieces 10 (drop at text) ≡ last []
unfolding pieces
no_lines text at h = rw (drop_of_length-le text h)

module _ {text : List ℕ} {s : Sizes} {here : Place} (limits : Limits text s here) {l : List ℕ} (e : l ≡ line_at text here.at) where
  pub line-end : here.at + length l ≤ length text
  line-end = piece-end 10 text l here.at limits.place e

  -- the line has no line feed
  pub last_line : here.at + length l ≡ length text → pieces 10 (drop here.at text) ≡ last l
  last_line h = piece-last 10 text l here.at limits.place e h

  -- it has one, and so a next line
  pub has-feed : (here.at + length l ≡ length text → ⊥) → Ends text here.at here.line (length l)
  has-feed h = record { size_is = ap length e; feed = omega (arith, line-end, h); numbered = omega (arith, limits.numbered, limits.place, limits.short) }

  module _ (ends : Ends text here.at here.line (length l)) (next : Place) (follows : (next.at ≡ line_end text here.at + 1) × (next.line ≡ here.line + 1)) where
    pub next_place : next.at ≡ here.at + length l + 1
    next_place = follows.0 ∙ ap (λ (x : List ℕ). here.at + length x + 1) (sym e)

    pub line-more : pieces 10 (drop here.at text) ≡ more l (pieces 10 (drop next.at text))
    line-more = piece-more 10 text l here.at limits.place e next.at ends.feed next_place

    pub next-limits : Limits text s next
    next-limits = record {
      place = omega (arith, next_place, ends.feed);
      numbered = omega (arith, next_place, follows.1, limits.numbered);
      short = limits.short;
      modulus = limits.modulus;
      n-limit = limits.n-limit;
      m-limit = limits.m-limit;
    }
