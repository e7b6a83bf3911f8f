-- The first line `0 0 0` of a text: one law for each step of the loop over lines, and for each way out of it.
--   Walking text at line    the loop before the line at `at`, which has that number: what remains ends where the whole text does
use mathlib.Core.Path.{◌≡◌, refl, sym, ap, ◌∙◌}
use mathlib.Core.Bool.{Bool, true, false, cond}
use mathlib.Core.List.{List, []}
use Prim.Native.Nat.{ℕ, ◌+◌, ◌≤◌, ◌<◌}
use native.Mathlib.Omega.{arith}
use lib.ListN.{length, drop}
use lib.Seq.{drop-length}
use borrow.Author.Tests.{lt-ltb, le-ltb}
use Rattle.limits.specs.Limits.{largest_text}
use Rattle.text_fields.specs.Pieces.{Pieces, last, more, pieces, first_piece}
use Rattle.text_fields.proofs.Cuts.{piece-end, piece-last, piece-more}
use Rattle.text_lines.specs.declared.Place.{Place}
use Rattle.text_owners.specs.Ending.{is_last_line, end_in, lines_in, plan_end, foot_line, EndsIn, PlanEnds}

pub record Walking (text : List ℕ) (at line : ℕ) : Type 0 where
  pub inside : at ≤ length text
  pub numbered : line ≤ at + 1
  pub end_is : at + end_in (pieces 10 (drop at text)) ≡ end_in (pieces 10 text)
  pub line-is : line + lines_in (pieces 10 (drop at text)) ≡ lines_in (pieces 10 text) + 1

pub walking-starts : (text : List ℕ) → Walking text 0 1
walking-starts text = record { inside = omega arith; numbered = omega arith; end_is = omega arith; line-is = omega arith }

-- what a last piece, and one that a line feed ends, say of the end
both-last : (t : Pieces) (r : List ℕ) → t ≡ last r → (end_in t ≡ length r) × (lines_in t ≡ 0)
unfolding end_in lines_in
both-last t r e = (ap end_in e, ap lines_in e)

both-more : (t : Pieces) (r : List ℕ) (rest : Pieces) → t ≡ more r rest → (b : Bool) → b ≡ is_last_line r
    → (end_in t ≡ length r + 1 + cond b 0 (end_in rest)) × (lines_in t ≡ 1 + cond b 0 (lines_in rest))
unfolding end_in lines_in
both-more t r rest e b q = (
  ap end_in e ∙ ap (λ (u : Bool). length r + 1 + cond u 0 (end_in rest)) (sym q),
  ap lines_in e ∙ ap (λ (u : Bool). 1 + cond u 0 (lines_in rest)) (sym q),
)

module _ (text : List ℕ) (at line : ℕ) (w : Walking text at line) where
  abbrev here : Pieces
  here = pieces 10 (drop at text)

  -- no line is left
  pub walking-ends : length text ≤ at → EndsIn text (record { at = at; line = line })
  unfolding pieces
  walking-ends h =
      let e : at ≡ length text = omega (arith, w.inside) in
      let none = both-last here [] (ap (pieces 10) (ap (λ (j : ℕ). drop j text) e ∙ drop-length text)) in
      record { end_is = omega (arith, none, w.end_is); line-is = omega (arith, none, w.line-is); inside = w.inside; numbered = w.numbered }

  module _ (r : List ℕ) (e : r ≡ first_piece (pieces 10 (drop at text))) where
    pub line-inside : at + length r ≤ length text
    line-inside = piece-end 10 text r at w.inside e

    -- the line has no line feed
    pub no-feed : at + length r ≡ length text → EndsIn text (record { at = at + length r; line = line })
    no-feed h =
        let q = both-last here r (piece-last 10 text r at w.inside e h) in
        record { end_is = omega (arith, q, w.end_is); line-is = omega (arith, q, w.line-is); inside = omega (arith, line-inside); numbered = omega (arith, w.numbered) }

    module _ (h : at + length r ≡ length text → ⊥) where
      within : at + length r < length text
      within = omega (arith, line-inside, h)

      cut : here ≡ more r (pieces 10 (drop (at + length r + 1) text))
      cut = piece-more 10 text r at w.inside e (at + length r + 1) within refl

      -- it is `0 0 0`
      pub found : true ≡ is_last_line r → EndsIn text (record { at = at + length r + 1; line = line + 1 })
      found t =
          let q = both-more here r (pieces 10 (drop (at + length r + 1) text)) cut true t in
          record { end_is = omega (arith, q, w.end_is); line-is = omega (arith, q, w.line-is); inside = omega (arith, within); numbered = omega (arith, w.numbered) }

      -- it is another one
      pub walking-turn : false ≡ is_last_line r → Walking text (at + length r + 1) (line + 1)
      walking-turn t =
          let q = both-more here r (pieces 10 (drop (at + length r + 1) text)) cut false t in
          record { inside = omega (arith, within); numbered = omega (arith, w.numbered); end_is = omega (arith, q, w.end_is); line-is = omega (arith, q, w.line-is) }

-- ---- a text above the limit is not looked through
module _ (text : List ℕ) where
  pub ends-whole : largest_text < length text → PlanEnds text (record { at = length text; line = 1 })
  unfolding plan_end foot_line
  ends-whole h =
      let over = sym (lt-ltb largest_text (length text) h) in
      record {
        end_is = ap (λ (b : Bool). cond b (length text) (end_in (pieces 10 text))) over;
        line-is = ap (λ (b : Bool). cond b 1 (lines_in (pieces 10 text) + 1)) over;
        inside = omega arith;
        numbered = omega arith;
      }

  pub ends-within : length text ≤ largest_text → (r : Place) → EndsIn text r → PlanEnds text r
  unfolding plan_end foot_line
  ends-within h r e =
      let short = sym (le-ltb largest_text (length text) h) in
      record {
        end_is = e.end_is ∙ ap (λ (b : Bool). cond b (length text) (end_in (pieces 10 text))) short;
        line-is = e.line-is ∙ ap (λ (b : Bool). cond b 1 (lines_in (pieces 10 text) + 1)) short;
        inside = e.inside;
        numbered = e.numbered;
      }
