-- The line for a text in which the values follow the plan, one law for each way out.
use mathlib.Core.Path.{◌≡◌, sym, ap, ◌∙◌, subst}
use mathlib.Core.Bool.{Bool, true, false, cond}
use mathlib.Core.List.{List}
use Prim.Native.Nat.{ℕ, ◌-◌}
use native.Mathlib.Omega.{arith}
use lib.ListN.{length, take, drop, length-drop}
use lib.Seq.{take_all}
use Rattle.limits.specs.Limits.{starts_length}
use Rattle.byte_buffer.specs.Fills.{Fills}
use Rattle.ask.specs.Cut.{is_cut, last_line_number, cut_line}
use Rattle.ask.specs.Ending.{text_end, PlanTextEnds}
use Rattle.ask.specs.Values.{question_in, Added}
use Rattle.ask.specs.Verb.{line_for, text_line}

module _ (t : Bool) (text : List ℕ) (e : ℕ) (ends : PlanTextEnds text e) where
  -- what follows the plan, as a part of the text, and by the definition
  abbrev part : List ℕ
  part = take (length text - e) (drop e text)

  abbrev values : List ℕ
  values = drop (text_end text) text

  follows : part ≡ values
  follows = take_all (length text - e) (drop e text) (omega (arith, length-drop e text)) ∙ ap (λ (k : ℕ). drop k text) ends.end_is

  abbrev line_by : Bool → List ℕ
  line_by c = cond c (cut_line (take (text_end text) text) (last_line_number text)) (line_for t (take (text_end text) text) (take starts_length (question_in values)))

  judged : (c : Bool) → c ≡ is_cut part → line_by c ≡ text_line t text
  unfolding text_line
  judged c h = ap line_by (h ∙ ap is_cut follows)

  module _ (b₀ b : List ℕ) (size : ℕ) where
    pub cut_line_lem : (c : Bool) → c ≡ true → c ≡ is_cut part → (k : ℕ) → k ≡ last_line_number text → Fills b₀ b size (cut_line (take e text) k) → Fills b₀ b size (text_line t text)
    cut_line_lem c q h k l f = subst (Fills b₀ b size) ((λ j. cut_line (take (ends.end_is j) text) (l j)) ∙ ap line_by (sym q) ∙ judged c h) f

    pub whole-line : (c : Bool) → c ≡ false → c ≡ is_cut part → (y₀ y : List ℕ) (count : ℕ) → length y₀ ≡ starts_length → Added y₀ 0 y count (question_in part)
        → Fills b₀ b size (line_for t (take e text) (take count y)) → Fills b₀ b size (text_line t text)
    whole-line c q h y₀ y count long a f =
        subst (Fills b₀ b size)
        ((λ j. line_for t (take (ends.end_is j) text) (kept j))
        ∙ ap line_by (sym q)
        ∙ judged c h) f
      where
        kept : take count y ≡ take starts_length (question_in values)
        kept = a.values ∙ (λ j. take (long j) (question_in (follows j)))
