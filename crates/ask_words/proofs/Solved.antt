-- The line that is written for an answer to slot values is the line of what the call gives.
use mathlib.Core.Path.{◌≡◌, refl, ap, ◌∙◌, subst}
use mathlib.Core.Bool.{true, false}
use mathlib.Core.List.{List, ◌++◌}
use Prim.Native.Nat.{ℕ, ◌≤◌}
use native.Mathlib.Omega.{arith}
use lib.ListN.{length, take, drop}
use lib.Seq.{length-take-le, take_at}
use Rattle.lists.specs.Filled.{filled}
use Rattle.lists.proofs.Filled.{filled-whole}
use Rattle.refusals.specs.Refusals.{detail_of}
use Rattle.refusals.specs.Outcome.{Outcome}
use Rattle.algebra.specs.Matrix.{vector}
use Rattle.sparse.specs.Matrix.{Compressed}
use Rattle.sparse.specs.Set.{Set, Storage}
use Rattle.column_space.specs.Slots.{SlotSolution, solve_slots}
use Rattle.column_space.specs.declared.SlotVerdict.{SlotVerdict}
use Rattle.column_space.proofs.Solutions.{solve-slots-lengths}
use Rattle.limits.specs.Limits.{work_length}
use Rattle.call_check.specs.Calls.{check_factors_of}
use Rattle.call_slots.specs.Calls.{SlotsGiven, solution_of, slots_after, slots_given, slots_factors_of, Solves}
use Rattle.call_slots.specs.Solution.{Solution}
use Rattle.print_text.specs.Answer.{slots_line, slots_text}
use Rattle.text_plan.specs.Held.{held_plan}
use Rattle.stages.specs.Staged.{held_set}
use Rattle.stages.specs.Results.{Stages}
use Rattle.ask_lib.proofs.Answered.{x-part, z-part}
use Rattle.ask_words.specs.Solving.{is_solved, solution_line}
use Rattle.ask_words.specs.Held.{solution_line_of, held_slots, SlotsHeld}
use Rattle.ask_words.specs.Needs.{Solvable}
use Rattle.ask_words.proofs.Details.{slots_small}

-- ---- the line

module _ (n m : ℕ) (a : SlotSolution) (long : length a.s ≡ m) (wide : length a.w ≡ n) where
  verdict-line : (v : SlotVerdict) → solution_line_of (solution_of v) (filled m a.s) (filled n a.w) ≡ slots_text (is_solved (solution_of v)) a.s a.w
  verdict-line SlotVerdict.Solved = ap (slots_line true) (filled-whole m a.s long)
  verdict-line SlotVerdict.Contradiction = ap (slots_line false) (filled-whole n a.w wide)

  given-line : (o : Outcome) → solution_line_of (slots_given o a).answer (filled m (slots_given o a).s) (filled n (slots_given o a).w) ≡ solution_line (slots_given o a)
  unfolding solution_line
  given-line Outcome.Passed = verdict-line a.verdict
  given-line (Outcome.Refused k d) = refl

given-detail : (o : Outcome) (a : SlotSolution) → detail_of (slots_given o a).outcome ≡ detail_of o
given-detail Outcome.Passed a = refl
given-detail (Outcome.Refused k d) a = refl

module _ (p n m : ℕ) (A : Compressed) (s : Set) (h : List ℕ) where
  abbrev outcome : Outcome
  outcome = slots_after (check_factors_of p n m A s work_length) p n m m h m n

  factors-line : let g = slots_factors_of p n m m A s h m n work_length in solution_line_of g.answer (filled m g.s) (filled n g.w) ≡ solution_line g
  unfolding slots_factors_of
  factors-line = let (long, wide) = solve-slots-lengths p n m s (vector h) in given-line n m (solve_slots p n m s (vector h)) long wide outcome

  factors-detail : (k : ℕ) → n ≤ k → length h ≤ k → detail_of (slots_factors_of p n m m A s h m n work_length).outcome ≤ k
  unfolding slots_factors_of
  factors-detail k rows few = omega (arith, given-detail outcome (solve_slots p n m s (vector h)), slots_small k p n m A s rows h m m n work_length few)

-- ---- the call on beginnings of the setting and the combination

module _ (s : Stages) (A : Compressed) (ow : List ℕ) (l : Storage) (h st w : List ℕ) (d : Solvable s A ow l h st w) where
  abbrev p : ℕ
  p = s.reading.p

  abbrev n : ℕ
  n = s.reading.n

  abbrev m : ℕ
  m = s.reading.m

  abbrev plan : Compressed
  plan = held_plan s.reading A

  abbrev set : Set
  set = held_set s l

  pub owners-fit : m ≤ length ow
  owners-fit = omega (arith, d.lists.columns-small, d.owners-length)

  owners-part : length (take m ow) ≡ m
  owners-part = length-take-le m ow owners-fit

  st-part : length (take m st) ≡ m
  st-part = z-part s A l h w st d.lists

  w_part : length (take n w) ≡ n
  w_part = x-part s A l h w st d.lists

  module _ (r : Solution) (st' w' v' : List ℕ) (st-same : length st' ≡ length (take m st)) (w-same : length w' ≡ length (take n w))
      (got : Solves (slots_factors_of p n m (length (take m ow)) plan set h (length (take m st)) (length (take n w)) (length l.work)) r (take m st) st' (take n w) w' l.work v') where
    held : Solves (held_slots s A l h) r (take m st) st' (take n w) w' l.work v'
    held =
        subst (λ (g : SlotsGiven). Solves g r (take m st) st' (take n w) w' l.work v')
        (λ t. slots_factors_of p n m (owners-part t) plan set h (st-part t) (w_part t) (d.lists.work-length t)) got

    st-cut : take m (st' ++ drop m st) ≡ st'
    st-cut = take_at st' (drop m st) m (st-same ∙ st-part)

    w-cut : take n (w' ++ drop n w) ≡ w'
    w-cut = take_at w' (drop n w) n (w-same ∙ w_part)

    the-line : solution_line_of r (take m (st' ++ drop m st)) (take n (w' ++ drop n w)) ≡ solution_line (held_slots s A l h)
    the-line =
        let g = held_slots s A l h in
        (λ t. solution_line_of (held.answer t) ((st-cut ∙ held.s-is ∙ ap (λ (k : ℕ). filled k g.s) st-part) t) ((w-cut ∙ held.w-is ∙ ap (λ (k : ℕ). filled k g.w) w_part) t))
        ∙ factors-line p n m plan set h

    pub solved : SlotsHeld (held_slots s A l h) r n m (st' ++ drop m st) (w' ++ drop n w) l.work v'
    solved =
        record {
          line-is = the-line;
          detail-small = omega (arith, held.detail, factors-detail p n m plan set h 2049 (omega (arith, d.lists.rows-small)) d.lists.few);
          cleared = held.cleared;
        }
