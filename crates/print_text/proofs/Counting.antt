-- The totals: each word is counted once, as open or as closed, and they are the last line of a report.
--   counts-sum     the open words and the closed ones are together all words
--   totals-last    a report is its other lines, then the totals
use mathlib.Core.Path.{◌≡◌, refl, sym, ap, ◌∙◌}
use mathlib.Core.Bool.{Bool, cond}
use Rattle.std.specs.Prelude.{count_by}
use Rattle.std.proofs.lemmas.List.Sums.{sum_by-cons}
use mathlib.Core.List.{List, [], ◌∷◌, ◌++◌, flatten, append_assoc, append-nil}
use Prim.Native.Nat.{ℕ, zero, suc, ◌+◌, ◌-◌, ◌≤◌}
use native.Mathlib.Omega.{arith}
use lib.Dec.{eqb}
use lib.ListN.{length, get_or}
use Rattle.lists.specs.Tests.{count}
use Rattle.lists.proofs.Tests.{count-both}
use Rattle.print_text.specs.declared.lines.Summary.{Summary}
use Rattle.print_text.specs.Lines.{sizes_line, rank_line, open_lines, open_count, closed_count, totals_line}
use Rattle.print_text.specs.Report.{report_text}

pub counts-sum : (cells : List ℕ) → open_count cells + closed_count cells ≡ length cells
unfolding open_count closed_count
counts-sum cells = count-both (length cells) (λ j. eqb (get_or cells j 0) 1)

abbrev pub other_lines : Summary → (owners cells : List ℕ) → List ℕ
other_lines s owners cells = flatten (sizes_line s ∷ rank_line s ∷ open_lines 0 owners cells ∷ [])

pub totals-last : (s : Summary) (owners cells : List ℕ) → report_text s owners cells ≡ other_lines s owners cells ++ totals_line cells
unfolding report_text flatten
totals-last s owners cells = let opened = open_lines 0 owners cells in
    ap (λ (l : List ℕ). sizes_line s ++ (rank_line s ++ l))
    (ap (λ (l : List ℕ). opened ++ l) (append-nil (totals_line cells)) ∙ sym (ap (λ (l : List ℕ). l ++ totals_line cells) (append-nil opened)))
    ∙ sym (ap (λ (l : List ℕ). sizes_line s ++ l) (append_assoc (rank_line s) (opened ++ []) (totals_line cells)))
    ∙ sym (append_assoc (sizes_line s) (rank_line s ++ (opened ++ [])) (totals_line cells))

-- what the code takes for the closed words: those that are left
pub closed-left : (cells : List ℕ) (k : ℕ) → k ≡ open_count cells → length cells - k ≡ closed_count cells
closed-left cells k e = omega (arith, counts-sum cells)

pub few-open : (cells : List ℕ) (k : ℕ) → k ≡ open_count cells → k ≤ length cells
few-open cells k e = omega (arith, counts-sum cells)

-- ---- the open ones, counted along the list

count-front : (n : ℕ) (t : ℕ → Bool) → count (suc n) t ≡ cond (t 0) 1 0 + count n (λ i. t (suc i))
unfolding count
count-front zero t = omega arith
count-front (suc n) t = omega (arith, count-front n t)

count-along : (p : ℕ → Bool) (xs : List ℕ) → count_by p xs ≡ count (length xs) (λ j. p (get_or xs j 0))
unfolding count
count-along p [] = refl
count-along p (x ∷ xs) = sum_by-cons (λ y. cond (p y) 1 0) x xs ∙ ap (λ (n : ℕ). cond (p x) 1 0 + n) (count-along p xs) ∙ sym (count-front (length xs) (λ j. p (get_or (x ∷ xs) j 0)))

pub open-along : (cells : List ℕ) → count_by (λ x. eqb x 1) cells ≡ open_count cells
unfolding open_count
open-along cells = count-along (λ x. eqb x 1) cells
