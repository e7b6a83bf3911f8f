-- A buffer of 65,536 bytes holds whatever the programs print: a report of at most 2,048 words, a refusal, an answer of at most
-- 2,048 values. `-short`: how long each is at most.
use mathlib.Core.Bool.{Bool, true, false, cond}
use mathlib.Core.List.{List, [], ◌∷◌, ◌++◌, flatten}
use mathlib.Core.Path.{◌≡◌}
use Prim.Native.Nat.{ℕ, zero, suc, ◌+◌, ◌*◌, ◌/◌, ◌%◌, ◌^◌, ◌≤◌, ◌<◌}
use native.Mathlib.Nat.{le_of_suc-le-suc, not-suc-le-zero}
use native.Mathlib.Omega.{arith}
use lib.Dec.{eqb, ltb}
use lib.ListN.{length, get_or, length-append}
use Rattle.text_fields.specs.Decimal.{decimal_in, decimal}
use Rattle.text_fields.proofs.Canonical.{decimal-length, decimal-one, tenth}
use Rattle.print_text.specs.declared.lines.Summary.{Summary}
use Rattle.print_text.specs.Labels.{modulus_label, slots_label, words_label, entries_label, rank_label, structural_label, lower_label, upper_label, open_label, owner_label, totals_label, closed_label, refused_label, at_label, free_word, kernel_word, space}
use Rattle.print_text.specs.Lines.{labelled, sizes_line, rank_line, open_line, word_line, open_lines, open_count, closed_count, totals_line}
use Rattle.print_text.specs.Report.{report_text, refusal_text}
use Rattle.print_text.specs.Answer.{values_text, values_line, verdict_word, answer_line, slots_word, slots_line}
use Rattle.print_text.specs.Settings.{free_line, setting_line}
use Rattle.print_text.specs.Needs.{Printable}

labelled-short : (label : List ℕ) (x : ℕ) → length (labelled label x) ≤ length label + 10
unfolding labelled decimal
labelled-short label x = omega (arith, length-append label (decimal x), decimal-length 10 x)

-- a number below 10 ^ k has at most k digits, however many there is room for
few-digits : (f g n : ℕ) → n < 10 ^ suc f → f ≤ g → length (decimal_in (suc g) n) ≤ suc f
unfolding decimal_in
few-digits zero g n h le = rw (decimal-one g n h) (omega arith)
few-digits (suc f) zero n h le = absurd (not-suc-le-zero le)
few-digits (suc f) (suc g) n h le = go (ltb n 10) (decimal_in (suc g) (n / 10)) (few-digits f g (n / 10) (tenth (suc f) n h) (le_of_suc-le-suc le))
  where
    go : (t : Bool) (l : List ℕ) → length l ≤ suc f → length (cond t ((48 + n) ∷ []) (l ++ ((48 + n % 10) ∷ []))) ≤ suc (suc f)
    go true l h = omega arith
    go false l h = simp length-append (omega arith)

-- the number of a word has at most four
word-number-short : (label : List ℕ) (x : ℕ) → x ≤ 2048 → length (labelled label x) ≤ length label + 4
unfolding labelled decimal
word-number-short label x h = omega (arith, length-append label (decimal x), few-digits 3 9 x (omega arith) (omega arith))

sizes-short : (s : Summary) → length (sizes_line s) ≤ 72
unfolding sizes_line flatten
sizes-short s = simp length-append (omega (arith, labelled-short modulus_label s.modulus, labelled-short slots_label s.slots, labelled-short words_label s.words, labelled-short entries_label s.entries))

rank-short : (s : Summary) → length (rank_line s) ≤ 64
unfolding rank_line flatten
rank-short s = simp length-append (omega (arith, labelled-short rank_label s.rank, labelled-short structural_label s.structural, labelled-short lower_label s.lower, labelled-short upper_label s.upper))

-- 5 + 4 + 7 + 10 + 1 bytes: the word's number has to be counted closely, the owner's need not be, so nothing is asked of the owners
open-short : (j owner : ℕ) → j < 2048 → length (open_line j owner) ≤ 27
unfolding open_line flatten
open-short j owner h = simp length-append (omega (arith, word-number-short open_label (j + 1) (omega arith), labelled-short owner_label owner))

word-short : (j owner cell : ℕ) → j < 2048 → length (word_line j owner cell) ≤ 27
unfolding word_line
word-short j owner cell h = go (eqb cell 1)
  where
    go : (t : Bool) → length (cond t (open_line j owner) []) ≤ 27
    go true = open-short j owner h
    go false = omega arith

lines-short : (j : ℕ) (owners cells : List ℕ) → j + length cells ≤ 2048 → length (open_lines j owners cells) ≤ 27 * length cells
unfolding open_lines
lines-short j owners [] h = omega arith
lines-short j owners (cell ∷ cells) h =
    omega
    (arith, length-append (word_line j (get_or owners j 0) cell) (open_lines (j + 1) owners cells), word-short j (get_or owners j 0) cell (omega arith), lines-short (j + 1) owners cells (omega arith))

totals-short : (cells : List ℕ) → length (totals_line cells) ≤ 41
unfolding totals_line flatten
totals-short cells = simp length-append (omega (arith, labelled-short totals_label (open_count cells), labelled-short closed_label (closed_count cells)))

pub report-short : (s : Summary) (owners cells : List ℕ) → length cells ≤ 2048 → length (report_text s owners cells) ≤ 177 + 27 * length cells
unfolding report_text flatten
report-short s owners cells h = simp length-append (omega (arith, sizes-short s, rank-short s, lines-short 0 owners cells (omega arith), totals-short cells))

pub refusal-short : (k d : ℕ) → length (refusal_text k d) ≤ 33
unfolding refusal_text flatten
refusal-short k d = simp length-append (omega (arith, labelled-short refused_label k, labelled-short at_label d))

values-short : (xs : List ℕ) → length (values_text xs) ≤ 11 * length xs
unfolding values_text
values-short [] = omega arith
values-short (x ∷ xs) = omega (arith, length-append (labelled space x) (values_text xs), labelled-short space x, values-short xs)

line-short : (label xs : List ℕ) → length (values_line label xs) ≤ 1 + length label + 11 * length xs
unfolding values_line flatten
line-short label xs = simp length-append (omega (arith, values-short xs))

-- a label of at most 13 letters
verdict-short : (t : Bool) → length (verdict_word t) ≤ 13
verdict-short true = omega arith
verdict-short false = omega arith

slots-short : (t : Bool) → length (slots_word t) ≤ 13
slots-short true = omega arith
slots-short false = omega arith

pub report-room : (s : Summary) (owners cells out : List ℕ) → length owners ≡ length cells → length cells ≤ 2048 → 65536 ≤ length out → Printable s owners cells out
report-room s owners cells out e h l = record { columns = h; owned = e; room = omega (arith, report-short s owners cells h) }

pub refusal-room : (k d : ℕ) (out : List ℕ) → 65536 ≤ length out → length (refusal_text k d) ≤ length out
refusal-room k d out l = omega (arith, refusal-short k d)

pub line-room : (label xs out : List ℕ) → length label ≤ 13 → length xs ≤ 2048 → 65536 ≤ length out → length (values_line label xs) ≤ length out
line-room label xs out short few l = omega (arith, line-short label xs)

pub answer-room : (t : Bool) (xs out : List ℕ) → length xs ≤ 2048 → 65536 ≤ length out → length (answer_line t xs) ≤ length out
answer-room t xs out few l = line-room (verdict_word t) xs out (verdict-short t) few l

pub slots-room : (t : Bool) (xs out : List ℕ) → length xs ≤ 2048 → 65536 ≤ length out → length (slots_line t xs) ≤ length out
slots-room t xs out few l = line-room (slots_word t) xs out (slots-short t) few l

pub free-room : (k : ℕ) (out : List ℕ) → 65536 ≤ length out → length (free_line k) ≤ length out
free-room k out l = line-room free_word (k ∷ []) out (omega arith) (omega arith) l

pub setting-room : (xs out : List ℕ) → length xs ≤ 2048 → 65536 ≤ length out → length (setting_line xs) ≤ length out
setting-room xs out few l = line-room kernel_word xs out (omega arith) few l
