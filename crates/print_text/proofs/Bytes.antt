-- Nothing that is printed has a zero byte: in a buffer that is zero past its end it stands before the first zero.
use mathlib.Core.Path.{◌≡◌, refl, ap}
use mathlib.Core.Bool.{Bool, true, false, cond, ◌||◌, true≢false}
use mathlib.Core.List.{List, [], ◌∷◌, ◌++◌, flatten}
use Prim.Native.Nat.{ℕ, zero, suc, ◌+◌, ◌/◌, ◌%◌}
use native.Mathlib.Omega.{arith}
use lib.Dec.{eqb, ltb}
use lib.ListN.{get_or}
use borrow.Author.Tests.{ne_eqb}
use Rattle.lists.specs.Tests.{among}
use Rattle.text_fields.specs.Decimal.{decimal_in, decimal}
use Rattle.print_text.specs.declared.lines.Summary.{Summary}
use Rattle.print_text.specs.Labels.{modulus_label, slots_label, words_label, entries_label, rank_label, structural_label, lower_label, upper_label, open_label, owner_label, totals_label, closed_label, refused_label, at_label}
use Rattle.print_text.specs.Lines.{labelled, sizes_line, rank_line, open_line, word_line, open_lines, open_count, closed_count, totals_line}
use Rattle.print_text.specs.Report.{report_text, refusal_text}

abbrev NoZero : List ℕ → Type 0
NoZero l = among 0 l ≡ false

joined : (xs ys : List ℕ) → NoZero xs → NoZero ys → NoZero (xs ++ ys)
unfolding among
joined [] ys e h = h
joined (x ∷ xs) ys e h = go (eqb 0 x) e (λ q. joined xs ys q h)
  where
    go : (t : Bool) → (t || among 0 xs) ≡ false → (among 0 xs ≡ false → among 0 (xs ++ ys) ≡ false) → (t || among 0 (xs ++ ys)) ≡ false
    go true q ih = absurd (true≢false q)
    go false q ih = ih q

digit : (v : ℕ) → NoZero ((48 + v) ∷ [])
unfolding among
digit v = ap (λ (t : Bool). t || false) (ne_eqb 0 (48 + v) (λ e. omega arith))

digits : (k n : ℕ) → NoZero (decimal_in k n)
unfolding decimal_in among
digits zero n = refl
digits (suc k) n = go (ltb n 10) (decimal_in k (n / 10)) (digits k (n / 10))
  where
    go : (t : Bool) (l : List ℕ) → NoZero l → NoZero (cond t ((48 + n) ∷ []) (l ++ ((48 + n % 10) ∷ [])))
    go true l h = digit n
    go false l h = joined l ((48 + n % 10) ∷ []) h (digit (n % 10))

-- a label and a number, and what follows them on the line
then : (label : List ℕ) (x : ℕ) (rest : List ℕ) → NoZero label → NoZero rest → NoZero (labelled label x ++ rest)
unfolding labelled decimal
then label x rest e = joined (label ++ decimal_in 10 x) rest (joined label (decimal_in 10 x) e (digits 10 x))

sizes : (s : Summary) → NoZero (sizes_line s)
unfolding sizes_line flatten among
sizes s = then modulus_label s.modulus _ refl (then slots_label s.slots _ refl (then words_label s.words _ refl (then entries_label s.entries _ refl refl)))

ranks : (s : Summary) → NoZero (rank_line s)
unfolding rank_line flatten among
ranks s = then rank_label s.rank _ refl (then structural_label s.structural _ refl (then lower_label s.lower _ refl (then upper_label s.upper _ refl refl)))

word : (j owner cell : ℕ) → NoZero (word_line j owner cell)
unfolding word_line open_line flatten among
word j owner cell = go (eqb cell 1)
  where
    go : (t : Bool) → NoZero (cond t (open_line j owner) [])
    go true = then open_label (j + 1) _ refl (then owner_label owner _ refl refl)
    go false = refl

words : (j : ℕ) (owners cells : List ℕ) → NoZero (open_lines j owners cells)
unfolding open_lines among
words j owners [] = refl
words j owners (cell ∷ cells) = joined (word_line j (get_or owners j 0) cell) (open_lines (j + 1) owners cells) (word j (get_or owners j 0) cell) (words (j + 1) owners cells)

totals : (cells : List ℕ) → NoZero (totals_line cells)
unfolding totals_line flatten among
totals cells = then totals_label (open_count cells) _ refl (then closed_label (closed_count cells) _ refl refl)

pub report-bytes : (s : Summary) (owners cells : List ℕ) → among 0 (report_text s owners cells) ≡ false
unfolding report_text flatten among
report-bytes s owners cells =
    joined (sizes_line s) _ (sizes s) (joined (rank_line s) _ (ranks s) (joined (open_lines 0 owners cells) _ (words 0 owners cells) (joined (totals_line cells) [] (totals cells) refl)))

pub refusal-bytes : (k d : ℕ) → among 0 (refusal_text k d) ≡ false
unfolding refusal_text flatten among
refusal-bytes k d = then refused_label k _ refl (then at_label d _ refl refl)
