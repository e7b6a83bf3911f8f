-- What is printed for document 01's plan D, computed byte for byte.
--   D-report     modulus 7 slots 5 words 5 entries 11
--                rank 4 structural 4 L 6 U 7
--                open 5 owner 1
--                totals open 1 closed 4
--   own-owners   open 3 owner 2
--                open 5 owner 0: each open word with its own owner; the last one is a pad, which is nobody's
--   a-refusal    refused 4 at 6
--   D-open       open 0 0 0 0 5: the answer to the question (0,0,0,0,1)
--   D-closed     closed 3 2 1 1 0: the answer to the question (1,0,0,0,0)
--   D-words      words 4 3 0 0 4: the answer to the slot values (1,2,4,3,5)
--   D-contradiction   contradiction 5 6 1 0 0: the answer to the slot values (1,2,5,3,5)
--   D-free       free 1: one column of D is free
--   D-setting    setting 3 2 1 1 0: its setting
--   no-slots     open: an open answer where the plan has no slots
--   ten-digits   refused 4294967295 at 10: a number of ten digits
use mathlib.Core.Path.{◌≡◌, refl}
use mathlib.Core.Bool.{true, false}
use mathlib.Core.List.{[], ◌∷◌, ◌++◌, flatten}
use Rattle.lists.specs.Tests.{count}
use Rattle.text_fields.specs.Decimal.{decimal_in, decimal}
use Rattle.print_text.specs.declared.lines.Summary.{Summary}
use Rattle.print_text.specs.Lines.{labelled, sizes_line, rank_line, open_line, word_line, open_lines, open_count, closed_count, totals_line}
use Rattle.print_text.specs.Report.{report_text, refusal_text}
use Rattle.print_text.specs.Answer.{values_text, values_line, answer_text, slots_text}
use Rattle.print_text.specs.Settings.{free_line, setting_line}

abbrev pub summary_d : Summary
summary_d = record { modulus = 7; slots = 5; words = 5; entries = 11; rank = 4; structural = 4; lower = 6; upper = 7 }

pub D-report : report_text summary_d (1 ∷ 1 ∷ 1 ∷ 1 ∷ 1 ∷ []) (0 ∷ 0 ∷ 0 ∷ 0 ∷ 1 ∷ [])
    ≡ (109 ∷ 111 ∷ 100 ∷ 117 ∷ 108 ∷ 117 ∷ 115 ∷ 32 ∷ 55 ∷ 32 ∷ 115 ∷ 108 ∷ 111 ∷ 116 ∷ 115 ∷ 32 ∷ 53 ∷ 32 ∷ 119 ∷ 111 ∷ 114 ∷ 100 ∷ 115 ∷ 32 ∷ 53 ∷ 32 ∷ 101 ∷ 110 ∷ 116 ∷ 114 ∷ 105 ∷ 101 ∷ 115 ∷ 32 ∷ 49 ∷ 49 ∷ 10 ∷ [])
    ++ ((114 ∷ 97 ∷ 110 ∷ 107 ∷ 32 ∷ 52 ∷ 32 ∷ 115 ∷ 116 ∷ 114 ∷ 117 ∷ 99 ∷ 116 ∷ 117 ∷ 114 ∷ 97 ∷ 108 ∷ 32 ∷ 52 ∷ 32 ∷ 76 ∷ 32 ∷ 54 ∷ 32 ∷ 85 ∷ 32 ∷ 55 ∷ 10 ∷ [])
    ++ ((111 ∷ 112 ∷ 101 ∷ 110 ∷ 32 ∷ 53 ∷ 32 ∷ 111 ∷ 119 ∷ 110 ∷ 101 ∷ 114 ∷ 32 ∷ 49 ∷ 10 ∷ [])
    ++ (116 ∷ 111 ∷ 116 ∷ 97 ∷ 108 ∷ 115 ∷ 32 ∷ 111 ∷ 112 ∷ 101 ∷ 110 ∷ 32 ∷ 49 ∷ 32 ∷ 99 ∷ 108 ∷ 111 ∷ 115 ∷ 101 ∷ 100 ∷ 32 ∷ 52 ∷ 10 ∷ [])))
unfolding report_text sizes_line rank_line open_lines word_line open_line totals_line open_count closed_count count flatten labelled decimal decimal_in
D-report = refl

pub own-owners : open_lines 0 (1 ∷ 1 ∷ 2 ∷ 2 ∷ 0 ∷ []) (0 ∷ 0 ∷ 1 ∷ 0 ∷ 1 ∷ [])
    ≡ (111 ∷ 112 ∷ 101 ∷ 110 ∷ 32 ∷ 51 ∷ 32 ∷ 111 ∷ 119 ∷ 110 ∷ 101 ∷ 114 ∷ 32 ∷ 50 ∷ 10 ∷ [])
    ++ (111 ∷ 112 ∷ 101 ∷ 110 ∷ 32 ∷ 53 ∷ 32 ∷ 111 ∷ 119 ∷ 110 ∷ 101 ∷ 114 ∷ 32 ∷ 48 ∷ 10 ∷ [])
unfolding open_lines word_line open_line flatten labelled decimal decimal_in
own-owners = refl

pub a-refusal : refusal_text 4 6 ≡ 114 ∷ 101 ∷ 102 ∷ 117 ∷ 115 ∷ 101 ∷ 100 ∷ 32 ∷ 52 ∷ 32 ∷ 97 ∷ 116 ∷ 32 ∷ 54 ∷ 10 ∷ []
unfolding refusal_text flatten labelled decimal decimal_in
a-refusal = refl

pub D-open : answer_text true (0 ∷ 0 ∷ 0 ∷ 0 ∷ 5 ∷ []) (0 ∷ 0 ∷ 0 ∷ 0 ∷ 0 ∷ []) ≡ 111 ∷ 112 ∷ 101 ∷ 110 ∷ 32 ∷ 48 ∷ 32 ∷ 48 ∷ 32 ∷ 48 ∷ 32 ∷ 48 ∷ 32 ∷ 53 ∷ 10 ∷ []
unfolding values_line values_text flatten labelled decimal decimal_in
D-open = refl

pub D-closed : answer_text false (0 ∷ 0 ∷ 0 ∷ 0 ∷ 0 ∷ []) (3 ∷ 2 ∷ 1 ∷ 1 ∷ 0 ∷ []) ≡ 99 ∷ 108 ∷ 111 ∷ 115 ∷ 101 ∷ 100 ∷ 32 ∷ 51 ∷ 32 ∷ 50 ∷ 32 ∷ 49 ∷ 32 ∷ 49 ∷ 32 ∷ 48 ∷ 10 ∷ []
unfolding values_line values_text flatten labelled decimal decimal_in
D-closed = refl

pub D-words : slots_text true (4 ∷ 3 ∷ 0 ∷ 0 ∷ 4 ∷ []) (0 ∷ 0 ∷ 0 ∷ 0 ∷ 0 ∷ []) ≡ 119 ∷ 111 ∷ 114 ∷ 100 ∷ 115 ∷ 32 ∷ 52 ∷ 32 ∷ 51 ∷ 32 ∷ 48 ∷ 32 ∷ 48 ∷ 32 ∷ 52 ∷ 10 ∷ []
unfolding values_line values_text flatten labelled decimal decimal_in
D-words = refl

pub D-contradiction : slots_text false (0 ∷ 0 ∷ 0 ∷ 0 ∷ 0 ∷ []) (5 ∷ 6 ∷ 1 ∷ 0 ∷ 0 ∷ [])
    ≡ 99 ∷ 111 ∷ 110 ∷ 116 ∷ 114 ∷ 97 ∷ 100 ∷ 105 ∷ 99 ∷ 116 ∷ 105 ∷ 111 ∷ 110 ∷ 32 ∷ 53 ∷ 32 ∷ 54 ∷ 32 ∷ 49 ∷ 32 ∷ 48 ∷ 32 ∷ 48 ∷ 10 ∷ []
unfolding values_line values_text flatten labelled decimal decimal_in
D-contradiction = refl

pub D-free : free_line 1 ≡ 102 ∷ 114 ∷ 101 ∷ 101 ∷ 32 ∷ 49 ∷ 10 ∷ []
unfolding values_line values_text flatten labelled decimal decimal_in
D-free = refl

pub D-setting : setting_line (3 ∷ 2 ∷ 1 ∷ 1 ∷ 0 ∷ []) ≡ 115 ∷ 101 ∷ 116 ∷ 116 ∷ 105 ∷ 110 ∷ 103 ∷ 32 ∷ 51 ∷ 32 ∷ 50 ∷ 32 ∷ 49 ∷ 32 ∷ 49 ∷ 32 ∷ 48 ∷ 10 ∷ []
unfolding values_line values_text flatten labelled decimal decimal_in
D-setting = refl

pub no-slots : answer_text true [] (0 ∷ []) ≡ 111 ∷ 112 ∷ 101 ∷ 110 ∷ 10 ∷ []
unfolding values_line values_text flatten labelled decimal decimal_in
no-slots = refl

pub ten-digits : refusal_text 4294967295 10 ≡ 114 ∷ 101 ∷ 102 ∷ 117 ∷ 115 ∷ 101 ∷ 100 ∷ 32 ∷ 52 ∷ 50 ∷ 57 ∷ 52 ∷ 57 ∷ 54 ∷ 55 ∷ 50 ∷ 57 ∷ 53 ∷ 32 ∷ 97 ∷ 116 ∷ 32 ∷ 49 ∷ 48 ∷ 10 ∷ []
unfolding refusal_text flatten labelled decimal decimal_in
ten-digits = refl
