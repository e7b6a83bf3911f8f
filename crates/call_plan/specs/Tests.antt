-- The tests that every call on a stored plan begins with: 9, then 1, 2 and 8.
--   paired_lengths xs ys       two lists are as long as each other
--   plan_lengths n A           a plan's lists have their lengths: n + 1 starts, as many values as columns
--   set_lengths n m s          a set's lists have theirs: n cells of R, m of C, n + 1 starts of L, r + 1 starts of U, values as columns
--   limits_ok n m A            n, m and the number of entries are within their limits
--   plan_outcome p n m A       1 where p is no modulus that is accepted, 2 where a limit is passed, 8 where the form is broken
--   call_outcome ..            9 where a length is wrong, then the plan
use Rattle.std.specs.Prelude.{ℕ, ◌+◌, Bool, ◌&&◌, List, eqb, leb, length}
use Rattle.refusals.specs.Table.{bad_modulus, over_limit, bad_plan, wrong_length}
use Rattle.refusals.specs.Refusals.{◌▷◌, unless}
use Rattle.refusals.specs.Outcome.{Outcome}
use Rattle.residue.specs.Range.{is_modulus}
use Rattle.sparse.specs.Matrix.{Compressed, form}
use Rattle.sparse.specs.Set.{Set}
use Rattle.limits.specs.Limits.{largest_size, largest_entries}

abbrev pub paired_lengths : List ℕ → List ℕ → Bool
paired_lengths xs ys = eqb (length xs) (length ys)

unfoldable pub plan_lengths : ℕ → Compressed → Bool
plan_lengths n A = eqb (length A.starts) (n + 1) && paired_lengths A.cols A.vals

unfoldable pub set_lengths : ℕ → ℕ → Set → Bool
set_lengths n m s =
    eqb (length s.R) n
    && (eqb (length s.C) m
    && (plan_lengths n s.L
    && plan_lengths s.r s.U))

unfoldable pub limits_ok : ℕ → ℕ → Compressed → Bool
limits_ok n m A = leb n largest_size && (leb m largest_size && leb (length A.cols) largest_entries)

unfoldable pub plan_outcome : (p n m : ℕ) → Compressed → Outcome
plan_outcome p n m A =
    unless (is_modulus p) bad_modulus 0
    ▷ unless (limits_ok n m A) over_limit 0
    ▷ unless (form p m A) bad_plan 0

abbrev pub call_outcome : Bool → (p n m : ℕ) → Compressed → Outcome
call_outcome lengths p n m A = unless (plan_lengths n A && lengths) wrong_length 0 ▷ plan_outcome p n m A
