-- The calls that list the open columns, in document 01's order of refusals: 9, 1, 2, 8, 10, then 11 to 14.
--   columns_after check m b    the outcome of a call that lists m columns in b cells: 9 for the list, then the check of the set
--   Listed                    what such a call gives: its outcome, and the list
--   listed o l                a refusal with no list, or the list l
--   open_factors_of ..          the open columns from stored factors
--   open_certificate_of ..      the open columns from a certificate
--   Lists g r l₀ l w₀ w       the contract of such a call, or of another that gives a list: its result, with document 01's number and detail, every cell of the list, and the
--                             working row left all zero
--   ListsIn g r list work     the same of a lent list and working row, where g makes what is listed from their lengths
use Rattle.std.specs.Prelude.{ℕ, ◌≡◌, List, [], eqb, length}
use Rattle.lists.specs.Filled.{zeros, filled}
use Rattle.refusals.specs.Table.{wrong_length}
use Rattle.refusals.specs.Refusals.{◌▷◌, unless, number_of, detail_of}
use Rattle.refusals.specs.Outcome.{Outcome}
use Rattle.refusals.specs.Outcome.{Passed, Refused}
use Rattle.sparse.specs.Matrix.{Compressed}
use Rattle.sparse.specs.Set.{Set}
use Rattle.sparse.specs.Views.{LentList, before, after}
use Rattle.row_space.specs.Solve.{open_columns}
use Rattle.certificate.specs.Reading.{set_of_certificate}
use Rattle.call_check.specs.Calls.{check_factors_of, check_certificate_of}

unfoldable pub columns_after : Outcome → (m b : ℕ) → Outcome
columns_after check m b = unless (eqb b m) wrong_length 0 ▷ check

pub record Listed : Type 0 where
  pub outcome : Outcome
  pub list : List ℕ

abbrev pub listed : Outcome → List ℕ → Listed
listed Passed l = record { outcome = Passed; list = l }
listed (Refused number detail) l = record { outcome = Refused number detail; list = [] }

unfoldable pub open_factors_of : (p n m : ℕ) → Compressed → Set → (b w : ℕ) → Listed
open_factors_of p n m A s b w = listed (columns_after (check_factors_of p n m A s w) m b) (open_columns p m s)

unfoldable pub open_certificate_of : (p n m : ℕ) → Compressed → (cert : List ℕ) → (b w : ℕ) → Listed
open_certificate_of p n m A cert b w =
    listed (columns_after (check_certificate_of p n m A cert w) m b) (open_columns p m (set_of_certificate n m cert))

pub record Lists (g : Listed) (r : Outcome) (l₀ l w₀ w : List ℕ) : Type 0 where
  pub outcome : r ≡ g.outcome
  pub number : number_of r ≡ number_of g.outcome
  pub detail : detail_of r ≡ detail_of g.outcome
  pub list-is : l ≡ filled (length l₀) g.list
  pub cleared : w ≡ zeros (length w₀)

abbrev pub ListsIn : (ℕ → ℕ → Listed) → Outcome → (list work : LentList) → Type 0
ListsIn g r list work = Lists (g (length (before list)) (length (before work))) r (before list) (after list) (before work) (after work)
