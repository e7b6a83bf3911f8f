-- What the timed calls on a stored plan give and leave: the library's calls, with the result as one number.
--   rank_if_passed o k           k where the outcome is passed, else 0
--   FactorTimed g z h          z is the rank of g, 0 where it is refused, and the lists h are left as g says
--   CheckTimed g z work        z is the number of the outcome that g makes from the working row's length, and the row is all zero
--   OpenTimed g z marks work   the same of a listing, and the list is left as g says
use Rattle.std.specs.Prelude.{ℕ, ◌≡◌}
use Rattle.refusals.specs.Outcome.{Outcome}
use Rattle.refusals.specs.Outcome.{Passed, Refused}
use Rattle.refusals.specs.Refusals.{number_of}
use Rattle.sparse.specs.Set.{Storage}
use Rattle.sparse.specs.Views.{LentList}
use Rattle.factor_all.specs.Factorization.{Factorization, Leaves}
use Rattle.factor_all.specs.Factored.{Factored}
use Rattle.call_check.specs.Calls.{ChecksIn}
use Rattle.call_open.specs.Calls.{Listed, ListsIn}

abbrev pub rank_if_passed : Outcome → ℕ → ℕ
rank_if_passed Passed k = k
rank_if_passed (Refused number detail) k = 0

pub record FactorTimed (g : Factorization) (z : ℕ) (h : Storage) : Type 0 where
  pub factored : Factored
  pub left : Leaves g factored h
  pub rank : z ≡ rank_if_passed factored.outcome factored.rank

pub record CheckTimed (g : ℕ → Outcome) (z : ℕ) (work : LentList) : Type 0 where
  pub outcome : Outcome
  pub left : ChecksIn g outcome work
  pub number : z ≡ number_of outcome

pub record OpenTimed (g : ℕ → ℕ → Listed) (z : ℕ) (marks work : LentList) : Type 0 where
  pub outcome : Outcome
  pub left : ListsIn g outcome marks work
  pub number : z ≡ number_of outcome
