-- What factoring returns and leaves in every lent list.
--   Factorization               the outcome, the rank, the number of structural pivots, and what is put into the lists
--   refusal k d                 a refusal by the number k with the detail d: no rank, and the lists are cleared
--   done s g                    the set g, with s structural pivots
--   unless_over at g             refusal 7 where `at` is some row, else g
--   factoring_from p n m A ..    factoring from given pairs: refusal 7 at the first row after which L or U has more entries than its room, else their factors
--   factoring p n m A ..        the same from the structural pivots of a stored matrix
--   Leaves g o h                the result o is what g says, with document 01's number and detail, each list of h is filled with what g says, and
--                               the working row is all zero
use Rattle.std.specs.Prelude.{ℕ, ◌≡◌, List, [], length}
use Rattle.std.proofs.Math.Option.{Option, none, some}
use Rattle.lists.specs.Filled.{zeros, filled}
use Rattle.refusals.specs.Table.{storage_too_short}
use Rattle.refusals.specs.Refusals.{number_of, detail_of}
use Rattle.refusals.specs.Outcome.{Outcome}
use Rattle.refusals.specs.Outcome.{Passed, Refused}
use Rattle.algebra.specs.Matrix.{Matrix}
use Rattle.sparse.specs.Matrix.{Compressed, compressed, matrix}
use Rattle.sparse.specs.Set.{Set, Storage}
use Rattle.elimination.specs.Structural.{Pair}
use Rattle.elimination.specs.Selection as rules
use Rattle.elimination.specs.Factoring.{schedule, nothing, factor_from, first_over}
use Rattle.factor_all.specs.Factored.{Factored}

pub record Factorization : Type 0 where
  pub outcome : Outcome
  pub rank : ℕ
  pub structural : ℕ
  pub R : List ℕ
  pub C : List ℕ
  pub L : Compressed
  pub U : Compressed

abbrev pub refusal : ℕ → ℕ → Factorization
refusal k d = record { outcome = Refused k d; rank = 0; structural = 0; R = []; C = []; L = compressed [] [] []; U = compressed [] [] [] }

abbrev pub done : ℕ → Set → Factorization
done s g = record { outcome = Passed; rank = g.r; structural = s; R = g.R; C = g.C; L = g.L; U = g.U }

abbrev pub unless_over : Option ℕ → Factorization → Factorization
unless_over none g = g
unless_over (some i) g = refusal storage_too_short i

unfoldable pub factoring_from : (p n m : ℕ) (A : Matrix) (roomL roomU : ℕ) → List Pair → Factorization
factoring_from p n m A roomL roomU pairs = unless_over (first_over p m A roomL roomU nothing (schedule n pairs)) (done (length pairs) (factor_from p n m A pairs))

unfoldable pub factoring : (p n m : ℕ) (A : Compressed) (roomL roomU : ℕ) → Factorization
factoring p n m A roomL roomU = factoring_from p n m (matrix A) roomL roomU (rules.structural A n m)

pub record Leaves (g : Factorization) (o : Factored) (h : Storage) : Type 0 where
  pub outcome : o.outcome ≡ g.outcome
  pub number : number_of o.outcome ≡ number_of g.outcome
  pub detail : detail_of o.outcome ≡ detail_of g.outcome
  pub rank : o.rank ≡ g.rank
  pub structural : o.structural ≡ g.structural
  pub R : h.R ≡ filled (length h.R) g.R
  pub C : h.C ≡ filled (length h.C) g.C
  pub L-starts : h.L.starts ≡ filled (length h.L.starts) g.L.starts
  pub L-columns : h.L.cols ≡ filled (length h.L.cols) g.L.cols
  pub L-values : h.L.vals ≡ filled (length h.L.vals) g.L.vals
  pub U-starts : h.U.starts ≡ filled (length h.U.starts) g.U.starts
  pub U-columns : h.U.cols ≡ filled (length h.U.cols) g.U.cols
  pub U-values : h.U.vals ≡ filled (length h.U.vals) g.U.vals
  pub work : h.work ≡ zeros (length h.work)
