-- What is true of EVERY set that passes, whoever made it, and of the answer that `solve` gives from it to a question y.
-- A is a stored n by m matrix (document 01's plan), p a prime, s a set with n rows in R and m columns in C that the judge passes,
-- y a list of m residues.
--   product                 A = PLUQ, and s has the published shape
--   rank                    r is the rank of A
--   open-exactly            the verdict is open exactly if some x has x A = y
--   closed-exactly          and closed exactly if none has
--   open-answer             open: x has n residues, x A = y, x is 0 on every row that is no pivot row, and z is all zero
--   open-only               no other list is such an x
--   closed-answer           closed: z has m residues, A z = 0, z is 1 at the lowest column where y reduced by U is not 0,
--                           and 0 at the other columns that are no pivot columns, and x is all zero
--   closed-column           that column is the lowest at which the remainder of y is not 0
--   closed-only             no other list is such a z
--   closed-differs          y z is not 0
--   open-determined         open: two settings that give the same slots give y the same value
--   closed-undetermined     closed: for every setting and every value some setting gives the same slots and gives y that value
--   answer-is               so the verdict, x and z are together the answer that document 01 describes (algebra's `Answer`)
--   answer-only             and no other verdict, x and z are
--   same-verdict            two sets that pass give y the same verdict
--   open-columns            a cell of `open_columns` is 1 exactly if the unit vector of its column is in the row space
--   closed-columns          and 0 exactly if it is not
use mathlib.Core.Path.{◌≡◌, refl, sym, subst, ◌∙◌}
use mathlib.Core.Logic.{◌↔◌}
use mathlib.Core.Bool.{true≢false, false≢true}
use mathlib.Core.List.{List}
use Prim.Native.Nat.{ℕ, ◌<◌}
use native.Mathlib.Omega.{arith}
use lib.ListN.{length, get_or}
use lib.Seq.{ext_get_or}
use Rattle.lists.specs.Filled.{zeros}
use Rattle.refusals.specs.Outcome.{Passed}
use Rattle.lists.proofs.Filled.{zeros-replicate}
use Rattle.algebra.specs.Congruence.{◌≈⟨◌⟩◌}
use Rattle.algebra.specs.Sum.{dot, δ}
use Rattle.algebra.specs.Prime.{Prime}
use Rattle.algebra.specs.Matrix.{vector}
use Rattle.algebra.specs.Rank.{Rank}
use Rattle.algebra.specs.RowSpace.{InRowSpace}
use Rattle.algebra.specs.Factors.{Factors}
use Rattle.algebra.specs.Reduction.{Lowest}
use Rattle.algebra.specs.Answer.{OpenAnswer, ClosedAnswer, Answer, AnswerOpen, AnswerClosed}
use Rattle.algebra.specs.Settings.{Determined, Undetermined}
use Rattle.algebra.proofs.Congruence.{exact, ◌⊙◌}
use Rattle.algebra.proofs.Dot.{dot-eq}
use Rattle.algebra.proofs.Rank as ranks
use Rattle.algebra.proofs.Unique.{open-unique, closed-unique}
use Rattle.algebra.proofs.Verdict as verdicts
use Rattle.algebra.proofs.Answer.{answer-unique, open-right, closed-right, open-tells, closed-tells}
use Rattle.sparse.specs.Matrix.{Compressed, matrix}
use Rattle.sparse.specs.Set.{Set}
use Rattle.pluq.specs.Judge.{judge, Passes}
use Rattle.pluq.proofs.Judged.{judge-sound}
use Rattle.row_space.specs.Solve.{remainder, lowest_of, is_open, Solved, solve, open_columns}
use Rattle.row_space.specs.declared.Verdict.{Verdict}
use Rattle.row_space.specs.declared.Verdict.TheVariants.{Open, Closed}
use Rattle.row_space.proofs.Solutions.{solve-open, solve-closed, solve-answers}
use Rattle.row_space.proofs.UnitQuestions.{unit-open, unit-closed}

module _ {p : ℕ} (prime : Prime p) (n m : ℕ) (A : Compressed) (s : Set) (long-R : length s.R ≡ n) (long-C : length s.C ≡ m) (ok : judge p n m A s ≡ Passed) where
  passes : Passes p n m A s
  passes = judge-sound p n m A s (omega (arith, prime.two)) long-R long-C ok

  pub product : Factors p n m s.r (matrix A) (vector s.R) (vector s.C) (matrix s.L) (matrix s.U)
  product = passes.factors

  pub rank : Rank p n m (matrix A) s.r
  rank = ranks.rank prime product

  module _ (y : List ℕ) (residues : (j : ℕ) → j < m → vector y j < p) where
    abbrev answer : Solved
    answer = solve p n m s (vector y)

    -- the answer with its verdict known
    with-verdict : (v : Verdict) → answer.verdict ≡ v → Answer p n m s.r (matrix A) (vector s.R) (vector s.C) (matrix s.U) y (is_open v) answer.x answer.z
    with-verdict v e =
        subst (λ (v : Verdict). Answer p n m s.r (matrix A) (vector s.R) (vector s.C) (matrix s.U) y (is_open v) answer.x answer.z) e
        (solve-answers prime passes y residues)

    opens : answer.verdict ≡ Open → AnswerOpen p n m s.r (matrix A) (vector s.R) (vector s.C) (matrix s.U) y answer.x answer.z
    opens e = solve-open prime passes y residues e

    closes : answer.verdict ≡ Closed → AnswerClosed p n m s.r (matrix A) (vector s.R) (vector s.C) (matrix s.U) y answer.x answer.z
    closes e = (solve-closed prime passes y residues e).0

    column-is : (e : answer.verdict ≡ Closed) → (closes e).column ≡ lowest_of m (remainder p s (vector y))
    unfolding closes
    column-is e = (solve-closed prime passes y residues e).1

    open_in : answer.verdict ≡ Open → InRowSpace p n m (matrix A) (vector y)
    open_in e = open-right prime product y residues answer.x answer.z (with-verdict Open e)

    closed-out : answer.verdict ≡ Closed → ¬ InRowSpace p n m (matrix A) (vector y)
    closed-out e = closed-right prime product y residues answer.x answer.z (with-verdict Closed e)

    -- ---- the verdict

    pub open-exactly : (answer.verdict ≡ Open) ↔ InRowSpace p n m (matrix A) (vector y)
    open-exactly = (open_in, λ o. go o answer.verdict refl)
      where
        go : InRowSpace p n m (matrix A) (vector y) → (v : Verdict) → answer.verdict ≡ v → v ≡ Open
        go o Open e = refl
        go o Closed e = absurd (closed-out e o)

    pub closed-exactly : (answer.verdict ≡ Closed) ↔ (¬ InRowSpace p n m (matrix A) (vector y))
    closed-exactly = (closed-out, λ none. go none answer.verdict refl)
      where
        go : (¬ InRowSpace p n m (matrix A) (vector y)) → (v : Verdict) → answer.verdict ≡ v → v ≡ Closed
        go none Open e = absurd (none (open_in e))
        go none Closed e = refl

    -- ---- x and z

    pub open-answer : answer.verdict ≡ Open → (length answer.x ≡ n) × OpenAnswer p n m s.r (matrix A) (vector s.R) (vector y) (vector answer.x) × (answer.z ≡ zeros m)
    open-answer e = let a = opens e in (a.length-x, a.x-is, a.z-is ∙ sym (zeros-replicate m))

    pub open-only : answer.verdict ≡ Open → (x : List ℕ) → length x ≡ n → OpenAnswer p n m s.r (matrix A) (vector s.R) (vector y) (vector x) → x ≡ answer.x
    open-only e x long a =
        let b = opens e in
        ext_get_or 0 x answer.x (long ∙ sym b.length-x)
        (λ i h. open-unique prime product (vector y) (vector x) (vector answer.x) a b.x-is i (omega arith))

    pub closed-column : answer.verdict ≡ Closed → Lowest m (remainder p s (vector y)) (lowest_of m (remainder p s (vector y)))
    closed-column e = rw (column-is e) at (closes e).remainder

    at-column : (e : answer.verdict ≡ Closed) → ClosedAnswer p n m s.r (matrix A) (vector s.C) (lowest_of m (remainder p s (vector y))) (vector answer.z)
    at-column e = rw (column-is e) at (closes e).z-is

    pub closed-answer : answer.verdict ≡ Closed
        → (length answer.z ≡ m) × ClosedAnswer p n m s.r (matrix A) (vector s.C) (lowest_of m (remainder p s (vector y))) (vector answer.z) × (answer.x ≡ zeros n)
    closed-answer e = let a = closes e in (a.length-z, at-column e, a.x-is ∙ sym (zeros-replicate n))

    pub closed-only : answer.verdict ≡ Closed → (z : List ℕ) → length z ≡ m → ClosedAnswer p n m s.r (matrix A) (vector s.C) (lowest_of m (remainder p s (vector y))) (vector z) → z ≡ answer.z
    closed-only e z long a =
        let b = closes e in
        ext_get_or 0 z answer.z (long ∙ sym b.length-z)
        (λ i h. closed-unique prime product (lowest_of m (remainder p s (vector y))) (vector z) (vector answer.z) a (at-column e) i (omega arith))

    pub closed-differs : answer.verdict ≡ Closed → ¬ (dot m (vector y) (vector answer.z) ≈⟨ p ⟩ 0)
    closed-differs e h =
        let (z, a, differs) = verdicts.closed-answer prime product (vector y) residues (lowest_of m (remainder p s (vector y))) (closed-column e) in
        differs (exact (dot-eq m {u = vector y} (λ i b. refl) (λ i b. closed-unique prime product (lowest_of m (remainder p s (vector y))) z (vector answer.z) a (at-column e) i b)) ⊙ h)

    -- ---- what a listener learns

    pub open-determined : answer.verdict ≡ Open → Determined p n m (matrix A) (vector y)
    open-determined e = open-tells prime product y residues answer.x answer.z (with-verdict Open e)

    pub closed-undetermined : answer.verdict ≡ Closed → Undetermined p n m (matrix A) (vector y)
    closed-undetermined e = closed-tells prime product y residues answer.x answer.z (with-verdict Closed e)

    -- ---- all of it at once

    pub answer-is : Answer p n m s.r (matrix A) (vector s.R) (vector s.C) (matrix s.U) y (is_open answer.verdict) answer.x answer.z
    answer-is = solve-answers prime passes y residues

    pub answer-only : (v : Verdict) (x z : List ℕ) → Answer p n m s.r (matrix A) (vector s.R) (vector s.C) (matrix s.U) y (is_open v) x z
        → (v ≡ answer.verdict) × (x ≡ answer.x) × (z ≡ answer.z)
    answer-only v x z a =
        let (b, ex, ez) = answer-unique prime product y (is_open v) (is_open answer.verdict) x z answer.x answer.z a answer-is in
        (same v answer.verdict b, ex, ez)
      where
        same : (v w : Verdict) → is_open v ≡ is_open w → v ≡ w
        same Open Open e = refl
        same Open Closed e = absurd (true≢false e)
        same Closed Open e = absurd (false≢true e)
        same Closed Closed e = refl

  -- ---- the unit questions

  pub open-columns : (j : ℕ) → j < m → (get_or (open_columns p m s) j 0 ≡ 1) ↔ InRowSpace p n m (matrix A) (δ j)
  open-columns j h = unit-open prime passes j h

  pub closed-columns : (j : ℕ) → j < m → (get_or (open_columns p m s) j 0 ≡ 0) ↔ (¬ InRowSpace p n m (matrix A) (δ j))
  closed-columns j h = unit-closed prime passes j h

pub same-verdict : {p : ℕ} → Prime p → (n m : ℕ) (A : Compressed) (s s' : Set)
    → length s.R ≡ n → length s.C ≡ m → judge p n m A s ≡ Passed
    → length s'.R ≡ n → length s'.C ≡ m → judge p n m A s' ≡ Passed
    → (y : List ℕ) → ((j : ℕ) → j < m → vector y j < p)
    → (solve p n m s (vector y)).verdict ≡ (solve p n m s' (vector y)).verdict
same-verdict {p} prime n m A s s' lR lC ok lR' lC' ok' y residues = go (solve p n m s (vector y)).verdict refl
  where
    go : (v : Verdict) → (solve p n m s (vector y)).verdict ≡ v → v ≡ (solve p n m s' (vector y)).verdict
    go Open e = sym ((open-exactly prime n m A s' lR' lC' ok' y residues).1 ((open-exactly prime n m A s lR lC ok y residues).0 e))
    go Closed e = sym ((closed-exactly prime n m A s' lR' lC' ok' y residues).1 ((closed-exactly prime n m A s lR lC ok y residues).0 e))
