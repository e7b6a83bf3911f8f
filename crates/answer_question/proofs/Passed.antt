-- A set that the judge passed is ready to answer questions, and a question that passed its test has residues.
use mathlib.Core.Path.{◌≡◌, refl}
use mathlib.Core.Bool.{Bool, true, false}
use mathlib.Core.List.{List}
use Prim.Native.Nat.{ℕ, ◌+◌, ◌<◌}
use native.Mathlib.Omega.{arith}
use lib.Dec.{leb, ltb}
use lib.ListN.{length, get_or}
use borrow.Author.Tests.{leb-true, ltb-true}
use Rattle.lists.specs.Tests.{first}
use Rattle.refusals.specs.Refusals.{unless}
use Rattle.refusals.specs.Outcome.{Passed}
use Rattle.lists.proofs.Tests.{first-before}
use Rattle.algebra.specs.Prime.{Prime}
use Rattle.algebra.specs.Matrix.{vector}
use Rattle.sparse.specs.Row.{Below}
use Rattle.sparse.specs.Matrix.{Compressed, matrix, form}
use Rattle.sparse.specs.Set.{Set}
use Rattle.pluq.specs.Order.{permutation}
use Rattle.pluq.specs.Shape.{lower, upper}
use Rattle.pluq.specs.Judge.{judge, judge_factors}
use Rattle.refusals.proofs.Refusals.{unless-passed}
use Rattle.row_space.specs.Question.{question_outcome}
use Rattle.answer_question.specs.Needs.{SetReady}

pub passed-ready : (p n m : ℕ) (A : Compressed) (s : Set) → Prime p
    → length s.R ≡ n → length s.C ≡ m → length s.L.starts ≡ n + 1 → length s.U.starts ≡ s.r + 1
    → judge p n m A s ≡ Passed → SetReady p n m s
unfolding judge judge_factors
passed-ready p n m A s prime long-R long-C long_L long-U h₁ =
    let (rows, h₂) = unless-passed (permutation s.R) 11 0 _ h₁ in
    let (columns, h₃) = unless-passed (permutation s.C) 11 0 _ h₂ in
    let (r-n, h₄) = unless-passed (leb s.r n) 12 0 _ h₃ in
    let (r-m, h₅) = unless-passed (leb s.r m) 12 0 _ h₄ in
    let (L-form, h₆) = unless-passed (form p s.r s.L) 13 0 _ h₅ in
    let (U-form, h₇) = unless-passed (form p m s.U) 13 0 _ h₆ in
    let (low, h₈) = unless-passed (lower s.r (matrix s.L)) 13 0 _ h₇ in
    let (up, h₉) = unless-passed (upper s.r (vector s.C) (matrix s.U)) 13 0 _ h₈ in
    record {
      prime = prime;
      long-R = long-R;
      long-C = long-C;
      long_L = long_L;
      long-U = long-U;
      rows = rows;
      columns = columns;
      rank-rows = leb-true s.r n r-n;
      rank-columns = leb-true s.r m r-m;
      L-form = L-form;
      U-form = U-form;
      L-shape = low;
      U-shape = up;
    }

pub question-passed : (p : ℕ) (y : List ℕ) → question_outcome p y ≡ Passed → Below p y
unfolding question_outcome
question-passed p y h i g = go (leb (length y) f) refl h
  where
    f : ℕ
    f = first (length y) (λ j. ltb (get_or y j 0) p)

    go : (b : Bool) → leb (length y) f ≡ b → unless b 15 f ≡ Passed → get_or y i 0 < p
    go true e q = ltb-true (get_or y i 0) p (first-before (length y) (λ j. ltb (get_or y j 0) p) i (omega (arith, leb-true (length y) f e)))
    go false e q = absurd (let z : ◌≡◌ {A = ℕ} 0 1 = cc in omega arith)
