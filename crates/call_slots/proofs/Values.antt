-- The test of slot values: what passes it, and the number by which it refuses.
use mathlib.Core.Path.{◌≡◌, refl, ap}
use mathlib.Core.Bool.{Bool, true, false}
use mathlib.Core.List.{List, [], ◌∷◌}
use Prim.Native.Nat.{ℕ}
use native.Mathlib.Omega.{arith}
use lib.Dec.{leb, ltb}
use lib.ListN.{length, get_or}
use borrow.Author.Tests.{le-leb, lt-ltb}
use Rattle.lists.specs.Tests.{among, first}
use Rattle.lists.proofs.Tests.{first-all}
use Rattle.refusals.specs.Table.{set_faults, question_too_large}
use Rattle.refusals.specs.Refusals.{unless, number_of}
use Rattle.refusals.specs.Outcome.{Passed}
use Rattle.refusals.proofs.Refusals.{RefusedBy, refused-unless}
use Rattle.sparse.specs.Row.{Below}
use Rattle.row_space.specs.Question.{question_outcome}

-- the place of the first value that is p or more
abbrev large : ℕ → List ℕ → ℕ
large p h = first (length h) (λ j. ltb (get_or h j 0) p)

pub values-hold : (p : ℕ) (h : List ℕ) → Below p h → question_outcome p h ≡ Passed
unfolding question_outcome
values-hold p h small =
    let all : large p h ≡ length h = first-all (length h) (λ j. ltb (get_or h j 0) p) (λ i g. lt-ltb (get_or h i 0) p (small i g)) in
    ap (λ (b : Bool). unless b 15 (large p h)) (le-leb (length h) (large p h) (omega (arith, all)))

pub values-numbers : (p : ℕ) (h : List ℕ) → RefusedBy (question_too_large ∷ []) (question_outcome p h)
unfolding question_outcome among
values-numbers p h = refused-unless (15 ∷ []) (leb (length h) (large p h)) 15 (large p h) refl

pub values-none : (p : ℕ) (h : List ℕ) → among (number_of (question_outcome p h)) set_faults ≡ false
unfolding question_outcome among
values-none p h = go (leb (length h) (large p h)) (large p h)
  where
    go : (b : Bool) (f : ℕ) → among (number_of (unless b 15 f)) set_faults ≡ false
    go true f = refl
    go false f = refl
