-- Laws of `begins`.
use mathlib.Core.Path.{◌≡◌, refl, sym, ap}
use mathlib.Core.Bool.{Bool, true, ◌&&◌, false≢true}
use mathlib.Core.List.{List, [], ◌∷◌, ◌++◌}
use Prim.Native.Nat.{ℕ}
use lib.Dec.{eqb}
use lib.ListN.{length, drop}
use borrow.Author.Tests.{eqb-true}
use Rattle.lists.proofs.Bools.{and_left, and_right}
use Rattle.std.specs.List.{starts_with}
use Rattle.certificate.specs.Reading.{begins}

pub begins-is : (xs cert : List ℕ) → begins xs cert ≡ true → cert ≡ xs ++ drop (length xs) cert
unfolding begins
begins-is [] cert e = refl
begins-is (x ∷ xs) [] e = absurd (false≢true e)
begins-is (x ∷ xs) (y ∷ ys) e = λ j. sym (eqb-true x y (and_left (eqb x y) (begins xs ys) e)) j ∷ begins-is xs ys (and_right (eqb x y) (begins xs ys) e) j

-- the library's test
pub begins-starts : (xs s : List ℕ) → starts_with eqb s xs ≡ begins xs s
unfolding begins
begins-starts [] s = refl
begins-starts (x ∷ xs) [] = refl
begins-starts (x ∷ xs) (y ∷ ys) = ap (λ (b : Bool). eqb x y && b) (begins-starts xs ys)
