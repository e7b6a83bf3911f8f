-- The entry count of a well-formed matrix is its last row start, so it is below every bound of the row starts.
use mathlib.Core.Path.{◌≡◌, subst}
use mathlib.Core.Bool.{true, false≢true}
use mathlib.Core.List.{List, [], ◌∷◌}
use Prim.Native.Nat.{ℕ, ◌<◌}
use native.Mathlib.Omega.{arith}
use lib.Dec.{eqb, leb}
use lib.ListN.{length}
use borrow.Author.Tests.{eqb-true}
use Rattle.lists.proofs.Bools.{and_left, and_right}
use Rattle.sparse.specs.Form.{starts_from, starts_ok, well_formed}
use Rattle.sparse.specs.Matrix.{Compressed, form}
use Rattle.sparse.specs.Row.{Below}
use Rattle.sparse.proofs.Bounds.{below-tail}

last-below : (b count from : ℕ) (ss : List ℕ) → starts_from count from ss ≡ true → from < b → Below b ss → count < b
unfolding starts_from
last-below b count from [] e h g = subst (λ (x : ℕ). x < b) (eqb-true from count e) h
last-below b count from (s ∷ ss) e h g = last-below b count s ss (and_right (leb from s) (starts_from count s ss) e) (g 0 (omega arith)) (below-tail b s ss g)

count-below : (b count : ℕ) (ss : List ℕ) → starts_ok count ss ≡ true → Below b ss → count < b
unfolding starts_ok
count-below b count [] e g = absurd (false≢true e)
count-below b count (s ∷ ss) e g =
    let h : 0 < b = omega (arith, g 0 (omega arith)) in
    last-below b count 0 ss (and_right (eqb s 0) (starts_from count 0 ss) e) h (below-tail b s ss g)

pub entries_below : (b p width : ℕ) (h : Compressed) → form p width h ≡ true → Below b h.starts → length h.cols < b
unfolding well_formed
entries_below b p width h e g = count-below b (length h.cols) h.starts (and_left (starts_ok (length h.cols) h.starts) _ e) g
