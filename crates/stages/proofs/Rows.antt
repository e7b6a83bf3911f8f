-- A refusal of factoring names a row of the plan.
use mathlib.Core.Path.{◌≡◌, refl, sym, ap, ◌∙◌, subst}
use mathlib.Core.List.{List, [], ◌∷◌, ◌++◌, map}
use mathlib.Core.Option.{some}
use Prim.Native.Nat.{ℕ, ◌<◌}
use native.Mathlib.Omega.{arith}
use lib.ListN.{length, get_or, length-append, length-map}
use Rattle.algebra.specs.Matrix.{Matrix, Distinct, vector}
use Rattle.elimination.specs.Structural.{Pair}
use Rattle.elimination.specs.Pairs.{pair_rows, Pairs}
use Rattle.lists.specs.Rest.{rest}
use Rattle.elimination.specs.Factoring.{schedule, nothing, row_of_turn, first_over}
use Rattle.algebra.proofs.Listed.{map-append}
use Rattle.algebra.proofs.Completion.{completed, completed-length}
use Rattle.elimination.specs.Overflow.{Overflows}
use Rattle.elimination.proofs.Room.{some-overflows}
use Rattle.elimination.proofs.RowsFound.{schedule-rows}

seam : (xs ys : List ℕ) (y : ℕ) → get_or (xs ++ (y ∷ ys)) (length xs) 0 ≡ y
seam [] ys y = refl
seam (x ∷ xs) ys y = seam xs ys y

module _ (p n m : ℕ) (A : Matrix) (ps : List Pair) (pairs : Pairs n m A ps) (roomL roomU i : ℕ) (e : first_over p m A roomL roomU nothing (schedule n ps) ≡ some i) where
  o : Overflows p m A roomL roomU nothing (schedule n ps) i
  o = some-overflows p n m A ps roomL roomU i e

  abbrev earlier : List ℕ
  earlier = map row_of_turn o.before

  abbrev later : List ℕ
  later = map row_of_turn o.after

  split : pair_rows ps ++ rest (pair_rows ps) n ≡ earlier ++ (i ∷ later)
  split =
      sym (schedule-rows n ps)
      ∙ ap (map row_of_turn) o.split
      ∙ map-append row_of_turn o.before (o.at ∷ o.after)
      ∙ ap (λ (k : ℕ). earlier ++ (k ∷ later)) o.row

  distinct : Distinct (length (pair_rows ps)) n (vector (pair_rows ps))
  distinct = subst (λ (k : ℕ). Distinct k n (vector (pair_rows ps))) (sym (length-map ps (λ q. q.row))) pairs.rows

  inside : length earlier < n
  inside = omega (arith, ap length split, length-append earlier (i ∷ later), completed-length (pair_rows ps) n distinct)

  pub row_inside : i < n
  row_inside = subst (λ (k : ℕ). k < n) (ap (λ (l : List ℕ). get_or l (length earlier) 0) split ∙ seam earlier later i) ((completed (pair_rows ps) n distinct).below (length earlier) inside)
