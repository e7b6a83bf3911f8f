-- The steps of `values_and_gap`: each is ready where it is called, and what they leave.
use mathlib.Core.Path.{◌≡◌, ap, ◌∙◌}
use mathlib.Core.List.{List, ◌++◌}
use Prim.Native.Nat.{ℕ, ◌≤◌, ◌<◌}
use native.Mathlib.Decide.{ℕ_discrete}
use native.Mathlib.Omega.{arith}
use lib.ListN.{length, get_or, take, drop, length-append, length-drop}
use lib.Seq.{length-take-le, take_at}
use Rattle.lists.specs.Filled.{zeros}
use Rattle.lists.specs.Tabulate.{tabulate}
use Rattle.lists.proofs.Filled.{length-zeros}
use Rattle.lists.proofs.Tabulate.{length-tabulate, tabulate-at}
use Rattle.algebra.specs.Matrix.{Vector, Matrix, vector}
use Rattle.residue.specs.Inverse.{Invertible}
use Rattle.sparse.specs.Row.{Below}
use Rattle.sparse.specs.Matrix.{Compressed, matrix}
use Rattle.sparse.proofs.Rows.{form-below}
use Rattle.pluq.proofs.Shapes.{lower-means}
use Rattle.column_space.specs.Substitution.{lacking, forward}
use Rattle.column_space.specs.Slots.{in_order}
use Rattle.column_space.proofs.Substitutions.{forward-small, forward-solves, lacking-none}
use Rattle.answer_question.proofs.AnswerLaws.{cleared, zeros-take}
use Rattle.answer_slots.specs.Solving.{gap_from}
use Rattle.answer_slots.specs.Needs.{ForwardReady, GapsReady, ValuesReady}
use Rattle.answer_slots.proofs.SettleLoop.{lacking-eq}

-- a gap over values in a list is the gap over the values
pub gap-listed : (p r : ℕ) (R : Vector) (L : Matrix) (h t : Vector) (l : List ℕ) → l ≡ tabulate r t
    → (i : ℕ) → gap_from p R L h l i ≡ lacking p r (L i) t (in_order R h i)
gap-listed p r R L h t l e i =
    ap (λ (n : ℕ). lacking p n (L i) (vector l) (in_order R h i)) (ap length e ∙ length-tabulate r t)
    ∙ lacking-eq p r (L i) (vector l) t (in_order R h i) (λ j b. ap (λ (z : List ℕ). get_or z j 0) e ∙ tabulate-at r t j b)

module _ (p r : ℕ) (L : Compressed) (R h w₀ w₁ : List ℕ) (d : ValuesReady p r L R h w₀) (clear : w₁ ≡ zeros (length w₀)) where
  pos : 0 < p
  pos = omega (arith, d.prime.two)

  wide : length w₁ ≡ length h
  wide = ap length clear ∙ length-zeros (length w₀) ∙ d.room

  pub values-part : (r ≤ length w₁) × (length (take r w₁) ≡ r)
  values-part = let b : r ≤ length w₁ = omega (arith, d.rank, wide) in (b, length-take-le r w₁ b)

  pub forward-ready : ForwardReady p L R h (take r w₁)
  forward-ready =
      let e = values-part.1 in
      record {
        prime = d.prime;
        formed = rw e d.formed;
        rows = omega (arith, e, d.rows, d.rank);
        shaped = rw e d.shaped;
        order = d.order;
        long = d.long;
        rank = omega (arith, e, d.rank);
        small = d.small;
        clear = cleared (take r w₁) r (zeros-take r w₁ values-part.0 (cleared w₁ (length w₀) clear));
      }

  -- the values, of each row of L
  abbrev t : Vector
  t = forward p (matrix L) r (in_order (vector R) (vector h))

  diagonal : (k : ℕ) → k < r → Invertible p (matrix L k k)
  diagonal k b =
      record {
        prime = d.prime;
        nonzero = elim (ℕ_discrete (matrix L k k) 0) [ yes e ↦ absurd ((lower-means r (matrix L) d.shaped).diagonal k b e) | no e ↦ omega arith ];
        below = form-below p r L.starts L.cols L.vals d.formed k k pos;
      }

  module _ (part : List ℕ) (solved : part ≡ tabulate (length (take r w₁)) (forward p (matrix L) (length (take r w₁)) (in_order (vector R) (vector h)))) where
    is-values : part ≡ tabulate r t
    is-values = solved ∙ ap (λ (k : ℕ). tabulate k (forward p (matrix L) k (in_order (vector R) (vector h)))) values-part.1

    long : length part ≡ r
    long = ap length is-values ∙ length-tabulate r t

    pub values-kept : length (part ++ drop r w₁) ≡ length w₀
    values-kept =
        length-append part (drop r w₁)
        ∙ omega (arith, long, length-drop r w₁, values-part.0, ap length clear ∙ length-zeros (length w₀))

    first-cells : take r (part ++ drop r w₁) ≡ tabulate r t
    first-cells = take_at part (drop r w₁) r long ∙ is-values

    pub gaps-part : (r ≤ length (part ++ drop r w₁)) × (length (take r (part ++ drop r w₁)) ≡ r)
    gaps-part = (omega (arith, values-kept, d.room, d.rank), ap length first-cells ∙ length-tabulate r t)

    small : Below p (take r (part ++ drop r w₁))
    small i b =
        rw (ap (λ (l : List ℕ). get_or l i 0) first-cells ∙ tabulate-at r t i (omega (arith, gaps-part.1)))
        (forward-small p (matrix L) r (in_order (vector R) (vector h)) i pos)

    none : (k : ℕ) → k < r → gap_from p (vector R) (matrix L) (vector h) (take r (part ++ drop r w₁)) k ≡ 0
    none k b =
        gap-listed p r (vector R) (matrix L) (vector h) t (take r (part ++ drop r w₁)) first-cells k
        ∙ lacking-none p r (matrix L k) t (in_order (vector R) (vector h) k) pos
        (forward-solves d.prime r (matrix L) (lower-means r (matrix L) d.shaped).above diagonal (in_order (vector R) (vector h)) k b)

    pub gaps-ready : GapsReady p L R h (take r (part ++ drop r w₁))
    gaps-ready =
        let e = gaps-part.1 in
        record {
          positive = pos;
          formed = rw e d.formed;
          rows = d.rows;
          order = d.order;
          long = d.long;
          rank = omega (arith, e, d.rank);
          small-h = d.small;
          small-t = small;
          solved = λ k b. none k (omega (arith, e));
        }
