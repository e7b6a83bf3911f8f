-- A row reduced by the rows of a block, row after row.
use mathlib.Core.Path.{◌≡◌, refl, ap, ◌∙◌}
use mathlib.Core.List.{List}
use Prim.Native.Nat.{ℕ, suc, ◌+◌, ◌*◌, ◌%◌, ◌≤◌, ◌<◌}
use native.Mathlib.Decide.{ℕ_discrete}
use native.Mathlib.Omega.{arith}
use lib.ListN.{length, get_or, take, set, length-set}
use lib.Seq.{get_or-set_same, get_or-set_other, get_or-take, length-take-le}
use Rattle.lists.proofs.Tabulate.{tabulated}
use Rattle.algebra.specs.Matrix.{vector}
use Rattle.algebra.specs.Reduction.{reduced, multiples}
use Rattle.residue.specs.Arithmetic.{Residue}
use Rattle.sparse.specs.WorkingRow.{Subtracted}
use Rattle.factor_reduce.specs.InPlace.{RemainderRow}
use Rattle.factor_reduce.proofs.Multiples.{reduced-next}
use Rattle.factor_dense.specs.Block.{cells_of}
use Rattle.factor_dense.specs.Taking.{residues_of, BlockReduced}
use Rattle.factor_dense.specs.Needs.{BlockReduceReady}

pub record Going (p b : ℕ) (ks : List ℕ) (block : List (List ℕ)) (row₀ row xs : List ℕ) (t : ℕ) : Type 0 where
  pub inside : t ≤ b
  pub remainder : RemainderRow p 32 t (vector ks) (cells_of block) (residues_of p row₀) row
  pub long : length xs ≡ 32
  pub taken : (i : ℕ) → i < t → get_or xs i 0 ≡ reduced p (vector ks) (cells_of block) i (residues_of p row₀) (get_or ks i 0)

module _ (p b : ℕ) (ks : List ℕ) (block : List (List ℕ)) (row₀ : List ℕ) (h : BlockReduceReady p b ks block row₀) where
  pub going_start : (xs : List ℕ) → length row₀ ≡ 32 → length xs ≡ 32 → Going p b ks block row₀ row₀ xs 0
  unfolding reduced
  going_start xs e f =
      record {
        inside = omega arith;
        remainder = record { long = e; below = h.below; cells = λ j g. refl };
        long = f;
        taken = λ i g. absurd (omega arith);
      }

  pub going-turn : (row row' xs : List ℕ) (t x : ℕ) → t < b → Residue p (get_or row (get_or ks t 0) 0 % p) x → Subtracted p (λ l. x * cells_of block t l) row row'
      → Going p b ks block row₀ row xs t → Going p b ks block row₀ row' (set xs t x) (t + 1)
  going-turn row row' xs t x lt rx s g =
      record {
        inside = omega arith;
        remainder = record {
          long = s.long ∙ g.remainder.long;
          below = s.below;
          cells = λ j l. reduced-next p t (vector ks) (cells_of block) (residues_of p row₀) j (get_or row' j 0) (get_or row j 0) x rx.below value (g.remainder.cells j l) (s.cells j (omega (arith, g.remainder.long)))
              ∙ ap (λ (n : ℕ). reduced p (vector ks) (cells_of block) n (residues_of p row₀) j) (next t);
        };
        long = length-set xs t x ∙ g.long;
        taken = λ i l. at i l (ℕ_discrete i t);
      }
    where
      next : (t : ℕ) → suc t ≡ t + 1
      next t = omega arith

      value : x ≡ reduced p (vector ks) (cells_of block) t (residues_of p row₀) (get_or ks t 0)
      value = rx.value ∙ g.remainder.cells (get_or ks t 0) (h.places t lt)

      at : (i : ℕ) → i < t + 1 → Dec (i ≡ t) → get_or (set xs t x) i 0 ≡ reduced p (vector ks) (cells_of block) i (residues_of p row₀) (get_or ks i 0)
      at i l (yes e) = rw e (get_or-set_same xs t x 0 (omega (arith, g.long, h.rows)) ∙ value)
      at i l (no e) = get_or-set_other xs t i x 0 e ∙ g.taken i (omega arith)

  pub going_end : (row xs : List ℕ) (t : ℕ) → b ≤ t → Going p b ks block row₀ row xs t → BlockReduced p b ks block row₀ row xs
  unfolding multiples
  going_end row xs t le g =
      record {
        remainder = rw same at g.remainder;
        taken = tabulated b (λ k. reduced p (vector ks) (cells_of block) k (residues_of p row₀) (get_or ks k 0)) (take b xs) (length-take-le b xs (omega (arith, g.long, h.rows)))
            (λ i l. get_or-take b xs i 0 l ∙ g.taken i (omega arith));
      }
    where
      same : t ≡ b
      same = omega (arith, g.inside)
