-- The loop that copies a sparse row, one turn at a time.
use mathlib.Core.Path.{◌≡◌, refl, sym, ap, ◌∙◌}
use mathlib.Core.List.{List, [], ◌∷◌, ◌++◌}
use Prim.Native.Nat.{ℕ, ◌+◌, ◌*◌, ◌%◌, ◌≤◌, ◌<◌}
use native.Mathlib.Nat.{mod-eq_of_lt}
use native.Mathlib.Numerals.{add-one}
use native.Mathlib.Omega.{arith}
use lib.ListN.{length, get_or, take, set}
use lib.Seq.{sets, length-take-le, take-suc}
use Rattle.lists.proofs.Steps.{sets-append}
use Rattle.sparse.specs.Row.{Below}
use Rattle.sparse.specs.Dense.{scaled}
use Rattle.sparse.proofs.Nonzeros.{length-scaled, scaled-take}

-- ---- copying: the entries passed stand in the lists

-- one number more
sets-next : (l : List ℕ) (at : ℕ) (xs : List ℕ) (x k : ℕ) → k ≡ at + length xs → set (sets l at xs) k x ≡ sets l at (xs ++ (x ∷ []))
sets-next l at xs x k e = ap (λ (i : ℕ). set (sets l at xs) i x) e ∙ sym (sets-append l at xs (x ∷ []))

module _ (p c at : ℕ) (rc rv cols₀ vals₀ : List ℕ) where
  pub record Copying (cols vals : List ℕ) (t : ℕ) : Type 0 where
    pub inside : t ≤ length rc
    pub columns : cols ≡ sets cols₀ at (take t rc)
    pub values : vals ≡ sets vals₀ at (scaled p c (take t rv))

  pub copying-starts : Copying cols₀ vals₀ 0
  unfolding scaled
  copying-starts = record { inside = omega arith; columns = refl; values = refl }

  module _ (cols vals : List ℕ) (t : ℕ) (s : Copying cols vals t) where
    pub copying-turn : (v : ℕ) → t < length rc → t < length rv → Below p rv → v ≡ c * get_or rv t 0 % p → Copying (set cols (at + t) (get_or rc t 0)) (set vals (at + t) v) (t + 1)
    copying-turn v h g below e =
        record {
          inside = omega arith;
          columns =
              ap (λ (l : List ℕ). set l (at + t) (get_or rc t 0)) s.columns
              ∙ sets-next cols₀ at (take t rc) (get_or rc t 0) (at + t) (omega (arith, length-take-le t rc (omega arith)))
              ∙ ap (sets cols₀ at) (sym (ap (λ (k : ℕ). take k rc) (add-one t) ∙ take-suc rc t 0 h));
          values =
              (λ i. set (s.values i) (at + t) (cell i))
              ∙ sets-next vals₀ at (scaled p c (take t rv)) (c * (get_or rv t 0 % p) % p) (at + t) (omega (arith, length-scaled p c (take t rv), length-take-le t rv (omega arith)))
              ∙ ap (sets vals₀ at) (sym (scaled-take p c rv t g));
        }
      where
        cell : v ≡ c * (get_or rv t 0 % p) % p
        cell = e ∙ ap (λ (x : ℕ). c * x % p) (sym (mod-eq_of_lt (below t g)))
