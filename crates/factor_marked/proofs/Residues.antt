-- The residues that the cells stand for, and the bound of the cells.
use mathlib.Core.Path.{◌≡◌, ap, ◌∙◌}
use mathlib.Core.List.{List}
use Prim.Native.Nat.{ℕ, ◌+◌, ◌-◌, ◌*◌, ◌%◌, ◌^◌, ◌≤◌, ◌<◌}
use native.Mathlib.Nat.{mod-lt, mod-eq_of_lt, mul-le-mul, mul-le-mul_left}
use native.Mathlib.Omega.{arith}
use lib.ListN.{length, get_or}
use Rattle.lists.proofs.Tabulate.{length-tabulate, tabulate-at, tabulated}
use Rattle.sparse.specs.Row.{Below}
use Rattle.sparse.specs.WorkingRow.{growth}
use Rattle.sparse.proofs.Bounds.{below_wider}
use Rattle.sparse.proofs.RunLaws.{growth-room}
use Rattle.factor_marked.specs.Marking.{residues, cell_bound}

module _ (p : ℕ) (w : List ℕ) where
  pub residues-long : length (residues p w) ≡ length w
  unfolding residues
  residues-long = length-tabulate (length w) (λ j. get_or w j 0 % p)

  pub residue-at : (j : ℕ) → j < length w → get_or (residues p w) j 0 ≡ get_or w j 0 % p
  unfolding residues
  residue-at j h = tabulate-at (length w) (λ j. get_or w j 0 % p) j h

  pub residue-twice : 0 < p → (j : ℕ) → j < length w → get_or (residues p w) j 0 % p ≡ get_or w j 0 % p
  residue-twice pos j h = ap (λ (x : ℕ). x % p) (residue-at j h) ∙ mod-eq_of_lt (mod-lt (get_or w j 0) pos)

  pub residues-below : 0 < p → Below p (residues p w)
  residues-below pos j h = let g : j < length w = omega (arith, residues-long) in rw (residue-at j g) (mod-lt (get_or w j 0) pos)

  pub residues-small : 0 < p → Below (p * p) (residues p w)
  residues-small pos j h = omega (arith, residues-below pos j h, mul-le-mul_left {m = 1} {n = p} p pos)

  -- a row whose cells are these residues
  pub residues-are : (v : List ℕ) → length v ≡ length w → ((j : ℕ) → j < length w → get_or v j 0 ≡ get_or w j 0 % p) → v ≡ residues p w
  unfolding residues
  residues-are v long cells = tabulated (length w) (λ j. get_or w j 0 % p) v long cells

-- ---- the bound

module _ (p : ℕ) where
  pub bound-square : (k : ℕ) → p * p ≤ cell_bound p k
  unfolding cell_bound
  bound-square k = omega arith

  pub bound-starts : (w : List ℕ) → Below (p * p) w → Below (cell_bound p 0) w
  bound-starts w low = below_wider (p * p) (cell_bound p 0) w (bound-square 0) low

  pub bound-next : (k : ℕ) → cell_bound p k + growth p ≡ cell_bound p (k + 1)
  unfolding cell_bound
  bound-next k = omega arith

  pub bound-later : (w : List ℕ) (a b : ℕ) → a ≤ b → Below (cell_bound p a) w → Below (cell_bound p b) w
  unfolding cell_bound
  bound-later w a b h low = below_wider (cell_bound p a) (cell_bound p b) w (omega (arith, mul-le-mul {n₁ = a} {m₁ = growth p} {n₂ = b} {m₂ = growth p} h (omega arith))) low

  pub bound-positive : (k : ℕ) → 0 < p → 0 < cell_bound p k
  bound-positive k pos = omega (arith, bound-square k, mul-le-mul_left {m = 1} {n = p} p pos)

  -- there is room for a row more
  pub bound-room : (w : List ℕ) (k : ℕ) → k < 2 ^ 32 → p < 65536 → Below (cell_bound p k) w → Below (2 ^ 64 - 2 ^ 32) w
  unfolding cell_bound
  bound-room w k few small low = below_wider (cell_bound p k) (2 ^ 64 - 2 ^ 32) w (growth-room p k few small) low
