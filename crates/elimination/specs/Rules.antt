-- What document 02's slip 9 asks of the structural pivots, rule by rule.
--   pivots_to A n m i       the pairs chosen once the rows below i were taken: document 01's, and those added
--   FollowsRules p n m A   the pairs and the set that they lead to obey the five rules:
--     keeps                (1) document 01's structural pivots are among them
--     takes                (2) each row in turn that is not chosen takes its lowest-numbered entry in an unused column whose choice closes no cycle, or none is left to it
--     ordering             (3) they list each pair that was chosen once, always the lowest-numbered row to which no row still waiting leads
--     only                 no other list does
--     diagonal             (4) the row of L of each of them holds its diagonal alone
--     most                 (5) no row that is not chosen has an entry in an unused column that could be added: each closes a cycle
use Rattle.std.specs.Prelude.{ℕ, ◌+◌, ◌<◌, ◌≡◌, true, false, ◌⊎◌, List, [], ◌∷◌, ◌++◌, length}
use Rattle.sparse.specs.Matrix.{Compressed, matrix, row_of}
use Rattle.elimination.specs.Structural.{Pair, leading}
use Rattle.elimination.specs.Pairs.{pair_rows, pair_columns}
use Rattle.lists.specs.Tests.{among}
use Rattle.lists.specs.Members.{Member}
use Rattle.elimination.specs.Chains.{Back}
use Rattle.elimination.specs.Selection.{nonzero, pair_at, extended_to, selected, structural, Takes, NoneLeft, Ordering}
use Rattle.elimination.specs.Factoring.{factor}

abbrev pub pivots_to : Compressed → ℕ → ℕ → ℕ → List Pair
pivots_to A n m i = extended_to (nonzero (matrix A)) m (leading A n m) i

pub record FollowsRules (p n m : ℕ) (A : Compressed) : Type 0 where
  pub keeps : (q : Pair) → Member q (leading A n m) → Member q (structural A n m)
  pub takes : (i : ℕ) → among i (pair_rows (pivots_to A n m i)) ≡ false
      → ((c : ℕ) × (c < m) × Takes (nonzero (matrix A)) (pivots_to A n m i) i c × (pivots_to A n m (i + 1) ≡ pivots_to A n m i ++ (pair_at i c ∷ [])))
      ⊎ (NoneLeft (nonzero (matrix A)) m (pivots_to A n m i) i × (pivots_to A n m (i + 1) ≡ pivots_to A n m i))
  pub ordering : Ordering (nonzero (matrix A)) (selected A n m) (structural A n m)
  pub only : (qs : List Pair) → Ordering (nonzero (matrix A)) (selected A n m) qs → qs ≡ structural A n m
  pub diagonal : (k : ℕ) → k < length (structural A n m) → row_of (factor p n m A).L.starts k (factor p n m A).L.cols ≡ k ∷ []
  pub most : (i j : ℕ) → i < n → j < m → among i (pair_rows (structural A n m)) ≡ false → among j (pair_columns (structural A n m)) ≡ false
      → nonzero (matrix A) i j ≡ true → Back (nonzero (matrix A)) (structural A n m) i j
