-- The order of the selected pivots, as the code finds it. A cell for each row, one more than its column while it waits, 0 once it waits no more.
--   pair_named i x                    the pair of row i that its cell x names, if it names one
--   waiting_to v k                    the pairs that the first k cells of v name, by rising row
--   waiting v                        all of them
--   DegreesCounted A w ws degrees    the degrees of all selected pairs, which w names, where the pairs ws wait
--   Ready v degrees ready            the cells that are not 0 are those of the waiting rows to which none leads
use Rattle.std.specs.Prelude.{ℕ, zero, suc, ◌≡◌, List, [], ◌∷◌, ◌++◌, length, get_or}
use Rattle.sparse.specs.Matrix.{Compressed, matrix}
use Rattle.elimination.specs.Structural.{Pair}
use Rattle.elimination.specs.Selection.{nonzero, pair_at, degree}

abbrev pub pair_named : ℕ → ℕ → List Pair
pair_named i zero = []
pair_named i (suc c) = pair_at i c ∷ []

unfoldable pub waiting_to : List ℕ → ℕ → List Pair
waiting_to v zero = []
waiting_to v (suc i) = waiting_to v i ++ pair_named i (get_or v i 0)

abbrev pub waiting : List ℕ → List Pair
waiting v = waiting_to v (length v)

-- w names the selected pairs by column
pub record DegreesCounted (A : Compressed) (w : List ℕ) (ws : List Pair) (degrees : List ℕ) : Type 0 where
  pub cells : (c i : ℕ) → get_or w c 0 ≡ suc i → get_or degrees i 0 ≡ degree (nonzero (matrix A)) ws (pair_at i c)

pub record Ready (v degrees ready : List ℕ) : Type 0 where
  pub right : (i : ℕ) → ¬ (get_or ready i 0 ≡ 0) → (¬ (get_or v i 0 ≡ 0)) × (get_or degrees i 0 ≡ 0)
  pub all : (i : ℕ) → ¬ (get_or v i 0 ≡ 0) → get_or degrees i 0 ≡ 0 → ¬ (get_or ready i 0 ≡ 0)
