-- By computation: plan D's pairs, factors and storage cases; and small plans for a chain of three, a reordering without a new pivot, and a row that has to wait.
use Prim.Native.Nat.{ℕ}
use mathlib.Core.Path.{◌≡◌, refl}
use mathlib.Core.List.{[], ◌∷◌}
use mathlib.Core.Option.{Option, none, some}
use Rattle.lists.specs.Filled.{zeros}
use Rattle.lists.specs.Tabulate.{tabulate}
use Rattle.lists.specs.Tests.{first, among}
use Rattle.algebra.specs.Sum.{sum, dot, δ, place}
use Rattle.algebra.specs.Reduction.{reduced, multiples}
use Rattle.residue.specs.Inverse.{inv_mod, inverse_below}
use Rattle.sparse.specs.Matrix.{Compressed, compressed, matrix}
use Rattle.sparse.specs.Set.{set_of}
use Rattle.sparse.specs.Row.{weigh}
use Rattle.sparse.specs.Dense.{columns_from, nonzeros, starts_after, all_columns, all_values, compress}
use Rattle.elimination.specs.Structural.{leads, prefer, chosen, leading}
use Rattle.elimination.specs.Pivots.{columns_of, uppers_of, multiples_by, with_pivot, with_dependent, placed_row, turn, turns}
use Rattle.lists.specs.Rest.{rest}
use Rattle.elimination.specs.Factoring.{schedule, rows_of, lowers_of, nothing, entries, fits, first_over, factored, factor_from}
use Rattle.elimination.specs.Chains.{chain, closes}
use Rattle.elimination.specs.Selection.{pair_at, lower_pair, without, unfit, extended, extended_to, free, lowest, ordered, selected, structural}

abbrev pub D : Compressed
D =
    compressed
    (0 ∷ 2 ∷ 4 ∷ 8 ∷ 10 ∷ 11 ∷ [])
    (0 ∷ 2 ∷ 1 ∷ 3 ∷ 0 ∷ 1 ∷ 2 ∷ 3 ∷ 1 ∷ 2 ∷ 4 ∷ [])
    (2 ∷ 1 ∷ 3 ∷ 1 ∷ 4 ∷ 3 ∷ 2 ∷ 1 ∷ 1 ∷ 5 ∷ 3 ∷ [])

-- row 3 is added, and goes between rows 0 and 1
pub D-pairs : structural D 5 5 ≡ pair_at 0 0 ∷ pair_at 3 2 ∷ pair_at 1 1 ∷ pair_at 4 4 ∷ []
unfolding δ first weigh leads prefer chosen leading among chain closes lower_pair without unfit extended extended_to free lowest ordered selected structural
D-pairs = refl

pub D-factors : factor_from 7 5 5 (matrix D) (structural D 5 5)
    ≡ set_of 4
    (0 ∷ 3 ∷ 1 ∷ 4 ∷ 2 ∷ [])
    (0 ∷ 2 ∷ 1 ∷ 4 ∷ 3 ∷ [])
    (compressed (0 ∷ 1 ∷ 2 ∷ 3 ∷ 4 ∷ 6 ∷ []) (0 ∷ 1 ∷ 2 ∷ 3 ∷ 0 ∷ 2 ∷ []) (2 ∷ 5 ∷ 3 ∷ 3 ∷ 4 ∷ 3 ∷ []))
    (compressed (0 ∷ 2 ∷ 4 ∷ 6 ∷ 7 ∷ []) (0 ∷ 2 ∷ 1 ∷ 2 ∷ 1 ∷ 3 ∷ 4 ∷ []) (1 ∷ 4 ∷ 3 ∷ 1 ∷ 1 ∷ 5 ∷ 1 ∷ []))
unfolding zeros tabulate first sum dot δ place reduced inv_mod inverse_below weigh columns_from nonzeros starts_after all_columns all_values compress leads prefer chosen leading columns_of uppers_of multiples_by multiples with_pivot with_dependent placed_row turn turns among rest schedule rows_of lowers_of factored factor_from chain closes lower_pair without unfit extended extended_to free lowest ordered selected structural
D-factors = refl

-- with room for so many entries of L and of U
abbrev pub room_d : ℕ → ℕ → Option ℕ
room_d l u = first_over 7 5 (matrix D) l u nothing (schedule 5 (structural D 5 5))

pub D-rooms : (room_d 6 7 ≡ none) × (room_d 4 7 ≡ some 2) × (room_d 6 6 ≡ some 4)
unfolding zeros tabulate first sum dot δ place reduced inv_mod inverse_below weigh columns_from nonzeros starts_after all_columns all_values compress leads prefer chosen leading columns_of uppers_of multiples_by multiples with_pivot with_dependent placed_row turn turns among rest schedule rows_of lowers_of entries fits first_over chain closes lower_pair without unfit extended extended_to free lowest ordered selected structural
D-rooms = (refl, refl, refl)

-- the rows 0 1, 1 2 and 0 2: row 2 leads to row 0, row 0 to row 1, and row 1 back to column 2
abbrev pub ring : Compressed
ring = compressed (0 ∷ 2 ∷ 4 ∷ 6 ∷ []) (0 ∷ 1 ∷ 1 ∷ 2 ∷ 0 ∷ 2 ∷ []) (1 ∷ 1 ∷ 1 ∷ 1 ∷ 1 ∷ 1 ∷ [])

pub ring-pairs : structural ring 3 3 ≡ pair_at 0 0 ∷ pair_at 1 1 ∷ []
unfolding δ first weigh leads prefer chosen leading among chain closes lower_pair without unfit extended extended_to free lowest ordered selected structural
ring-pairs = refl

-- the rows 1 and 0: by column row 1 came first
abbrev pub crossed : Compressed
crossed = compressed (0 ∷ 1 ∷ 2 ∷ []) (1 ∷ 0 ∷ []) (1 ∷ 1 ∷ [])

pub crossed-pairs : (leading crossed 2 2 ≡ pair_at 1 0 ∷ pair_at 0 1 ∷ []) × (structural crossed 2 2 ≡ pair_at 0 1 ∷ pair_at 1 0 ∷ [])
unfolding δ first weigh leads prefer chosen leading among chain closes lower_pair without unfit extended extended_to free lowest ordered selected structural
crossed-pairs = (refl, refl)

-- the rows 1 and 0 1: row 1 leads to row 0, which waits
abbrev pub behind : Compressed
behind = compressed (0 ∷ 1 ∷ 3 ∷ []) (1 ∷ 0 ∷ 1 ∷ []) (1 ∷ 1 ∷ 1 ∷ [])

pub behind-pairs : structural behind 2 2 ≡ pair_at 1 0 ∷ pair_at 0 1 ∷ []
unfolding δ first weigh leads prefer chosen leading among chain closes lower_pair without unfit extended extended_to free lowest ordered selected structural
behind-pairs = refl
