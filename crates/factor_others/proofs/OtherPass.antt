-- The rows that have no structural pivot, taken one by one: what holds before row k, that each turn keeps it, and what it comes to.
use mathlib.Core.Path.{◌≡◌, ap, ◌∙◌, subst}
use mathlib.Core.Bool.{true, false}
use mathlib.Core.List.{List}
use Prim.Native.Nat.{ℕ, ◌+◌, ◌≤◌, ◌<◌}
use native.Mathlib.Omega.{arith}
use lib.ListN.{length, get_or, replicate, length-replicate, get_or-replicate}
use Rattle.algebra.specs.Matrix.{Distinct, vector}
use Rattle.sparse.specs.Matrix.{Compressed, matrix}
use Rattle.sparse.specs.Set.{storage_of}
use Rattle.elimination.specs.Pivots.{Found}
use Rattle.factor_row.specs.Entries.{entry_lists_of}
use Rattle.factor_marked.specs.Needs.{Placed, MarkedReady}
use Rattle.factor_turn.specs.declared.turn.Progress.{Progress}
use Rattle.factor_turn.specs.Turning.{TurnLeaves}
use Rattle.factor_turn.specs.Others.{RowsTaken}
use Rattle.factor_turn.proofs.Sizes.{rank_most}
use Rattle.factor_turn.proofs.Readiness.{other-ready}
use Rattle.factor_turn.proofs.PivotPass.{SameLengths}
use Rattle.factor_turn.proofs.OtherRows.{Going, state-distinct, ColumnsGrown, going-ready, going-over, columns-grown, going-turn, going-ends}
use Rattle.factor_others.specs.Needs.{PlaceReady, EnterReady, PlaceEntered, MarkedTurnReady, OthersReady}
use Rattle.factor_others.proofs.Places.{enter-ready, places-grown}

-- a row can be taken by way of the blocks that it touches
pub marked-ready : (p i : ℕ) (place : List ℕ) (A : Compressed) (R C : List ℕ) (L U : Compressed) (w : List ℕ) (from : Progress) → MarkedTurnReady p i place A (storage_of R C L U w) from
    → MarkedReady p i from.r from.at from.l from.total A C U.starts place w (entry_lists_of L.cols L.vals U.cols U.vals)
marked-ready p i place A R C L U w from h = record { other = other-ready p i false A R C L U w from h.turn; placed = h.placed; narrow = h.narrow }

-- the places before any pivot has its own
pub no-places : (n : ℕ) (place : List ℕ) → place ≡ replicate n 2048 → (j : ℕ) → j < length place → get_or place j 0 ≡ 2048
no-places n place e j b = ap (λ (l : List ℕ). get_or l j 0) e ∙ get_or-replicate {A = ℕ} n j 2048 0 (omega (arith, ap length e, length-replicate {A = ℕ} n 2048))

module _ (p s : ℕ) (A : Compressed) (R₀ C₀ : List ℕ) (L₀ U₀ : Compressed) (w₀ : List ℕ) (from₀ : Progress) where
  abbrev m : ℕ
  m = length w₀

  -- nothing more is known of what is found
  abbrev Any : Found → Type 0
  Any f = 0 ≤ 0

  pub record Taking (place R C : List ℕ) (L U : Compressed) (w : List ℕ) (k : ℕ) (from : Progress) : Type 0 where
    pub rows : Going p s A R₀ C₀ L₀ U₀ w₀ from₀ Any R C L U w k from
    pub placed : Placed from.r C place m
    pub long : length place ≡ 2048

  module _ (h : OthersReady p s A (storage_of R₀ C₀ L₀ U₀ w₀) from₀) where
    -- ---- at the start

    rank-first : s ≤ m
    rank-first = omega (arith, h.ready.rank, h.ready.held.state.rank, rank_most p (length R₀) m (matrix A) h.ready.f h.ready.held.holds)

    columns-first : Distinct s m (vector C₀)
    columns-first =
        subst (λ (r : ℕ). Distinct r m (vector C₀)) h.ready.rank
        (state-distinct p (length R₀) m (matrix A) h.ready.f R₀ C₀ L₀ U₀ from₀.r from₀.at from₀.l from₀.total from₀.d h.ready.held.holds h.ready.held.state)

    pub places-ready : (place : List ℕ) → length place ≡ 2048 → ((j : ℕ) → j < length place → get_or place j 0 ≡ 2048) → PlaceReady s C₀ place
    places-ready place long none =
        record {
          inside = omega (arith, rank-first, h.ready.lent.columns);
          few = omega (arith, rank-first, h.narrow);
          distinct = record { below = λ a b. omega (arith, columns-first.below a b, h.narrow); apart = columns-first.apart };
          none = none;
        }

    -- ---- a turn

    module _ (place R C : List ℕ) (L U : Compressed) (w : List ℕ) (k : ℕ) (from : Progress) (t : Taking place R C L U w k from) where
      rank-few : from.r ≤ 2048
      rank-few = let x = t.rows.each h.ready.f h.ready.held in omega (arith, x.state.rank, rank_most p (length R₀) m (matrix A) x.f x.holds, h.narrow)

      module _ (b : k < length R₀) where
        pub taking-ready : MarkedTurnReady p (get_or R k 0) place A (storage_of R C L U w) from
        taking-ready =
            record {
              turn = going-ready p s A R₀ C₀ L₀ U₀ w₀ from₀ h.ready Any R C L U w k from t.rows b;
              placed = rw t.rows.same.w-long t.placed;
              narrow = omega (arith, t.rows.same.w-long, h.narrow);
            }

        module _ (R' C' : List ℕ) (L' U' : Compressed) (w' : List ℕ) (to : Progress) (d : TurnLeaves p (get_or R k 0) false A (storage_of R C L U w) (storage_of R' C' L' U' w') from to) where
          pub taking-over : to.over ≡ true → RowsTaken p s A (storage_of R₀ C₀ L₀ U₀ w₀) (storage_of R' C' L' U' w') from₀ (record { stop = get_or R k 0; progress = to })
          taking-over = going-over p s A R₀ C₀ L₀ U₀ w₀ from₀ h.ready Any R C L U w k from t.rows b R' C' L' U' w' to d

          module _ (e : to.over ≡ false) where
            grown : ColumnsGrown from.r to.r m C C'
            grown = columns-grown p s A R₀ C₀ L₀ U₀ w₀ from₀ h.ready Any R C L U w k from t.rows b R' C' L' U' w' to d e

            -- a pivot that it found can be given its place
            pub taking-enter : length C' ≡ length C₀ → EnterReady from.r to.r C' place
            taking-enter wide = enter-ready from.r to.r m C C' place rank-few grown t.placed (omega (arith, wide, h.ready.lent.columns))

            pub taking-turn : SameLengths R₀ C₀ L₀ U₀ w₀ R' C' L' U' w' → (place' : List ℕ) → length place' ≡ length place → PlaceEntered from.r to.r C' place place' → Taking place' R' C' L' U' w' (k + 1) to
            taking-turn same place' long q =
                record {
                  rows = going-turn p s A R₀ C₀ L₀ U₀ w₀ from₀ h.ready Any R C L U w k from t.rows b R' C' L' U' w' to d e same Any (λ f g. omega arith);
                  placed = places-grown from.r to.r m C C' place rank-few grown t.placed place' q;
                  long = long ∙ t.long;
                }

      -- ---- at the end

      pub taking-ends : length R₀ ≤ k → (stop : ℕ) → RowsTaken p s A (storage_of R₀ C₀ L₀ U₀ w₀) (storage_of R C L U w) from₀ (record { stop = stop; progress = from })
      taking-ends = going-ends p s A R₀ C₀ L₀ U₀ w₀ from₀ h.ready Any R C L U w k from t.rows
