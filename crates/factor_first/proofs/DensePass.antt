-- The rows that have no structural pivot, taken in the block: what holds before row k, that each turn keeps it, and what it comes to.
use mathlib.Core.Path.{◌≡◌, sym, ap, ◌∙◌, subst, subst₂}
use mathlib.Core.Bool.{true, false}
use mathlib.Core.Logic.{◌⊎◌, inl, inr}
use mathlib.Core.List.{List, ◌++◌}
use Prim.Native.Nat.{ℕ, ◌+◌, ◌-◌, ◌≤◌, ◌<◌}
use native.Mathlib.Omega.{arith}
use lib.ListN.{length, get_or, take, drop, set, length-set, length-drop}
use lib.Seq.{length-take-le, take_all, get_or-take, drop_at}
use Rattle.algebra.specs.Matrix.{Vector, vector}
use Rattle.sparse.specs.Matrix.{Compressed, matrix}
use Rattle.sparse.specs.Set.{storage_of}
use Rattle.elimination.specs.Pivots.{Found, columns_of, uppers_of, upper_of, rank_of, other, turn}
use Rattle.lists.specs.Rest.{rest}
use Rattle.elimination.specs.Factoring.{entries}
use Rattle.elimination.proofs.Invariant.{uppers-many}
use Rattle.factor_dense.specs.Block.{LeftColumns}
use Rattle.factor_dense.proofs.Growing.{holds-none}
use Rattle.factor_dense.proofs.Rest.{rest-left}
use Rattle.factor_turn.specs.declared.turn.Progress.{Progress}
use Rattle.factor_turn.specs.Others.{RowsFrom, RowsTaken}
use Rattle.factor_turn.proofs.PivotPass.{SameLengths}
use Rattle.factor_turn.proofs.OtherRows.{Going, turn-ready, going-starts, going-ready, going-over, columns-grown, going-turn, going-ends}
use Rattle.factor_first.specs.declared.dense.DenseTurn.{DenseTurn}
use Rattle.factor_first.specs.Dense.{TailCopied, DenseState, DenseTurned}
use Rattle.factor_first.specs.Needs.{DenseTurnReady, RowsReady}

-- ---- the columns left

-- js matters below the width alone
left-same-columns : (m s : ℕ) (C : Vector) (width : ℕ) (js js' : Vector) → ((l : ℕ) → l < width → js l ≡ js' l) → LeftColumns m s C width js → LeftColumns m s C width js'
left-same-columns m s C width js js' e h =
    record {
      inside = λ l b. subst (λ (x : ℕ). x < m) (e l b) (h.inside l b);
      rising = λ a b lt g. subst₂ (λ (x y : ℕ). x < y) (e a (omega arith)) (e b g) (h.rising a b lt g);
      covers = λ j b. go j (h.covers j b);
    }
  where
    go : (j : ℕ) → ((k : ℕ) × (k < s) × (C k ≡ j)) ⊎ ((l : ℕ) × (l < width) × (js l ≡ j)) → ((k : ℕ) × (k < s) × (C k ≡ j)) ⊎ ((l : ℕ) × (l < width) × (js' l ≡ j))
    go j (inl x) = inl x
    go j (inr x) = inr (x.0, x.1, sym (e x.0 x.1) ∙ x.2)

-- the columns after the first s of C, where those are the others rising
tail-left : (s : ℕ) (C js : List ℕ) → s ≤ length C → C ≡ take s C ++ rest (take s C) (length C) → TailCopied s C js → LeftColumns (length C) s (vector (take s C)) (length C - s) (vector js)
tail-left s C js inside order t =
    left-same-columns (length C) s (vector (take s C)) (length C - s) (vector others) (vector js) same
    (subst₂ (λ (a b : ℕ). LeftColumns (length C) a (vector (take s C)) b (vector others)) first many (rest-left (take s C) (length C)))
  where
    others : List ℕ
    others = rest (take s C) (length C)

    first : length (take s C) ≡ s
    first = length-take-le s C inside

    after : drop s C ≡ others
    after = ap (drop s) order ∙ drop_at (take s C) others s first

    many : length others ≡ length C - s
    many = ap length (sym after) ∙ length-drop s C

    same : (l : ℕ) → l < length C - s → get_or others l 0 ≡ get_or js l 0
    same l b = ap (λ (x : List ℕ). get_or x l 0) (sym after ∙ sym t.front) ∙ get_or-take (length C - s) js l 0 b

-- ---- before row k

module _ (p s : ℕ) (A : Compressed) (R₀ C₀ : List ℕ) (L₀ U₀ : Compressed) (w₀ : List ℕ) (from₀ : Progress) (js : List ℕ) where
  abbrev m : ℕ
  m = length w₀

  abbrev width : ℕ
  width = length C₀ - s

  -- the block holds what is found
  abbrev Held : List ℕ → List (List ℕ) → Found → Type 0
  Held ks block f = DenseState s from₀.at width js ks block m f

  pub record DenseGoing (ks : List ℕ) (block : List (List ℕ)) (R C : List ℕ) (L U : Compressed) (w : List ℕ) (k : ℕ) (from : Progress) : Type 0 where
    pub rows : Going p s A R₀ C₀ L₀ U₀ w₀ from₀ (Held ks block) R C L U w k from
    pub rank-low : s ≤ from.r
    pub ks-long : length ks ≡ 32
    pub block-long : length block ≡ 32

  module _ (h : RowsReady p s A (storage_of R₀ C₀ L₀ U₀ w₀) from₀) where
    -- ---- at the start

    module _ (tail : TailCopied s C₀ js) (ks : List ℕ) (block : List (List ℕ)) (ks-long : length ks ≡ 32) (block-long : length block ≡ 32) where
      starts-held : (f₀ : Found) → RowsFrom p A (storage_of R₀ C₀ L₀ U₀ w₀) from₀ f₀ → Held ks block f₀
      starts-held f₀ g =
          record {
            low = omega (arith, found);
            start = g.state.U-entries ∙ ap entries (sym (take_all s (uppers_of f₀) (omega (arith, uppers-many f₀, found))));
            left = subst₂ (λ (a : ℕ) (c : List ℕ). LeftColumns a s (vector c) width (vector js)) h.ready.lent.columns columns
                (tail-left s C₀ js h.columns-inside h.columns-order tail);
            holds = rw (let q : rank_of f₀ - s ≡ 0 = omega (arith, found) in q) (holds-none s width (vector js) (vector ks) (vector (columns_of f₀)) (upper_of f₀) block);
          }
        where
          found : rank_of f₀ ≡ s
          found = sym g.state.rank ∙ h.ready.rank

          columns : take s C₀ ≡ columns_of f₀
          columns = ap (λ (j : ℕ). take j C₀) (sym h.ready.rank) ∙ g.state.columns

      pub dense-starts : DenseGoing ks block R₀ C₀ L₀ U₀ w₀ s from₀
      dense-starts =
          record {
            rows = going-starts p s A R₀ C₀ L₀ U₀ w₀ from₀ h.ready (Held ks block) starts-held;
            rank-low = omega (arith, h.ready.rank);
            ks-long = ks-long;
            block-long = block-long;
          }

    -- ---- a turn

    module _ (ks : List ℕ) (block : List (List ℕ)) (R C : List ℕ) (L U : Compressed) (w : List ℕ) (k : ℕ) (from : Progress) (t : DenseGoing ks block R C L U w k from) where
      module _ (b : k < length R₀) where
        pub dense-next : DenseTurnReady p (get_or R k 0) s from₀.at width js ks block A (storage_of R C L U w) from
        unfolding turn-ready
        dense-next =
            record {
              turn = going-ready p s A R₀ C₀ L₀ U₀ w₀ from₀ h.ready (Held ks block) R C L U w k from t.rows b;
              rows = omega (arith, t.rows.rows, h.few-rows);
              narrow = omega (arith, h.few-columns);
              ks-long = t.ks-long;
              block-long = t.block-long;
              state = rw t.rows.same.w-long (t.rows.each h.ready.f h.ready.held).kept;
            }

        module _ (R' C' : List ℕ) (L' U' : Compressed) (w' : List ℕ) (to : DenseTurn)
            (d : DenseTurned p (get_or R k 0) s from₀.at width js ks block A (storage_of R C L U w) (storage_of R' C' L' U' w') from to) where
          pub dense-over : to.progress.over ≡ true → RowsTaken p s A (storage_of R₀ C₀ L₀ U₀ w₀) (storage_of R' C' L' U' w') from₀ (record { stop = get_or R k 0; progress = to.progress })
          dense-over = going-over p s A R₀ C₀ L₀ U₀ w₀ from₀ h.ready (Held ks block) R C L U w k from t.rows b R' C' L' U' w' to.progress d.turned

          module _ (e : to.progress.over ≡ false) (same' : SameLengths R₀ C₀ L₀ U₀ w₀ R' C' L' U' w') where
            abbrev ks' : List ℕ
            ks' = set ks (from.r - s) to.place

            abbrev block' : List (List ℕ)
            block' = set block (from.r - s) to.row

            held_after : (f₀ : Found) (g : RowsFrom p A (storage_of R₀ C₀ L₀ U₀ w₀) from₀ f₀) → Held ks' block' (turn p m (matrix A) (t.rows.each f₀ g).f (other (get_or R k 0)))
            held_after f₀ g = let x = t.rows.each f₀ g in rw t.rows.same.w-long at (d.grown e x.f x.state (rw t.rows.same.w-long x.kept))

            pub dense-turn : DenseGoing ks' block' R' C' L' U' w' (k + 1) to.progress
            dense-turn =
                record {
                  rows = going-turn p s A R₀ C₀ L₀ U₀ w₀ from₀ h.ready (Held ks block) R C L U w k from t.rows b R' C' L' U' w' to.progress d.turned e same' (Held ks' block') held_after;
                  rank-low = omega (arith, t.rank-low, (columns-grown p s A R₀ C₀ L₀ U₀ w₀ from₀ h.ready (Held ks block) R C L U w k from t.rows b R' C' L' U' w' to.progress d.turned e).low);
                  ks-long = length-set ks (from.r - s) to.place ∙ t.ks-long;
                  block-long = length-set block (from.r - s) to.row ∙ t.block-long;
                }

      -- ---- at the end

      pub dense-ends : length R₀ ≤ k → (stop : ℕ) → RowsTaken p s A (storage_of R₀ C₀ L₀ U₀ w₀) (storage_of R C L U w) from₀ (record { stop = stop; progress = from })
      dense-ends = going-ends p s A R₀ C₀ L₀ U₀ w₀ from₀ h.ready (Held ks block) R C L U w k from t.rows
