-- What a row takes at its turn, and that at the end no row that is left has an entry in an unused column that could be added.
--   Takes has ps i c    c is row i's lowest-numbered entry in an unused column whose choice closes no cycle
--   extended-rule       a row that is not chosen takes such a column, or there is none
--   extended_to-most     at the end there is none: chains only grow, and columns only become used
use Prim.Native.Nat.{ℕ, zero, suc, ◌<◌}
use mathlib.Core.Path.{◌≡◌, refl, sym, ◌∙◌}
use mathlib.Core.Bool.{Bool, true, false, not, ◌||◌, true≢false, false≢true}
use mathlib.Core.Logic.{◌⊎◌, inl, inr}
use mathlib.Core.List.{List, [], ◌∷◌, ◌++◌}
use native.Mathlib.Omega.{arith}
use Rattle.algebra.proofs.Dot.{below_suc}
use Rattle.elimination.specs.Structural.{Pair}
use Rattle.elimination.specs.Pairs.{pair_rows, pair_columns}
use Rattle.lists.specs.Tests.{among}
use Rattle.lists.specs.Members.{Member}
use Rattle.elimination.specs.Chains.{closes}
use Rattle.elimination.specs.Selection.{pair_at, unfit, extended, extended_to, Takes, NoneLeft}
use Rattle.elimination.proofs.Members.{in-front, in-last, not_named, named-fewer}
use Rattle.elimination.proofs.Paths.{closes-back, back-closes, closes-wider}
use Rattle.elimination.proofs.Kept.{extended-either, fit}

module _ (has : ℕ → ℕ → Bool) (m : ℕ) where
  pub extended-grows : (ps : List Pair) (i : ℕ) (q : Pair) → Member q ps → Member q (extended has m ps i)
  extended-grows ps i q h = extended-either has m ps i (Member q) (λ e. h) (λ e g. h) (λ e c b f g. in-front ps (pair_at i c ∷ []) q h)

  pub extended_to-grows : (ps : List Pair) (k : ℕ) (q : Pair) → Member q ps → Member q (extended_to has m ps k)
  unfolding extended_to
  extended_to-grows ps zero q h = h
  extended_to-grows ps (suc k) q h = extended-grows (extended_to has m ps k) k q (extended_to-grows ps k q h)

  -- row i is left, and each of its entries in an unused column closes a cycle
  abbrev Left : List Pair → ℕ → Type 0
  Left ps i = among i (pair_rows ps) ≡ false → (j : ℕ) → j < m → has i j ≡ true → among j (pair_columns ps) ≡ false → closes has ps i j ≡ true

  unfit-closes : (ps : List Pair) (i j : ℕ) → unfit has ps i j ≡ true → has i j ≡ true → among j (pair_columns ps) ≡ false → closes has ps i j ≡ true
  unfolding unfit
  unfit-closes ps i j e f g = go (has i j) f (among j (pair_columns ps)) g e
    where
      go : (a : Bool) → a ≡ true → (b : Bool) → b ≡ false → (not a || (b || closes has ps i j)) ≡ true → closes has ps i j ≡ true
      go true s true t e = absurd (true≢false t)
      go true s false t e = e
      go false s b t e = absurd (false≢true s)

  -- its own turn
  left-own : (ps : List Pair) (i : ℕ) → Left (extended has m ps i) i
  left-own ps i =
      extended-either has m ps i (λ qs. Left qs i)
      (λ e r. absurd (true≢false (sym e ∙ r)))
      (λ e g r j l f u. unfit-closes ps i j (g j l) f u)
      (λ e c b f g r. absurd (not_named (λ q. q.row) (ps ++ (pair_at i c ∷ [])) i r (pair_at i c) (in-last ps (pair_at i c)) refl))

  -- the turns after it
  left-wider : (ps qs : List Pair) → ((q : Pair) → Member q ps → Member q qs) → (i : ℕ) → Left ps i → Left qs i
  left-wider ps qs h i w r j l f u =
      closes-wider has ps qs h i j (w (named-fewer (λ q. q.row) ps qs h i r) j l f (named-fewer (λ q. q.column) ps qs h j u))

  pub extended_to-most : (ps : List Pair) (k : ℕ) (i : ℕ) → i < k
      → among i (pair_rows (extended_to has m ps k)) ≡ false → (j : ℕ) → j < m → has i j ≡ true → among j (pair_columns (extended_to has m ps k)) ≡ false
      → closes has (extended_to has m ps k) i j ≡ true
  unfolding extended_to
  extended_to-most ps zero i h = absurd (omega arith)
  extended_to-most ps (suc k) i h =
      below_suc (Left (extended has m (extended_to has m ps k) k)) k (left-own (extended_to has m ps k) k)
      (λ i l. left-wider (extended_to has m ps k) (extended has m (extended_to has m ps k) k) (extended-grows (extended_to has m ps k) k) i (extended_to-most ps k i l)) i h

  -- ---- one turn

  pub extended-rule : (ps : List Pair) (i : ℕ) → among i (pair_rows ps) ≡ false
      → ((c : ℕ) × (c < m) × Takes has ps i c × (extended has m ps i ≡ ps ++ (pair_at i c ∷ [])))
      ⊎ (NoneLeft has m ps i × (extended has m ps i ≡ ps))
  extended-rule ps i left =
      extended-either has m ps i (λ qs. ((c : ℕ) × (c < m) × Takes has ps i c × (qs ≡ ps ++ (pair_at i c ∷ []))) ⊎ (NoneLeft has m ps i × (qs ≡ ps)))
      (λ e. absurd (true≢false (sym e ∙ left)))
      (λ e g. inr ((λ j l f u. closes-back has ps i j (unfit-closes ps i j (g j l) f u)), refl))
      (λ e c b f g. let t = fit has ps i c f in
      inl (
        c,
        b,
        record {
          entry = t.entry;
          unused = t.unused;
          clear = λ r. true≢false (sym (back-closes has ps i c r) ∙ t.closes_none);
          lowest = λ j l f u. closes-back has ps i j (unfit-closes ps i j (g j l) f u);
        },
        refl,
      ))
