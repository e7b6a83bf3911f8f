-- The cells divided by their value at a place and stored as a row of U, and that value as an entry of L.
use mathlib.Core.Path.{◌≡◌, sym, ap, ◌∙◌}
use mathlib.Core.Bool.{Bool, true, false, not, ◌&&◌, true≢false}
use mathlib.Core.List.{List, [], ◌∷◌}
use Prim.Native.Nat.{ℕ, ◌+◌, ◌%◌}
use lib.Dec.{leb}
use lib.ListN.{length, get_or, take}
use Rattle.residue.specs.Arithmetic.{Residue}
use Rattle.residue.specs.Inverse.{inv_mod}
use Rattle.sparse.specs.Dense.{nonzeros}
use Rattle.sparse.proofs.Nonzeros.{nonzeros-one}
use Rattle.factor_row.specs.Entries.{entry_lists_of}
use Rattle.factor_dense.specs.declared.taking.DenseStep.{DenseStep}
use Rattle.factor_dense.specs.Storing.{EntryStored, LeftStored, RowScaled}
use Rattle.factor_dense.specs.Turn.{dense_step_of, UpperFound}
use Rattle.factor_dense.specs.Needs.{DenseUpperReady}

module _ (p r k at next limit sum width : ℕ) (js row lc₀ lv₀ uc₀ uv₀ : List ℕ) (h : DenseUpperReady p r k at next limit sum width js row (entry_lists_of lc₀ lv₀ uc₀ uv₀)) where
  module _ (v : ℕ) (rv : Residue p (get_or row k 0 % p) v) where
    some : v ≡ 0 → ⊥
    some e = h.here (sym rv.value ∙ e)

    module _ (x : ℕ) (rx : Residue p (inv_mod p v) x) (new : List ℕ) (s : RowScaled p x row new) (lc lv : List ℕ) (full : Bool) (l : ℕ)
        (e : EntryStored r v next limit lc₀ lv₀ lc lv full l) where
      scaled : RowScaled p (inv_mod p (get_or row k 0 % p)) row new
      scaled = rw (← rv.value, ← rx.value) s

      one : length (nonzeros (v ∷ [])) ≡ 1
      unfolding nonzeros
      one = nonzeros-one v [] some

      first : leb (next + 1) limit ≡ not full
      first = ap (λ (n : ℕ). leb (next + n) limit) (sym one) ∙ e.fit

      -- what is given besides: the column, the number of entries and the place
      module _ (c all place : ℕ) (ec : c ≡ get_or js k 0) (ea : all ≡ sum + 1) (ep : place ≡ k) (o : DenseStep) where
        pub upper-full : full ≡ true → o ≡ dense_step_of true c at l all place new → (lc' lv' uc uv : List ℕ)
            → UpperFound p r k at next limit sum width js row (entry_lists_of lc₀ lv₀ uc₀ uv₀) (entry_lists_of lc' lv' uc uv) o
        upper-full q eo lc' lv' uc uv =
            rw eo (record {
              scaled = scaled;
              fit = ap (λ (t : Bool). t && leb (at + length (nonzeros (take width new))) (length uc₀)) (first ∙ ap not q);
              lower = λ z. absurd (true≢false z);
              upper = λ z. absurd (true≢false z);
              column = ec;
              count = ea;
              place = ep;
            })

        pub upper-stored : full ≡ false → (over : Bool) (at' : ℕ) → o ≡ dense_step_of over c at' l all place new → (uc uv : List ℕ)
            → LeftStored at (length uc₀) (take width js) (take width new) uc₀ uv₀ uc uv over at'
            → UpperFound p r k at next limit sum width js row (entry_lists_of lc₀ lv₀ uc₀ uv₀) (entry_lists_of lc lv uc uv) o
        upper-stored q over at' eo uc uv u =
            rw eo (record {
              scaled = scaled;
              fit = ap (λ (t : Bool). t && leb (at + length (nonzeros (take width new))) (length uc₀)) (first ∙ ap not q) ∙ u.fit;
              lower = λ z. rw (← rv.value) (e.stored q);
              upper = u.stored;
              column = ec;
              count = ea;
              place = ep;
            })
