-- The working row in parts: all zero as a whole, and put together again.
use mathlib.Core.Path.{◌≡◌, refl, sym, ap, ◌∙◌}
use mathlib.Core.Bool.{true}
use mathlib.Core.List.{List, ◌++◌}
use Prim.Native.Nat.{ℕ, ◌*◌, ◌^◌, ◌≤◌, ◌<◌}
use native.Mathlib.Omega.{arith}
use lib.ListN.{length, take, drop, take-append-drop}
use lib.Seq.{length-take-le}
use Rattle.lists.specs.Filled.{zeros}
use Rattle.lists.proofs.Filled.{length-zeros, take-zeros}
use Rattle.sparse.specs.Matrix.{Compressed, form}
use Rattle.sparse.specs.Set.{Storage, storage_of}
use Rattle.factor_turn.proofs.PivotPass as turns
use Rattle.factor_turn.proofs.PivotPass.{same-lent}
use Rattle.factor_passes.specs.Needs.{narrowed, PassLists}

-- the lists of b are as long as those of a
abbrev pub KeptLengths : Storage → Storage → Type 0
KeptLengths a b = turns.SameLengths a.R a.C a.L a.U a.work b.R b.C b.L b.U b.work

module _ (w : List ℕ) (clear : w ≡ zeros (length w)) (m : ℕ) (h : m ≤ length w) where
  pub part-clear : take m w ≡ zeros m
  part-clear = ap (take m) clear ∙ take-zeros m (length w) h

  -- a part that was cleared, and the rest
  pub whole_again : (part : List ℕ) → part ≡ zeros m → part ++ drop m w ≡ w
  whole_again part e = ap (λ (l : List ℕ). l ++ drop m w) (e ∙ sym part-clear) ∙ take-append-drop m w

-- a list that is some number of zeros
pub zeros-self : (l : List ℕ) (k : ℕ) → l ≡ zeros k → l ≡ zeros (length l)
zeros-self l k e = e ∙ ap zeros (sym (ap length e ∙ length-zeros k))

-- the turns see as many cells as there are columns
wide : (S : Storage) → length S.C ≤ length S.work → length (narrowed S).work ≡ length S.C
wide S fits = length-take-le (length S.C) S.work fits

pub lists-formed : (p : ℕ) (A : Compressed) (S : Storage) → PassLists p A S → form p (length S.C) A ≡ true
lists-formed p A S h = rw (wide S h.m-fits) at h.lent.formed

pub lists-small : (p : ℕ) (A : Compressed) (S : Storage) → PassLists p A S → length S.R * length S.C < 2 ^ 32
lists-small p A S h = rw (wide S h.m-fits) at h.lent.small

-- the same of other lists of the same lengths
pub lists-same : (p : ℕ) (A : Compressed) (S S' : Storage) → KeptLengths S S' → S'.work ≡ zeros (length S'.work) → PassLists p A S → PassLists p A S'
lists-same p A S S' e z h =
    record {
      lent =
          same-lent p A S.R S.C S.L S.U (narrowed S).work S'.R S'.C S'.L S'.U (narrowed S').work narrow
          (zeros-self (narrowed S').work (length S'.C) (part-clear S'.work z (length S'.C) fits)) h.lent;
      n-narrow = omega (arith, h.n-narrow, e.R-long);
      m-narrow = omega (arith, h.m-narrow, e.C-long);
      n-fits = omega (arith, h.n-fits, e.R-long, e.w-long);
      m-fits = fits;
      clear = z;
    }
  where
    fits : length S'.C ≤ length S'.work
    fits = omega (arith, h.m-fits, e.C-long, e.w-long)

    narrow : KeptLengths (narrowed S) (narrowed S')
    narrow =
        record {
          R-long = e.R-long;
          C-long = e.C-long;
          ls-long = e.ls-long;
          lc-long = e.lc-long;
          lv-long = e.lv-long;
          us-long = e.us-long;
          uc-long = e.uc-long;
          uv-long = e.uv-long;
          w-long = wide S' fits ∙ e.C-long ∙ sym (wide S h.m-fits);
        }

-- the same lists with other orders
pub orders-same : (p : ℕ) (A : Compressed) (S : Storage) (R C : List ℕ) → length R ≡ length S.R → length C ≡ length S.C → PassLists p A S → PassLists p A (storage_of R C S.L S.U S.work)
orders-same p A S R C eR eC h =
    lists-same p A S (storage_of R C S.L S.U S.work)
    (record { R-long = eR; C-long = eC; ls-long = refl; lc-long = refl; lv-long = refl; us-long = refl; uc-long = refl; uv-long = refl; w-long = refl }) h.clear h
