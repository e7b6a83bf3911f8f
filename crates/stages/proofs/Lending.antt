-- Beginnings of the lists are lent to factoring: they have the lengths that it takes, and what it leaves in them is found there.
use mathlib.Core.Path.{◌≡◌, refl, sym, ap, ◌∙◌, subst}
use mathlib.Core.List.{List, ◌++◌}
use Prim.Native.Nat.{ℕ, ◌+◌}
use native.Mathlib.Omega.{arith}
use lib.ListN.{length, take, drop, length-append, take-append-drop}
use lib.Seq.{length-take-le, take_at}
use Rattle.sparse.specs.Matrix.{Compressed, compressed}
use Rattle.sparse.specs.Set.{Storage, storage_of}
use Rattle.text_plan.specs.Call.{Reading}
use Rattle.factor_all.specs.Factorization.{Leaves}
use Rattle.factor_all.specs.Factored.{Factored}
use Rattle.refusals.specs.Outcome.{Passed}
use Rattle.call_factor.specs.Lengths.{lent_of, lent_outcome}
use Rattle.call_factor.specs.Accepted.{LentRight}
use Rattle.call_factor.specs.Calls.{factor_call_of}
use Rattle.call_factor.specs.declared.Lent.{Lent}
use Rattle.call_factor.proofs.Theorems.{lent-passes}
use Rattle.stages.specs.Stages.{lent_for}
use Rattle.text_plan.specs.Held.{held_plan}
use Rattle.stages.specs.Needs.{Lendable, cut_to, HeldFactored}

-- the largest lists, cut to a plan's sizes, have the lengths that factoring takes
pub lent-right : (n m : ℕ) → LentRight n m (lent_for n m)
lent-right n m = record { rows = refl; columns = refl; ls = refl; lower = refl; us = refl; upper = refl; work = refl }

-- a list has its length again when a beginning that was lent comes back
pub back : (n : ℕ) (l l' : List ℕ) → length l' ≡ length (take n l) → length (l' ++ drop n l) ≡ length l
back n l l' e =
    length-append l' (drop n l)
    ∙ ap (λ (k : ℕ). k + length (drop n l)) e
    ∙ sym (length-append (take n l) (drop n l))
    ∙ ap length (take-append-drop n l)

module _ (r : Reading) (A : Compressed) (h : Storage) (d : Lendable r A h) where
  pub R-part : length (take r.n h.R) ≡ r.n
  R-part = length-take-le r.n h.R (omega (arith, d.rows-small, d.set.R-length))

  pub C-part : length (take r.m h.C) ≡ r.m
  C-part = length-take-le r.m h.C (omega (arith, d.columns-small, d.set.C-length))

  pub L-part : length (take (r.n + 1) h.L.starts) ≡ r.n + 1
  L-part = length-take-le (r.n + 1) h.L.starts (omega (arith, d.rows-small, d.set.L-lists.starts-length))

  pub U-part : length (take (r.n + 1) h.U.starts) ≡ r.n + 1
  U-part = length-take-le (r.n + 1) h.U.starts (omega (arith, d.rows-small, d.set.U-lists.starts-length))

  abbrev lent : Lent
  lent = lent_of (cut_to r.n r.m h)

  lent_is : lent ≡ lent_for r.n r.m
  lent_is t =
      record {
        rows = R-part t;
        columns = C-part t;
        ls = L-part t;
        lc = d.set.L-lists.columns-length t;
        lv = d.set.L-lists.values_length t;
        us = U-part t;
        uc = d.set.U-lists.columns-length t;
        uv = d.set.U-lists.values_length t;
        work = d.work-length t;
      }

  -- the tests of factoring would pass
  pub accepted : lent_outcome r.p r.n r.m (held_plan r A) lent ≡ Passed
  accepted =
      ap (lent_outcome r.p r.n r.m (held_plan r A)) lent_is
      ∙ lent-passes r.p r.n r.m (held_plan r A) (lent_for r.n r.m) d.good (lent-right r.n r.m)

  module _ (f : Factored) (h' : Storage) (R-same : length h'.R ≡ length (take r.n h.R)) (C-same : length h'.C ≡ length (take r.m h.C))
      (L-same : length h'.L.starts ≡ length (take (r.n + 1) h.L.starts)) (U-same : length h'.U.starts ≡ length (take (r.n + 1) h.U.starts)) where
    -- the lists, with the beginnings that come back
    abbrev whole : Storage
    whole =
        storage_of (h'.R ++ drop r.n h.R) (h'.C ++ drop r.m h.C) (compressed (h'.L.starts ++ drop (r.n + 1) h.L.starts) h'.L.cols h'.L.vals)
        (compressed (h'.U.starts ++ drop (r.n + 1) h.U.starts) h'.U.cols h'.U.vals) h'.work

    pub lent_back : Leaves (factor_call_of r.p r.n r.m (held_plan r A) lent) f h' → HeldFactored r A f whole
    lent_back =
        subst (λ (x : Type 0). x)
        (λ t. Leaves (factor_call_of r.p r.n r.m (held_plan r A) (lent_is t)) f
        (storage_of (sym (take_at h'.R (drop r.n h.R) r.n (R-same ∙ R-part)) t) (sym (take_at h'.C (drop r.m h.C) r.m (C-same ∙ C-part)) t)
        (compressed (sym (take_at h'.L.starts (drop (r.n + 1) h.L.starts) (r.n + 1) (L-same ∙ L-part)) t) h'.L.cols h'.L.vals)
        (compressed (sym (take_at h'.U.starts (drop (r.n + 1) h.U.starts) (r.n + 1) (U-same ∙ U-part)) t) h'.U.cols h'.U.vals) h'.work))
