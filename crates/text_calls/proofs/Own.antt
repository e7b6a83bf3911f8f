-- What the call that factors a stored plan left with 0, cut to its lengths (`own_set`), handed to the other calls.
--   own-checked        the call that checks stored factors passes it
--   own-written        the call that writes a certificate writes it, unless the buffer is too short
--   own-certificate    and the call that checks a certificate passes that certificate
use mathlib.Core.Path.{◌≡◌, sym, subst}
use mathlib.Core.Logic.{◌↔◌}
use mathlib.Core.List.{List}
use Prim.Native.Nat.{ℕ, ◌≤◌}
use lib.ListN.{length}
use Rattle.refusals.specs.Refusals.{number_of}
use Rattle.refusals.specs.Outcome.{Outcome}
use Rattle.sparse.specs.Matrix.{Compressed}
use Rattle.sparse.specs.Set.{Set, Storage}
use Rattle.certificate.specs.Layout.{certificate_of, Sized}
use Rattle.limits.specs.Limits.{work_length}
use Rattle.call_check.specs.Calls.{check_factors_of, check_certificate_of, Checks}
use Rattle.call_check.specs.Passing.{StoredPasses}
use Rattle.call_check.proofs.Theorems.{certificate-exactly, stored-certificate, stored-passes, bytes-pass}
use Rattle.call_write.specs.Call.{write_outcome, WritesCertificate}
use Rattle.call_write.specs.Written.{Written}
use Rattle.call_write.proofs.Theorems.{written-exactly}
use Rattle.factor_all.specs.Factorization.{Leaves}
use Rattle.factor_all.specs.OwnSet.{own_set}
use Rattle.factor_all.specs.Factored.{Factored}
use Rattle.call_factor.specs.Calls.{factor_call_of}
use Rattle.call_factor.specs.declared.Lent.{Lent}
use Rattle.call_factor.proofs.Theorems.{factored-exactly, factored-set, factored-passes}
use Rattle.stages.proofs.Passing.{factors-sized}

module _ (p n m : ℕ) (A : Compressed) (l : Lent) (o : Factored) (h : Storage) (call : Leaves (factor_call_of p n m A l) o h) (zero : number_of o.outcome ≡ 0) where
  abbrev own : Set
  own = own_set n m o.rank h

  own-stored : (width : ℕ) → width ≡ work_length → StoredPasses p n m A own width
  own-stored width wide =
      let g = ((factored-exactly p n m A l o h call).0 zero).plan in
      record {
        plan = g;
        sized = subst (Sized n m) (sym (factored-set p n m A l o h call zero)) (factors-sized p n m A g);
        work = wide;
        passes = factored-passes p n m A l o h call zero;
      }

  pub own-checked : (r : Outcome) (w₀ w₁ : List ℕ) → Checks (check_factors_of p n m A own (length w₀)) r w₀ w₁ → length w₀ ≡ work_length → number_of r ≡ 0
  own-checked r w₀ w₁ next wide = (stored-passes p n m A own r w₀ w₁ next).1 (own-stored (length w₀) wide)

  pub own-written : (z : Written) (b₀ b w₀ w₁ : List ℕ) → WritesCertificate (write_outcome p n m A own (length w₀) (length b₀)) (certificate_of p n m own) z b₀ b w₀ w₁
      → length w₀ ≡ work_length → (number_of z.outcome ≡ 0) ↔ (length (certificate_of p n m own) ≤ length b₀)
  own-written z b₀ b w₀ w₁ next wide =
      let (there, back) = written-exactly p n m A own z b₀ b w₀ w₁ next in
      ((λ e. (there e).enough), λ e. back (record { set = own-stored (length w₀) wide; enough = e }))

  pub own-certificate : (r : Outcome) (w₀ w₁ : List ℕ) → Checks (check_certificate_of p n m A (certificate_of p n m own) (length w₀)) r w₀ w₁ → length w₀ ≡ work_length → number_of r ≡ 0
  own-certificate r w₀ w₁ next wide =
      (bytes-pass p n m A (certificate_of p n m own) r w₀ w₁ next).1
      ((certificate-exactly p n m A (certificate_of p n m own) (length w₀)).0 (stored-certificate p n m A own (length w₀) (own-stored (length w₀) wide)))
