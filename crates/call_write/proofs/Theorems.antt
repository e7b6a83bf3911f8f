-- What the call that writes a certificate says, with what it returned and left (`WritesCertificate`).
--   written-exactly    0 is returned exactly if the set passes the check and the buffer holds its certificate
--   written-bytes      and then the buffer has the certificate, zero past its end, and its length is returned
--   written-checked    which the call that checks a certificate passes against the same plan
--   written-judged     after the tests of lengths and plan, none of 10 to 14 is returned exactly if shape and product are right
--   written-by         the numbers of the table by which it refuses
--   written-cleared    a refusal leaves the buffer all zero, and returns the length 0
use mathlib.Core.Path.{◌≡◌, refl, sym, ap, subst, ◌∙◌}
use mathlib.Core.Logic.{◌↔◌}
use mathlib.Core.Bool.{Bool, true, false}
use mathlib.Core.List.{List, [], ◌∷◌, ◌++◌}
use Prim.Native.Nat.{ℕ}
use lib.Dec.{leb}
use lib.ListN.{length, take}
use borrow.Author.Tests.{le-leb, leb-true}
use Rattle.lists.specs.Tests.{among}
use Rattle.refusals.specs.Table.{plan_faults, set_faults, wrong_length}
use Rattle.lists.specs.Filled.{zeros, filled}
use Rattle.refusals.specs.Refusals.{unless, number_of, NumberFrom}
use Rattle.refusals.specs.Outcome.{Outcome}
use Rattle.refusals.specs.Outcome.{Passed, Refused}
use Rattle.lists.proofs.Filled.{filled_none, filled-cut}
use Rattle.refusals.proofs.Refusals.{RefusedBy, number-from, both-passed, after-passed, unless-true, refused-unless, refused-then, zero-passed}
use Rattle.sparse.specs.Matrix.{Compressed}
use Rattle.sparse.specs.Set.{Set}
use Rattle.pluq.specs.Judge.{Passes}
use Rattle.certificate.specs.Layout.{certificate_of, Sized}
use Rattle.certificate.specs.Writing.{room_for}
use Rattle.limits.specs.Limits.{work_length}
use Rattle.call_plan.specs.Accepted.{GoodPlan}
use Rattle.call_check.specs.Calls.{check_factors_of, check_certificate_of, Checks}
use Rattle.call_check.proofs.Theorems.{factors-exactly, factors-numbers, factors-none, certificate-exactly, stored-certificate, bytes-pass}
use Rattle.call_write.specs.Call.{write_outcome, bytes_given, WritesCertificate}
use Rattle.call_write.specs.Accepted.{CanWrite}
use Rattle.call_write.specs.Written.{Written}

-- ---- the outcome

module _ (p n m : ℕ) (A : Compressed) (s : Set) (w room : ℕ) where
  abbrev cert : List ℕ
  cert = certificate_of p n m s

  pub write-exactly : (write_outcome p n m A s w room ≡ Passed) ↔ CanWrite p n m A s w room
  unfolding write_outcome
  write-exactly = (
    (λ e.
        let (checked, fits) = both-passed (check_factors_of p n m A s w) (room_for room cert) e in
        record { set = (factors-exactly p n m A s w).0 checked; enough = leb-true (length cert) room (unless-true (leb (length cert) room) 9 0 fits) }),
    λ h. after-passed (check_factors_of p n m A s w) (room_for room cert) ((factors-exactly p n m A s w).1 h.set) ∙ ap (λ (b : Bool). unless b 9 0) (le-leb (length cert) room h.enough),
  )

  -- a set that passes is refused for one reason alone
  pub write-room : check_factors_of p n m A s w ≡ Passed → write_outcome p n m A s w room ≡ room_for room cert
  unfolding write_outcome
  write-room e = after-passed (check_factors_of p n m A s w) (room_for room cert) e

  pub write-numbers : RefusedBy ((plan_faults ++ set_faults) ++ (wrong_length ∷ [])) (write_outcome p n m A s w room)
  unfolding write_outcome among
  write-numbers =
      refused-then (plan_faults ++ set_faults) (9 ∷ []) (check_factors_of p n m A s w) (room_for room cert) (factors-numbers p n m A s w) (refused-unless (9 ∷ []) (leb (length cert) room) 9 0 refl)

room-none : (room : ℕ) (cert : List ℕ) → among (number_of (room_for room cert)) set_faults ≡ false
unfolding among
room-none room cert = go (leb (length cert) room)
  where
    go : (b : Bool) → among (number_of (unless b 9 0)) set_faults ≡ false
    go true = refl
    go false = refl

-- ---- what a call returned and left

module _ (p n m : ℕ) (A : Compressed) (s : Set) (z : Written) (b₀ b w₀ w : List ℕ)
    (call : WritesCertificate (write_outcome p n m A s (length w₀) (length b₀)) (certificate_of p n m s) z b₀ b w₀ w) where
  abbrev outcome : Outcome
  outcome = write_outcome p n m A s (length w₀) (length b₀)

  passed-exactly : (number_of z.outcome ≡ 0) ↔ (outcome ≡ Passed)
  unfolding among
  passed-exactly =
      let (there, back) = zero-passed ((plan_faults ++ set_faults) ++ (9 ∷ [])) outcome (write-numbers p n m A s (length w₀) (length b₀)) refl in
      ((λ e. there (ap number_of (sym call.outcome) ∙ e)), λ e. ap number_of call.outcome ∙ back e)

  pub written-exactly : (number_of z.outcome ≡ 0) ↔ CanWrite p n m A s (length w₀) (length b₀)
  written-exactly =
      let (there, back) = write-exactly p n m A s (length w₀) (length b₀) in
      ((λ e. there (passed-exactly.0 e)), λ h. passed-exactly.1 (back h))

  pub written-bytes : number_of z.outcome ≡ 0 → (b ≡ filled (length b₀) (certificate_of p n m s)) × (z.length ≡ length (certificate_of p n m s))
  written-bytes e =
      let done = passed-exactly.0 e in
      (call.buffer ∙ ap (λ (o : Outcome). filled (length b₀) (bytes_given o (certificate_of p n m s))) done, call.size ∙ ap (λ (o : Outcome). length (bytes_given o (certificate_of p n m s))) done)

  -- the bytes that were written
  pub written-checked : number_of z.outcome ≡ 0 → (r : Outcome) (w₁ w₂ : List ℕ) → Checks (check_certificate_of p n m A (take z.length b) (length w₁)) r w₁ w₂ → length w₁ ≡ work_length → number_of r ≡ 0
  written-checked e r w₁ w₂ next wide =
      let (bytes, size) = written-bytes e in
      let whole : take z.length b ≡ certificate_of p n m s = ap (take z.length) bytes ∙ filled-cut (length b₀) z.length (certificate_of p n m s) (sym size) in
      let h = (written-exactly.0 e).set in
      let passed = stored-certificate p n m A s (length w₁) (record { plan = h.plan; sized = h.sized; work = wide; passes = h.passes }) in
      (bytes-pass p n m A (take z.length b) r w₁ w₂ next).1
      ((certificate-exactly p n m A (take z.length b) (length w₁)).0 (ap (λ (l : List ℕ). check_certificate_of p n m A l (length w₁)) whole ∙ passed))

  pub written-judged : GoodPlan p n m A → Sized n m s → length w₀ ≡ work_length → (among (number_of z.outcome) set_faults ≡ false) ↔ Passes p n m A s
  unfolding write_outcome
  written-judged g t l =
      subst (λ (o : Outcome). (among (number_of o) set_faults ≡ false) ↔ Passes p n m A s) (sym call.outcome)
      (factors-none p n m A s (length w₀) g t l (room_for (length b₀) (certificate_of p n m s)) (room-none (length b₀) (certificate_of p n m s)))

  pub written-by : NumberFrom ((plan_faults ++ set_faults) ++ (wrong_length ∷ [])) (number_of z.outcome)
  written-by =
      subst (λ (o : Outcome). NumberFrom ((plan_faults ++ set_faults) ++ (9 ∷ [])) (number_of o)) (sym call.outcome)
      (number-from ((plan_faults ++ set_faults) ++ (9 ∷ [])) outcome (write-numbers p n m A s (length w₀) (length b₀)))

  pub written-cleared : ¬ (number_of z.outcome ≡ 0) → (b ≡ zeros (length b₀)) × (z.length ≡ 0)
  written-cleared f = go outcome refl
    where
      go : (o : Outcome) → outcome ≡ o → (b ≡ zeros (length b₀)) × (z.length ≡ 0)
      go Passed e = absurd (f (passed-exactly.1 e))
      go (Refused k d) e = (
        call.buffer ∙ ap (λ (o : Outcome). filled (length b₀) (bytes_given o (certificate_of p n m s))) e ∙ filled_none (length b₀),
        call.size ∙ ap (λ (o : Outcome). length (bytes_given o (certificate_of p n m s))) e,
      )
