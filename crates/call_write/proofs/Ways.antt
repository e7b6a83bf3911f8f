-- One law for each way out of writing, and what a set that passed the check is.
use mathlib.Core.Path.{◌≡◌, refl, sym, ap, ◌∙◌}
use mathlib.Core.Bool.{Bool, true, false, cond}
use mathlib.Core.List.{List, []}
use Prim.Native.Nat.{ℕ, ◌^◌}
use lib.Dec.{leb}
use lib.ListN.{length}
use Rattle.std.specs.Prelude.{Ok, Err}
use Rattle.lists.specs.Filled.{zeros, filled}
use Rattle.refusals.specs.Refusals.{◌▷◌, unless, number_of, detail_of}
use Rattle.refusals.specs.Outcome.{Outcome}
use Rattle.refusals.specs.Outcome.{Passed, Refused}
use Rattle.lists.proofs.Filled.{filled_none}
use Rattle.refusals.specs.Faults.{number}
use Rattle.refusals.specs.declared.Refusal.{Refusal}
use Rattle.refusals.proofs.Results.{goes_on}
use Rattle.sparse.specs.Matrix.{Compressed}
use Rattle.sparse.specs.Set.{Set}
use Rattle.sparse.specs.Row.{Below}
use Rattle.certificate.specs.Layout.{certificate_of}
use Rattle.certificate.specs.Writing.{room_for, written, Writes, Writable}
use Rattle.certificate.proofs.Rooms.{written-tells}
use Rattle.certificate.proofs.Counts.{entries_below}
use Rattle.call_check.specs.Calls.{check_factors_of}
use Rattle.call_check.specs.Passing.{StoredPasses}
use Rattle.call_check.proofs.Theorems.{factors-exactly}
use Rattle.call_write.specs.Call.{write_outcome, bytes_given, WritesCertificate}
use Rattle.call_write.specs.Written.{Written, written_of}

module _ (p n m : ℕ) (A : Compressed) (s : Set) (w : ℕ) (h : check_factors_of p n m A s w ≡ Passed) where
  checked : StoredPasses p n m A s w
  checked = (factors-exactly p n m A s w).0 h

  -- the entry counts are 32-bit numbers, since the starts are
  pub writable : Below (2 ^ 32) s.L.starts → Below (2 ^ 32) s.U.starts → Writable n m s
  writable lower upper =
      record {
        sized = checked.sized;
        lcount = entries_below (2 ^ 32) p s.r s.L checked.passes.L-form lower;
        ucount = entries_below (2 ^ 32) p m s.U checked.passes.U-form upper;
      }

-- a buffer is given the certificate where there is room for it
given : (room : ℕ) (cert : List ℕ) → bytes_given (room_for room cert) cert ≡ written room cert
unfolding written
given room cert = go (leb (length cert) room)
  where
    go : (t : Bool) → bytes_given (unless t 9 0) cert ≡ cond t cert []
    go true = refl
    go false = refl

-- the number and the detail follow from the outcome
leaves : (o : Outcome) (cert : List ℕ) (r : Written) (b₀ b w₀ w : List ℕ) → r.outcome ≡ o → r.length ≡ length (bytes_given o cert) → b ≡ filled (length b₀) (bytes_given o cert)
    → w ≡ zeros (length w₀) → WritesCertificate o cert r b₀ b w₀ w
leaves o cert r b₀ b w₀ w e size buffer cleared = record { outcome = e; number = ap number_of e; detail = ap detail_of e; size = size; buffer = buffer; cleared = cleared }

module _ (p n m : ℕ) (A : Compressed) (s : Set) (w₀ w b₀ b : List ℕ) (cleared : w ≡ zeros (length w₀)) where
  abbrev cert : List ℕ
  cert = certificate_of p n m s

  abbrev check : Outcome
  check = check_factors_of p n m A s (length w₀)

  abbrev whole : Outcome
  whole = write_outcome p n m A s (length w₀) (length b₀)

  -- a set that is refused leaves the buffer all zero
  pub refuses : (f : Refusal) → Refused (number f.fault) f.detail ≡ check → b ≡ zeros (length b₀) → WritesCertificate whole cert (written_of (Err f)) b₀ b w₀ w
  unfolding write_outcome
  refuses f e z =
      let all : Refused (number f.fault) f.detail ≡ whole = ap (λ (o : Outcome). o ▷ room_for (length b₀) cert) e in
      let nothing : [] ≡ bytes_given whole cert = ap (λ (o : Outcome). bytes_given o cert) all in
      leaves whole cert (written_of (Err f)) b₀ b w₀ w all (ap length nothing) (z ∙ sym (filled_none (length b₀)) ∙ ap (filled (length b₀)) nothing) cleared

  -- a set that passed, written where the buffer has room
  module _ (e : Passed ≡ check) (size : ℕ) (r : Writes cert b₀ b size) where
    last : (o : Outcome) → o ≡ unless (leb 1 size) 9 0 → o ≡ whole
    unfolding write_outcome
    last o f = goes_on check (room_for (length b₀) cert) o e (f ∙ written-tells p n m (length b₀) size s r.size_is)

    bytes : written (length b₀) cert ≡ bytes_given whole cert
    bytes = sym (given (length b₀) cert) ∙ ap (λ (o : Outcome). bytes_given o cert) (sym (written-tells p n m (length b₀) size s r.size_is) ∙ last _ refl)

    pub too_short : (f : Refusal) → Refused (number f.fault) f.detail ≡ unless (leb 1 size) 9 0 → WritesCertificate whole cert (written_of (Err f)) b₀ b w₀ w
    too_short f h =
        let all : Refused (number f.fault) f.detail ≡ whole = last _ h in
        leaves whole cert (written_of (Err f)) b₀ b w₀ w all (ap (λ (o : Outcome). length (bytes_given o cert)) all) (r.buffer-is ∙ ap (filled (length b₀)) bytes) cleared

    pub done : Passed ≡ unless (leb 1 size) 9 0 → WritesCertificate whole cert (written_of (Ok size)) b₀ b w₀ w
    done h = leaves whole cert (written_of (Ok size)) b₀ b w₀ w (last _ h) (r.size_is ∙ ap length bytes) (r.buffer-is ∙ ap (filled (length b₀)) bytes) cleared
