-- Laws of writing into a lent buffer: both ways out, and how its length tells refusal 9.
use mathlib.Core.Path.{◌≡◌, sym, ap, ◌∙◌}
use mathlib.Core.Bool.{Bool, true, false, cond}
use mathlib.Core.List.{List, []}
use Prim.Native.Nat.{ℕ, ◌+◌, ◌≤◌, ◌<◌}
use native.Mathlib.Omega.{arith}
use lib.Dec.{leb}
use lib.ListN.{length}
use borrow.Author.Tests.{le-leb, lt-leb}
use Rattle.lists.specs.Filled.{zeros, filled}
use Rattle.refusals.specs.Refusals.{unless}
use Rattle.lists.proofs.Filled.{filled_none}
use Rattle.lists.specs.Stored.{Stored}
use Rattle.lists.proofs.Stored.{stored-filled}
use Rattle.sparse.specs.Set.{Set}
use Rattle.certificate.specs.Layout.{mark, certificate_of}
use Rattle.certificate.specs.Writing.{room_for, written, Writes}

module _ (n : ℕ) (cert : List ℕ) where
  written-whole : length cert ≤ n → written n cert ≡ cert
  unfolding written
  written-whole h = ap (λ (t : Bool). cond t cert []) (le-leb (length cert) n h)

  written_none : n < length cert → written n cert ≡ []
  unfolding written
  written_none h = ap (λ (t : Bool). cond t cert []) (lt-leb (length cert) n h)

module _ (cert b₀ b : List ℕ) where
  pub writes-refused : length b₀ < length cert → b ≡ zeros (length b₀) → Writes cert b₀ b 0
  writes-refused h e = record {
    size_is = ap length (sym (written_none (length b₀) cert h));
    buffer-is = e ∙ sym (filled_none (length b₀)) ∙ ap (filled (length b₀)) (sym (written_none (length b₀) cert h));
  }

  pub writes-done : {b₁ : List ℕ} {size : ℕ} → length cert ≤ length b₀ → b₁ ≡ zeros (length b₀) → Stored b₁ b 0 size cert → Writes cert b₀ b size
  writes-done {b₁} {size} h e s = record {
    size_is = s.next-is ∙ (let q : 0 + length cert ≡ length cert = omega arith in q) ∙ ap length (sym (written-whole (length b₀) cert h));
    buffer-is = stored-filled (length b₀) h e s ∙ ap (filled (length b₀)) (sym (written-whole (length b₀) cert h));
  }

-- ---- refusal 9: the length is 0 exactly where it is given

length-opening : (p n m : ℕ) (s : Set) → 0 < length (certificate_of p n m s)
unfolding certificate_of mark
length-opening p n m s = omega arith

-- the length that is returned tests what room_for tests
pub written-tells : (p n m room size : ℕ) (s : Set) → size ≡ length (written room (certificate_of p n m s)) → unless (leb 1 size) 9 0 ≡ room_for room (certificate_of p n m s)
unfolding written
written-tells p n m room size s = go (leb (length (certificate_of p n m s)) room)
  where
    go : (t : Bool) → size ≡ length (cond t (certificate_of p n m s) []) → unless (leb 1 size) 9 0 ≡ unless t 9 0
    go true e = ap (λ (b : Bool). unless b 9 0) (le-leb 1 size (omega (arith, e, length-opening p n m s)))
    go false e = ap (λ (b : Bool). unless b 9 0) (lt-leb 1 size (omega (arith, e)))
