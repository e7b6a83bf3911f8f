-- Laws of `Stored`: one run after another, runs up to the end of a list, and a cleared list that they fill.
use mathlib.Core.Path.{◌≡◌, refl, sym, ap, subst, ◌∙◌}
use mathlib.Core.List.{List, [], ◌∷◌, ◌++◌, append-nil, append_assoc}
use Prim.Native.Nat.{ℕ, zero, suc, ◌+◌, ◌-◌, ◌≤◌}
use native.Mathlib.Omega.{arith}
use native.Mathlib.Nat.{add-zero, sub-zero, zero-sub, suc-sub-suc}
use lib.ListN.{length, take, drop, set, length-append, drop_of_length-le}
use lib.Seq.{sets, sets-eq, length-sets}
use borrow.Rule.Slice.PartMut.{put_mid}
use Rattle.std.proofs.lemmas.List.Edits.{paste_all}
use Rattle.std.proofs.lemmas.Slice.{put_mid-paste}
use Rattle.lists.specs.Filled.{zeros, filled}
use Rattle.lists.proofs.Filled.{length-zeros}
use Rattle.lists.proofs.Steps.{sets-append}
use Rattle.lists.specs.Stored.{Stored}

pub stored-length : {b₀ b : List ℕ} {at next : ℕ} {ys : List ℕ} → Stored b₀ b at next ys → length b ≡ length b₀
stored-length {b₀} {b} {at} {next} {ys} s = ap length s.now-is ∙ length-sets b₀ at ys

-- where a run ends, and that the list keeps its length
pub ends : {b₀ b : List ℕ} {at next : ℕ} {ys : List ℕ} → Stored b₀ b at next ys → (next ≡ at + length ys) × (length b ≡ length b₀)
ends s = (s.next-is, stored-length s)

pub stored-none : {b : List ℕ} {at : ℕ} → Stored b b at at []
stored-none {b} {at} = record { now-is = refl; next-is = sym (add-zero at) }

-- the same run, written in another way
pub stored-as : {b₀ b : List ℕ} {at next : ℕ} {ys zs : List ℕ} → ys ≡ zs → Stored b₀ b at next ys → Stored b₀ b at next zs
stored-as {b₀} {b} {at} {next} e s = subst (Stored b₀ b at next) e s

-- one run after another
pub stored-then : {b₀ b₁ b₂ : List ℕ} {at mid next : ℕ} {xs ys : List ℕ} → Stored b₀ b₁ at mid xs → Stored b₁ b₂ mid next ys → Stored b₀ b₂ at next (xs ++ ys)
stored-then {b₀} {b₁} {b₂} {at} {mid} {next} {xs} {ys} s t = record {
  now-is = t.now-is ∙ (λ j. sets (s.now-is j) (s.next-is j) ys) ∙ sym (sets-append b₀ at xs ys);
  next-is = omega (arith, length-append xs ys, s.next-is, t.next-is);
}

-- one number is a run
pub stored_one : (l : List ℕ) (at x : ℕ) → Stored l (set l at x) at (at + 1) (x ∷ [])
stored_one l at x = record { now-is = refl; next-is = refl }

-- a part of the list that a run is copied to
pub stored-part : (l xs ys : List ℕ) (at k : ℕ) → at + length xs ≤ length l → length xs ≡ k → ys ≡ xs → Stored l (put_mid at k l ys) at (at + length xs) xs
stored-part l xs ys at k room long copied = record {
  now-is =
      put_mid-paste at k l ys xs (length xs) copied long refl
      ∙ paste_all l at xs (length xs) refl
      ∙ sym (append_assoc (take at l) xs (drop (at + length xs) l))
      ∙ sym (sets-eq xs l at room);
  next-is = refl;
}

-- up to the end of the list
pub stored-to-end : {l₀ l : List ℕ} {at next : ℕ} {xs : List ℕ} → at + length xs ≡ length l₀ → Stored l₀ l at next xs → l ≡ take at l₀ ++ xs
stored-to-end {l₀} {l} {at} {next} {xs} h s =
    s.now-is ∙ sets-eq xs l₀ at (omega arith) ∙ ap (λ (r : List ℕ). take at l₀ ++ xs ++ r) (drop_of_length-le l₀ {i = at + length xs} (omega arith)) ∙ append-nil (take at l₀ ++ xs)

-- ---- a list that was cleared first

drop-zeros : (k n : ℕ) → drop k (zeros n) ≡ zeros (n - k)
unfolding zeros
drop-zeros zero n = ap zeros (sym (sub-zero n))
drop-zeros (suc k) zero = ap zeros (sym (zero-sub (suc k)))
drop-zeros (suc k) (suc n) = drop-zeros k n ∙ ap zeros (sym (suc-sub-suc n k))

-- a cleared list in which a run is stored at the front is filled with it
pub stored-filled : (n : ℕ) {b₁ b : List ℕ} {size : ℕ} {ys : List ℕ} → length ys ≤ n → b₁ ≡ zeros n → Stored b₁ b 0 size ys → b ≡ filled n ys
unfolding filled
stored-filled n {b₁} {b} {size} {ys} h e s =
    s.now-is
    ∙ ap (λ (l : List ℕ). sets l 0 ys) e
    ∙ sets-eq ys (zeros n) 0 (omega (arith, length-zeros n))
    ∙ ap (λ (k : ℕ). ys ++ drop k (zeros n)) (let q : 0 + length ys ≡ length ys = omega arith in q)
    ∙ ap (λ (l : List ℕ). ys ++ l) (drop-zeros (length ys) n)
