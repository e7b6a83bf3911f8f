-- Storing a pivot row: the test of the room, what the store needs, and what it leaves.
use mathlib.Core.Path.{◌≡◌, refl, sym, ap, ◌∙◌}
use mathlib.Core.Bool.{Bool, true, false, ◌&&◌, true≢false}
use mathlib.Core.List.{List}
use Prim.Native.Nat.{ℕ, ◌+◌, ◌-◌, ◌*◌, ◌%◌, ◌≤◌, ◌<◌}
use native.Mathlib.Nat.{mod-lt, mul-zero}
use native.Mathlib.Decide.{ℕ_discrete}
use native.Mathlib.Omega.{arith}
use lib.Dec.{leb}
use lib.ListN.{length, get_or, set}
use borrow.Author.Tests.{leb-true, le-leb}
use Rattle.lists.proofs.Bools.{and_left, and_right}
use Rattle.algebra.proofs.Congruence.{exact, turn, ◌⊙◌}
use Rattle.algebra.proofs.Inverse.{one_not_zero}
use Rattle.residue.specs.Inverse.{inv_mod, Invertible}
use Rattle.residue.proofs.Inverse.{Inverse, inv_mod-inverse}
use Rattle.sparse.specs.Dense.{nonzeros, scaled}
use Rattle.sparse.specs.Storing.{StoreReady, RowStored}
use Rattle.sparse.proofs.Nonzeros.{count-scaled}
use Rattle.factor_row.specs.Entries.{entry_lists_of}
use Rattle.factor_row.specs.PivotRow.{PivotOutcome}
use Rattle.factor_row.specs.Needs.{PivotReady}

-- ---- the test

pub no_room : (t u a k : ℕ) (b : Bool) → u ≡ t → false ≡ (leb (t + 1) u && b)
no_room t u a k b e = go (leb (t + 1) u) refl
  where
    go : (x : Bool) → leb (t + 1) u ≡ x → false ≡ (x && b)
    go true q = absurd (omega (arith, leb-true (t + 1) u q))
    go false q = refl

leb-same : (a b c d : ℕ) → (a ≤ b → c ≤ d) → (c ≤ d → a ≤ b) → leb a b ≡ leb c d
leb-same a b c d f g = go (leb a b) (leb c d) refl refl
  where
    go : (x y : Bool) → leb a b ≡ x → leb c d ≡ y → x ≡ y
    go true true e q = refl
    go true false e q = absurd (true≢false (sym (le-leb c d (f (leb-true a b e))) ∙ q))
    go false true e q = absurd (true≢false (sym (le-leb a b (g (leb-true c d q))) ∙ e))
    go false false e q = refl

pub some-room : (t u a v k : ℕ) → t ≤ u → (u ≡ t → ⊥) → a ≤ v → leb k (v - a) ≡ (leb (t + 1) u && leb (a + k) v)
some-room t u a v k h e g =
    leb-same k (v - a) (a + k) v (λ l. omega arith) (λ l. omega arith)
    ∙ ap (λ (x : Bool). x && leb (a + k) v) (sym (le-leb (t + 1) u (apart (ℕ_discrete u t))))
  where
    apart : Dec (u ≡ t) → t + 1 ≤ u
    apart (yes q) = absurd (e q)
    apart (no q) = omega arith

-- ---- the inverse of a value that is not 0 is not 0 either

pub inverse-invertible : (p v : ℕ) → Invertible p v → Invertible p (inv_mod p v)
inverse-invertible p v i = record { prime = i.prime; nonzero = go (ℕ_discrete (inv_mod p v) 0); below = inv.below }
  where
    inv : Inverse p v (inv_mod p v)
    inv = inv_mod-inverse i

    go : Dec (inv_mod p v ≡ 0) → 0 < inv_mod p v
    go (yes e) = absurd (one_not_zero i.prime (turn inv.product ⊙ exact (ap (λ (x : ℕ). v * x) e ∙ mul-zero v)))
    go (no e) = omega arith

-- ---- before and after the store

module _ (p c r at l total : ℕ) (w lc lv uc uv : List ℕ) (h : PivotReady p c r at l total w (entry_lists_of lc lv uc uv)) where
  abbrev v : ℕ
  v = get_or w c 0 % p

  invertible : Invertible p v
  invertible =
      record { prime = h.prime; nonzero = positive (ℕ_discrete v 0); below = mod-lt (get_or w c 0) (omega (arith, h.prime.two)) }
    where
      positive : Dec (v ≡ 0) → 0 < v
      positive (yes e) = absurd (h.here e)
      positive (no e) = omega arith

  module _ (k : ℕ) (ek : k ≡ length (nonzeros (scaled p 1 w))) (b : Bool) (eb : b ≡ (leb (total + 1) (length lc) && leb (at + k) (length uc))) where
    tested : (leb (total + 1) (length lc) && leb (at + length (nonzeros (scaled p 1 w))) (length uc)) ≡ b
    tested = ap (λ (n : ℕ). leb (total + 1) (length lc) && leb (at + n) (length uc)) (sym ek) ∙ sym eb

    pub pivot-over : b ≡ false → (at' l' total' : ℕ) → PivotOutcome p c r at l total w (entry_lists_of lc lv uc uv) w (entry_lists_of lc lv uc uv) (record { over = true; column = c; at = at'; l = l'; total = total' })
    pivot-over e at' l' total' = record { fit = tested ∙ e; put = λ q. absurd (true≢false q) }

    module _ (e : b ≡ true) where
      pub one_more : total + 1 ≤ length lc
      one_more = leb-true (total + 1) (length lc) (and_left (leb (total + 1) (length lc)) (leb (at + k) (length uc)) (sym eb ∙ e))

      pub store-ready : (x i : ℕ) → x ≡ v → i ≡ inv_mod p x → i < p → StoreReady p i at w uc uv
      store-ready x i ex ei low =
          record {
            residue = low;
            narrow = h.lists.narrow;
            room = record {
              fits = omega (
                arith,
                leb-true (at + k) (length uc) (and_right (leb (total + 1) (length lc)) (leb (at + k) (length uc)) (sym eb ∙ e)),
                count-scaled p i w (rw (ei ∙ ap (inv_mod p) ex) (inverse-invertible p v invertible)),
              );
              paired = h.lists.U-paired;
            };
          }

      pub pivot-done : (x i : ℕ) → x ≡ v → i ≡ inv_mod p x → (w' uc' uv' : List ℕ) (at' : ℕ) → RowStored p i at w uc uv w' uc' uv' at'
          → PivotOutcome p c r at l total w (entry_lists_of lc lv uc uv) w' (entry_lists_of (set lc l r) (set lv l x) uc' uv') (record { over = false; column = c; at = at'; l = l + 1; total = total + 1 })
      pivot-done x i ex ei w' uc' uv' at' d =
          record {
            fit = tested ∙ e;
            put = λ q. record {
              upper = rw (sym (ei ∙ ap (inv_mod p) ex)) d;
              column = refl;
              value = ap (set lv l) ex;
              place = refl;
              count = refl;
            };
          }
