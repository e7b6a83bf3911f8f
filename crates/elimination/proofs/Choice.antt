-- The row chosen for a column is, of the rows that lead there, the one with fewest entries, and of these the lowest-numbered.
use mathlib.Core.Path.{◌≡◌, refl, sym, ◌∙◌}
use mathlib.Core.Bool.{Bool, true, false, cond, true≢false}
use mathlib.Core.Option.{Option, none, some}
use Prim.Native.Nat.{ℕ, zero, suc, ◌≤◌, ◌<◌}
use native.Mathlib.Omega.{arith}
use lib.Dec.{ltb}
use borrow.Author.Tests.{ltb-true, ltb-false}
use Rattle.algebra.proofs.Dot.{below_suc}
use Rattle.sparse.specs.Matrix.{Compressed}
use Rattle.elimination.specs.Structural.{size, leads, prefer, chosen}

-- row i goes before row j
pub record Preferred (A : Compressed) (i j : ℕ) : Type 0 where
  pub fewest : size A i ≤ size A j
  pub lowest : size A i ≡ size A j → i ≤ j

-- row i is the choice for column c among the first n rows
pub record Choice (A : Compressed) (c n i : ℕ) : Type 0 where
  pub row : i < n
  pub led : leads A i c ≡ true
  pub best : (j : ℕ) → j < n → leads A j c ≡ true → Preferred A i j

-- a choice, or none where no row leads at c
abbrev pub Chosen : Compressed → ℕ → ℕ → Option ℕ → Type 0
Chosen A c n none = (j : ℕ) → j < n → leads A j c ≡ false
Chosen A c n (some i) = Choice A c n i

module _ (A : Compressed) (c n : ℕ) where
  -- row n does not lead at c
  passed : (o : Option ℕ) → leads A n c ≡ false → Chosen A c n o → Chosen A c (suc n) o
  passed none e h = below_suc (λ j. leads A j c ≡ false) n e h
  passed (some i) e h =
      record {
        row = omega (arith, h.row);
        led = h.led;
        best = below_suc (λ j. leads A j c ≡ true → Preferred A i j) n (λ q. absurd (true≢false (sym q ∙ e))) h.best;
      }

  -- row n leads at c
  preferred : (o : Option ℕ) → leads A n c ≡ true → Chosen A c n o → Chosen A c (suc n) (prefer A n o)
  unfolding prefer
  preferred none e h =
      record {
        row = omega arith;
        led = e;
        best = below_suc (λ j. leads A j c ≡ true → Preferred A n j) n (λ q. record { fewest = omega arith; lowest = λ s. omega arith }) (λ j l q. absurd (true≢false (sym q ∙ h j l)));
      }
  preferred (some b) e h = go (ltb (size A n) (size A b)) refl
    where
      go : (t : Bool) → ltb (size A n) (size A b) ≡ t → Chosen A c (suc n) (cond t (some n) (some b))
      go true s =
          let less = ltb-true (size A n) (size A b) s in
          record {
            row = omega arith;
            led = e;
            best = below_suc (λ j. leads A j c ≡ true → Preferred A n j) n (λ q. record { fewest = omega arith; lowest = λ s. omega arith })
                (λ j l q. let k = h.best j l q in record { fewest = omega (arith, k.fewest); lowest = λ s. omega (arith, k.fewest) });
          }
      go false s =
          let more = ltb-false (size A n) (size A b) s in
          record {
            row = omega (arith, h.row);
            led = h.led;
            best = below_suc (λ j. leads A j c ≡ true → Preferred A b j) n (λ q. record { fewest = more; lowest = λ s. omega (arith, h.row) }) h.best;
          }

pub chosen-right : (A : Compressed) (c n : ℕ) → Chosen A c n (chosen A c n)
unfolding chosen
chosen-right A c zero = λ j h. absurd (omega arith)
chosen-right A c (suc n) = go (leads A n c) refl (chosen-right A c n)
  where
    go : (t : Bool) → leads A n c ≡ t → Chosen A c n (chosen A c n) → Chosen A c (suc n) (cond t (prefer A n (chosen A c n)) (chosen A c n))
    go true e h = preferred A c n (chosen A c n) e h
    go false e h = passed A c n (chosen A c n) e h
