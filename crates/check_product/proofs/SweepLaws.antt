-- Laws of the sweep: cells cleared one after another, and what is 0 where no row has an entry.
use mathlib.Core.Path.{◌≡◌, refl, sym, ap, ◌∙◌}
use mathlib.Core.Logic.{◌⊎◌, inl, inr}
use mathlib.Core.Bool.{Bool, true, false}
use mathlib.Core.List.{List, [], ◌∷◌}
use Prim.Native.Nat.{ℕ, suc, ◌+◌, ◌*◌, ◌%◌, ◌≤◌, ◌<◌}
use native.Mathlib.Omega.{arith}
use native.Mathlib.Nat.{zero-mod}
use native.Mathlib.Decide.{ℕ_discrete}
use lib.Dec.{eqb}
use lib.ListN.{length, get_or}
use lib.Seq.{ext_get_or}
use borrow.Author.Tests.{eqb-true, eq-eqb}
use Rattle.lists.specs.Filled.{zeros}
use Rattle.lists.specs.Tests.{all}
use Rattle.lists.proofs.Filled.{zeros-at, length-zeros}
use Rattle.lists.proofs.Tests.{all-at, all_pass}
use Rattle.sparse.specs.Row.{weigh, entry}
use Rattle.sparse.specs.Matrix.{Compressed, row_of, matrix, form}
use Rattle.sparse.specs.WorkingRow.{SubtractedTo, Subtracted}
use Rattle.sparse.proofs.Entries.{row-columns, entry_absent}
use Rattle.sparse.proofs.Rows.{form-starts, form-row}
use Rattle.check_product.specs.Sweep.{Some, Among, AmongRows, Swept, TestedAndCleared}
use Rattle.check_product.specs.Needs.{ComparesRow, RowsInside, ClearsTouched}

-- ---- one after another

swept-then : (p : ℕ) (P P₁ P₂ : ℕ → Type 0) (z₀ z₁ z₂ : Bool) (w₀ w₁ w₂ : List ℕ) → ((j : ℕ) → P j → P₁ j ⊎ P₂ j)
    → Swept p P₁ z₀ w₀ w₁ z₁ → Swept p P₂ z₁ w₁ w₂ z₂ → Swept p P z₀ w₀ w₂ z₂
swept-then p P P₁ P₂ z₀ z₁ z₂ w₀ w₁ w₂ split a b =
    record {
      long = b.long ∙ a.long;
      cleared = λ j h. go j (split j h);
      still = λ j e. b.still j (a.still j e);
      passed = λ e. let l = b.passed e in let f = a.passed l.0 in (f.0, λ j. f.1 j ∙ l.1 j);
      passes = λ e h. let f = a.passes e h in b.passes f (λ j g. sym ((a.passed f).1 j) ∙ h j (omega (arith, a.long)));
    }
  where
    go : (j : ℕ) → P₁ j ⊎ P₂ j → get_or w₂ j 0 ≡ 0
    go j (inl h) = b.still j (a.cleared j h)
    go j (inr h) = b.cleared j h

-- ---- a loop over the places of ks, which sweeps the columns Q k for each number k of ks

pub record Sweeping (p : ℕ) (ks : List ℕ) (Q : ℕ → ℕ → Type 0) (z₀ : Bool) (w₀ w : List ℕ) (z : Bool) (t : ℕ) : Type 0 where
  pub so_far : Swept p (λ j. Some t (λ s. Q (get_or ks s 0) j)) z₀ w₀ w z

pub sweeping-turn : (p : ℕ) (ks : List ℕ) (Q : ℕ → ℕ → Type 0) (z₀ z z' : Bool) (w₀ w w' : List ℕ) (t k : ℕ) → k ≡ get_or ks t 0
    → Sweeping p ks Q z₀ w₀ w z t → Swept p (Q k) z w w' z' → Sweeping p ks Q z₀ w₀ w' z' (t + 1)
sweeping-turn p ks Q z₀ z z' w₀ w w' t k e s d =
    record { so_far = swept-then p (λ j. Some (t + 1) (λ u. Q (get_or ks u 0) j)) (λ j. Some t (λ u. Q (get_or ks u 0) j)) (Q k) z₀ z z' w₀ w w' (λ j h. split j h (ℕ_discrete h.place t)) s.so_far d }
  where
    split : (j : ℕ) (h : Some (t + 1) (λ u. Q (get_or ks u 0) j)) → Dec (h.place ≡ t) → Some t (λ u. Q (get_or ks u 0) j) ⊎ Q k j
    split j h (yes q) = inr (rw (e, sym q) h.holds)
    split j h (no q) = inl (record { place = h.place; upto = omega (arith, h.upto, q); holds = h.holds })

-- ---- two sweeps that together meet every cell that is not 0

pub swept_all : (p : ℕ) (P₁ P₂ : ℕ → Type 0) (w₀ w₁ w : List ℕ) (z₁ z : Bool) → ((j : ℕ) → j < length w₀ → (P₁ j → ⊥) → (P₂ j → ⊥) → get_or w₀ j 0 ≡ 0)
    → Swept p P₁ true w₀ w₁ z₁ → Swept p P₂ z₁ w₁ w z → TestedAndCleared p w₀ w z
swept_all p P₁ P₂ w₀ w₁ w z₁ z others a b =
    record {
      tested = same z refl;
      cleared = ext_get_or 0 w (zeros (length w₀)) (s.long ∙ sym (length-zeros (length w₀))) (λ j h. gone j (omega (arith, s.long)) ∙ sym (zeros-at (length w₀) j));
    }
  where
    s : Swept p (λ j. P₁ j ⊎ P₂ j) true w₀ w z
    s = swept-then p (λ j. P₁ j ⊎ P₂ j) P₁ P₂ true z₁ z w₀ w₁ w (λ j h. h) a b

    gone : (j : ℕ) → j < length w₀ → get_or w j 0 ≡ 0
    gone j h = go (ℕ_discrete (get_or w j 0) 0)
      where
        go : Dec (get_or w j 0 ≡ 0) → get_or w j 0 ≡ 0
        go (yes e) = e
        go (no e) = s.still j (others j h (λ x. e (s.cleared j (inl x))) (λ x. e (s.cleared j (inr x))))

    test : ℕ → Bool
    test j = eqb (get_or w₀ j 0 % p) 0

    same : (t : Bool) → z ≡ t → z ≡ all (length w₀) test
    same true e = e ∙ sym (all_pass (length w₀) test (λ j h. eq-eqb (get_or w₀ j 0 % p) 0 ((s.passed e).1 j ∙ ap (λ (x : ℕ). x % p) (gone j h) ∙ zero-mod p)))
    same false e = e ∙ sym (fails (all (length w₀) test) refl)
      where
        fails : (t : Bool) → all (length w₀) test ≡ t → t ≡ false
        fails true q = sym (s.passes refl (λ j h. eqb-true (get_or w₀ j 0 % p) 0 (all-at (length w₀) test q j h))) ∙ e
        fails false q = refl

-- ---- the columns that a row has touched

-- what the form says of row starts and columns alone
form-inside : (p width m : ℕ) (h : Compressed) → form p width h ≡ true → width ≤ m → RowsInside m h.starts h.cols
form-inside p width m h f le =
    record {
      rise = λ k g. (form-starts p width h.starts h.cols h.vals f k g).0;
      end = λ k g. (form-starts p width h.starts h.cols h.vals f k g).1;
      row = λ k t g. omega (arith, row-columns p width (row_of h.starts k h.cols) (row_of h.starts k h.vals) (form-row p width h.starts h.cols h.vals f k) t g);
    }

-- where no row has an entry, the sum is 0
weigh-none : (cols vals : List ℕ) (f : ℕ → ℕ) → ((t : ℕ) → t < length cols → f (get_or cols t 0) ≡ 0) → weigh cols vals f ≡ 0
unfolding weigh
weigh-none [] vals f h = refl
weigh-none (c ∷ cs) [] f h = refl
weigh-none (c ∷ cs) (v ∷ vs) f h = omega (arith, ap (λ (z : ℕ). v * z) (h 0 (omega arith)), weigh-none cs vs f (λ t g. h (suc t) (omega arith)))

-- a working row that was all zero and has a row in it: it is 0 outside the columns of that row
pub loaded-others : (p c : ℕ) (cols vals w₀ w : List ℕ) → w₀ ≡ zeros (length w₀) → Subtracted p (λ j. c * entry cols vals j) w₀ w
    → (j : ℕ) → j < length w → (Among cols j → ⊥) → get_or w j 0 ≡ 0
loaded-others p c cols vals w₀ w cleared d j h none =
    d.kept j (omega (arith, d.long)) (omega (arith, ap (λ (x : ℕ). c * x) (entry_absent cols vals j (λ t g e. none (record { place = t; upto = g; holds = e })))))
    ∙ ap (λ (l : List ℕ). get_or l j 0) cleared
    ∙ zeros-at (length w₀) j

module _ (p r : ℕ) (cols ks vs : List ℕ) (U : Compressed) (w₀ w : List ℕ) (c : ComparesRow p r cols ks vs U w₀) where
  product-none : (j : ℕ) → (AmongRows ks U.starts U.cols j → ⊥) → weigh ks vs (λ k. matrix U k j) ≡ 0
  product-none j none =
      weigh-none ks vs (λ k. matrix U k j)
      (λ t g. entry_absent (row_of U.starts (get_or ks t 0) U.cols) (row_of U.starts (get_or ks t 0) U.vals) j
      (λ s h e. none (record { place = t; upto = g; holds = record { place = s; upto = h; holds = e } })))

  -- the product taken away from a working row with A's row in it: only cells at their columns are other than 0
  pub clears-touched : {e : ℕ} → SubtractedTo p e (λ j. weigh ks vs (λ k. matrix U k j)) w₀ w → ClearsTouched p cols ks U.starts U.cols w
  clears-touched d = let f = c.combines in
      record {
        product =
            record {
              positive = f.positive;
              rows = λ t g. omega (arith, row-columns p r ks vs f.row t g, f.U-rows);
              U-rows = form-inside p (length w₀) (length w) U f.U-form (omega (arith, d.long));
            };
        own = record { positive = f.positive; cells = λ t g. omega (arith, c.cells t g, d.long) };
        others = λ j b notProduct notOwn. d.kept j (omega (arith, d.long)) (product-none j notProduct) ∙ c.others j (omega (arith, d.long)) notOwn;
      }
