-- The settled row: each cell is its residue, so that it is stored or found dependent as the row that is not settled.
use mathlib.Core.Path.{◌≡◌, refl, sym, ap, ◌∙◌}
use mathlib.Core.Bool.{Bool, true, false, ◌&&◌}
use mathlib.Core.List.{List}
use Prim.Native.Nat.{ℕ, ◌+◌, ◌-◌, ◌*◌, ◌%◌, ◌<◌}
use native.Mathlib.Nat.{mod-lt, mod-eq_of_lt, zero-mod}
use native.Mathlib.Decide.{ℕ_discrete}
use native.Mathlib.Omega.{arith}
use lib.Dec.{leb, eqb}
use lib.ListN.{length, get_or, take}
use lib.Seq.{ext_get_or}
use borrow.Author.Tests.{eqb-true, eqb-false}
use Rattle.lists.specs.Filled.{zeros}
use Rattle.lists.specs.Tests.{first}
use Rattle.lists.specs.Tabulate.{tabulate}
use Rattle.lists.proofs.Filled.{length-zeros, zeros-at}
use Rattle.lists.proofs.Tests.{first-ext, first-before, first-here}
use Rattle.lists.proofs.Tabulate.{tabulate-ext}
use Rattle.residue.specs.Inverse.{inv_mod}
use Rattle.sparse.specs.Row.{Below}
use Rattle.sparse.specs.Matrix.{Compressed, matrix}
use Rattle.sparse.specs.Dense.{nonzeros, scaled}
use Rattle.sparse.specs.Storing.{DenseStored}
use Rattle.sparse.proofs.Nonzeros.{scaled-tabulate}
use Rattle.factor_touch.specs.Touched.{cell_block, Covers}
use Rattle.factor_touch.specs.Settling.{RowSettled, StoreSettledReady}
use Rattle.factor_reduce.specs.declared.gather.Gathered.{Gathered}
use Rattle.factor_row.specs.declared.pivot_row.Step.{Step}
use Rattle.factor_row.specs.Gathering.{Reduction, reduction_by, cut}
use Rattle.factor_row.specs.Entries.{EntryLists, entry_lists_of}
use Rattle.factor_row.specs.PivotRow.{PivotOutcome}
use Rattle.factor_row.specs.Taking.{RowFound}
use Rattle.factor_row.proofs.PivotRows.{store-ready}
use Rattle.factor_row.proofs.TakenRows.{first-most, other-over, other-dependent, other-taken}
use Rattle.factor_marked.specs.Marking.{residues, RowMarked, lowest, RemainderTaken}
use Rattle.factor_marked.specs.Needs.{SettledPivotReady, RemainderReady, MarkedReady}
use Rattle.factor_marked.proofs.Residues.{residues-long, residue-twice, residues-are}

-- ---- a row and its settled row

module _ (p : ℕ) (w₀ w : List ℕ) (count low : ℕ) (positive : 0 < p) (s : RowSettled p w₀ w count low) where
  settled_is : w ≡ residues p w₀
  settled_is = residues-are p w₀ w s.long (λ j h. s.cells j)

  settled-twice : (j : ℕ) → get_or w₀ j 0 % p ≡ get_or w j 0 % p
  settled-twice j = sym (ap (λ (x : ℕ). x % p) (s.cells j) ∙ mod-eq_of_lt (mod-lt (get_or w₀ j 0) positive))

  settled-below : Below p w
  settled-below j h = rw (s.cells j) (mod-lt (get_or w₀ j 0) positive)

  settled-covers : (touched : List ℕ) → Covers cell_block touched w₀ → Covers cell_block touched w
  settled-covers touched c j h e = s.cells j ∙ ap (λ (x : ℕ). x % p) (c j (omega (arith, s.long)) e) ∙ zero-mod p

  settled-low : low ≡ lowest p w
  settled-low =
      s.lowest
      ∙ first-ext (length w₀) (λ j. eqb (get_or w₀ j 0 % p) 0) (λ j. eqb (get_or w j 0 % p) 0) (λ j h. ap (λ (x : ℕ). eqb x 0) (settled-twice j))
      ∙ ap (λ (n : ℕ). first n (λ j. eqb (get_or w j 0 % p) 0)) (sym s.long)

  settled-many : count ≡ length (nonzeros (scaled p 1 w))
  settled-many = s.many ∙ ap (λ (l : List ℕ). length (nonzeros l)) same
    where
      same : scaled p 1 w₀ ≡ scaled p 1 w
      same =
          scaled-tabulate p 1 w₀
          ∙ tabulate-ext (length w₀) (λ j. 1 * (get_or w₀ j 0 % p) % p) (λ j. 1 * (get_or w j 0 % p) % p) (λ j h. ap (λ (x : ℕ). 1 * x % p) (settled-twice j))
          ∙ ap (λ (n : ℕ). tabulate n (λ j. 1 * (get_or w j 0 % p) % p)) (sym s.long)
          ∙ sym (scaled-tabulate p 1 w)

  -- no cell is other than 0: the row is all zero as it stands
  settled-clear : low ≡ length w → w ≡ zeros (length w)
  settled-clear e = ext_get_or 0 w (zeros (length w)) (sym (length-zeros (length w))) (λ j h. cell j (omega (arith, h, e, s.lowest)) ∙ sym (zeros-at (length w) j))
    where
      cell : (j : ℕ) → j < first (length w₀) (λ i. eqb (get_or w₀ i 0 % p) 0) → get_or w j 0 ≡ 0
      cell j h = s.cells j ∙ eqb-true (get_or w₀ j 0 % p) 0 (first-before (length w₀) (λ i. eqb (get_or w₀ i 0 % p) 0) j h)

-- ---- it is stored

module _ (p c n r at l total : ℕ) (touched w lc lv uc uv : List ℕ) (h : SettledPivotReady p c n r at l total touched w (entry_lists_of lc lv uc uv)) where
  pub pivot-storable : (b : Bool) → b ≡ (leb (total + 1) (length lc) && leb (at + n) (length uc)) → b ≡ true → (x i : ℕ) → x ≡ get_or w c 0 % p → i ≡ inv_mod p x → i < p
      → StoreSettledReady p i at touched w uc uv
  pivot-storable b eb e x i ex ei low =
      record {
        store = store-ready p c r at l total w lc lv uc uv h.pivot n h.many b eb e x i ex ei low;
        blocks = h.blocks;
        covers = h.covers;
        below = h.below;
      }

-- ---- what remains is settled and taken

module _ (p r at l next total : ℕ) (touched w lc lv uc uv : List ℕ) (h : RemainderReady p r at next total touched w (entry_lists_of lc lv uc uv)) where
  positive : 0 < p
  positive = omega (arith, h.prime.two)

  module _ (w₁ : List ℕ) (count low : ℕ) (s : RowSettled p w w₁ count low) where
    pub remainder-none : low ≡ length w₁ → RemainderTaken p r at l next total w (entry_lists_of lc lv uc uv) w₁ (entry_lists_of lc lv uc uv) (record { over = false; column = low; at = at; l = l; total = total })
    remainder-none e =
        record {
          none = λ z. (same, (refl, settled-clear p w w₁ count low positive s e ∙ ap zeros s.long));
          some = λ z. absurd (z (sym s.lowest ∙ e ∙ s.long));
        }
      where
        same : ◌≡◌ {A = Step} (record { over = false; column = low; at = at; l = l; total = total }) (record { over = false; column = lowest p w; at = at; l = l; total = total })
        same = ap (λ (c : ℕ). record { over = false; column = c; at = at; l = l; total = total }) s.lowest

    module _ (some : ¬ (low ≡ length w₁)) where
      low-inside : low < length w₁
      low-inside = go (ℕ_discrete low (length w₁))
        where
          go : Dec (low ≡ length w₁) → low < length w₁
          go (yes z) = absurd (some z)
          go (no z) = omega (arith, settled-low p w w₁ count low positive s, first-most (length w₁) (λ j. eqb (get_or w₁ j 0 % p) 0))

      here : ¬ (get_or w₁ low 0 % p ≡ 0)
      here z =
          eqb-false (get_or w₁ (lowest p w₁) 0 % p) 0 (first-here (length w₁) (λ j. eqb (get_or w₁ j 0 % p) 0) (omega (arith, low-inside, low-is)))
          (ap (λ (j : ℕ). get_or w₁ j 0 % p) (sym low-is) ∙ z)
        where
          low-is : low ≡ lowest p w₁
          low-is = settled-low p w w₁ count low positive s

      pub remainder-pivot : SettledPivotReady p low count r at next total touched w₁ (entry_lists_of lc lv uc uv)
      remainder-pivot =
          record {
            pivot = record { prime = h.prime; column = low-inside; here = here; lists = rw s.long h.lists };
            many = settled-many p w w₁ count low positive s;
            blocks = omega (arith, h.blocks, s.long);
            covers = settled-covers p w w₁ count low positive s touched h.covers;
            below = settled-below p w w₁ count low positive s;
          }

      pub remainder-some : (w₂ : List ℕ) (e : EntryLists) (t : Step) → t.column ≡ low → PivotOutcome p low r at next total w₁ (entry_lists_of lc lv uc uv) w₂ e t
          → RemainderTaken p r at l next total w (entry_lists_of lc lv uc uv) w₂ e t
      remainder-some w₂ e t ec d =
          record {
            none = λ z. absurd (some (s.lowest ∙ z ∙ sym s.long));
            some = λ z. (ec ∙ s.lowest, rw (sym s.lowest, sym (settled_is p w w₁ count low positive s)) d);
          }

-- ---- the row is gathered first

module _ (p i r at l total : ℕ) (A : Compressed) (columns us place w lc lv uc uv : List ℕ) (h : MarkedReady p i r at l total A columns us place w (entry_lists_of lc lv uc uv)) where
  abbrev reduction : Reduction
  reduction = reduction_by p (length w) r (take r columns) (cut r at us uc uv) (matrix A i)

  module _ (touched lc₁ lv₁ w₁ : List ℕ) (o : Gathered) (g : RowMarked p l total reduction lc lv touched lc₁ lv₁ w₁ o) where
    pub marked-over : o.over ≡ true → (uc' uv' row' : List ℕ) (found at' l' total' : ℕ) → RowFound p at l total reduction (entry_lists_of lc lv uc uv) (entry_lists_of lc₁ lv₁ uc' uv') row' (record { over = true; column = found; at = at'; l = l'; total = total' })
    marked-over = other-over p i r at l total A columns us w lc lv uc uv h.other lc₁ lv₁ (residues p w₁) o g.gathered

    module _ (e : o.over ≡ false) where
      stored : DenseStored 0 l reduction.multiples lc lv lc₁ lv₁ o.next
      stored = g.gathered.stored e

      lowest-is : lowest p w₁ ≡ lowest p (residues p w₁)
      lowest-is =
          first-ext (length w₁) (λ j. eqb (get_or w₁ j 0 % p) 0) (λ j. eqb (get_or (residues p w₁) j 0 % p) 0)
          (λ j b. ap (λ (x : ℕ). eqb x 0) (sym (residue-twice p w₁ (omega (arith, h.other.prime.two)) j b)))
          ∙ ap (λ (n : ℕ). first n (λ j. eqb (get_or (residues p w₁) j 0 % p) 0)) (sym (residues-long p w₁))

      module _ (total₁ : ℕ) (et : total₁ ≡ total + (o.next - l)) where
        pub marked-taken : (row' : List ℕ) (e' : EntryLists) (t : Step) → RemainderTaken p r at l o.next total₁ w₁ (entry_lists_of lc₁ lv₁ uc uv) row' e' t
            → RowFound p at l total reduction (entry_lists_of lc lv uc uv) e' row' t
        marked-taken row' e' t d = go (ℕ_discrete (lowest p w₁) (length w₁))
          where
            go : Dec (lowest p w₁ ≡ length w₁) → RowFound p at l total reduction (entry_lists_of lc lv uc uv) e' row' t
            go (yes z) = let q = d.none z in
                rw (q.0, q.1.0)
                (other-dependent p i r at l total A columns us w lc lv uc uv h.other lc₁ lv₁ (residues p w₁) o g.gathered e (lowest p w₁) lowest-is (z ∙ sym (residues-long p w₁)) row' (q.1.1 ∙ ap zeros (sym (residues-long p w₁))) total₁ et)
            go (no z) = let q = d.some z in
                other-taken p i r at l total A columns us w lc lv uc uv h.other lc₁ lv₁ (residues p w₁) o g.gathered e (lowest p w₁) lowest-is (λ y. z (y ∙ residues-long p w₁)) total₁ et row' e'.lc e'.lv e'.uc e'.uv t q.0 q.1
