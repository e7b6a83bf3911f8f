-- A sparse row is what storing its dense cells gives, and so is its multiple.
use mathlib.Core.Path.{◌≡◌, refl, sym, ap, ◌∙◌}
use mathlib.Core.Bool.{true, ◌&&◌}
use mathlib.Core.List.{List, [], ◌∷◌, ◌++◌, map}
use Prim.Native.Nat.{ℕ, zero, suc, ◌+◌, ◌-◌, ◌*◌, ◌%◌, ◌≤◌, ◌<◌}
use native.Mathlib.Nat.{mod-lt, mod-eq_of_lt, zero-mod}
use native.Mathlib.Decide.{ℕ_discrete, dec_lt}
use native.Mathlib.Numerals.{add-one}
use native.Mathlib.Omega.{arith}
use lib.Dec.{leb, ltb}
use lib.ListN.{length, get_or, get_or-eq_default}
use lib.Seq.{sets}
use borrow.Author.Tests.{lt-ltb}
use Rattle.lists.specs.Filled.{zeros}
use Rattle.lists.specs.Tabulate.{tabulate}
use Rattle.lists.proofs.Bools.{and_both, and_right}
use Rattle.lists.proofs.Filled.{length-zeros}
use Rattle.lists.proofs.Tabulate.{length-tabulate, tabulate-at, tabulate-ext}
use Rattle.algebra.specs.Sum.{δ}
use Rattle.algebra.proofs.Dot.{δ-same, δ-other}
use Rattle.residue.specs.Inverse.{Invertible}
use Rattle.sparse.specs.Form.{rises_from, values_ok}
use Rattle.sparse.specs.Row.{weigh, entry, Row}
use Rattle.sparse.specs.Dense.{columns_from, nonzeros, scaled}
use Rattle.sparse.specs.Storing.{DenseStored}
use Rattle.sparse.specs.Copying.{Copied}
use Rattle.sparse.proofs.Entries.{rises-at, values-at, entry-low, entry_absent, entry-below}
use Rattle.sparse.proofs.DenseLaws.{dense-entry, values_same, columns-same}
use Rattle.sparse.proofs.Nonzeros.{columns-append, nonzeros-append, length-scaled, scaled-zero, zero-scaled}

-- ---- zeros store nothing

pub nonzeros-zeros : (n : ℕ) → nonzeros (zeros n) ≡ []
unfolding nonzeros zeros
nonzeros-zeros zero = refl
nonzeros-zeros (suc n) = nonzeros-zeros n

pub columns-zeros : (j n : ℕ) → columns_from j (zeros n) ≡ []
unfolding columns_from zeros
columns-zeros j zero = refl
columns-zeros j (suc n) = columns-zeros (suc j) n

-- ---- the dense cells of a sparse row

-- a dense row that is stored as these columns, counted from `low`, and values
record DenseOf (low : ℕ) (cols vals row : List ℕ) : Type 0 where
  columns : columns_from low row ≡ cols
  stored : nonzeros row ≡ vals

-- one column more: zeros up to it, then its value
dense-more : (low k v : ℕ) (ks vs row : List ℕ) → low ≤ k → DenseOf (k + 1) ks vs row → DenseOf low (k ∷ ks) (suc v ∷ vs) (zeros (k - low) ++ (suc v ∷ row))
unfolding columns_from nonzeros
dense-more low k v ks vs row h d =
    record {
      columns =
          columns-append low (zeros (k - low)) (suc v ∷ row)
          ∙ (λ t. columns-zeros low (k - low) t ++ columns_from (here t) (suc v ∷ row))
          ∙ ap (λ (l : List ℕ). k ∷ l) (ap (λ (j : ℕ). columns_from j row) (sym (add-one k)) ∙ d.columns);
      stored =
          nonzeros-append (zeros (k - low)) (suc v ∷ row)
          ∙ (λ t. nonzeros-zeros (k - low) t ++ (suc v ∷ d.stored t));
    }
  where
    here : low + length (zeros (k - low)) ≡ k
    here = omega (arith, length-zeros (k - low))

dense-of : (p width low : ℕ) (cols vals : List ℕ) → length cols ≡ length vals → rises_from width low cols ≡ true → values_ok p vals ≡ true → (row : List ℕ) × DenseOf low cols vals row
unfolding columns_from nonzeros rises_from values_ok
dense-of p width low [] [] e h g = ([], record { columns = refl; stored = refl })
dense-of p width low [] (v ∷ vs) e h g = absurd (omega arith)
dense-of p width low (k ∷ ks) [] e h g = absurd (omega arith)
dense-of p width low (k ∷ ks) (zero ∷ vs) e h g = absurd (omega (arith, values-at p (zero ∷ vs) g 0 (omega arith)))
dense-of p width low (k ∷ ks) (suc v ∷ vs) e h g =
    let d = dense-of p width (k + 1) ks vs (omega arith) (and_right (leb low k && ltb k width) (rises_from width (k + 1) ks) h) (and_right (ltb 0 (suc v) && ltb (suc v) p) (values_ok p vs) g) in
    (zeros (k - low) ++ (suc v ∷ d.0), dense-more low k v ks vs d.0 (rises-at width low (k ∷ ks) h 0 (omega arith)).0 d.1)

-- right of the last column there is nothing
entry-high : (p width : ℕ) (cols vals : List ℕ) (j : ℕ) → Row p width cols vals → width ≤ j → entry cols vals j ≡ 0
entry-high p width cols vals j row h = entry_absent cols vals j (λ t g e. omega (arith, (rises-at width 0 cols row.rising t g).1))

module _ (p width : ℕ) (cols vals : List ℕ) (row : Row p width cols vals) where
  same-cells : (dense : List ℕ) → DenseOf 0 cols vals dense → (j : ℕ) → get_or (tabulate width (entry cols vals)) j 0 ≡ get_or dense j 0
  same-cells dense d j = cell (dec_lt j width) ∙ sym (λ t. entry (d.columns t) (d.stored t) j) ∙ dense-entry dense j
    where
      cell : Dec (j < width) → get_or (tabulate width (entry cols vals)) j 0 ≡ entry cols vals j
      cell (yes h) = tabulate-at width (entry cols vals) j h
      cell (no h) =
          get_or-eq_default (tabulate width (entry cols vals)) 0 (omega (arith, length-tabulate width (entry cols vals)))
          ∙ sym (entry-high p width cols vals j row (omega arith))

  -- the columns and values of a row are those of its dense cells
  pub stored-as-is : (columns_from 0 (tabulate width (entry cols vals)) ≡ cols) × (nonzeros (tabulate width (entry cols vals)) ≡ vals)
  stored-as-is =
      let d = dense-of p width 0 cols vals row.paired row.rising row.nonzero in (
        columns-same 0 (tabulate width (entry cols vals)) d.0 (same-cells d.0 d.1) ∙ d.1.columns,
        values_same (tabulate width (entry cols vals)) d.0 (same-cells d.0 d.1) ∙ d.1.stored,
      )

-- ---- a multiple of a sparse row

-- each value by itself: a column has one value at most
entry-map : (h : ℕ → ℕ) → h 0 ≡ 0 → (width low : ℕ) (cols vals : List ℕ) (j : ℕ) → rises_from width low cols ≡ true → entry cols (map h vals) j ≡ h (entry cols vals j)
unfolding rises_from weigh
entry-map h z width low [] vals j r = sym z
entry-map h z width low (k ∷ ks) [] j r = sym z
entry-map h z width low (k ∷ ks) (v ∷ vs) j r = go (ℕ_discrete k j) (entry-map h z width (k + 1) ks vs j rest)
  where
    rest : rises_from width (k + 1) ks ≡ true
    rest = and_right (leb low k && ltb k width) (rises_from width (k + 1) ks) r

    go : Dec (k ≡ j) → entry ks (map h vs) j ≡ h (entry ks vs j) → h v * δ k j + entry ks (map h vs) j ≡ h (v * δ k j + entry ks vs j)
    go (yes e) later = alone (h v) (map h vs) ∙ ap h (sym (alone v vs))
      where
        alone : (x : ℕ) (xs : List ℕ) → x * δ k j + entry ks xs j ≡ x
        alone x xs = omega (arith, ap (λ (y : ℕ). x * y) (ap (δ k) (sym e) ∙ δ-same k), entry-low width (k + 1) j ks xs rest (omega arith))
    go (no e) later = other (h v) (entry ks (map h vs) j) ∙ later ∙ ap h (sym (other v (entry ks vs j)))
      where
        other : (x y : ℕ) → x * δ k j + y ≡ y
        other x y = omega (arith, ap (λ (d : ℕ). x * d) (δ-other k j e))

module _ (p c : ℕ) (i : Invertible p c) where
  positive : 0 < p
  positive = omega (arith, i.below)

  -- a value stays from 1 to p - 1
  scaled-values : (vals : List ℕ) → values_ok p vals ≡ true → values_ok p (scaled p c vals) ≡ true
  unfolding values_ok scaled
  scaled-values [] h = refl
  scaled-values (v ∷ vs) h =
      and_both (ltb 0 (c * (v % p) % p) && ltb (c * (v % p) % p) p) (values_ok p (scaled p c vs))
      (and_both (ltb 0 (c * (v % p) % p)) (ltb (c * (v % p) % p) p)
      (lt-ltb 0 (c * (v % p) % p) (some (ℕ_discrete (c * (v % p) % p) 0))) (lt-ltb (c * (v % p) % p) p (mod-lt (c * (v % p)) positive)))
      (scaled-values vs (and_right (ltb 0 v && ltb v p) (values_ok p vs) h))
    where
      bounds : (0 < v) × (v < p)
      bounds = values-at p (v ∷ vs) h 0 (omega arith)

      some : Dec (c * (v % p) % p ≡ 0) → 0 < c * (v % p) % p
      some (yes e) = absurd (omega (arith, bounds, sym (mod-eq_of_lt bounds.1) ∙ scaled-zero p c v i e))
      some (no e) = omega arith

  module _ (width : ℕ) (cols vals : List ℕ) (row : Row p width cols vals) where
    scaled-row : Row p width cols (scaled p c vals)
    scaled-row = record { paired = row.paired ∙ sym (length-scaled p c vals); rising = row.rising; nonzero = scaled-values vals row.nonzero }

    scaled-entry : (j : ℕ) → entry cols (scaled p c vals) j ≡ c * entry cols vals j % p
    unfolding scaled
    scaled-entry j =
        entry-map (λ x. c * (x % p) % p) (zero-scaled p c 0 (zero-mod p)) width 0 cols vals j row.rising
        ∙ ap (λ (x : ℕ). c * x % p) (mod-eq_of_lt (entry-below p width 0 j cols vals positive row.rising row.nonzero))

    same_row : tabulate width (λ j. c * entry cols vals j % p) ≡ tabulate width (entry cols (scaled p c vals))
    same_row = tabulate-ext width (λ j. c * entry cols vals j % p) (entry cols (scaled p c vals)) (λ j h. sym (scaled-entry j))

    pub multiple-columns : columns_from 0 (tabulate width (λ j. c * entry cols vals j % p)) ≡ cols
    multiple-columns = ap (columns_from 0) same_row ∙ (stored-as-is p width cols (scaled p c vals) scaled-row).0

    pub multiple-values : nonzeros (tabulate width (λ j. c * entry cols vals j % p)) ≡ scaled p c vals
    multiple-values = ap nonzeros same_row ∙ (stored-as-is p width cols (scaled p c vals) scaled-row).1

    pub multiple-count : length (nonzeros (tabulate width (λ j. c * entry cols vals j % p))) ≡ length cols
    multiple-count = ap length multiple-values ∙ length-scaled p c vals ∙ sym row.paired

    -- a row that is copied times c is stored as its multiple
    pub copied-stored : (at : ℕ) (cs₀ vs₀ cs vs : List ℕ) (next : ℕ) → Copied p c at cols vals cs₀ vs₀ cs vs next
        → DenseStored 0 at (tabulate width (λ j. c * entry cols vals j % p)) cs₀ vs₀ cs vs next
    copied-stored at cs₀ vs₀ cs vs next d =
        record {
          place = d.place ∙ ap (λ (n : ℕ). at + n) (sym multiple-count);
          columns = d.columns ∙ ap (sets cs₀ at) (sym multiple-columns);
          values = d.values ∙ ap (sets vs₀ at) (sym multiple-values);
        }
