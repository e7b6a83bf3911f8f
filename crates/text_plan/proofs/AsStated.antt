-- What reading accepts is stored as the plan that the text states: `stored-as-stated`. The stored lists are the stored form of the dense rows: `stored-dense`.
-- In a plan each triple is found: `stated-found`, at a place of the plan: `stated-inside`.
use mathlib.Core.Path.{◌≡◌, refl, sym, ap, ◌∙◌}
use mathlib.Core.List.{List, [], ◌∷◌, ◌++◌, map}
use mathlib.Core.Bool.{Bool, true, false, cond, ◌&&◌}
use mathlib.Core.Logic.{inl}
use Prim.Native.Nat.{ℕ, ◌+◌, ◌-◌, ◌≤◌, ◌<◌}
use native.Mathlib.Omega.{arith}
use lib.Dec.{eqb}
use lib.ListN.{length, length-map}
use borrow.Author.Tests.{eqb-true}
use Rattle.lists.specs.Tabulate.{tabulate}
use Rattle.lists.proofs.Bools.{and_left, and_right}
use Rattle.lists.proofs.Filled.{filled-cut}
use Rattle.lists.proofs.Tabulate.{length-tabulate}
use Rattle.residue.specs.Signed.{residue_of}
use Rattle.sparse.specs.Matrix.{Compressed, compressed, matrix, form}
use Rattle.sparse.specs.Dense.{compress}
use Rattle.sparse.proofs.DenseLaws.{compress-matrix, compress-lengths}
use Rattle.sparse.proofs.DenseForm.{compress-form}
use Rattle.sparse.proofs.DenseTable.{dense_rows, dense-count, dense-cell, dense-ext, dense-residues}
use Rattle.grouping.proofs.Every.{All, all_map}
use Rattle.grouping.proofs.Stable.{all-member, member_right}
use Rattle.text_judge.specs.declared.judge.Sizes.{Sizes}
use Rattle.limits.specs.Limits.{starts_length}
use Rattle.text_opening.specs.Reading.{Entry, accepted, kept, placed}
use Rattle.text_plan.specs.Stored.{count_to, starts_of, columns_stored, values_of}
use Rattle.text_plan.specs.Stating.{StatedEntry, integer_of, StandApart, Plan, entry_of, entries_of, stated_at}
use Rattle.text_plan.specs.Call.{answer_by, read_answer_of}
use Rattle.text_plan.specs.Held.{plan_of, HoldsPlan}
use Rattle.text_opening.proofs.Moduli.{modulus-two}
use Rattle.text_judge.proofs.Verdicts.{within-bounds}
use Rattle.text_plan.proofs.Kept.{nonzero, kept-stated, value-below}
use Rattle.text_plan.proofs.Scattered.{Elsewhere, Differ, Scattered, plan-scattered, apart-differ, placed-length}
use Rattle.text_plan.proofs.PlacedDense.{entry_at, columns_in, values_in, place-yes, place-no, placed-dense}

-- ---- the residues that are stated
stated-none : (p : ℕ) (ts : List StatedEntry) (i j : ℕ) → All (λ t. Elsewhere (i + 1) (j + 1) (entry_of p t)) ts → stated_at p ts i j ≡ 0
unfolding stated_at
stated-none p [] i j h = refl
stated-none p (t ∷ ts) i j h = rw (place-no t.row t.column (i + 1) (j + 1) h.0) (stated-none p ts i j h.1)

stated-below : (p : ℕ) (ts : List StatedEntry) (i j : ℕ) → 0 < p → stated_at p ts i j < p
unfolding stated_at
stated-below p [] i j h = h
stated-below p (t ∷ ts) i j h = go (eqb t.row (i + 1) && eqb t.column (j + 1)) (stated-below p ts i j h)
  where
    go : (x : Bool) → stated_at p ts i j < p → cond x (residue_of p (integer_of t.value)) (stated_at p ts i j) < p
    go true ih = value-below p t h
    go false ih = ih

-- the entries that are not 0 are those that are stated: no later triple stands at the place of one that is 0
entries-stated : (s : Sizes) (seen : List Entry) (ts : List StatedEntry) (i j : ℕ) → StandApart s seen ts → entry_at (nonzero (map (entry_of s.modulus.p) ts)) i j ≡ stated_at s.modulus.p ts i j
unfolding nonzero entry_at stated_at
entries-stated s seen [] i j r = refl
entries-stated s seen (t ∷ ts) i j r = go (eqb one.value 0) refl (entries-stated s (one ∷ seen) ts i j r.1)
  where
    one : Entry
    one = entry_of s.modulus.p t

    rest : List Entry
    rest = nonzero (map (entry_of s.modulus.p) ts)

    here : Bool
    here = eqb t.row (i + 1) && eqb t.column (j + 1)

    once : (x : Bool) → here ≡ x → one.value ≡ 0 → entry_at rest i j ≡ stated_at s.modulus.p ts i j → entry_at rest i j ≡ cond x one.value (stated_at s.modulus.p ts i j)
    once false e z ih = ih
    once true e z ih =
        let row = eqb-true t.row (i + 1) (and_left (eqb t.row (i + 1)) (eqb t.column (j + 1)) e) in
        let column = eqb-true t.column (j + 1) (and_right (eqb t.row (i + 1)) (eqb t.column (j + 1)) e) in
        let later = apart-differ s one ts (one ∷ seen) (inl refl) r.1 in
        ih
        ∙ stated-none s.modulus.p ts i j
        (all_map (λ u. Differ one (entry_of s.modulus.p u)) (λ u. Elsewhere (i + 1) (j + 1) (entry_of s.modulus.p u)) (λ u d a b. d (row ∙ sym a) (column ∙ sym b)) ts later)
        ∙ sym z

    go : (x : Bool) → eqb one.value 0 ≡ x → entry_at rest i j ≡ stated_at s.modulus.p ts i j → entry_at (cond x rest (one ∷ rest)) i j ≡ cond here one.value (stated_at s.modulus.p ts i j)
    go true e ih = once here refl (eqb-true one.value 0 e) ih
    go false e ih = ap (cond here one.value) ih

-- ---- what is stored
module _ (room : ℕ) (s : Sizes) (ts : List StatedEntry) (h : Plan room s ts) where
  abbrev p : ℕ
  p = s.modulus.p

  abbrev seen : List Entry
  seen = entries_of p ts

  abbrev stored : List Entry
  stored = placed s seen

  abbrev rows : List (List ℕ)
  rows = dense_rows s.n s.m (stated_at p ts)

  scattered : Scattered s seen
  scattered = plan-scattered room s ts h

  at-stated : (i j : ℕ) → entry_at (kept seen) i j ≡ stated_at p ts i j
  at-stated i j = ap (λ (es : List Entry). entry_at es i j) (kept-stated (map (entry_of p) ts)) ∙ entries-stated s [] ts i j h.apart

  columns-cut : length (columns_in stored) ≡ length stored
  columns-cut = length-map stored (λ (t : Entry). t.column - 1)

  -- the stored lists are the stored form of the stated rows
  pub stored-dense : plan_of (read_answer_of room (accepted s (entries_of p ts))) ≡ compress (dense_rows s.n s.m (stated_at p ts))
  unfolding answer_by starts_of columns_stored values_of
  stored-dense =
      (λ t. compressed
      (filled-cut starts_length (s.n + 1) (tabulate (s.n + 1) (λ k. count_to k stored)) (length-tabulate (s.n + 1) (λ k. count_to k stored)) t)
      (filled-cut room (length stored) (columns_in stored) columns-cut t)
      (filled-cut room (length stored) (values_in stored) (length-map stored (λ (t : Entry). t.value)) t))
      ∙ placed-dense s seen scattered
      ∙ ap compress (dense-ext s.n s.m (entry_at (kept seen)) (stated_at p ts) (λ i j b. at-stated i j))

  -- What lists with enough room hold after a text that states a plan: that plan, in its form.
  pub stored-as-stated : let x = read_answer_of room (accepted s (entries_of p ts)) in HoldsPlan s ts x.result x.starts x.columns x.values
  unfolding answer_by columns_stored
  stored-as-stated =
      record {
        done = refl;
        modulus-is = refl;
        rows_are = refl;
        columns-are = refl;
        count-is = placed-length s seen scattered;
        cells = λ i j a b. ap (λ (A : Compressed). matrix A i j) stored-dense ∙ compress-matrix rows i j ∙ dense-cell s.n s.m (stated_at p ts) i j a b;
        starts-stored = ap (λ (A : Compressed). length A.starts) stored-dense ∙ (compress-lengths rows).starts-are ∙ ap (λ (k : ℕ). k + 1) (dense-count s.n s.m (stated_at p ts));
        entries-stored = ap length (filled-cut room (length stored) (columns_in stored) columns-cut) ∙ columns-cut;
        formed =
            ap (form p s.m) stored-dense
            ∙ compress-form p s.m rows (dense-residues p s.n s.m (stated_at p ts) (λ i j. stated-below p ts i j (omega (arith, modulus-two s.modulus.p h.modulus))));
      }

-- ---- `stated_at` finds each triple: in a plan no two stand at one place
bounds : (s : Sizes) (seen : List Entry) (xs : List StatedEntry) (t : StatedEntry) (ys : List StatedEntry) → StandApart s seen (xs ++ (t ∷ ys)) → ((1 ≤ t.row) × (t.row ≤ s.n)) × ((1 ≤ t.column) × (t.column ≤ s.m))
bounds s _ [] t ys r = (within-bounds t.row s.n r.0.row_inside, within-bounds t.column s.m r.0.column-inside)
bounds s seen (x ∷ xs) t ys r = bounds s (entry_of s.modulus.p x ∷ seen) xs t ys r.1

pub stated-inside : (s : Sizes) (seen : List Entry) (xs : List StatedEntry) (t : StatedEntry) (ys : List StatedEntry) → StandApart s seen (xs ++ (t ∷ ys)) → (t.row - 1 < s.n) × (t.column - 1 < s.m)
stated-inside s seen xs t ys r = let b = bounds s seen xs t ys r in (omega (arith, b.0), omega (arith, b.1))

pub stated-found : (s : Sizes) (seen : List Entry) (xs : List StatedEntry) (t : StatedEntry) (ys : List StatedEntry) → StandApart s seen (xs ++ (t ∷ ys))
    → stated_at s.modulus.p (xs ++ (t ∷ ys)) (t.row - 1) (t.column - 1) ≡ residue_of s.modulus.p (integer_of t.value)
unfolding stated_at
stated-found s seen [] t ys r =
    let b = bounds s seen [] t ys r in
    rw (place-yes t.row t.column (t.row - 1 + 1) (t.column - 1 + 1) (omega (arith, b.0)) (omega (arith, b.1)))
stated-found s seen (x ∷ xs) t ys r =
    let b = bounds s seen (x ∷ xs) t ys r in
    let one = entry_of s.modulus.p x in
    let later = apart-differ s one (xs ++ (t ∷ ys)) (one ∷ seen) (inl refl) r.1 in
    let other = all-member (λ u. Differ one (entry_of s.modulus.p u)) t (xs ++ (t ∷ ys)) later (member_right t xs (t ∷ ys) (inl refl)) in
    rw (place-no x.row x.column (t.row - 1 + 1) (t.column - 1 + 1) (λ e f. other (omega (arith, b.0)) (omega (arith, b.1))))
    (stated-found s (one ∷ seen) xs t ys r.1)
