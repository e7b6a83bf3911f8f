-- The judge passes a set exactly if it has the published shape and its product is A; 14 is at the first position that differs.
use mathlib.Core.Path.{◌≡◌, refl, sym, ap, ◌∙◌}
use mathlib.Core.Logic.{◌↔◌}
use mathlib.Core.Bool.{Bool, true, false, true≢false}
use Prim.Native.Nat.{ℕ, ◌%◌, ◌≤◌, ◌<◌}
use native.Mathlib.Omega.{arith}
use native.Mathlib.Nat.{mod-eq_of_lt, zero-mod}
use lib.Dec.{leb, eqb}
use lib.ListN.{length}
use borrow.Author.Tests.{leb-true, leb-false, le-leb, eqb-false}
use Rattle.lists.specs.Tests.{first, among}
use Rattle.refusals.specs.Table.{set_faults}
use Rattle.lists.proofs.Tests.{first-all, first-before, first-here}
use Rattle.refusals.proofs.Refusals.{RefusedBy, unless-passed, unless_holds, refused-unless, refused-next}
use Rattle.algebra.specs.Congruence.{◌≈⟨◌⟩◌}
use Rattle.algebra.specs.Sum.{dot}
use Rattle.algebra.specs.Matrix.{vector}
use Rattle.refusals.specs.Refusals.{◌▷◌, unless, number_of, detail_of}
use Rattle.refusals.specs.Outcome.{Outcome}
use Rattle.refusals.specs.Outcome.{Passed, Refused}
use Rattle.sparse.specs.Matrix.{Compressed, matrix, form}
use Rattle.sparse.specs.Set.{Set}
use Rattle.sparse.proofs.Rows.{form-below}
use Rattle.pluq.specs.Order.{permutation}
use Rattle.pluq.specs.Shape.{lower, upper}
use Rattle.pluq.specs.Judge.{agrees, product_outcome, judge_factors, judge, Passes}
use Rattle.pluq.proofs.Orders.{permutation-means, permutation-holds}
use Rattle.pluq.proofs.Shapes.{lower-means, lower-holds, upper-means, upper-holds, agrees-means, agrees-holds}

-- ---- the product

pub product-passed : (n : ℕ) (t : ℕ → Bool) → product_outcome n t ≡ Passed → (i : ℕ) → i < n → t i ≡ true
unfolding product_outcome
product-passed n t h i g = go (leb n (first n t)) refl h
  where
    go : (b : Bool) → leb n (first n t) ≡ b → unless b 14 (first n t) ≡ Passed → t i ≡ true
    go true e q = let le : n ≤ first n t = leb-true n (first n t) e in first-before n t i (omega arith)
    go false e q = absurd (let z : ◌≡◌ {A = ℕ} 0 1 = cc in omega arith)

pub product-holds : (n : ℕ) (t : ℕ → Bool) → ((i : ℕ) → i < n → t i ≡ true) → product_outcome n t ≡ Passed
unfolding product_outcome
product-holds n t h = ap (λ (b : Bool). unless b 14 (first n t)) (le-leb n (first n t) (omega (arith, first-all n t h)))

-- ---- the theorem

module _ (p n m : ℕ) (A : Compressed) (s : Set) (pos : 0 < p) (long-R : length s.R ≡ n) (long-C : length s.C ≡ m) where
  pub judge-sound : judge p n m A s ≡ Passed → Passes p n m A s
  unfolding judge judge_factors
  judge-sound h₁ =
      let (rows, h₂) = unless-passed (permutation s.R) 11 0 _ h₁ in
      let (columns, h₃) = unless-passed (permutation s.C) 11 0 _ h₂ in
      let (r-n, h₄) = unless-passed (leb s.r n) 12 0 _ h₃ in
      let (r-m, h₅) = unless-passed (leb s.r m) 12 0 _ h₄ in
      let (L-form, h₆) = unless-passed (form p s.r s.L) 13 0 _ h₅ in
      let (U-form, h₇) = unless-passed (form p m s.U) 13 0 _ h₆ in
      let (low, h₈) = unless-passed (lower s.r (matrix s.L)) 13 0 _ h₇ in
      let (up, h₉) = unless-passed (upper s.r (vector s.C) (matrix s.U)) 13 0 _ h₈ in
      let L-shape = lower-means s.r (matrix s.L) low in
      let U-shape = upper-means s.r (vector s.C) (matrix s.U) up in
      record {
        L-form = L-form;
        U-form = U-form;
        factors =
            record {
              rows = permutation-means n s.R long-R rows;
              columns = permutation-means m s.C long-C columns;
              rank-rows = leb-true s.r n r-n;
              rank-columns = leb-true s.r m r-m;
              L-above = L-shape.above;
              L-diagonal = λ k h e.
                  L-shape.diagonal k h
                  (sym (mod-eq_of_lt (form-below p s.r s.L.starts s.L.cols s.L.vals L-form k k pos)) ∙ e.same ∙ zero-mod p);
              U-left = U-shape.left;
              U-unit = U-shape.unit;
              product = λ i j h. agrees-means p m s.r (matrix A) (vector s.R) (matrix s.L) (matrix s.U) i (product-passed n _ h₉ i h) j;
            };
      }

  pub judge-complete : Passes p n m A s → judge p n m A s ≡ Passed
  unfolding judge judge_factors
  judge-complete h =
      let f = h.factors in
      unless_holds (permutation s.R) _ _ _ (permutation-holds n s.R long-R f.rows)
      (unless_holds (permutation s.C) _ _ _ (permutation-holds m s.C long-C f.columns)
      (unless_holds (leb s.r n) _ _ _ (le-leb s.r n f.rank-rows)
      (unless_holds (leb s.r m) _ _ _ (le-leb s.r m f.rank-columns)
      (unless_holds (form p s.r s.L) _ _ _ h.L-form
      (unless_holds (form p m s.U) _ _ _ h.U-form
      (unless_holds (lower s.r (matrix s.L)) _ _ _
      (lower-holds s.r (matrix s.L) (record { diagonal = λ k g e. f.L-diagonal k g (record { same = ap (λ (z : ℕ). z % p) e }); above = f.L-above }))
      (unless_holds (upper s.r (vector s.C) (matrix s.U)) _ _ _ (upper-holds s.r (vector s.C) (matrix s.U) (record { unit = f.U-unit; left = f.U-left }))
      (product-holds n _ (λ i g. agrees-holds p m s.r (matrix A) (vector s.R) (matrix s.L) (matrix s.U) i (λ j b. f.product i j g b))))))))))

  pub judge-passes : (judge p n m A s ≡ Passed) ↔ Passes p n m A s
  judge-passes = (judge-sound, judge-complete)

-- ---- 14 is at the first position that differs

unless-refused : (b : Bool) (k d i : ℕ) (next : Outcome) → eqb k 14 ≡ false → (unless b k d ▷ next) ≡ Refused 14 i → (b ≡ true) × (next ≡ Refused 14 i)
unless-refused true k d i next g e = (refl, e)
unless-refused false k d i next g e = absurd (eqb-false k 14 g (ap number_of e))

product-refused : (n : ℕ) (t : ℕ → Bool) (i : ℕ) → product_outcome n t ≡ Refused 14 i → (i < n) × (t i ≡ false) × ((k : ℕ) → k < i → t k ≡ true)
unfolding product_outcome
product-refused n t i e = go (leb n (first n t)) refl e
  where
    go : (b : Bool) → leb n (first n t) ≡ b → unless b 14 (first n t) ≡ Refused 14 i → (i < n) × (t i ≡ false) × ((k : ℕ) → k < i → t k ≡ true)
    go true q e = absurd (eqb-false 0 14 refl (ap number_of e))
    go false q e =
        let d : first n t ≡ i = ap detail_of e in
        let lt : first n t < n = leb-false n (first n t) q in
        (omega arith, ap t (sym d) ∙ first-here n t lt, λ k h. first-before n t k (omega arith))

module _ (p n m : ℕ) (A : Compressed) (s : Set) where
  -- the sum holds at position i, for all columns
  abbrev Agree : ℕ → Type 0
  Agree i = (j : ℕ) → j < m → matrix A (vector s.R i) j ≈⟨ p ⟩ dot s.r (matrix s.L i) (λ k. matrix s.U k j)

  pub judge-first : (i : ℕ) → judge p n m A s ≡ Refused 14 i → (i < n) × (¬ Agree i) × ((k : ℕ) → k < i → Agree k)
  unfolding judge judge_factors
  judge-first i h₁ =
      let (a, h₂) = unless-refused (permutation s.R) 11 0 i _ refl h₁ in
      let (b, h₃) = unless-refused (permutation s.C) 11 0 i _ refl h₂ in
      let (c, h₄) = unless-refused (leb s.r n) 12 0 i _ refl h₃ in
      let (d, h₅) = unless-refused (leb s.r m) 12 0 i _ refl h₄ in
      let (e, h₆) = unless-refused (form p s.r s.L) 13 0 i _ refl h₅ in
      let (f, h₇) = unless-refused (form p m s.U) 13 0 i _ refl h₆ in
      let (g, h₈) = unless-refused (lower s.r (matrix s.L)) 13 0 i _ refl h₇ in
      let (u, h₉) = unless-refused (upper s.r (vector s.C) (matrix s.U)) 13 0 i _ refl h₈ in
      let (lt, here, before) = product-refused n _ i h₉ in (
        lt,
        λ all. true≢false (sym (agrees-holds p m s.r (matrix A) (vector s.R) (matrix s.L) (matrix s.U) i all) ∙ here),
        λ k l. agrees-means p m s.r (matrix A) (vector s.R) (matrix s.L) (matrix s.U) k (before k l),
      )

-- ---- the numbers of a set that is refused

pub judge-numbers : (p n m : ℕ) (A : Compressed) (s : Set) → RefusedBy set_faults (judge p n m A s)
unfolding judge judge_factors product_outcome among
judge-numbers p n m A s =
    let t = agrees p m s.r (matrix A) (vector s.R) (matrix s.L) (matrix s.U) in
    refused-next set_faults (permutation s.R) 11 0 _ refl
    (refused-next set_faults (permutation s.C) 11 0 _ refl
    (refused-next set_faults (leb s.r n) 12 0 _ refl
    (refused-next set_faults (leb s.r m) 12 0 _ refl
    (refused-next set_faults (form p s.r s.L) 13 0 _ refl
    (refused-next set_faults (form p m s.U) 13 0 _ refl
    (refused-next set_faults (lower s.r (matrix s.L)) 13 0 _ refl
    (refused-next set_faults (upper s.r (vector s.C) (matrix s.U)) 13 0 _ refl
    (refused-unless set_faults (leb n (first n t)) 14 (first n t) refl))))))))
