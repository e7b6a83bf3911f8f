-- The numbers of a set that passes are 32-bit numbers, so that its certificate can be written.
use mathlib.Core.Path.{◌≡◌, ap}
use mathlib.Core.Bool.{true}
use Prim.Native.Nat.{ℕ, ◌*◌, ◌^◌, ◌≤◌, ◌<◌}
use native.Mathlib.Omega.{arith}
use lib.Dec.{leb}
use lib.ListN.{length, drop, length-drop}
use borrow.Author.Tests.{leb-true}
use Rattle.lists.proofs.Bools.{and_left}
use Rattle.residue.specs.Range.{is_modulus, largest_modulus}
use Rattle.sparse.specs.Matrix.{Compressed, form}
use Rattle.sparse.specs.Row.{Below}
use Rattle.sparse.specs.Set.{Set}
use Rattle.sparse.proofs.StoredNumbers.{stored-few, starts-small, columns-small, values-small}
use Rattle.pluq.specs.Judge.{Passes}
use Rattle.certificate.specs.Layout.{factor_numbers, numbers_of, Sized}
use Rattle.certificate.proofs.ReadBack.{factor-below, numbers-below}
use Rattle.limits.specs.Limits.{largest_size}
use Rattle.call_plan.specs.Accepted.{GoodPlan}
use Rattle.call_plan.proofs.Plans.{small_product}

-- those of a stored matrix
stored-below : (b p width : ℕ) (h : Compressed) → form p width h ≡ true → p ≤ b → width ≤ b → length h.cols < b → Below b (factor_numbers h)
stored-below b p width h formed hp hw hc = factor-below b h (starts-small p width h formed b hc) (columns-small p width h formed b hw) (values-small p width h formed b hp)

modulus-small : (p : ℕ) → is_modulus p ≡ true → p < 2 ^ 32
unfolding is_modulus
modulus-small p e = omega (arith, leb-true p largest_modulus (and_left (leb p largest_modulus) _ e))

pub numbers-small : (p n m : ℕ) (A : Compressed) (s : Set) → GoodPlan p n m A → Sized n m s → Passes p n m A s → Below (2 ^ 32) (numbers_of p n m s)
numbers-small p n m A s g z q =
    let f = q.factors in
    let hp : p < 2 ^ 32 = modulus-small p g.modulus in
    let hr : s.r ≤ largest_size = omega (arith, f.rank-rows, g.few-rows) in
    let lower : length s.L.cols < 2 ^ 32 =
    omega (arith, stored-few p s.r s.L q.L-form, ap (λ (k : ℕ). k * s.r) (let e : length (drop 1 s.L.starts) ≡ n = omega (arith, length-drop 1 s.L.starts, z.lower-starts) in e), small_product n s.r g.few-rows hr) in
    let upper : length s.U.cols < 2 ^ 32 =
    omega (arith, stored-few p m s.U q.U-form, ap (λ (k : ℕ). k * m) (let e : length (drop 1 s.U.starts) ≡ s.r = omega (arith, length-drop 1 s.U.starts, z.upper-starts) in e), small_product s.r m hr g.few-columns) in
    numbers-below (2 ^ 32) p n m s hp (omega (arith, g.few-rows)) (omega (arith, g.few-columns)) (omega (arith, hr)) lower upper
    (λ i l. omega (arith, f.rows.below i (omega (arith, z.row-order)), g.few-rows))
    (λ i l. omega (arith, f.columns.below i (omega (arith, z.column-order)), g.few-columns))
    (stored-below (2 ^ 32) p s.r s.L q.L-form (omega (arith, hp)) (omega (arith, hr)) lower)
    (stored-below (2 ^ 32) p m s.U q.U-form (omega (arith, hp)) (omega (arith, g.few-columns)) upper)
