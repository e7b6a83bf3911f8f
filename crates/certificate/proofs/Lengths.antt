-- The length of a certificate.
use mathlib.Core.Path.{◌≡◌, ap, ◌∙◌}
use mathlib.Core.List.{◌++◌}
use Prim.Native.Nat.{ℕ, ◌+◌, ◌*◌}
use native.Mathlib.Omega.{arith}
use lib.ListN.{length, length-append}
use Rattle.sparse.specs.Matrix.{Compressed}
use Rattle.sparse.specs.Set.{Set}
use Rattle.certificate.specs.Layout.{mark, version, factor_numbers, numbers_of, certificate_of, Sized}
use Rattle.certificate.specs.Reading.{places_of, certificate_length}
use Rattle.certificate.proofs.Bytes.{length-bytes}

abbrev pub factor_size : Compressed → ℕ
factor_size h = length h.starts + (length h.cols + length h.vals)

pub length-factor : (h : Compressed) → length (factor_numbers h) ≡ factor_size h
unfolding factor_numbers
length-factor h = length-append h.starts (h.cols ++ h.vals) ∙ ap (λ (k : ℕ). length h.starts + k) (length-append h.cols h.vals)

length-lists : (s : Set) → length (s.R ++ (s.C ++ (factor_numbers s.L ++ factor_numbers s.U))) ≡ length s.R + (length s.C + (factor_size s.L + factor_size s.U))
length-lists s =
    length-append s.R (s.C ++ (factor_numbers s.L ++ factor_numbers s.U))
    ∙ ap (λ (k : ℕ). length s.R + k) (length-append s.C (factor_numbers s.L ++ factor_numbers s.U)
    ∙ ap (λ (k : ℕ). length s.C + k) (length-append (factor_numbers s.L) (factor_numbers s.U)
    ∙ (λ j. length-factor s.L j + length-factor s.U j)))

-- by the lists, whatever they are
pub length-by-lists : (p n m : ℕ) (s : Set) → length (certificate_of p n m s) ≡ 29 + 4 * (length s.R + (length s.C + (factor_size s.L + factor_size s.U)))
unfolding certificate_of mark version numbers_of
length-by-lists p n m s = omega (arith, length-bytes (numbers_of p n m s), length-lists s)

-- by the sizes, where the lists have their lengths
pub length-certificate : (p n m : ℕ) (s : Set) → Sized n m s → length (certificate_of p n m s) ≡ certificate_length n m s.r (length s.L.cols) (length s.U.cols)
unfolding places_of
length-certificate p n m s z = omega (arith, length-by-lists p n m s)
