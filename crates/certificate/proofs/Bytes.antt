-- Numbers as bytes, and back.
use mathlib.Core.Path.{◌≡◌, refl, ap}
use mathlib.Core.List.{List, [], ◌∷◌, ◌++◌}
use Prim.Native.Nat.{ℕ, zero, suc, ◌+◌, ◌*◌, ◌/◌, ◌%◌, ◌<◌, ◌^◌}
use native.Mathlib.Omega.{arith}
use lib.ListN.{length}
use Rattle.sparse.specs.Words.{le32, words}
use Rattle.sparse.specs.Row.{Below}
use Rattle.certificate.specs.Layout.{bytes}
use Rattle.sparse.proofs.Bounds.{below_none, below-cons, below-tail}

pub length-bytes : (xs : List ℕ) → length (bytes xs) ≡ 4 * length xs
unfolding bytes
length-bytes [] = refl
length-bytes (x ∷ xs) = let h : length (bytes xs) ≡ 4 * length xs = length-bytes xs in omega arith

pub bytes-append : (xs ys : List ℕ) → bytes (xs ++ ys) ≡ bytes xs ++ bytes ys
unfolding bytes
bytes-append [] ys = refl
bytes-append (x ∷ xs) ys = ap (λ (l : List ℕ). x % 256 ∷ x / 256 % 256 ∷ x / 65536 % 256 ∷ x / 16777216 % 256 ∷ l) (bytes-append xs ys)

-- ---- numbers written as bytes read back

join : (x q r s a b c d : ℕ) → x ≡ 256 * q + a → q ≡ 256 * r + b → r ≡ 256 * s + c → s ≡ d → le32 a b c d ≡ x
join x q r s a b c d e f g h = omega arith

whole : (x : ℕ) → x < 2 ^ 32 → le32 (x % 256) (x / 256 % 256) (x / 65536 % 256) (x / 16777216 % 256) ≡ x
whole x h =
    let e : x / 65536 ≡ x / 256 / 256 = omega arith in
    let f : x / 16777216 ≡ x / 65536 / 256 = omega arith in
    let g : x / 16777216 < 256 = omega arith in
    join x (x / 256) (x / 65536) (x / 16777216) (x % 256) (x / 256 % 256) (x / 65536 % 256) (x / 16777216 % 256)
    (omega arith) (omega arith) (omega arith) (omega arith)

pub words-bytes : (xs : List ℕ) → Below (2 ^ 32) xs → words (bytes xs) ≡ xs
unfolding bytes words
words-bytes [] h = refl
words-bytes (x ∷ xs) h = λ j. whole x (h 0 (omega arith)) j ∷ words-bytes xs (below-tail (2 ^ 32) x xs h) j

-- ---- bytes read as numbers are the bytes of those numbers

module _ (a b c d : ℕ) (ha : a < 256) (hb : b < 256) (hc : c < 256) (hd : d < 256) where
  first : le32 a b c d % 256 ≡ a
  first = omega arith

  second : le32 a b c d / 256 % 256 ≡ b
  second = omega arith

  third : le32 a b c d / 65536 % 256 ≡ c
  third = omega arith

  fourth : le32 a b c d / 16777216 % 256 ≡ d
  fourth = omega arith

  small : le32 a b c d < 2 ^ 32
  small = omega arith

  pub four : (r xs : List ℕ) → bytes xs ≡ r → bytes (le32 a b c d ∷ xs) ≡ a ∷ b ∷ c ∷ d ∷ r
  unfolding bytes
  four r xs e = λ j. first j ∷ second j ∷ third j ∷ fourth j ∷ e j

below_rest : (a b c d : ℕ) (r : List ℕ) → Below 256 (a ∷ b ∷ c ∷ d ∷ r) → Below 256 r
below_rest a b c d r h = λ i l. h (suc (suc (suc (suc i)))) (omega arith)

-- for a whole count of numbers
pub bytes-words : (b : List ℕ) (k : ℕ) → Below 256 b → length b ≡ 4 * k → bytes (words b) ≡ b
unfolding bytes words
bytes-words [] k h e = refl
bytes-words (a ∷ []) k h e = absurd (omega arith)
bytes-words (a ∷ b ∷ []) k h e = absurd (omega arith)
bytes-words (a ∷ b ∷ c ∷ []) k h e = absurd (omega arith)
bytes-words (a ∷ b ∷ c ∷ d ∷ r) zero h e = absurd (omega arith)
bytes-words (a ∷ b ∷ c ∷ d ∷ r) (suc k) h e =
    four a b c d (h 0 (omega arith)) (h 1 (omega arith)) (h 2 (omega arith)) (h 3 (omega arith)) r (words r)
    (bytes-words r k (below_rest a b c d r h) (omega arith))

pub words-below : (b : List ℕ) → Below 256 b → Below (2 ^ 32) (words b)
unfolding words
words-below [] h = below_none (2 ^ 32)
words-below (a ∷ []) h = below_none (2 ^ 32)
words-below (a ∷ b ∷ []) h = below_none (2 ^ 32)
words-below (a ∷ b ∷ c ∷ []) h = below_none (2 ^ 32)
words-below (a ∷ b ∷ c ∷ d ∷ r) h =
    below-cons (2 ^ 32) (le32 a b c d) (words r) (small a b c d (h 0 (omega arith)) (h 1 (omega arith)) (h 2 (omega arith)) (h 3 (omega arith)))
    (words-below r (below_rest a b c d r h))
