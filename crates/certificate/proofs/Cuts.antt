-- Parts of a certificate's bytes are parts of its numbers.
use mathlib.Core.Path.{◌≡◌, refl, sym, ap, ◌∙◌}
use mathlib.Core.List.{List, [], ◌++◌, append_assoc}
use Prim.Native.Nat.{ℕ, ◌+◌, ◌*◌, ◌-◌}
use native.Mathlib.Omega.{arith}
use native.Mathlib.Nat.{min-zero, sub-zero}
use lib.ListN.{length, take, drop, length-drop, take-append-drop}
use lib.Seq.{slice, take_all, take_at, drop_at, drop-drop}
use Rattle.lists.proofs.Steps.{drop-take}
use Rattle.sparse.specs.Words.{words, view}
use Rattle.sparse.specs.Matrix.{Compressed, compressed}
use Rattle.sparse.proofs.Parts.{view-cut}
use Rattle.certificate.specs.Layout.{factor_numbers}
use Rattle.certificate.specs.Reading.{numbers, numbers_in}

-- a part up to the end
pub part_end : (cert : List ℕ) (k : ℕ) → take (length cert - k) (drop k cert) ≡ drop k cert
part_end cert k = take_all (length cert - k) (drop k cert) (let e : length (drop k cert) ≡ length cert - k = length-drop k cert in omega arith)

words-part : (b : List ℕ) (a e : ℕ) → words (take (4 * e - 4 * a) (drop (4 * a) b)) ≡ slice a e (words b)
unfolding view
words-part b a e =
    (λ j. words (take (4 * sym (sub-zero e) j - 4 * sym (sub-zero a) j) (drop (4 * sym (sub-zero a) j) b)))
    ∙ view-cut [] b a e 0 0 (sym (min-zero a)) (sym (min-zero e))

-- the bytes from a up to e hold the numbers from k up to t
module _ (cert : List ℕ) (a e k t : ℕ) (p : a ≡ 5 + 4 * k) (q : e ≡ 5 + 4 * t) where
  pub numbers-cut : numbers_in cert a e ≡ slice k t (numbers cert)
  numbers-cut =
      ap words (drop-take a e cert)
      ∙ (λ j. words (take ((let z : e - a ≡ 4 * t - 4 * k = omega arith in z) j) (drop (p j) cert)))
      ∙ ap (λ (l : List ℕ). words (take (4 * t - 4 * k) l)) (sym (drop-drop (4 * k) 5 cert))
      ∙ words-part (drop 5 cert) k t

  -- the numbers from place k on are this part and what follows it
  pub piece : (count : ℕ) → t ≡ k + count → drop k (numbers cert) ≡ numbers_in cert a e ++ drop t (numbers cert)
  piece count h =
      let W = numbers cert in
      sym (take-append-drop count (drop k W))
      ∙ (λ j. take ((let z : count ≡ t - k = omega arith in z) j) (drop k W) ++ (drop-drop count k W ∙ ap (λ (n : ℕ). drop n W) (sym h)) j)
      ∙ ap (λ (l : List ℕ). l ++ drop t W) (sym (drop-take k t W) ∙ sym numbers-cut)

  -- a part that is known to stand there
  module _ (xs rest : List ℕ) (h : t ≡ k + length xs) (d : drop k (numbers cert) ≡ xs ++ rest) where
    pub reads_here : numbers_in cert a e ≡ xs
    reads_here =
        numbers-cut
        ∙ drop-take k t (numbers cert)
        ∙ (λ j. take ((let z : t - k ≡ length xs = omega arith in z) j) (d j))
        ∙ take_at xs rest (length xs) refl

    pub reads-next : drop t (numbers cert) ≡ rest
    reads-next =
        ap (λ (n : ℕ). drop n (numbers cert)) h
        ∙ sym (drop-drop (length xs) k (numbers cert))
        ∙ ap (drop (length xs)) d
        ∙ drop_at xs rest (length xs) refl

-- ---- the three lists of a factor

pub factor-apart : (h : Compressed) (rest : List ℕ) → factor_numbers h ++ rest ≡ h.starts ++ (h.cols ++ (h.vals ++ rest))
unfolding factor_numbers
factor-apart h rest = append_assoc h.starts (h.cols ++ h.vals) rest ∙ ap (λ (l : List ℕ). h.starts ++ l) (append_assoc h.cols h.vals rest)

-- the bytes a, b, c, d and the places k, t, v, w of the numbers there
module _ (cert : List ℕ) (a b c d k t v w : ℕ) (p : a ≡ 5 + 4 * k) (q : b ≡ 5 + 4 * t) (r : c ≡ 5 + 4 * v) (s : d ≡ 5 + 4 * w) where
  pub factor-piece : (i j : ℕ) → t ≡ k + i → v ≡ t + j → w ≡ v + j
      → drop k (numbers cert) ≡ factor_numbers (compressed (numbers_in cert a b) (numbers_in cert b c) (numbers_in cert c d)) ++ drop w (numbers cert)
  factor-piece i j e f g =
      piece cert a b k t p q i e
      ∙ ap (λ (l : List ℕ). numbers_in cert a b ++ l) (piece cert b c t v q r j f
      ∙ ap (λ (l : List ℕ). numbers_in cert b c ++ l) (piece cert c d v w r s j g))
      ∙ sym (factor-apart (compressed (numbers_in cert a b) (numbers_in cert b c) (numbers_in cert c d)) (drop w (numbers cert)))

  module _ (h : Compressed) (rest : List ℕ) (e : t ≡ k + length h.starts) (f : v ≡ t + length h.cols) (g : w ≡ v + length h.vals)
      (x : drop k (numbers cert) ≡ factor_numbers h ++ rest) where
    from-starts : drop k (numbers cert) ≡ h.starts ++ (h.cols ++ (h.vals ++ rest))
    from-starts = x ∙ factor-apart h rest

    from-cols : drop t (numbers cert) ≡ h.cols ++ (h.vals ++ rest)
    from-cols = reads-next cert a b k t p q h.starts (h.cols ++ (h.vals ++ rest)) e from-starts

    from-vals : drop v (numbers cert) ≡ h.vals ++ rest
    from-vals = reads-next cert b c t v q r h.cols (h.vals ++ rest) f from-cols

    pub factor-next : drop w (numbers cert) ≡ rest
    factor-next = reads-next cert c d v w r s h.vals rest g from-vals

    pub factor-here : compressed (numbers_in cert a b) (numbers_in cert b c) (numbers_in cert c d) ≡ h
    factor-here = λ j. compressed
        (reads_here cert a b k t p q h.starts (h.cols ++ (h.vals ++ rest)) e from-starts j)
        (reads_here cert b c t v q r h.cols (h.vals ++ rest) f from-cols j)
        (reads_here cert c d v w r s h.vals rest g from-vals j)
