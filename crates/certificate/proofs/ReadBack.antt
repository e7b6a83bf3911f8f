-- What is written reads back: the certificate of a set passes the header test, and the set that it holds is that set.
--   written-passes        the header test passes for the matrix
--   written-reads-back    the set that is read is the set that was written
use mathlib.Core.Path.{◌≡◌, refl, sym, ap, ◌∙◌}
use mathlib.Core.Bool.{true}
use mathlib.Core.List.{List, [], ◌∷◌, ◌++◌, append-nil}
use Prim.Native.Nat.{ℕ, ◌+◌, ◌*◌, ◌<◌, ◌^◌}
use native.Mathlib.Omega.{arith}
use lib.ListN.{length, get_or, drop}
use borrow.Author.Tests.{eq-eqb}
use Rattle.lists.proofs.Bools.{and_both}
use Rattle.sparse.specs.Row.{Below}
use Rattle.sparse.specs.Matrix.{Compressed}
use Rattle.sparse.specs.Set.{Set, set_of}
use Rattle.certificate.specs.Layout.{mark, version, header_numbers, factor_numbers, numbers_of, certificate_of, Sized}
use Rattle.certificate.specs.Reading.{places_of, numbers, field, set_in, set_of_certificate, begins, length_ok, sizes_ok, header_ok}
use Rattle.sparse.proofs.Bounds.{below_none, below-cons, below-append}
use Rattle.certificate.proofs.Bytes.{words-bytes}
use Rattle.certificate.proofs.Lengths.{length-certificate}
use Rattle.certificate.proofs.Cuts.{reads_here, reads-next, factor-here, factor-next}

-- ---- every number is below a bound if each list's are

pub factor-below : (b : ℕ) (h : Compressed) → Below b h.starts → Below b h.cols → Below b h.vals → Below b (factor_numbers h)
unfolding factor_numbers
factor-below b h x y z = below-append b h.starts (h.cols ++ h.vals) x (below-append b h.cols h.vals y z)

header-below : (b p n m r l u : ℕ) → p < b → n < b → m < b → r < b → l < b → u < b → Below b (header_numbers p n m r l u)
header-below b p n m r l u hp hn hm hr hl hu =
    below-cons b p (n ∷ m ∷ r ∷ l ∷ u ∷ []) hp
    (below-cons b n (m ∷ r ∷ l ∷ u ∷ []) hn
    (below-cons b m (r ∷ l ∷ u ∷ []) hm
    (below-cons b r (l ∷ u ∷ []) hr (below-cons b l (u ∷ []) hl (below-cons b u [] hu (below_none b))))))

module _ (b p n m : ℕ) (s : Set) where
  pub numbers-below : p < b → n < b → m < b → s.r < b → length s.L.cols < b → length s.U.cols < b
      → Below b s.R → Below b s.C → Below b (factor_numbers s.L) → Below b (factor_numbers s.U) → Below b (numbers_of p n m s)
  unfolding numbers_of
  numbers-below hp hn hm hr hl hu x y z w =
      let f = factor_numbers s.L ++ factor_numbers s.U in
      below-append b (header_numbers p n m s.r (length s.L.cols) (length s.U.cols)) (s.R ++ (s.C ++ f))
      (header-below b p n m s.r (length s.L.cols) (length s.U.cols) hp hn hm hr hl hu)
      (below-append b s.R (s.C ++ f) x (below-append b s.C f y (below-append b (factor_numbers s.L) (factor_numbers s.U) z w)))

-- ---- reading back

module _ (p n m : ℕ) (s : Set) (z : Sized n m s) (small : Below (2 ^ 32) (numbers_of p n m s)) where
  cert : List ℕ
  cert = certificate_of p n m s

  numbers-written : numbers cert ≡ numbers_of p n m s
  unfolding cert certificate_of mark version
  numbers-written = words-bytes (numbers_of p n m s) small

  field-written : (k : ℕ) → field cert k ≡ get_or (numbers_of p n m s) k 0
  unfolding field
  field-written k = ap (λ (l : List ℕ). get_or l k 0) numbers-written

  rank-written : field cert 3 ≡ s.r
  unfolding numbers_of
  rank-written = field-written 3

  lcount-written : field cert 4 ≡ length s.L.cols
  unfolding numbers_of
  lcount-written = field-written 4

  ucount-written : field cert 5 ≡ length s.U.cols
  unfolding numbers_of
  ucount-written = field-written 5

  length-written : length_ok cert ≡ true
  unfolding length_ok numbers_of cert
  length-written =
      eq-eqb _ _
      ((λ j. (places_of (field-written 1 j) (field-written 2 j) (rank-written j) (lcount-written j) (ucount-written j)).end)
      ∙ sym (length-certificate p n m s z))

  sizes-written : sizes_ok p n m cert ≡ true
  unfolding sizes_ok numbers_of
  sizes-written = and_both _ _ (eq-eqb _ _ (field-written 0)) (and_both _ _ (eq-eqb _ _ (field-written 1)) (eq-eqb _ _ (field-written 2)))

  pub written-passes : header_ok p n m (certificate_of p n m s) ≡ true
  unfolding header_ok begins mark version certificate_of cert
  written-passes =
      and_both (begins mark cert) _ refl (and_both (begins version (drop 3 cert)) _ refl (and_both (length_ok cert) _ length-written sizes-written))

  from-rows : drop 6 (numbers cert) ≡ s.R ++ (s.C ++ (factor_numbers s.L ++ factor_numbers s.U))
  unfolding numbers_of
  from-rows = ap (drop 6) numbers-written

  from-cols : drop (6 + n) (numbers cert) ≡ s.C ++ (factor_numbers s.L ++ factor_numbers s.U)
  from-cols = reads-next cert 29 (29 + 4 * n) 6 (6 + n) refl (omega arith) s.R _ (omega (arith, z.row-order)) from-rows

  set-written : set_in cert (places_of n m s.r (length s.L.cols) (length s.U.cols)) s.r ≡ s
  unfolding set_in places_of
  set-written =
      let l = length s.L.cols in let u = length s.U.cols in let q = places_of n m s.r l u in
      let k = 6 + n + m in let t = k + (n + 1) in let v = t + l in let w = v + l in
      let t' = w + (s.r + 1) in let v' = t' + u in
      let from-lower = reads-next cert q.co q.ls (6 + n) k (omega arith) (omega arith) s.C (factor_numbers s.L ++ factor_numbers s.U) (omega (arith, z.column-order)) from-cols in
      let from-upper = factor-next cert q.ls q.lc q.lv q.us k t v w (omega arith) (omega arith) (omega arith) (omega arith)
      s.L (factor_numbers s.U) (omega (arith, z.lower-starts)) refl (omega (arith, z.lower-values)) from-lower ∙ sym (append-nil (factor_numbers s.U)) in
      λ j. set_of s.r
      (reads_here cert q.ro q.co 6 (6 + n) refl (omega arith) s.R (s.C ++ (factor_numbers s.L ++ factor_numbers s.U)) (omega (arith, z.row-order)) from-rows j)
      (reads_here cert q.co q.ls (6 + n) k (omega arith) (omega arith) s.C (factor_numbers s.L ++ factor_numbers s.U) (omega (arith, z.column-order)) from-cols j)
      (factor-here cert q.ls q.lc q.lv q.us k t v w (omega arith) (omega arith) (omega arith) (omega arith)
      s.L (factor_numbers s.U) (omega (arith, z.lower-starts)) refl (omega (arith, z.lower-values)) from-lower j)
      (factor-here cert q.us q.uc q.uv q.end w t' v' (v' + u) (omega arith) (omega arith) (omega arith) (omega arith)
      s.U [] (omega (arith, z.upper-starts)) refl (omega (arith, z.upper-values)) from-upper j)

  pub written-reads-back : set_of_certificate n m (certificate_of p n m s) ≡ s
  unfolding set_of_certificate cert
  written-reads-back = (λ j. set_in cert (places_of n m (rank-written j) (lcount-written j) (ucount-written j)) (rank-written j)) ∙ set-written
