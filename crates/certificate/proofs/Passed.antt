-- What a certificate is that passes the header test.
--   headed               its length, p, n and m
--   passed-sized         the lists of the set that it holds have their lengths
--   passed-small         the numbers of that set are below 2 ^ 32
--   passed-is-written    it is the certificate of the set that it holds
use mathlib.Core.Path.{◌≡◌, refl, sym, ap, subst, ◌∙◌}
use mathlib.Core.Bool.{Bool, true, false}
use mathlib.Core.List.{List, ◌∷◌, ◌++◌, append-nil}
use Prim.Native.Nat.{ℕ, ◌+◌, ◌*◌, ◌-◌, ◌/◌, ◌≤◌, ◌<◌, ◌^◌}
use native.Mathlib.Omega.{arith}
use lib.Dec.{eqb}
use lib.ListN.{length, get_or, drop, length-drop, drop_of_length-le}
use lib.Seq.{drop-drop, drop-cons, slice, length-slice}
use borrow.Author.Tests.{eqb-true}
use Rattle.lists.proofs.Bools.{and_left, and_right}
use Rattle.sparse.specs.Row.{Below}
use Rattle.sparse.proofs.WordLaws.{length-words}
use Rattle.certificate.specs.Layout.{bytes, mark, version, factor_numbers, numbers_of, certificate_of, Sized}
use Rattle.certificate.specs.Reading.{places_of, places_in, numbers, field, numbers_in, set_in, set_of_certificate, begins, length_ok, sizes_ok, header_ok}
use Rattle.sparse.proofs.Bounds.{below-drop}
use Rattle.certificate.proofs.Bytes.{bytes-words, words-below}
use Rattle.certificate.proofs.Beginnings.{begins-is}
use Rattle.certificate.proofs.Cuts.{piece, factor-piece}

pub record Headed (p n m : ℕ) (cert : List ℕ) : Type 0 where
  pub mark-is : begins mark cert ≡ true
  pub version-is : begins version (drop 3 cert) ≡ true
  pub long : length cert ≡ (places_in n m cert).end
  pub modulus : field cert 0 ≡ p
  pub height : field cert 1 ≡ n
  pub width : field cert 2 ≡ m

pub headed : (p n m : ℕ) (cert : List ℕ) → header_ok p n m cert ≡ true → Headed p n m cert
unfolding header_ok length_ok sizes_ok
headed p n m cert t =
    let after-mark = and_right (begins mark cert) _ t in
    let after-version = and_right (begins version (drop 3 cert)) _ after-mark in
    let sizes = and_right (length_ok cert) (sizes_ok p n m cert) after-version in
    let later = and_right (eqb (field cert 0) p) _ sizes in
    let h = eqb-true _ _ (and_left (eqb (field cert 1) n) _ later) in
    let w = eqb-true _ _ (and_right (eqb (field cert 1) n) (eqb (field cert 2) m) later) in
    record {
      mark-is = and_left (begins mark cert) _ t;
      version-is = and_left (begins version (drop 3 cert)) _ after-mark;
      long = sym (eqb-true _ _ (and_left (length_ok cert) (sizes_ok p n m cert) after-version)) ∙ (λ j. (places_in (h j) (w j) cert).end);
      modulus = eqb-true _ _ (and_left (eqb (field cert 0) p) _ sizes);
      height = h;
      width = w;
    }

-- bytes that are too short for a header do not pass
pub short-fails : (p n m : ℕ) (cert : List ℕ) → length cert < 29 → false ≡ header_ok p n m cert
unfolding places_of
short-fails p n m cert h = go (header_ok p n m cert) refl
  where
    go : (t : Bool) → header_ok p n m cert ≡ t → false ≡ header_ok p n m cert
    go false e = sym e
    go true e = let l = (headed p n m cert e).long in absurd (omega (arith, l))

six : (W : List ℕ) → 6 ≤ length W → W ≡ get_or W 0 0 ∷ get_or W 1 0 ∷ get_or W 2 0 ∷ get_or W 3 0 ∷ get_or W 4 0 ∷ get_or W 5 0 ∷ drop 6 W
six W h =
    drop-cons W 0 0 (omega arith)
    ∙ ap (λ (x : List ℕ). get_or W 0 0 ∷ x) (drop-cons W 1 0 (omega arith)
    ∙ ap (λ (x : List ℕ). get_or W 1 0 ∷ x) (drop-cons W 2 0 (omega arith)
    ∙ ap (λ (x : List ℕ). get_or W 2 0 ∷ x) (drop-cons W 3 0 (omega arith)
    ∙ ap (λ (x : List ℕ). get_or W 3 0 ∷ x) (drop-cons W 4 0 (omega arith)
    ∙ ap (λ (x : List ℕ). get_or W 4 0 ∷ x) (drop-cons W 5 0 (omega arith))))))

pub length-numbers : (cert : List ℕ) (a e count : ℕ) → e ≡ a + 4 * count → e ≤ length cert → length (numbers_in cert a e) ≡ count
length-numbers cert a e count p h =
    length-words (slice a e cert)
    ∙ ap (λ (k : ℕ). k / 4) (length-slice a e cert h)
    ∙ (let z : (e - a) / 4 ≡ count = omega arith in z)

module _ (p n m : ℕ) (cert : List ℕ) (t : header_ok p n m cert ≡ true) where
  long : length cert ≡ (places_in n m cert).end
  long = (headed p n m cert t).long

  pub passed-sized : Sized n m (set_of_certificate n m cert)
  unfolding set_of_certificate set_in places_of
  passed-sized =
      let q = places_in n m cert in let l = field cert 4 in let u = field cert 5 in
      record {
        row-order = length-numbers cert q.ro q.co n refl (omega (arith, long));
        column-order = length-numbers cert q.co q.ls m refl (omega (arith, long));
        lower-starts = length-numbers cert q.ls q.lc (n + 1) refl (omega (arith, long));
        lower-values = length-numbers cert q.lv q.us l refl (omega (arith, long)) ∙ sym (length-numbers cert q.lc q.lv l refl (omega (arith, long)));
        upper-starts = length-numbers cert q.us q.uc (field cert 3 + 1) refl (omega (arith, long));
        upper-values = length-numbers cert q.uv q.end u refl (omega (arith, long)) ∙ sym (length-numbers cert q.uc q.uv u refl (omega (arith, long)));
      }

  lcount : field cert 4 ≡ length (set_of_certificate n m cert).L.cols
  unfolding set_of_certificate set_in places_of
  lcount = let q = places_in n m cert in sym (length-numbers cert q.lc q.lv (field cert 4) refl (omega (arith, long)))

  ucount : field cert 5 ≡ length (set_of_certificate n m cert).U.cols
  unfolding set_of_certificate set_in places_of
  ucount = let q = places_in n m cert in sym (length-numbers cert q.uc q.uv (field cert 5) refl (omega (arith, long)))

  -- how many numbers there are after mark and version
  total : ℕ
  total = 6 + n + m + (n + 1) + field cert 4 + field cert 4 + (field cert 3 + 1) + field cert 5 + field cert 5

  length-body : length (drop 5 cert) ≡ 4 * total
  unfolding places_of total
  length-body = omega (arith, length-drop 5 cert, long)

  length-all : length (numbers cert) ≡ total
  length-all = omega (arith, length-words (drop 5 cert), length-body)

  lists : drop 6 (numbers cert) ≡ (let s = set_of_certificate n m cert in s.R ++ (s.C ++ (factor_numbers s.L ++ factor_numbers s.U)))
  unfolding set_of_certificate set_in places_of total
  lists =
      let q = places_in n m cert in let l = field cert 4 in let u = field cert 5 in let s = set_of_certificate n m cert in
      let k = 6 + n + m in let i = k + (n + 1) in let v = i + l in let w = v + l in let i' = w + (field cert 3 + 1) in let v' = i' + u in
      piece cert q.ro q.co 6 (6 + n) refl (omega arith) n refl
      ∙ ap (λ (x : List ℕ). s.R ++ x) (piece cert q.co q.ls (6 + n) k (omega arith) (omega arith) m refl
      ∙ ap (λ (x : List ℕ). s.C ++ x) (factor-piece cert q.ls q.lc q.lv q.us k i v w (omega arith) (omega arith) (omega arith) (omega arith) (n + 1) l refl refl refl
      ∙ ap (λ (x : List ℕ). factor_numbers s.L ++ x) (factor-piece cert q.us q.uc q.uv q.end w i' v' (v' + u) (omega arith) (omega arith) (omega arith) (omega arith) (field cert 3 + 1) u refl refl refl
      ∙ ap (λ (x : List ℕ). factor_numbers s.U ++ x) (drop_of_length-le (numbers cert) (let z : length (numbers cert) ≤ v' + u = omega (arith, length-all) in z))
      ∙ append-nil (factor_numbers s.U))))

  all : numbers cert ≡ numbers_of p n m (set_of_certificate n m cert)
  unfolding numbers_of field total set_of_certificate set_in
  all =
      six (numbers cert) (omega (arith, length-all))
      ∙ (λ j. (headed p n m cert t).modulus j ∷ (headed p n m cert t).height j ∷ (headed p n m cert t).width j ∷ field cert 3 ∷ lcount j ∷ ucount j ∷ lists j)

  opening : cert ≡ mark ++ (version ++ drop 5 cert)
  unfolding mark version
  opening =
      begins-is mark cert (headed p n m cert t).mark-is
      ∙ ap (λ (x : List ℕ). mark ++ x) (begins-is version (drop 3 cert) (headed p n m cert t).version-is ∙ ap (λ (x : List ℕ). version ++ x) (drop-drop 2 3 cert))

  module _ (byte : Below 256 cert) where
    pub passed-small : Below (2 ^ 32) (numbers_of p n m (set_of_certificate n m cert))
    passed-small = subst (Below (2 ^ 32)) all (words-below (drop 5 cert) (below-drop 256 cert 5 byte))

    pub passed-is-written : cert ≡ certificate_of p n m (set_of_certificate n m cert)
    unfolding certificate_of
    passed-is-written =
        opening
        ∙ ap (λ (x : List ℕ). mark ++ (version ++ x)) (sym (bytes-words (drop 5 cert) total (below-drop 256 cert 5 byte) length-body) ∙ ap bytes all)
