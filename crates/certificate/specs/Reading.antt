-- A certificate that is read from its own bytes.
--   places_of n m r l u             the byte at which each list stands, by the sizes: n, m, the rank, and the entry counts of L and U
--   certificate_length n m r l u    the length of a certificate of those sizes
--   numbers cert                   the numbers after mark and version
--   field cert k                   number k of them: p, n, m, the rank, the entry counts of L and U
--   places_in n m cert              the places of a certificate's lists, by the rank and the entry counts in its own header
--   Located n m cert q             q are these places, and every list lies inside the certificate
--   numbers_in cert a e             the numbers that stand from byte a up to byte e
--   set_in cert q r                 the set of rank r whose lists stand at the places q
--   set_of_certificate n m cert      the set that a certificate holds
--   begins xs cert                 the bytes begin with xs
--   length_ok, sizes_ok              the length is the one that the header's own numbers give; p, n and m are those of the matrix
--   header_ok p n m cert            mark, version, length and sizes are right (else refusal 10)
use Rattle.std.specs.Prelude.{ℕ, ◌+◌, ◌*◌, ◌≤◌, ◌≡◌, Bool, true, false, ◌&&◌, List, [], ◌∷◌, eqb, length, get_or, drop}
use Rattle.std.proofs.Math.Seq.{slice}
use Rattle.sparse.specs.Words.{words}
use Rattle.sparse.specs.Matrix.{compressed}
use Rattle.sparse.specs.Set.{Set, set_of}
use Rattle.certificate.specs.Layout.{mark, version}
use Rattle.certificate.specs.declared.parts.Places.{Places}

unfoldable pub places_of : ℕ → ℕ → ℕ → ℕ → ℕ → Places
places_of n m r l u =
    record {
      ro = 29;
      co = 29 + 4 * n;
      ls = 29 + 4 * n + 4 * m;
      lc = 29 + 4 * n + 4 * m + 4 * (n + 1);
      lv = 29 + 4 * n + 4 * m + 4 * (n + 1) + 4 * l;
      us = 29 + 4 * n + 4 * m + 4 * (n + 1) + 4 * l + 4 * l;
      uc = 29 + 4 * n + 4 * m + 4 * (n + 1) + 4 * l + 4 * l + 4 * (r + 1);
      uv = 29 + 4 * n + 4 * m + 4 * (n + 1) + 4 * l + 4 * l + 4 * (r + 1) + 4 * u;
      end = 29 + 4 * n + 4 * m + 4 * (n + 1) + 4 * l + 4 * l + 4 * (r + 1) + 4 * u + 4 * u;
    }

abbrev pub certificate_length : ℕ → ℕ → ℕ → ℕ → ℕ → ℕ
certificate_length n m r l u = (places_of n m r l u).end

abbrev pub numbers : List ℕ → List ℕ
numbers cert = words (drop 5 cert)

unfoldable pub field : List ℕ → ℕ → ℕ
field cert k = get_or (numbers cert) k 0

abbrev pub places_in : ℕ → ℕ → List ℕ → Places
places_in n m cert = places_of n m (field cert 3) (field cert 4) (field cert 5)

pub record Located (n m : ℕ) (cert : List ℕ) (q : Places) : Type 0 where
  pub is : q ≡ places_in n m cert
  pub ro : q.ro ≤ q.co
  pub co : q.co ≤ q.ls
  pub ls : q.ls ≤ q.lc
  pub lc : q.lc ≤ q.lv
  pub lv : q.lv ≤ q.us
  pub us : q.us ≤ q.uc
  pub uc : q.uc ≤ q.uv
  pub uv : q.uv ≤ q.end
  pub end : q.end ≡ length cert

abbrev pub numbers_in : List ℕ → ℕ → ℕ → List ℕ
numbers_in cert a e = words (slice a e cert)

unfoldable pub set_in : List ℕ → Places → ℕ → Set
set_in cert q r =
    set_of r
    (numbers_in cert q.ro q.co)
    (numbers_in cert q.co q.ls)
    (compressed
    (numbers_in cert q.ls q.lc)
    (numbers_in cert q.lc q.lv)
    (numbers_in cert q.lv q.us))
    (compressed
    (numbers_in cert q.us q.uc)
    (numbers_in cert q.uc q.uv)
    (numbers_in cert q.uv q.end))

unfoldable pub set_of_certificate : ℕ → ℕ → List ℕ → Set
set_of_certificate n m cert = set_in cert (places_in n m cert) (field cert 3)

unfoldable pub begins : List ℕ → List ℕ → Bool
begins [] cert = true
begins (x ∷ xs) [] = false
begins (x ∷ xs) (y ∷ ys) = eqb x y && begins xs ys

unfoldable pub length_ok : List ℕ → Bool
length_ok cert = eqb (certificate_length (field cert 1) (field cert 2) (field cert 3) (field cert 4) (field cert 5)) (length cert)

unfoldable pub sizes_ok : ℕ → ℕ → ℕ → List ℕ → Bool
sizes_ok p n m cert = eqb (field cert 0) p && (eqb (field cert 1) n && eqb (field cert 2) m)

unfoldable pub header_ok : ℕ → ℕ → ℕ → List ℕ → Bool
header_ok p n m cert = begins mark cert && (begins version (drop 3 cert) && (length_ok cert && sizes_ok p n m cert))
