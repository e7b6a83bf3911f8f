-- Where the lists of a certificate stand: each lies inside the certificate.
--   header-fits     so do the header's numbers
--   located         the places rise, and the last is the certificate's end
use mathlib.Core.Path.{◌≡◌, refl, sym, subst}
use mathlib.Core.List.{List}
use Prim.Native.Nat.{ℕ, ◌≤◌}
use native.Mathlib.Omega.{arith}
use lib.ListN.{length}
use Rattle.certificate.specs.Reading.{places_of, places_in, Located}
use Rattle.certificate.specs.declared.parts.Places.{Places}

-- the places of a certificate of the right length
module _ (n m : ℕ) (cert : List ℕ) (h : length cert ≡ (places_in n m cert).end) where
  pub header-fits : 29 ≤ length cert
  unfolding places_of
  header-fits = omega arith

  located_here : Located n m cert (places_in n m cert)
  unfolding places_of
  located_here =
      record {
        is = refl;
        ro = omega arith;
        co = omega arith;
        ls = omega arith;
        lc = omega arith;
        lv = omega arith;
        us = omega arith;
        uc = omega arith;
        uv = omega arith;
        end = sym h;
      }

  pub located : (q : Places) → q ≡ places_in n m cert → Located n m cert q
  located q e = subst (Located n m cert) (sym e) located_here
