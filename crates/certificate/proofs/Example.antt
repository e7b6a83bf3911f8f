-- The certificate of document 01's plan D, computed.
--   D-length      it has 217 bytes: 29 of the header, and 47 numbers of four bytes each
--   D-opening     they open with PLQ, the version, and the header's numbers 7, 5, 5, 4, 6, 7
--   D-passes      the header test passes for D's p, n and m
--   D-reads       the set that it holds is the set that was written
--   D-modulus     another p is refused
--   D-longer      one byte more is refused
--   D-shorter     one byte less is refused
use mathlib.Core.Path.{◌≡◌, refl}
use mathlib.Core.Bool.{true, false}
use mathlib.Core.List.{List, [], ◌∷◌, ◌++◌}
use Prim.Native.Nat.{ℕ}
use lib.ListN.{length, take}
use Rattle.sparse.specs.Words.{words}
use Rattle.sparse.specs.Matrix.{compressed}
use Rattle.sparse.specs.Set.{Set, set_of}
use Rattle.certificate.specs.Layout.{bytes, mark, version, factor_numbers, numbers_of, certificate_of}
use Rattle.certificate.specs.Reading.{places_of, field, set_in, set_of_certificate, begins, length_ok, sizes_ok, header_ok}

unfoldable pub D : Set
D =
    set_of 4
    (0 ∷ 3 ∷ 1 ∷ 4 ∷ 2 ∷ [])
    (0 ∷ 2 ∷ 1 ∷ 4 ∷ 3 ∷ [])
    (compressed (0 ∷ 1 ∷ 2 ∷ 3 ∷ 4 ∷ 6 ∷ []) (0 ∷ 1 ∷ 2 ∷ 3 ∷ 0 ∷ 2 ∷ []) (2 ∷ 5 ∷ 3 ∷ 3 ∷ 4 ∷ 3 ∷ []))
    (compressed (0 ∷ 2 ∷ 4 ∷ 6 ∷ 7 ∷ []) (0 ∷ 2 ∷ 1 ∷ 2 ∷ 1 ∷ 3 ∷ 4 ∷ []) (1 ∷ 4 ∷ 3 ∷ 1 ∷ 1 ∷ 5 ∷ 1 ∷ []))

unfoldable pub certificate_d : List ℕ
certificate_d = certificate_of 7 5 5 D

pub D-length : length certificate_d ≡ 217
unfolding certificate_d D certificate_of numbers_of factor_numbers bytes mark version
D-length = refl

pub D-opening : take 29 certificate_d ≡ 80 ∷ 76 ∷ 81 ∷ 1 ∷ 0 ∷ 7 ∷ 0 ∷ 0 ∷ 0 ∷ 5 ∷ 0 ∷ 0 ∷ 0 ∷ 5 ∷ 0 ∷ 0 ∷ 0 ∷ 4 ∷ 0 ∷ 0 ∷ 0 ∷ 6 ∷ 0 ∷ 0 ∷ 0 ∷ 7 ∷ 0 ∷ 0 ∷ 0 ∷ []
unfolding certificate_d D certificate_of numbers_of factor_numbers bytes mark version
D-opening = refl

pub D-passes : header_ok 7 5 5 certificate_d ≡ true
unfolding certificate_d D certificate_of numbers_of factor_numbers bytes mark version header_ok begins length_ok sizes_ok field words places_of
D-passes = refl

pub D-reads : set_of_certificate 5 5 certificate_d ≡ D
unfolding certificate_d D certificate_of numbers_of factor_numbers bytes mark version set_of_certificate set_in field words places_of
D-reads = refl

pub D-modulus : header_ok 11 5 5 certificate_d ≡ false
unfolding certificate_d D certificate_of numbers_of factor_numbers bytes mark version header_ok begins length_ok sizes_ok field words places_of
D-modulus = refl

pub D-longer : header_ok 7 5 5 (certificate_d ++ (0 ∷ [])) ≡ false
unfolding certificate_d D certificate_of numbers_of factor_numbers bytes mark version header_ok begins length_ok sizes_ok field words places_of
D-longer = refl

pub D-shorter : header_ok 7 5 5 (take 216 certificate_d) ≡ false
unfolding certificate_d D certificate_of numbers_of factor_numbers bytes mark version header_ok begins length_ok sizes_ok field words places_of
D-shorter = refl
