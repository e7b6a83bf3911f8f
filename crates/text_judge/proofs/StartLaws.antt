-- How a line starts: its first two pieces are numbers, or it says nothing.
use mathlib.Core.Path.{◌≡◌, refl, sym, ap, ◌∙◌}
use mathlib.Core.List.{List}
use Prim.Native.Nat.{ℕ, ◌+◌, ◌≤◌, zero-le}
use native.Mathlib.Omega.{arith}
use lib.ListN.{length, drop}
use Rattle.text_fields.specs.Pieces.{Pieces, last, more, pieces, first_piece, joined}
use Rattle.text_fields.specs.Scan.{piece_from}
use Rattle.text_fields.specs.Number.{number_in, signed_of}
use Rattle.std.specs.Prelude.{Option, Some, None}
use Rattle.text_fields.specs.declared.numbers.Signed.{Signed}
use Rattle.text_fields.proofs.Cuts.{piece-end, piece-last, piece-more}
use Rattle.text_fields.proofs.Joins.{joined-pieces}
use Rattle.text_fields.proofs.Values.{signed-apart}
use Rattle.text_fields.proofs.RunLaws.{Said}
use Rattle.text_judge.specs.Line.{fields_of, line_in, line_with, line_of, with_signed}
use Rattle.text_judge.specs.Starts.{Starts}

-- ---- pieces of which the first or the second is no number say nothing

nothing-first : (t : Pieces) → number_in (first_piece t) ≡ None → line_in (fields_of t) ≡ None
unfolding fields_of
nothing-first (last a) h = refl
nothing-first (more a (last b)) h = refl
nothing-first (more a (more b (last c))) h = ap (λ (n : Option ℕ). line_with n (number_in b) (signed_of c)) h
nothing-first (more a (more b (more c t))) h = refl

no_number : (n : Option ℕ) (v : Option Signed) → line_with n None v ≡ None
no_number (Some i) v = refl
no_number None v = refl

nothing-second : (a : List ℕ) (t : Pieces) → number_in (first_piece t) ≡ None → line_in (fields_of (more a t)) ≡ None
unfolding fields_of
nothing-second a (last b) h = refl
nothing-second a (more b (last c)) h = ap (λ (n : Option ℕ). line_with (number_in a) n (signed_of c)) h ∙ no_number (number_in a) (signed_of c)
nothing-second a (more b (more c t)) h = refl

-- ---- pieces of which the first two are numbers: what is left is the third, or has a space in it

module _ (a b d : List ℕ) (i j : ℕ) (na : number_in a ≡ Some i) (nb : number_in b ≡ Some j) where
  line-left : (t : Pieces) → joined 32 t ≡ d → line_in (fields_of (more a (more b t))) ≡ with_signed i j (signed_of d)
  unfolding fields_of joined
  line-left (last c) e = λ k. line_with (na k) (nb k) (signed_of (e k))
  line-left (more c t) e = sym (ap (with_signed i j) (ap signed_of (sym e) ∙ signed-apart 32 (omega arith) c (joined 32 t)))

-- ---- a line, field by field

module _ (l : List ℕ) where
  says_nothing : (t : Pieces) → pieces 32 l ≡ t → line_in (fields_of t) ≡ None → Starts l None
  unfolding line_of
  says_nothing t e n = record { line = ap (λ (p : Pieces). line_in (fields_of p)) e ∙ n; inside = tt }

  pub no-first : number_in (piece_from 32 l 0) ≡ None → Starts l None
  no-first h = says_nothing (pieces 32 l) refl (nothing-first (pieces 32 l) h)

  module _ (i first : ℕ) (a : Said 32 l 0 i first) where
    pub first-last : first ≡ length l → Starts l None
    unfolding fields_of
    first-last h =
        says_nothing (last (piece_from 32 l 0)) (piece-last 32 l (piece_from 32 l 0) 0 zero-le refl (a.end ∙ h)) refl

    pub first-inside : ¬ (first ≡ length l) → first + 1 ≤ length l
    first-inside h = omega (arith, piece-end 32 l (piece_from 32 l 0) 0 zero-le refl, a.end, h)

    module _ (short : ¬ (first ≡ length l)) where
      cut : pieces 32 l ≡ more (piece_from 32 l 0) (pieces 32 (drop (first + 1) l))
      cut = piece-more 32 l (piece_from 32 l 0) 0 zero-le refl (first + 1) (omega (arith, a.end, first-inside short)) (omega (arith, a.end))

      pub no_second : number_in (piece_from 32 l (first + 1)) ≡ None → Starts l None
      no_second h = says_nothing (more (piece_from 32 l 0) (pieces 32 (drop (first + 1) l))) cut (nothing-second (piece_from 32 l 0) (pieces 32 (drop (first + 1) l)) h)

      module _ (j second : ℕ) (b : Said 32 l (first + 1) j second) where
        pub second-last : second ≡ length l → Starts l None
        unfolding fields_of
        second-last h =
            says_nothing (more (piece_from 32 l 0) (last (piece_from 32 l (first + 1))))
            (cut ∙ ap (more (piece_from 32 l 0)) (piece-last 32 l (piece_from 32 l (first + 1)) (first + 1) (first-inside short) refl (b.end ∙ h)))
            refl

        pub second-inside : ¬ (second ≡ length l) → second + 1 ≤ length l
        second-inside h = omega (arith, piece-end 32 l (piece_from 32 l (first + 1)) (first + 1) (first-inside short) refl, b.end, h)

        pub both : ¬ (second ≡ length l) → Starts l (Some (record { i = i; j = j; rest = second + 1 }))
        unfolding line_of
        both h =
            let left = drop (second + 1) l in
            record {
              line = ap (λ (p : Pieces). line_in (fields_of p)) two ∙ line-left (piece_from 32 l 0) (piece_from 32 l (first + 1)) left i j a.number b.number (pieces 32 left) (joined-pieces 32 left);
              inside = second-inside h;
            }
          where
            two : pieces 32 l ≡ more (piece_from 32 l 0) (more (piece_from 32 l (first + 1)) (pieces 32 (drop (second + 1) l)))
            two =
                cut
                ∙ ap (more (piece_from 32 l 0)) (piece-more 32 l (piece_from 32 l (first + 1)) (first + 1) (first-inside short) refl (second + 1) (omega (arith, b.end, second-inside h)) (omega (arith, b.end)))
