-- A line cut at its spaces: a and b are its first two pieces, c is the third.
use mathlib.Core.Path.{◌≡◌, refl, sym, ap, ◌∙◌}
use mathlib.Core.List.{List}
use Prim.Native.Nat.{ℕ, ◌+◌, ◌-◌, ◌≤◌, ◌<◌, zero-le}
use native.Mathlib.Nat.{add-sub_cancel_left}
use native.Mathlib.Omega.{arith}
use lib.ListN.{length, take, drop, length-drop}
use lib.Seq.{take_all}
use Rattle.text_fields.specs.Pieces.{Pieces, more, pieces, first_piece}
use Rattle.text_fields.proofs.Cuts.{first-prefix, piece-end, piece-last, piece-more}
use Rattle.text_judge.specs.Line.{three, not_three, fields_of}
use Rattle.text_judge.specs.Spaces.{fields_at}
use Rattle.std.specs.Prelude.{Some}

-- a piece is the part of the line that it covers
piece-part : (l r : List ℕ) (at : ℕ) → r ≡ first_piece (pieces 32 (drop at l)) → take (length r) (drop at l) ≡ r
piece-part l r at e = ap (λ (x : List ℕ). take (length x) (drop at l)) e ∙ first-prefix 32 (drop at l) ∙ sym e

module _ (l a : List ℕ) (ea : a ≡ first_piece (pieces 32 (drop 0 l))) where
  pub no-space : length a ≡ length l → fields_of (pieces 32 l) ≡ not_three
  unfolding fields_of
  no-space h = ap fields_of (piece-last 32 l a 0 zero-le ea (omega arith))

  pub first-inside : (length a ≡ length l → ⊥) → length a + 1 ≤ length l
  first-inside h = omega (arith, piece-end 32 l a 0 zero-le ea, h)

  module _ (b : List ℕ) (ha : length a + 1 ≤ length l) (eb : b ≡ first_piece (pieces 32 (drop (length a + 1) l))) where
    pub one-space : length a + 1 + length b ≡ length l → fields_of (pieces 32 l) ≡ not_three
    unfolding fields_of
    one-space h =
        ap fields_of
        (piece-more 32 l a 0 zero-le ea (length a + 1) (omega arith) (omega arith) ∙ ap (more a) (piece-last 32 l b (length a + 1) ha eb h))

    pub second-inside : (length a + 1 + length b ≡ length l → ⊥) → length a + 1 + length b + 1 ≤ length l
    second-inside h = omega (arith, piece-end 32 l b (length a + 1) ha eb, h)

    module _ (c : List ℕ) (hb : length a + 1 + length b + 1 ≤ length l) (ec : c ≡ first_piece (pieces 32 (drop (length a + 1 + length b + 1) l))) where
      abbrev third : ℕ
      third = length a + 1 + length b + 1

      two-cut : pieces 32 l ≡ more a (more b (pieces 32 (drop third l)))
      two-cut =
          piece-more 32 l a 0 zero-le ea (length a + 1) (omega arith) (omega arith)
          ∙ ap (more a) (piece-more 32 l b (length a + 1) ha eb third (omega arith) refl)

      pub third-end : third + length c ≤ length l
      third-end = piece-end 32 l c third hb ec

      pub more-spaces : third + length c < length l → fields_of (pieces 32 l) ≡ not_three
      unfolding fields_of
      more-spaces h =
          ap fields_of (two-cut ∙ ap (λ (t : Pieces). more a (more b t)) (piece-more 32 l c third hb ec (third + length c + 1) h refl))

      c-part : length l ≤ third + length c → c ≡ drop third l
      c-part h = sym (piece-part l c third ec) ∙ take_all (length c) (drop third l) (omega (arith, length-drop third l))

      b-part : b ≡ take (length a + 1 + length b - (length a + 1)) (drop (length a + 1) l)
      b-part =
          sym (piece-part l b (length a + 1) eb)
          ∙ ap (λ (k : ℕ). take k (drop (length a + 1) l)) (sym (add-sub_cancel_left (length a + 1) (length b)))

      pub two-spaces : length l ≤ third + length c → fields_of (pieces 32 l) ≡ fields_at l (Some (record { first = length a; second = length a + 1 + length b }))
      unfolding fields_of
      two-spaces h =
          ap fields_of (two-cut ∙ ap (λ (t : Pieces). more a (more b t)) (piece-last 32 l c third hb ec (omega (arith, third-end))))
          ∙ (λ k. three (sym (piece-part l a 0 ea) k) (b-part k) (c-part h k))
