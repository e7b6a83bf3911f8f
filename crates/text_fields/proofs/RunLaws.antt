-- Laws of a digit run: one digit more, and the number of the field that it starts.
use mathlib.Core.Path.{◌≡◌, refl, sym, ap, ◌∙◌}
use mathlib.Core.List.{List, [], ◌∷◌}
use mathlib.Core.Bool.{Bool, true, false, cond}
use Prim.Native.Nat.{ℕ, suc, ◌+◌, ◌-◌, ◌*◌, ◌^◌, ◌≤◌, ◌<◌}
use native.Mathlib.Nat.{add-zero}
use native.Mathlib.Numerals.{add-one}
use native.Mathlib.Decide.{ℕ_discrete}
use native.Mathlib.Omega.{arith}
use lib.ListN.{length, get_or, drop}
use lib.Seq.{drop-cons, get_or-take, get_or-drop}
use Rattle.std.specs.Prelude.{Option, Some, None}
use Rattle.text_fields.specs.declared.runs.Field.{Field}
use Rattle.text_fields.specs.Pieces.{pieces}
use Rattle.text_fields.specs.Scan.{piece_from, size_from}
use Rattle.text_fields.specs.Number.{digits_from, number_in}
use Rattle.text_fields.specs.Runs.{field_of, field_at, well_written, Digit, DigitRun}
use Rattle.text_fields.proofs.Cuts.{pieces-miss, first-prepend, first-end, first-hit, first-prefix}
use Rattle.text_fields.proofs.Values.{ten-more, number-long, number-other, number-form, digits-digit, digits-other}

empty : (l : List ℕ) → length l ≡ 0 → l ≡ []
empty [] e = refl
empty (b ∷ bs) e = absurd (omega arith)

-- ---- the piece from a place on: its first byte, and the rest

piece-step : (s : ℕ) (l : List ℕ) (k : ℕ) → k < length l → ¬ (get_or l k 0 ≡ s) → piece_from s l k ≡ get_or l k 0 ∷ piece_from s l (k + 1)
piece-step s l k h e =
    rw (add-one k, drop-cons l k 0 h, pieces-miss s (get_or l k 0) (drop (suc k) l) e, first-prepend (get_or l k 0) (pieces s (drop (suc k) l)))

piece-head : (s : ℕ) (l : List ℕ) (k : ℕ) → 0 < size_from s l k → get_or (piece_from s l k) 0 0 ≡ get_or l k 0
piece-head s l k h =
    ap (λ (r : List ℕ). get_or r 0 0) (sym (first-prefix s (drop k l)))
    ∙ get_or-take (size_from s l k) (drop k l) 0 0 h
    ∙ get_or-drop k l 0 0
    ∙ ap (λ (i : ℕ). get_or l i 0) (add-zero k)

-- a piece that is not empty starts inside the line, and at no separator
piece_inside : (s : ℕ) (l : List ℕ) (k : ℕ) → k ≤ length l → ¬ (size_from s l k ≡ 0) → (k < length l) × ¬ (get_or l k 0 ≡ s)
piece_inside s l k h z =
    let inside : k < length l = go (ℕ_discrete k (length l)) in (inside, λ e. z (ap length (first-hit s l k inside e)))
  where
    go : Dec (k ≡ length l) → k < length l
    go (yes e) = absurd (z (ap length (first-end s l k e)))
    go (no e) = omega arith

-- ---- the digits that are read so far: they say v, and end before place e

pub record Reading (l : List ℕ) (from v e : ℕ) : Type 0 where
  pub least : from ≤ e
  pub small : v < 10 ^ (e - from)
  pub long : (s : ℕ) → s < 48 → size_from s l from ≡ (e - from) + size_from s l e
  pub says : (s : ℕ) → s < 48 → digits_from 0 (piece_from s l from) ≡ digits_from v (piece_from s l e)

module _ (l : List ℕ) (from : ℕ) where
  pub reading-digit : (v e : ℕ) → Reading l from v e → e < length l → Digit (get_or l e 0) → Reading l from (v * 10 + (get_or l e 0 - 48)) (e + 1)
  reading-digit v e r h d =
      record {
        least = omega (arith, r.least);
        small =
            rw (let q : e + 1 - from ≡ e - from + 1 = omega (arith, r.least) in q)
            (ten-more v (get_or l e 0 - 48) (e - from) r.small (omega arith));
        long = λ s g. omega (arith, r.least, r.long s g, ap length (step s g));
        says = λ s g. r.says s g ∙ ap (digits_from v) (step s g) ∙ digits-digit v (get_or l e 0) (piece_from s l (e + 1)) d;
      }
    where
      step : (s : ℕ) → s < 48 → piece_from s l e ≡ get_or l e 0 ∷ piece_from s l (e + 1)
      step s g = piece-step s l e h (λ q. omega arith)

-- ---- the field that a run of digits starts

module _ (s : ℕ) (small : s < 48) (l : List ℕ) (from v e : ℕ) (d : DigitRun l from v e) where
  -- it does not end with the digits: another byte follows, or an eleventh digit
  other-number : ¬ (size_from s l e ≡ 0) → number_in (piece_from s l from) ≡ None
  other-number z = go (ℕ_discrete e (from + 10))
    where
      at : (e < length l) × ¬ (get_or l e 0 ≡ s)
      at = piece_inside s l e d.inside z

      go : Dec (e ≡ from + 10) → number_in (piece_from s l from) ≡ None
      go (yes q) = number-long (piece_from s l from) (omega (arith, d.long s small, z))
      go (no q) =
          number-other (piece_from s l from)
          (d.says s small
          ∙ ap (digits_from v) (piece-step s l e at.0 at.1)
          ∙ digits-other v (get_or l e 0) (piece_from s l (e + 1)) (d.stops at.0 (omega (arith, d.most))))

  pub field-other : ¬ (size_from s l e ≡ 0) → None ≡ field_at s l from
  field-other z = sym (ap (λ (n : Option ℕ). field_of n (from + size_from s l from)) (other-number z))

  -- it ends with them
  module _ (z : size_from s l e ≡ 0) where
    size : size_from s l from ≡ e - from
    size = omega (arith, d.long s small)

    end : from + size_from s l from ≡ e
    end = omega (arith, size, d.least)

    written_same : well_written (get_or (piece_from s l from) 0 0) (size_from s l from) ≡ well_written (get_or l from 0) (e - from)
    written_same = rw size (go (ℕ_discrete (e - from) 0))
      where
        go : Dec (e - from ≡ 0) → well_written (get_or (piece_from s l from) 0 0) (e - from) ≡ well_written (get_or l from 0) (e - from)
        go (yes q) = rw q
        go (no q) = ap (λ (b : ℕ). well_written b (e - from)) (piece-head s l from (omega (arith, size)))

    number : number_in (piece_from s l from) ≡ cond (well_written (get_or l from 0) (e - from)) (Some v) None
    unfolding digits_from
    number =
        number-form (piece_from s l from) (omega (arith, size, d.most))
        ∙ (λ k. cond (written_same k) ((d.says s small ∙ ap (digits_from v) (empty (piece_from s l e) z)) k) None)

    pub field-ends : (t : Bool) → t ≡ well_written (get_or l from 0) (e - from) → cond t (Some (record { n = v; end = e })) None ≡ field_at s l from
    field-ends t q = sym ((λ k. field_of (number k) (end k)) ∙ ap (λ (w : Bool). field_of (cond w (Some v) None) e) (sym q) ∙ go t)
      where
        go : (w : Bool) → field_of (cond w (Some v) None) e ≡ cond w (Some (record { n = v; end = e })) None
        go true = refl
        go false = refl

-- ---- what `field_from` says, for a caller: the number of the field from a place on, and its end

pub record Said (s : ℕ) (l : List ℕ) (from n e : ℕ) : Type 0 where
  pub number : number_in (piece_from s l from) ≡ Some n
  pub end : from + size_from s l from ≡ e

abbrev number_of : Option Field → Option ℕ
number_of (Some f) = Some f.n
number_of None = None

abbrev end_of : ℕ → Option Field → ℕ
end_of k (Some f) = f.end
end_of k None = k

number-of : (x : Option ℕ) (k : ℕ) → x ≡ number_of (field_of x k)
number-of (Some n) k = refl
number-of None k = refl

end-of : (x : Option ℕ) (k : ℕ) → k ≡ end_of k (field_of x k)
end-of (Some n) k = refl
end-of None k = refl

module _ (s : ℕ) (l : List ℕ) (from : ℕ) where
  pub field-said : (f : Field) → field_at s l from ≡ Some f → Said s l from f.n f.end
  field-said f q =
      record {
        number = number-of (number_in (piece_from s l from)) (from + size_from s l from) ∙ ap number_of q;
        end = end-of (number_in (piece_from s l from)) (from + size_from s l from) ∙ ap (end_of (from + size_from s l from)) q;
      }

  pub field-unsaid : field_at s l from ≡ None → number_in (piece_from s l from) ≡ None
  field-unsaid q = number-of (number_in (piece_from s l from)) (from + size_from s l from) ∙ ap number_of q
