-- Laws of lists that begin with some numbers and end with others in reverse: more is written after the first, or at the end, and at last the end is turned round.
use mathlib.Core.Path.{◌≡◌, refl, sym, ap, ◌∙◌, subst}
use mathlib.Core.List.{List, [], ◌∷◌, ◌++◌, append_assoc, append-nil, reverse, reverse-cons, reverse-append, reverse-reverse}
use Prim.Native.Nat.{ℕ, zero, suc, ◌+◌, ◌-◌, ◌≤◌, ◌<◌}
use native.Mathlib.Omega.{arith}
use lib.ListN.{length, get_or, take, drop, set, length-append, length-reverse, replicate-append-replicate, get_or-append}
use lib.Seq.{sets, sets-eq, take_at, drop_at, drop-append-add, get_or-append-add, set_at}
use Rattle.lists.specs.Filled.{zeros, filled}
use Rattle.lists.proofs.Filled.{length-zeros, zeros-at}
use Rattle.factor_turn.specs.State.{Ends}
use Rattle.factor_turn.specs.Keeping.{turned_part, Mirrored, PartReady}

-- ---- zeros

zeros-split : (a b : ℕ) → zeros (a + b) ≡ zeros a ++ zeros b
unfolding zeros
zeros-split a b = sym (replicate-append-replicate a b 0)

reverse-zeros : (n : ℕ) → reverse (zeros n) ≡ zeros n
unfolding zeros
reverse-zeros zero = refl
reverse-zeros (suc n) =
    reverse-cons 0 (zeros n)
    ∙ ap (λ (l : List ℕ). l ++ (0 ∷ [])) (reverse-zeros n)
    ∙ sym (zeros-split n 1)
    ∙ ap zeros (let e : n + 1 ≡ suc n = omega arith in e)

-- ---- a part in the middle

module _ (a m b : List ℕ) (i e : ℕ) (ei : i ≡ length a) (ee : e ≡ length a + length m) where
  part-rest : drop i (a ++ (m ++ b)) ≡ m ++ b
  part-rest = drop_at a (m ++ b) i (sym ei)

  part-is : take (e - i) (drop i (a ++ (m ++ b))) ≡ m
  part-is = ap (take (e - i)) part-rest ∙ take_at m b (e - i) (omega arith)

  part_turned : turned_part i e (a ++ (m ++ b)) ≡ a ++ (reverse m ++ b)
  part_turned t = take_at a (m ++ b) i (sym ei) t ++ (reverse (part-is t) ++ (ap (drop (e - i)) part-rest ∙ drop_at m b (e - i) (omega arith)) t)

  part-ready : (k : ℕ) → Mirrored k m → PartReady i e k (a ++ (m ++ b))
  part-ready k h = record { low = omega arith; inside = omega (arith, length-append a (m ++ b), length-append m b); part = rw part-is h }

-- ---- which parts can be turned round

mirrored-front : (ys : List ℕ) (g k : ℕ) → k ≡ length ys → Mirrored k (ys ++ zeros g)
mirrored-front ys g k e =
    record {
      inside = omega (arith, length-append ys (zeros g));
      between = λ j l h. ap (λ (x : ℕ). get_or (ys ++ zeros g) x 0) (let q : j ≡ length ys + (j - length ys) = omega arith in q) ∙ get_or-append-add ys (zeros g) (j - length ys) 0 ∙ zeros-at g (j - length ys);
    }

mirrored-back : (ys : List ℕ) (g k : ℕ) → k ≡ length ys → Mirrored k (zeros g ++ ys)
mirrored-back ys g k e =
    record {
      inside = omega (arith, length-append (zeros g) ys);
      between = λ j l h. get_or-append (zeros g) ys 0 j (omega (arith, length-zeros g, length-append (zeros g) ys)) ∙ zeros-at g j;
    }

pub mirrored-whole : (k : ℕ) (l : List ℕ) → k ≡ length l → Mirrored k l
mirrored-whole k l e = record { inside = omega arith; between = λ j a b. absurd (omega arith) }

-- ---- a list that begins with xs and ends with bs in reverse

pub ends-none : (l : List ℕ) → l ≡ zeros (length l) → Ends [] [] l
ends-none l e = record { gap = length l; whole = e ∙ sym (append-nil (zeros (length l))) }

module _ (xs bs l : List ℕ) (h : Ends xs bs l) where
  pub ends-long : length l ≡ length xs + (h.gap + length bs)
  ends-long =
      ap length h.whole
      ∙ omega (arith, length-append xs (zeros h.gap ++ reverse bs), length-append (zeros h.gap) (reverse bs), length-zeros h.gap, length-reverse bs)

  -- ys are written after xs
  module _ (ys : List ℕ) (fit : length xs + length ys + length bs ≤ length l) where
    abbrev g : ℕ
    g = h.gap - length ys

    split : l ≡ xs ++ (zeros (length ys) ++ (zeros g ++ reverse bs))
    split =
        h.whole
        ∙ ap (λ (k : ℕ). xs ++ (zeros k ++ reverse bs)) (let e : h.gap ≡ length ys + g = omega (arith, ends-long) in e)
        ∙ ap (λ (z : List ℕ). xs ++ (z ++ reverse bs)) (zeros-split (length ys) g)
        ∙ ap (λ (z : List ℕ). xs ++ z) (append_assoc (zeros (length ys)) (zeros g) (reverse bs))

    written : sets l (length xs) ys ≡ xs ++ (ys ++ (zeros g ++ reverse bs))
    written = sets-eq ys l (length xs) (omega arith) ∙ (λ t. front t ++ ys ++ back t) ∙ append_assoc xs ys (zeros g ++ reverse bs)
      where
        front : take (length xs) l ≡ xs
        front = ap (take (length xs)) split ∙ take_at xs (zeros (length ys) ++ (zeros g ++ reverse bs)) (length xs) refl

        back : drop (length xs + length ys) l ≡ zeros g ++ reverse bs
        back =
            ap (drop (length xs + length ys)) split
            ∙ drop-append-add xs (zeros (length ys) ++ (zeros g ++ reverse bs)) (length ys)
            ∙ drop_at (zeros (length ys)) (zeros g ++ reverse bs) (length ys) (length-zeros (length ys))

    -- and count there
    pub ends-front : Ends (xs ++ ys) bs (sets l (length xs) ys)
    ends-front = record { gap = g; whole = written ∙ sym (append_assoc xs ys (zeros g ++ reverse bs)) }

    -- or the rest is turned round, up to bs
    module _ (i e : ℕ) (ei : i ≡ length xs) (ee : e ≡ length l - length bs) where
      parts : sets l (length xs) ys ≡ xs ++ (ys ++ zeros g ++ reverse bs)
      parts = written ∙ ap (λ (z : List ℕ). xs ++ z) (sym (append_assoc ys (zeros g) (reverse bs)))

      end_is : e ≡ length xs + length (ys ++ zeros g)
      end_is = omega (arith, ends-long, length-append ys (zeros g), length-zeros g)

      pub back-ready : (k : ℕ) → k ≡ length ys → PartReady i e k (sets l (length xs) ys)
      back-ready k ek = rw parts (part-ready xs (ys ++ zeros g) (reverse bs) i e ei end_is k (mirrored-front ys g k ek))

      pub ends-back : Ends xs (bs ++ ys) (turned_part i e (sets l (length xs) ys))
      ends-back =
          record {
            gap = g;
            whole = ap (turned_part i e) parts ∙ part_turned xs (ys ++ zeros g) (reverse bs) i e ei end_is ∙ ap (λ (z : List ℕ). xs ++ z) turned;
          }
        where
          turned : reverse (ys ++ zeros g) ++ reverse bs ≡ zeros g ++ reverse (bs ++ ys)
          turned =
              ap (λ (z : List ℕ). z ++ reverse bs) (reverse-append ys (zeros g))
              ∙ ap (λ (z : List ℕ). z ++ reverse ys ++ reverse bs) (reverse-zeros g)
              ∙ append_assoc (zeros g) (reverse ys) (reverse bs)
              ∙ ap (λ (z : List ℕ). zeros g ++ z) (sym (reverse-append bs ys))

  -- v is written before the end
  pub ends-one : (v at : ℕ) → length xs + length bs < length l → at + (length bs + 1) ≡ length l → Ends xs (bs ++ (v ∷ [])) (set l at v)
  unfolding zeros
  ends-one v at fit ea =
      record {
        gap = g;
        whole =
            ap (λ (z : List ℕ). set z at v) split
            ∙ set_at (xs ++ zeros g) 0 (reverse bs) v at (omega (arith, length-append xs (zeros g), length-zeros g, ends-long))
            ∙ append_assoc xs (zeros g) (v ∷ reverse bs)
            ∙ ap (λ (z : List ℕ). xs ++ (zeros g ++ z)) (sym (reverse-append bs (v ∷ [])));
      }
    where
      g : ℕ
      g = h.gap - 1

      split : l ≡ xs ++ zeros g ++ 0 ∷ reverse bs
      split =
          h.whole
          ∙ ap (λ (k : ℕ). xs ++ (zeros k ++ reverse bs)) (let e : h.gap ≡ g + 1 = omega (arith, ends-long) in e)
          ∙ ap (λ (z : List ℕ). xs ++ (z ++ reverse bs)) (zeros-split g 1)
          ∙ ap (λ (z : List ℕ). xs ++ z) (append_assoc (zeros g) (0 ∷ []) (reverse bs))
          ∙ sym (append_assoc xs (zeros g) (0 ∷ reverse bs))

  -- the end is turned round
  module _ (i : ℕ) (ei : i ≡ length xs) where
    at_last : l ≡ xs ++ (zeros h.gap ++ reverse bs ++ [])
    at_last = h.whole ∙ ap (λ (z : List ℕ). xs ++ z) (sym (append-nil (zeros h.gap ++ reverse bs)))

    last_end : length l ≡ length xs + length (zeros h.gap ++ reverse bs)
    last_end = omega (arith, ends-long, length-append (zeros h.gap) (reverse bs), length-zeros h.gap, length-reverse bs)

    pub last-ready : (k : ℕ) → k ≡ length bs → PartReady i (length l) k l
    last-ready k ek =
        subst (PartReady i (length l) k) (sym at_last)
        (part-ready xs (zeros h.gap ++ reverse bs) [] i (length l) ei last_end k (mirrored-back (reverse bs) h.gap k (ek ∙ sym (length-reverse bs))))

    pub ends_turned : turned_part i (length l) l ≡ filled (length l) (xs ++ bs)
    unfolding filled
    ends_turned =
        ap (turned_part i (length l)) at_last
        ∙ part_turned xs (zeros h.gap ++ reverse bs) [] i (length l) ei last_end
        ∙ ap (λ (z : List ℕ). xs ++ z) (append-nil (reverse (zeros h.gap ++ reverse bs)) ∙ reverse-append (zeros h.gap) (reverse bs) ∙ (λ t. reverse-reverse bs t ++ reverse-zeros h.gap t))
        ∙ sym (append_assoc xs bs (zeros h.gap))
        ∙ ap (λ (k : ℕ). xs ++ bs ++ zeros k) (let e : h.gap ≡ length l - length (xs ++ bs) = omega (arith, ends-long, length-append xs bs) in e)
