-- What follows a plan in its text is read as the owners that it states, exactly.
--   owned-exactly     it is read as these owners exactly if it says them: nothing, or their line
--   too_large         the line of owners that are not all bytes is refused by 16
--   foot-refused      every refusal is by 3 or 16
use mathlib.Core.Path.{◌≡◌, refl, sym, ap, ap₂, ◌∙◌}
use mathlib.Core.Logic.{◌↔◌, ◌⊎◌, inl, inr}
use mathlib.Core.List.{List, [], ◌∷◌, ◌++◌, append_assoc, append-nil}
use mathlib.Core.Bool.{Bool, true, false, cond, ◌&&◌}
use Rattle.std.specs.Prelude.{Option, Some, None}
use Prim.Native.Nat.{ℕ, zero, suc, ◌+◌, ◌^◌, ◌≤◌, ◌<◌}
use native.Mathlib.Omega.{arith}
use lib.ListN.{length, get_or, replicate, length-replicate}
use lib.Dec.{eqb, leb}
use borrow.Author.Tests.{eqb-true, eq-eqb, leb-true}
use Rattle.lists.specs.Tabulate.{tabulate}
use Rattle.lists.proofs.Tabulate.{tabulated}
use Rattle.lists.proofs.Bools.{and_left, and_right}
use Rattle.refusals.specs.Table.{malformed, owner_too_large}
use Rattle.text_fields.specs.Pieces.{Pieces, last, more, pieces, joined}
use Rattle.text_fields.specs.Number.{number_in}
use Rattle.text_fields.specs.Decimal.{decimal}
use Rattle.text_fields.proofs.Canonical.{number-prints, number-printed}
use Rattle.text_fields.proofs.Joins.{Free, free-append, free-decimal, pieces-free, pieces-line, joined-pieces}
use Rattle.text_owners.specs.Owners.{is_owners_word, fields_in, with_number, field_numbers, of_length, after_word, owners_line, all_bytes, OwnersRead, not_read, owned, after_line, on_line, owners_in}
use Rattle.text_owners.specs.Stating.{owner_fields, owners_text, StatesOwners}

-- ---- owners that are bytes

bytes-head : (v : ℕ) (vs : List ℕ) → all_bytes (v ∷ vs) ≡ true → v ≤ 255
unfolding all_bytes
bytes-head v vs e = leb-true v 255 (and_left (leb v 255) (all_bytes vs) e)

bytes-tail : (v : ℕ) (vs : List ℕ) → all_bytes (v ∷ vs) ≡ true → all_bytes vs ≡ true
unfolding all_bytes
bytes-tail v vs e = and_right (leb v 255) (all_bytes vs) e

-- a number is read where it is below 10 ^ 10
bytes_small : (vs : List ℕ) → all_bytes vs ≡ true → (j : ℕ) → get_or vs j 0 < 10 ^ 10
bytes_small [] e j = omega arith
bytes_small (v ∷ vs) e zero = omega (arith, bytes-head v vs e)
bytes_small (v ∷ vs) e (suc j) = bytes_small vs (bytes-tail v vs e) j

pub ones-bytes : (m : ℕ) → all_bytes (replicate m 1) ≡ true
unfolding all_bytes
ones-bytes zero = refl
ones-bytes (suc m) = ones-bytes m

-- ---- the line of the owners, as it is written and as it is read

abbrev word : List ℕ
word = 111 ∷ 119 ∷ 110 ∷ 101 ∷ 114 ∷ 115 ∷ []

-- the fields of the owners, without the line feed after them
abbrev fields_text : List ℕ → List ℕ
fields_text [] = []
fields_text (v ∷ vs) = 32 ∷ decimal v ++ fields_text vs

fields-end : (vs : List ℕ) → owner_fields vs ≡ fields_text vs ++ (10 ∷ [])
unfolding owner_fields
fields-end [] = refl
fields-end (v ∷ vs) = ap (λ (l : List ℕ). 32 ∷ decimal v ++ l) (fields-end vs) ∙ ap (λ (l : List ℕ). 32 ∷ l) (sym (append_assoc (decimal v) (fields_text vs) (10 ∷ [])))

fields_free : (vs : List ℕ) → Free 10 (fields_text vs)
fields_free [] = tt
fields_free (v ∷ vs) = ((λ e. omega arith), free-append 10 (decimal v) (fields_text vs) (free-decimal 10 v (omega arith)) (fields_free vs))

word-free : (s : ℕ) → s < 101 → Free s word
word-free s h = ((λ e. omega arith), ((λ e. omega arith), ((λ e. omega arith), ((λ e. omega arith), ((λ e. omega arith), ((λ e. omega arith), tt))))))

line-back : (vs : List ℕ) → pieces 10 (owners_text vs) ≡ more (word ++ fields_text vs) (last [])
unfolding owners_text
line-back vs =
    ap (λ (l : List ℕ). pieces 10 (word ++ l)) (fields-end vs)
    ∙ pieces-line 10 (word ++ fields_text vs) [] (free-append 10 word (fields_text vs) (word-free 10 (omega arith)) (fields_free vs))
    ∙ ap (more (word ++ fields_text vs)) (pieces-free 10 [] tt)

fields_back : (v : ℕ) (vs : List ℕ) → v < 10 ^ 10 → ((j : ℕ) → get_or vs j 0 < 10 ^ 10) → field_numbers (fields_in (pieces 32 (decimal v ++ fields_text vs))) ≡ Some (v ∷ vs)
unfolding fields_in field_numbers
fields_back v [] h small = rw (append-nil (decimal v), pieces-free 32 (decimal v) (free-decimal 32 v (omega arith)), number-printed v h)
fields_back v (w ∷ ws) h small =
    rw (pieces-line 32 (decimal v) (decimal w ++ fields_text ws) (free-decimal 32 v (omega arith)), number-printed v h, fields_back w ws (small 0) (λ j. small (suc j)))

word-is : is_owners_word word ≡ true
unfolding is_owners_word
word-is = refl

-- the line is read as its numbers
line_read : (vs : List ℕ) → ((j : ℕ) → get_or vs j 0 < 10 ^ 10) → owners_line (length vs) (word ++ fields_text vs) ≡ Some vs
unfolding owners_line fields_in field_numbers
line_read [] small = rw (pieces-free 32 word (word-free 32 (omega arith)), word-is)
line_read (v ∷ vs) small =
    rw (
      pieces-line 32 word (decimal v ++ fields_text vs) (word-free 32 (omega arith)),
      word-is,
      fields_back v vs (small 0) (λ j. small (suc j)),
      eq-eqb (length (v ∷ vs)) (length (v ∷ vs)) refl,
    )

foot-read : (m k : ℕ) (vs : List ℕ) → length vs ≡ m → ((j : ℕ) → get_or vs j 0 < 10 ^ 10)
    → owners_in m k (pieces 10 (owners_text vs)) ≡ cond (all_bytes vs) (owned vs) (not_read owner_too_large k)
unfolding owners_in
foot-read m k vs long small = rw (line-back vs, ← long, line_read vs small)

-- owners that are not all bytes
pub too_large : (m k : ℕ) (vs : List ℕ) → length vs ≡ m → ((j : ℕ) → get_or vs j 0 < 10 ^ 10) → all_bytes vs ≡ false
    → owners_in m k (pieces 10 (owners_text vs)) ≡ not_read owner_too_large k
too_large m k vs long small e = foot-read m k vs long small ∙ rw e

states-owned : (m k : ℕ) (foot vs : List ℕ) → StatesOwners m foot vs → owners_in m k (pieces 10 foot) ≡ owned vs
unfolding owners_in pieces
states-owned m k foot vs h = go h.said
  where
    go : ((foot ≡ []) × (vs ≡ replicate m 1)) ⊎ (foot ≡ owners_text vs) → owners_in m k (pieces 10 foot) ≡ owned vs
    go (inl (nothing, ones)) = rw (nothing, ones)
    go (inr line) = rw line (foot-read m k vs h.long (bytes_small vs h.bytes) ∙ rw h.bytes)

-- ---- what is read is what was written

none-some : {A : Type 0} {vs : List ℕ} → None ≡ Some vs → A
none-some e = let z : ◌≡◌ {A = ℕ} 0 1 = cc in absurd (omega arith)

not-owned : {A : Type 0} {c d : ℕ} {vs : List ℕ} → not_read c d ≡ owned vs → A
not-owned e = let z : ◌≡◌ {A = ℕ} 0 1 = cc in absurd (omega arith)

-- one byte of the word, and the others
byte-is : (x y : ℕ) (others : Bool) → (eqb x y && others) ≡ true → (x ≡ y) × (others ≡ true)
byte-is x y others e = (eqb-true x y (and_left (eqb x y) others e), and_right (eqb x y) others e)

word-prints : (w : List ℕ) → is_owners_word w ≡ true → w ≡ word
unfolding is_owners_word tabulate
word-prints w e =
    let byte : ℕ → ℕ = (λ i. get_or w i 0) in
    let (long, l0) = byte-is (length w) 6 _ e in
    let (b0, l1) = byte-is (byte 0) 111 _ l0 in
    let (b1, l2) = byte-is (byte 1) 119 _ l1 in
    let (b2, l3) = byte-is (byte 2) 110 _ l2 in
    let (b3, l4) = byte-is (byte 3) 101 _ l3 in
    let (b4, l5) = byte-is (byte 4) 114 _ l4 in
    let b5 = eqb-true (byte 5) 115 l5 in
    tabulated 6 byte w long (λ i h. refl) ∙ (λ t. b0 t ∷ b1 t ∷ b2 t ∷ b3 t ∷ b4 t ∷ b5 t ∷ [])

-- a number before others
record Splits (n : Option ℕ) (o : Option (List ℕ)) (vs : List ℕ) : Type 0 where
  first : ℕ
  rest : List ℕ
  number_is : n ≡ Some first
  rest-is : o ≡ Some rest
  whole : first ∷ rest ≡ vs

splits : (n : Option ℕ) (o : Option (List ℕ)) (vs : List ℕ) → with_number n o ≡ Some vs → Splits n o vs
splits None o vs e = none-some e
splits (Some v) None vs e = none-some e
splits (Some v) (Some ws) vs e = record { first = v; rest = ws; number_is = refl; rest-is = refl; whole = cc }

fields-print : (t : Pieces) (vs : List ℕ) → field_numbers (fields_in t) ≡ Some vs → 32 ∷ joined 32 t ≡ fields_text vs
unfolding field_numbers fields_in joined
fields-print (last f) vs e =
    let s = splits (number_in f) (Some []) vs e in
    let none_left : [] ≡ s.rest = cc s.rest-is in
    ap (λ (l : List ℕ). 32 ∷ l) ((number-prints f s.first s.number_is).1 ∙ sym (append-nil (decimal s.first)))
    ∙ ap (λ (l : List ℕ). fields_text (s.first ∷ l)) none_left
    ∙ ap fields_text s.whole
fields-print (more f t) vs e =
    let s = splits (number_in f) (field_numbers (fields_in t)) vs e in
    ap (λ (l : List ℕ). 32 ∷ l) (ap₂ (λ (x y : List ℕ). x ++ y) (number-prints f s.first s.number_is).1 (fields-print t s.rest s.rest-is))
    ∙ ap fields_text s.whole

-- the numbers of a line, after the word
record LineSays (m : ℕ) (l vs : List ℕ) : Type 0 where
  long : length vs ≡ m
  text : l ≡ word ++ fields_text vs

counted : (m : ℕ) (o : Option (List ℕ)) (vs : List ℕ) → of_length m o ≡ Some vs → (length vs ≡ m) × (o ≡ Some vs)
counted m None vs e = none-some e
counted m (Some ws) vs e = go (eqb (length ws) m) refl e
  where
    go : (t : Bool) → eqb (length ws) m ≡ t → cond t (Some ws) None ≡ Some vs → (length vs ≡ m) × (Some ws ≡ Some vs)
    go false q x = none-some x
    go true q x = (let same : ws ≡ vs = cc in ap length (sym same) ∙ eqb-true (length ws) m q, x)

worded : (m : ℕ) (w : List ℕ) (fs : List (List ℕ)) (vs : List ℕ) → after_word m (w ∷ fs) ≡ Some vs → (w ≡ word) × (length vs ≡ m) × (field_numbers fs ≡ Some vs)
worded m w fs vs e = go (is_owners_word w) refl e
  where
    go : (t : Bool) → is_owners_word w ≡ t → cond t (of_length m (field_numbers fs)) None ≡ Some vs → (w ≡ word) × (length vs ≡ m) × (field_numbers fs ≡ Some vs)
    go false q x = none-some x
    go true q x = let (long, numbers) = counted m (field_numbers fs) vs x in (word-prints w q, long, numbers)

line-prints : (m : ℕ) (l vs : List ℕ) → owners_line m l ≡ Some vs → LineSays m l vs
unfolding owners_line fields_in field_numbers joined
line-prints m l vs e = go (pieces 32 l) (sym (joined-pieces 32 l)) e
  where
    go : (p : Pieces) → l ≡ joined 32 p → after_word m (fields_in p) ≡ Some vs → LineSays m l vs
    go (last w) q x =
        let (is_IsWord, long, numbers) = worded m w [] vs x in
        let nothing : [] ≡ vs = cc in
        record { long = long; text = q ∙ is_IsWord ∙ ap (λ (ws : List ℕ). word ++ fields_text ws) nothing }
    go (more w t) q x =
        let (is_IsWord, long, numbers) = worded m w (fields_in t) vs x in
        record { long = long; text = q ∙ ap₂ (λ (a b : List ℕ). a ++ b) is_IsWord (fields-print t vs numbers) }

-- what follows the line, where it is read
ends-owned : (k : ℕ) (ws : List ℕ) (rest : Pieces) (vs : List ℕ) → after_line k ws rest ≡ owned vs → (rest ≡ last []) × (ws ≡ vs)
ends-owned k ws (last []) vs e = (refl, cc)
ends-owned k ws (last (b ∷ bs)) vs e = not-owned e
ends-owned k ws (more l t) vs e = not-owned e

on-line-owned : (k : ℕ) (rest : Pieces) (o : Option (List ℕ)) (vs : List ℕ) → on_line k rest o ≡ owned vs → (o ≡ Some vs) × (all_bytes vs ≡ true) × (rest ≡ last [])
on-line-owned k rest None vs e = not-owned e
on-line-owned k rest (Some ws) vs e = go (all_bytes ws) refl e
  where
    go : (t : Bool) → all_bytes ws ≡ t → cond t (after_line (k + 1) ws rest) (not_read owner_too_large k) ≡ owned vs → (Some ws ≡ Some vs) × (all_bytes vs ≡ true) × (rest ≡ last [])
    go false b x = not-owned x
    go true b x = let (nothing, same) = ends-owned (k + 1) ws rest vs x in (ap Some same, ap all_bytes (sym same) ∙ b, nothing)

owned-states : (m k : ℕ) (foot vs : List ℕ) → owners_in m k (pieces 10 foot) ≡ owned vs → StatesOwners m foot vs
unfolding owners_in joined owners_text
owned-states m k foot vs e = go (pieces 10 foot) (sym (joined-pieces 10 foot)) e
  where
    go : (p : Pieces) → foot ≡ joined 10 p → owners_in m k p ≡ owned vs → StatesOwners m foot vs
    go (last []) q x =
        let ones : vs ≡ replicate m 1 = cc in
        record { long = ap length ones ∙ length-replicate m 1; bytes = ap all_bytes ones ∙ ones-bytes m; said = inl (q, ones) }
    go (last (b ∷ bs)) q x = not-owned x
    go (more l rest) q x =
        let (numbers, bytes, nothing) = on-line-owned k rest (owners_line m l) vs x in
        let line = line-prints m l vs numbers in
        let whole : foot ≡ (word ++ fields_text vs) ++ (10 ∷ []) = q ∙ ap₂ (λ (a : List ℕ) (p : Pieces). a ++ 10 ∷ joined 10 p) line.text nothing in
        record { long = line.long; bytes = bytes; said = inr (whole ∙ ap (λ (fs : List ℕ). word ++ fs) (sym (fields-end vs))) }

pub owned-exactly : (m k : ℕ) (foot vs : List ℕ) → (owners_in m k (pieces 10 foot) ≡ owned vs) ↔ StatesOwners m foot vs
owned-exactly m k foot vs = (owned-states m k foot vs, states-owned m k foot vs)

-- ---- what is not read

-- a refusal is by 3 or 16
abbrev pub FootRefused : OwnersRead → Type 0
FootRefused (not_read number detail) = (number ≡ malformed) ⊎ (number ≡ owner_too_large)
FootRefused (owned vs) = Unit {0}

pub foot-refused : (m k : ℕ) (t : Pieces) → FootRefused (owners_in m k t)
unfolding owners_in
foot-refused m k (last []) = tt
foot-refused m k (last (b ∷ bs)) = inl refl
foot-refused m k (more l rest) = on_line_lem (owners_line m l)
  where
    after : (vs : List ℕ) (t : Pieces) → FootRefused (after_line (k + 1) vs t)
    after vs (last []) = tt
    after vs (last (b ∷ bs)) = inl refl
    after vs (more l t) = inl refl

    bytes : (t : Bool) (vs : List ℕ) → FootRefused (cond t (after_line (k + 1) vs rest) (not_read owner_too_large k))
    bytes true vs = after vs rest
    bytes false vs = inr refl

    on_line_lem : (o : Option (List ℕ)) → FootRefused (on_line k rest o)
    on_line_lem None = inl refl
    on_line_lem (Some vs) = bytes (all_bytes vs) vs
