-- The line of the owners, read field by field: one law for each step of the loop over its fields, and for each way out of it.
--   fields_from l at    the fields of the line l that remain, where the one before them ends at a place
--   put_before vs o     the numbers vs, and then those of o
--   Listing ..         the loop after the field that ends at `at`: so many numbers are read, and stored where all of them are bytes
use mathlib.Core.Path.{◌≡◌, refl, sym, ap, ◌∙◌, subst}
use mathlib.Core.Bool.{Bool, true, false, cond, ◌&&◌}
use mathlib.Core.List.{List, [], ◌∷◌, ◌++◌, append-nil, append_assoc}
use Rattle.std.specs.Prelude.{Option, Some, None, Result, Ok, Err}
use Prim.Native.Nat.{ℕ, ◌+◌, ◌≤◌, ◌<◌}
use native.Mathlib.Omega.{arith}
use lib.Dec.{eqb, leb, ltb}
use lib.ListN.{length, drop, length-append}
use borrow.Author.Tests.{eqb-true, eq-eqb, ne_eqb, ltb-true, ltb-false, lt-ltb, le-ltb}
use Rattle.lists.specs.Filled.{zeros}
use Rattle.lists.specs.Stored.{Stored}
use Rattle.lists.proofs.Bools.{and_left, and_right}
use Rattle.lists.proofs.Stored.{stored-none, stored_one, stored-then, stored-filled}
use Rattle.text_fields.specs.Pieces.{pieces, first_piece}
use Rattle.text_fields.specs.Number.{number_in}
use Rattle.text_fields.proofs.Cuts.{piece-end, piece-last, piece-more}
use Rattle.text_owners.specs.Owners.{is_owners_word, fields_in, with_number, field_numbers, of_length, after_word, owners_line, all_bytes}
use Rattle.text_owners.specs.Call.{owners_length}
use Rattle.text_owners.specs.Needs.{PutsOwner, StoredBytes, LineOwns}
use Rattle.refusals.specs.declared.Fault.{Fault}
use Rattle.refusals.specs.declared.Fault.TheVariants.{Malformed, OwnerTooLarge}

-- ---- the fields

unfoldable pub fields_from : List ℕ → ℕ → List (List ℕ)
fields_from l at = cond (ltb at (length l)) (fields_in (pieces 32 (drop (at + 1) l))) []

-- one field cut off
fields-cut : (l f : List ℕ) (at : ℕ) → at ≤ length l → f ≡ first_piece (pieces 32 (drop at l)) → fields_in (pieces 32 (drop at l)) ≡ f ∷ fields_from l (at + length f)
unfolding fields_in fields_from
fields-cut l f at h e = go (ltb (at + length f) (length l)) refl
  where
    go : (t : Bool) → ltb (at + length f) (length l) ≡ t → fields_in (pieces 32 (drop at l)) ≡ f ∷ cond t (fields_in (pieces 32 (drop (at + length f + 1) l))) []
    go true q = ap fields_in (piece-more 32 l f at h e (at + length f + 1) (ltb-true (at + length f) (length l) q) refl)
    go false q = ap fields_in (piece-last 32 l f at h e (omega (arith, ltb-false (at + length f) (length l) q, piece-end 32 l f at h e)))

fields-none : (l : List ℕ) (at : ℕ) → length l ≤ at → fields_from l at ≡ []
unfolding fields_from
fields-none l at h = rw (le-ltb at (length l) h)

fields-some : (l : List ℕ) (at : ℕ) → at < length l → fields_from l at ≡ fields_in (pieces 32 (drop (at + 1) l))
unfolding fields_from
fields-some l at h = rw (lt-ltb at (length l) h)

-- ---- the word

abbrev pub word : List ℕ → List ℕ
word l = first_piece (pieces 32 l)

line_word : (m : ℕ) (l : List ℕ) → owners_line m l ≡ cond (is_owners_word (word l)) (of_length m (field_numbers (fields_from l (0 + length (word l))))) None
unfolding owners_line
line_word m l = ap (after_word m) (fields-cut l (word l) 0 (omega arith) refl)

pub no_word : (m : ℕ) (l owners : List ℕ) → is_owners_word (word l) ≡ false → LineOwns (owners_line m l) (Err Malformed) owners
no_word m l owners e =
    subst (λ (o : Option (List ℕ)). LineOwns o (Err Malformed) owners) (sym (line_word m l ∙ ap (λ (b : Bool). cond b (of_length m (field_numbers (fields_from l (0 + length (word l))))) None) e)) refl

word-long : (w : List ℕ) → is_owners_word w ≡ true → length w ≡ 6
unfolding is_owners_word
word-long w e = eqb-true (length w) 6 (and_left (eqb (length w) 6) _ e)

-- ---- the numbers

abbrev pub put_before : List ℕ → Option (List ℕ) → Option (List ℕ)
put_before vs None = None
put_before vs (Some ws) = Some (vs ++ ws)

put-none : (o : Option (List ℕ)) → put_before [] o ≡ o
put-none None = refl
put-none (Some ws) = refl

put-more : (vs : List ℕ) (v : ℕ) (o : Option (List ℕ)) → put_before vs (with_number (Some v) o) ≡ put_before (vs ++ (v ∷ [])) o
put-more vs v None = refl
put-more vs v (Some ws) = ap Some (sym (append_assoc vs (v ∷ []) ws))

-- m numbers are read, and another field follows
put-over : (m : ℕ) (vs : List ℕ) (n : Option ℕ) (o : Option (List ℕ)) → length vs ≡ m → of_length m (put_before vs (with_number n o)) ≡ None
put-over m vs None o h = refl
put-over m vs (Some v) None h = refl
put-over m vs (Some v) (Some ws) h = rw (ne_eqb (length (vs ++ (v ∷ ws))) m (λ q. omega (arith, length-append vs (v ∷ ws))))

bytes-swap : (a b c : Bool) → (a && (b && c)) ≡ (b && (a && c))
bytes-swap true b c = refl
bytes-swap false true c = refl
bytes-swap false false c = refl

bytes-more : (vs : List ℕ) (v : ℕ) → all_bytes (vs ++ (v ∷ [])) ≡ (leb v 255 && all_bytes vs)
unfolding all_bytes
bytes-more [] v = refl
bytes-more (w ∷ ws) v = ap (λ (b : Bool). leb w 255 && b) (bytes-more ws v) ∙ bytes-swap (leb w 255) (leb v 255) (all_bytes ws)

-- ---- the loop

pub record Listing (m : ℕ) (l owners₀ owners : List ℕ) (at count : ℕ) (bytes : Bool) : Type 0 where
  pub numbers : List ℕ
  pub inside : at ≤ length l
  pub whole : owners_line m l ≡ of_length m (put_before numbers (field_numbers (fields_from l at)))
  pub count-is : count ≡ length numbers
  pub few : count ≤ m
  pub bytes-are : bytes ≡ all_bytes numbers
  pub stored : bytes ≡ true → Stored owners₀ owners 0 count numbers
  pub long : length owners ≡ length owners₀

pub listing-starts : (m : ℕ) (l owners : List ℕ) → is_owners_word (word l) ≡ true → Listing m l owners owners 6 0 true
unfolding all_bytes
listing-starts m l owners e =
    let six = word-long (word l) e in
    record {
      numbers = [];
      inside = omega (arith, six, piece-end 32 l (word l) 0 (omega arith) refl);
      whole =
          line_word m l ∙ ap (λ (b : Bool). cond b (of_length m (field_numbers (fields_from l (0 + length (word l))))) None) e
          ∙ ap (λ (k : ℕ). of_length m (field_numbers (fields_from l k))) (let q : 0 + length (word l) ≡ 6 = omega (arith, six) in q)
          ∙ ap (of_length m) (sym (put-none (field_numbers (fields_from l 6))));
      count-is = refl;
      few = omega arith;
      bytes-are = refl;
      stored = λ b. stored-none;
      long = refl;
    }

module _ {m : ℕ} {l owners₀ owners : List ℕ} {at count : ℕ} {bytes : Bool} (g : Listing m l owners₀ owners at count bytes) where
  -- what the line is, from what its numbers are
  owns : (o : Option (List ℕ)) (r : Result (Unit {0}) Fault) → owners_line m l ≡ o → LineOwns o r owners → LineOwns (owners_line m l) r owners
  owns o r e h = subst (λ (x : Option (List ℕ)). LineOwns x r owners) (sym e) h

  -- a field f follows
  module _ (h : at < length l) (f : List ℕ) (e : f ≡ first_piece (pieces 32 (drop (at + 1) l))) where
    pub field_end : at + 1 + length f ≤ length l
    field_end = piece-end 32 l f (at + 1) (omega arith) e

    next : owners_line m l ≡ of_length m (put_before g.numbers (with_number (number_in f) (field_numbers (fields_from l (at + 1 + length f)))))
    unfolding field_numbers
    next = g.whole ∙ ap (λ (fs : List (List ℕ)). of_length m (put_before g.numbers (field_numbers fs))) (fields-some l at h ∙ fields-cut l f (at + 1) (omega arith) e)

    -- and is no number
    pub not-number : None ≡ number_in f → LineOwns (owners_line m l) (Err Malformed) owners
    not-number q = owns None (Err Malformed) (next ∙ ap (λ (n : Option ℕ). of_length m (put_before g.numbers (with_number n (field_numbers (fields_from l (at + 1 + length f)))))) (sym q)) refl

    -- or the number v, whose place is free
    pub listing-turn : (v : ℕ) → Some v ≡ number_in f → (count ≡ m → ⊥) → (r : Bool) (owners' : List ℕ) → PutsOwner count v bytes r owners owners' → length owners' ≡ length owners
        → Listing m l owners₀ owners' (at + 1 + length f) (count + 1) r
    listing-turn v q free r owners' p long =
        record {
          numbers = g.numbers ++ (v ∷ []);
          inside = field_end;
          whole =
              next ∙ ap (λ (n : Option ℕ). of_length m (put_before g.numbers (with_number n (field_numbers (fields_from l (at + 1 + length f)))))) (sym q)
              ∙ ap (of_length m) (put-more g.numbers v (field_numbers (fields_from l (at + 1 + length f))));
          count-is = omega (arith, g.count-is, length-append g.numbers (v ∷ []));
          few = omega (arith, g.few, free);
          bytes-are = p.bytes-are ∙ ap (λ (b : Bool). leb v 255 && b) g.bytes-are ∙ sym (bytes-more g.numbers v);
          stored = λ b.
              let both = sym p.bytes-are ∙ b in
              subst (λ (x : List ℕ). Stored owners₀ x 0 (count + 1) (g.numbers ++ (v ∷ []))) (sym (p.stored (and_left (leb v 255) bytes both)))
              (stored-then (g.stored (and_right (leb v 255) bytes both)) (stored_one owners count v));
          long = long ∙ g.long;
        }

  -- a field follows m numbers
  pub too_many : at < length l → count ≡ m → LineOwns (owners_line m l) (Err Malformed) owners
  too_many h q =
      let f = first_piece (pieces 32 (drop (at + 1) l)) in
      owns None (Err Malformed) (next h f refl ∙ put-over m g.numbers (number_in f) (field_numbers (fields_from l (at + 1 + length f))) (sym g.count-is ∙ q)) refl

  -- no field is left
  module _ (h : length l ≤ at) where
    all_read : owners_line m l ≡ cond (eqb (length g.numbers) m) (Some g.numbers) None
    unfolding field_numbers
    all_read =
        g.whole ∙ ap (λ (fs : List (List ℕ)). of_length m (put_before g.numbers (field_numbers fs))) (fields-none l at h)
        ∙ ap (λ (vs : List ℕ). of_length m (Some vs)) (append-nil g.numbers)

    pub wrong-count : (count ≡ m → ⊥) → LineOwns (owners_line m l) (Err Malformed) owners
    wrong-count n = owns None (Err Malformed) (all_read ∙ rw (ne_eqb (length g.numbers) m (λ q. n (g.count-is ∙ q)))) refl

    module _ (q : count ≡ m) where
      right-count : owners_line m l ≡ Some g.numbers
      right-count = all_read ∙ rw (eq-eqb (length g.numbers) m (sym g.count-is ∙ q))

      stored_bytes : (r : Result (Unit {0}) Fault) → StoredBytes bytes g.numbers r owners → LineOwns (owners_line m l) r owners
      stored_bytes r x = owns (Some g.numbers) r right-count (subst (λ (b : Bool). StoredBytes b g.numbers r owners) g.bytes-are x)

      pub all-stated : m ≤ owners_length → owners₀ ≡ zeros owners_length → bytes ≡ true → LineOwns (owners_line m l) (Ok tt) owners
      all-stated limit cleared b =
          stored_bytes (Ok tt)
          (subst (λ (x : Bool). StoredBytes x g.numbers (Ok tt) owners) (sym b) (refl, stored-filled owners_length (omega (arith, g.count-is)) cleared (g.stored b)))

      pub one-too-large : bytes ≡ false → LineOwns (owners_line m l) (Err OwnerTooLarge) owners
      one-too-large b = stored_bytes (Err OwnerTooLarge) (subst (λ (x : Bool). StoredBytes x g.numbers (Err OwnerTooLarge) owners) (sym b) refl)
