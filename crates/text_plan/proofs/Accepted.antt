-- Each text that is accepted states a plan, and is read as that plan: `accepted-states`.
use mathlib.Core.Path.{◌≡◌, refl, sym, ap, ap₂, ◌∙◌, subst}
use mathlib.Core.List.{List, [], ◌∷◌, map, reverse_aux}
use mathlib.Core.Bool.{Bool, true, false, cond, ◌&&◌, not}
use Prim.Native.Nat.{ℕ, ◌+◌, ◌≤◌, zero-le}
use native.Mathlib.Omega.{arith}
use lib.ListN.{length, length-append}
use lib.Dec.{eqb, leb, ltb}
use borrow.Author.Tests.{leb-false, leb-true, ltb-false, eqb-true, eqb-false}
use Rattle.lists.proofs.Bools.{and_left, and_right}
use Rattle.text_fields.specs.Pieces.{Pieces, last, more, pieces, joined}
use Rattle.text_fields.specs.Number.{number_in, signed_of, is_negative, magnitude}
use Rattle.text_fields.specs.Decimal.{decimal, Proper}
use Rattle.std.specs.Prelude.{Option, Some, None}
use Rattle.text_fields.specs.declared.numbers.Signed.{Signed}
use Rattle.text_fields.specs.declared.numbers.Signed.TheVariants.{Plus}
use Rattle.text_fields.proofs.Canonical.{number-prints}
use Rattle.text_fields.proofs.CanonicalSigned.{signed-prints}
use Rattle.text_fields.proofs.Joins.{joined-pieces}
use Rattle.residue.specs.Range.{is_modulus}
use Rattle.residue.proofs.Signed.{residue-value}
use Rattle.text_judge.specs.declared.line.Triple.{Triple}
use Rattle.text_judge.specs.declared.header.Header.{Header}
use Rattle.text_judge.specs.declared.judge.Sizes.{Sizes}
use Rattle.text_judge.specs.Judge.{Verdict, Refused, Last, Entry as AnEntry}
use Rattle.limits.specs.Limits.{largest_size, largest_text}
use Rattle.text_judge.specs.Line.{fields_of, with_signed, line_of, line_in, line_with, header_of, header_in, header_with, is_m}
use Rattle.text_judge.specs.Judge.{may_stand}
use Rattle.text_opening.specs.Reading.{Entry, refused, accepted, kept, fresh, verdict_on, ending, onward, triples, with_sizes, from_second, with_modulus, from_first, read_by, read_of}
use Rattle.text_plan.specs.Stating.{StatedEntry, triple_text, sizes_text, triple_lines, plan_text, entry_of, StandApart, States}
use Rattle.text_plan.proofs.Storing.{kept-zero, kept_more}
use Rattle.text_judge.proofs.Verdicts.{judged-entry, judged-last}

pub refused-not : {A : Type 0} {c k : ℕ} {s : Sizes} {seen : List Entry} → refused c k ≡ accepted s seen → A
refused-not e = let z : ◌≡◌ {A = ℕ} 0 1 = cc in absurd (omega arith)

false-true : {A : Type 0} → false ≡ true → A
false-true e = let z : ◌≡◌ {A = ℕ} 0 1 = cc in absurd (omega arith)

-- ---- a line that is read as a triple is that triple's text
pub record Spelt (l : List ℕ) (i j : ℕ) (v : Signed) : Type 0 where
  pub text : l ≡ triple_text (record { row = i; column = j; value = v })
  pub proper : Proper v

no-triple : {A : Type 0} {i j : ℕ} {v : Signed} → None ≡ with_signed i j (Some v) → A
no-triple e = let z : ◌≡◌ {A = ℕ} 0 1 = cc in absurd (omega arith)

-- the three numbers of a triple
record Numbers (a b : Option ℕ) (c : Option Signed) (i j : ℕ) (v : Signed) : Type 0 where
  first : a ≡ Some i
  second : b ≡ Some j
  third : c ≡ Some v

triple-parts : {a b i j : ℕ} {v w : Signed} → with_signed a b (Some w) ≡ with_signed i j (Some v) → (a ≡ i) × (b ≡ j) × (w ≡ v)
triple-parts {a} {b} {i} {j} {v} {w} e =
    let parts : ◌≡◌ {A = Triple} (record { i = a; j = b; v = w }) (record { i = i; j = j; v = v }) = cc in
    (ap (λ (t : Triple). t.i) parts, ap (λ (t : Triple). t.j) parts, ap (λ (t : Triple). t.v) parts)

numbers_of : (a b : Option ℕ) (c : Option Signed) (i j : ℕ) (v : Signed) → line_with a b c ≡ with_signed i j (Some v) → Numbers a b c i j v
numbers_of (Some a) (Some b) (Some c) i j v e = record { first = ap Some (triple-parts e).0; second = ap Some (triple-parts e).1; third = ap Some (triple-parts e).2 }
numbers_of (Some a) (Some b) None i j v e = no-triple e
numbers_of (Some a) None c i j v e = no-triple e
numbers_of None b c i j v e = no-triple e

pub line-prints : (l : List ℕ) (i j : ℕ) (v : Signed) → line_of l ≡ with_signed i j (Some v) → Spelt l i j v
unfolding line_of fields_of triple_text joined
line-prints l i j v e = go (pieces 32 l) refl e
  where
    go : (p : Pieces) → pieces 32 l ≡ p → line_in (fields_of p) ≡ with_signed i j (Some v) → Spelt l i j v
    go (last a) q x = no-triple x
    go (more a (last b)) q x = no-triple x
    go (more a (more b (more c t))) q x = no-triple x
    go (more a (more b (last c))) q x =
        let f = numbers_of (number_in a) (number_in b) (signed_of c) i j v x in
        let w = signed-prints c v f.third in
        let ea : a ≡ decimal i = (number-prints a i f.first).1 in
        let eb : b ≡ decimal j = (number-prints b j f.second).1 in
        record { text = sym (joined-pieces 32 l) ∙ ap (joined 32) q ∙ rw (ea, eb, w.1); proper = w.2 }

-- ---- the lines p, read after `seen`, state triples that stand apart and lead to `out`
record Back (room : ℕ) (s s' : Sizes) (p : Pieces) (seen out : List Entry) : Type 0 where
  ts : List StatedEntry
  lines : p ≡ triple_lines ts
  apart : StandApart s seen ts
  result : out ≡ reverse_aux (map (entry_of s.modulus.p) ts) seen
  sizes : s' ≡ s
  fits : length (kept out) ≤ room

accepted-parts : {s s' : Sizes} {x y : List Entry} → accepted s x ≡ accepted s' y → (s ≡ s') × (x ≡ y)
accepted-parts e = (cc, cc)

pub ending-back : (s s' : Sizes) (k : ℕ) (seen out : List Entry) (p : Pieces) → ending s k seen p ≡ accepted s' out → (p ≡ last []) × (s ≡ s') × (seen ≡ out)
ending-back s s' k seen out (last []) e = (refl, (accepted-parts e).0, (accepted-parts e).1)
ending-back s s' k seen out (last (b ∷ bs)) e = refused-not e
ending-back s s' k seen out (more l t) e = refused-not e

pub room-kept : (room : ℕ) (seen : List Entry) (t : Entry) → (not (eqb t.value 0) && leb room (length (kept seen))) ≡ false → length (kept seen) ≤ room → length (kept (t ∷ seen)) ≤ room
room-kept room seen t h le = go (eqb t.value 0) refl h
  where
    go : (x : Bool) → eqb t.value 0 ≡ x → (not x && leb room (length (kept seen))) ≡ false → length (kept (t ∷ seen)) ≤ room
    go true e q = omega (arith, ap length (kept-zero t seen (eqb-true t.value 0 e)))
    go false e q = omega (arith, leb-false room (length (kept seen)) q, ap length (kept_more t seen (eqb-false t.value 0 e)) ∙ length-append (kept seen) (t ∷ []))

triples-back : (s s' : Sizes) (room : ℕ) (p : Pieces) (k : ℕ) (seen out : List Entry) → length (kept seen) ≤ room → triples fresh s room k seen p ≡ accepted s' out → Back room s s' p seen out
unfolding triples triple_lines
triples-back s s' room (last l) k seen out h e = refused-not e
triples-back s s' room (more l rest) k seen out h e = go (verdict_on fresh s room seen l) refl (λ t. triples-back s s' room rest (k + 1) (t ∷ seen) out) e
  where
    go : (v : Verdict) → verdict_on fresh s room seen l ≡ v
        → ((t : Entry) → length (kept (t ∷ seen)) ≤ room → triples fresh s room (k + 1) (t ∷ seen) rest ≡ accepted s' out → Back room s s' rest (t ∷ seen) out)
        → onward s k seen rest (λ t. triples fresh s room (k + 1) (t ∷ seen) rest) v ≡ accepted s' out → Back room s s' (more l rest) seen out
    go (Refused c) q ih x = refused-not x
    go Last q ih x =
        let o = ending-back s s' (k + 1) seen out rest x in
        let w = line-prints l 0 0 (Plus 0) (judged-last (may_stand (fresh seen) (line_of l)) (leb room (length (kept seen))) s (line_of l) q) in
        record { ts = []; lines = ap₂ more w.text o.0; apart = tt; result = sym o.2; sizes = sym o.1; fits = subst (λ (y : List Entry). length (kept y) ≤ room) o.2 h }
    go (AnEntry i j v) q ih x =
        let k = judged-entry (may_stand (fresh seen) (line_of l)) (leb room (length (kept seen))) s (line_of l) i j v q in
        let w = line-prints l i j k.sign k.line in
        let t : StatedEntry = record { row = i; column = j; value = k.sign } in
        let one : Entry = record { row = i; column = j; value = v } in
        let value = k.value ∙ sym (residue-value s.modulus.p (is_negative k.sign) (magnitude k.sign)) in
        let b : Back room s s' rest (entry_of s.modulus.p t ∷ seen) out =
        subst (λ (n : ℕ). Back room s s' rest (record { row = i; column = j; value = n } ∷ seen) out) value (ih one (room-kept room seen one k.room h) x) in
        record {
          ts = t ∷ b.ts;
          lines = ap₂ more w.text b.lines;
          apart = (record { row_inside = k.row_inside; column-inside = k.column-inside; place = sym (ap (may_stand (fresh seen)) k.line) ∙ k.order; range = k.range; proper = w.proper }, b.apart);
          result = b.result;
          sizes = b.sizes;
          fits = b.fits;
        }

pub triples-sizes : (s s' : Sizes) (room : ℕ) (p : Pieces) (k : ℕ) (out : List Entry) → triples fresh s room k [] p ≡ accepted s' out → s' ≡ s
unfolding kept
triples-sizes s s' room p k out e = (triples-back s s' room p k [] out zero-le e).sizes

-- ---- the first two lines
abbrev given : ℕ → ℕ → Option Header
given n m = Some (record { n = n; m = m })

no_header : {A : Type 0} {n m : ℕ} → None ≡ given n m → A
no_header e = let z : ◌≡◌ {A = ℕ} 0 1 = cc in absurd (omega arith)

is_m_lem : (l : List ℕ) → is_m l ≡ true → l ≡ 77 ∷ []
is_m_lem [] e = false-true e
is_m_lem (b ∷ []) e = ap (λ (k : ℕ). k ∷ []) (eqb-true b 77 e)
is_m_lem (b ∷ c ∷ cs) e = false-true e

header-parts : (a b : Option ℕ) (c : Bool) (n m : ℕ) → header_with a b c ≡ given n m → (a ≡ Some n) × (b ≡ Some m) × (c ≡ true)
header-parts (Some x) (Some y) true n m e =
    let parts : ◌≡◌ {A = Header} (record { n = x; m = y }) (record { n = n; m = m }) = cc in
    (ap (λ (h : Header). Some h.n) parts, ap (λ (h : Header). Some h.m) parts, refl)
header-parts (Some x) (Some y) false n m e = no_header e
header-parts (Some x) None c n m e = no_header e
header-parts None b c n m e = no_header e

header-prints : (l : List ℕ) (s : Sizes) → header_of l ≡ given s.n s.m → l ≡ sizes_text s
unfolding header_of fields_of sizes_text joined
header-prints l s e = go (pieces 32 l) refl e
  where
    go : (p : Pieces) → pieces 32 l ≡ p → header_in (fields_of p) ≡ given s.n s.m → l ≡ sizes_text s
    go (last a) q x = no_header x
    go (more a (last b)) q x = no_header x
    go (more a (more b (more c t))) q x = no_header x
    go (more a (more b (last c))) q x =
        let f = header-parts (number_in a) (number_in b) (is_m c) s.n s.m x in
        sym (joined-pieces 32 l) ∙ ap (joined 32) q ∙ rw ((number-prints a s.n f.0).1, (number-prints b s.m f.1).1, is_m_lem c f.2)

-- ---- the whole text
closes : (room : ℕ) (s s' : Sizes) (text l l₂ : List ℕ) (rest : Pieces) (out : List Entry) → length text ≤ largest_text → pieces 10 text ≡ more l (more l₂ rest) → number_in l ≡ Some s.modulus.p
    → is_modulus s.modulus.p ≡ true → header_of l₂ ≡ given s.n s.m → s.n ≤ largest_size → s.m ≤ largest_size → triples fresh s room 3 [] rest ≡ accepted s' out → States room s' text out
unfolding plan_text kept
closes room s s' text l l₂ rest out short cut num prime head hn hm e =
    let b = triples-back s s' room rest 3 [] out zero-le e in
    let is : text ≡ plan_text s b.ts =
    sym (joined-pieces 10 text) ∙ ap (joined 10) (cut ∙ ap₂ more (number-prints l s.modulus.p num).1 (ap₂ more (header-prints l₂ s head) b.lines)) in
    subst (λ (z : Sizes). States room z text out) (sym b.sizes)
    (record {
      stated = b.ts;
      plan = record { modulus = prime; rows = hn; columns = hm; apart = b.apart; fits = subst (λ (y : List Entry). length (kept y) ≤ room) b.result b.fits; short = subst (λ (y : List ℕ). length y ≤ largest_text) is short };
      text-is = is;
      entries-are = b.result;
    })

module _ (room : ℕ) (s : Sizes) (text : List ℕ) (out : List Entry) (short : length text ≤ largest_text) where
  sizes-back : (p : ℕ) (l l₂ : List ℕ) (rest : Pieces) → pieces 10 text ≡ more l (more l₂ rest) → number_in l ≡ Some p → is_modulus p ≡ true
      → (h : Option Header) → header_of l₂ ≡ h → with_sizes fresh p room rest h ≡ accepted s out → States room s text out
  sizes-back p l l₂ rest c n m None q e = refused-not e
  sizes-back p l l₂ rest c n m (Some h) q e = go (leb h.n largest_size && leb h.m largest_size) refl e
    where
      go : (t : Bool) → (leb h.n largest_size && leb h.m largest_size) ≡ t → cond t (triples fresh (record { modulus = record { p = p }; n = h.n; m = h.m }) room 3 [] rest) (refused 2 0) ≡ accepted s out → States room s text out
      go true t x =
          closes room (record { modulus = record { p = p }; n = h.n; m = h.m }) s text l l₂ rest out short c n m q
          (leb-true h.n largest_size (and_left (leb h.n largest_size) (leb h.m largest_size) t)) (leb-true h.m largest_size (and_right (leb h.n largest_size) (leb h.m largest_size) t)) x
      go false t x = refused-not x

  second_back : (p : ℕ) (l : List ℕ) (rest : Pieces) → pieces 10 text ≡ more l rest → number_in l ≡ Some p → is_modulus p ≡ true → from_second fresh p room rest ≡ accepted s out → States room s text out
  second_back p l (last l₂) c n m e = refused-not e
  second_back p l (more l₂ rest) c n m e = sizes-back p l l₂ rest c n m (header_of l₂) refl e

  modulus-back : (l : List ℕ) (rest : Pieces) → pieces 10 text ≡ more l rest → (n : Option ℕ) → number_in l ≡ n → with_modulus fresh room rest n ≡ accepted s out → States room s text out
  modulus-back l rest c None n e = refused-not e
  modulus-back l rest c (Some p) n e = go (is_modulus p) refl e
    where
      go : (t : Bool) → is_modulus p ≡ t → cond t (from_second fresh p room rest) (refused 1 0) ≡ accepted s out → States room s text out
      go true t x = second_back p l rest c n t x
      go false t x = refused-not x

  first_back : (t : Pieces) → pieces 10 text ≡ t → from_first fresh room t ≡ accepted s out → States room s text out
  first_back (last l) c e = refused-not e
  first_back (more l rest) c e = modulus-back l rest c (number_in l) refl e

-- Each text that is accepted states a plan, and is read as that plan.
pub accepted-states : (room : ℕ) (s : Sizes) (text : List ℕ) (out : List Entry) → read_of room text ≡ accepted s out → States room s text out
unfolding read_by
accepted-states room s text out e = go (ltb largest_text (length text)) refl e
  where
    go : (t : Bool) → ltb largest_text (length text) ≡ t → cond t (refused 2 0) (from_first fresh room (pieces 10 text)) ≡ accepted s out → States room s text out
    go true t x = refused-not x
    go false t x = first_back room s text out (ltb-false largest_text (length text) t) (pieces 10 text) refl x
