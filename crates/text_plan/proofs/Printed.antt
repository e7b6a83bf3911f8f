-- Each text that states a plan is accepted, as that plan: `reads-stated`.
use mathlib.Core.Path.{◌≡◌, refl, sym, ap, ◌∙◌}
use mathlib.Core.List.{List, [], ◌∷◌, ◌++◌, map, reverse_aux}
use mathlib.Core.Bool.{Bool, true, false, ◌&&◌, not}
use Prim.Native.Nat.{ℕ, ◌+◌, ◌^◌, ◌≤◌, ◌<◌}
use native.Mathlib.Nat.{le_refl, le_trans}
use native.Mathlib.Omega.{arith}
use lib.ListN.{length, length-append}
use lib.Dec.{eqb, leb}
use borrow.Author.Tests.{ne_eqb, eqb-true, eqb-false, le-leb, lt-leb, leb-true, le-ltb}
use Rattle.std.specs.Prelude.{Some}
use Rattle.text_fields.specs.Pieces.{more, pieces, joined}
use Rattle.text_fields.specs.Number.{is_negative, magnitude}
use Rattle.text_fields.specs.Decimal.{decimal, signed_text, Proper}
use Rattle.text_fields.specs.declared.numbers.Signed.{Signed}
use Rattle.text_fields.specs.declared.numbers.Signed.TheVariants.{Plus, Minus}
use Rattle.text_fields.proofs.Canonical.{number-printed}
use Rattle.text_fields.proofs.CanonicalSigned.{signed-printed}
use Rattle.text_fields.proofs.Joins.{Free, free-append, free-decimal, free-signed, pieces-free, pieces-line}
use Rattle.residue.proofs.Primes.{modulus-range}
use Rattle.residue.proofs.Signed.{residue-value}
use Rattle.text_judge.specs.declared.judge.Sizes.{Sizes}
use Rattle.text_judge.specs.Judge.{Last, Entry as AnEntry}
use Rattle.limits.specs.Limits.{largest_size, largest_text}
use Rattle.text_judge.specs.Line.{fields_of, line_of, with_signed, header_of, header_with}
use Rattle.text_judge.specs.Judge.{judge_line, in_range, is_last, residue_at}
use Rattle.text_opening.specs.Reading.{Entry, accepted, kept, fresh, verdict_on, triples, read_by, read_of}
use Rattle.text_plan.specs.Stating.{StatedEntry, triple_text, sizes_text, last_line, triple_lines, plan_text, entry_of, entries_of, Stands, StandApart, Plan}
use Rattle.text_plan.proofs.Storing.{kept-zero, kept_more}
use Rattle.text_judge.proofs.Verdicts.{within-bounds}

-- ---- a line
range_small : (v : Signed) → in_range v ≡ true → magnitude v < 10 ^ 10
range_small (Plus n) r = omega (arith, leb-true n 2147483647 r)
range_small (Minus n) r = omega (arith, leb-true n 2147483648 r)

-- the text of a triple is read as that triple
line-printed : (t : StatedEntry) → t.row < 10 ^ 10 → t.column < 10 ^ 10 → in_range t.value ≡ true → Proper t.value → line_of (triple_text t) ≡ with_signed t.row t.column (Some t.value)
unfolding triple_text joined line_of fields_of
line-printed t hi hj r p =
    rw (
      pieces-line 32 (decimal t.row) (decimal t.column ++ 32 ∷ signed_text t.value) (free-decimal 32 t.row (omega arith)),
      pieces-line 32 (decimal t.column) (signed_text t.value) (free-decimal 32 t.column (omega arith)),
      pieces-free 32 (signed_text t.value) (free-signed 32 t.value (omega arith)),
      number-printed t.row hi,
      number-printed t.column hj,
      signed-printed t.value (range_small t.value r) p,
    )

pub free-triple : (t : StatedEntry) → Free 10 (triple_text t)
unfolding triple_text joined
free-triple t =
    free-append 10 (decimal t.row) _ (free-decimal 10 t.row (omega arith))
    ((λ e. omega arith), free-append 10 (decimal t.column) _ (free-decimal 10 t.column (omega arith)) ((λ e. omega arith), free-signed 10 t.value (omega arith)))

-- ---- the triples
-- what is kept only grows
kept-one : (x : Entry) (seen : List Entry) → length (kept seen) ≤ length (kept (x ∷ seen))
kept-one x seen = go (eqb x.value 0) refl
  where
    go : (t : Bool) → eqb x.value 0 ≡ t → length (kept seen) ≤ length (kept (x ∷ seen))
    go true e = omega (arith, ap length (kept-zero x seen (eqb-true x.value 0 e)))
    go false e = omega (arith, ap length (kept_more x seen (eqb-false x.value 0 e)) ∙ length-append (kept seen) (x ∷ []))

pub kept-grows : (xs seen : List Entry) → length (kept seen) ≤ length (kept (reverse_aux xs seen))
kept-grows [] seen = le_refl (length (kept seen))
kept-grows (x ∷ xs) seen = le_trans (kept-one x seen) (kept-grows xs (x ∷ seen))

-- there is room for one more
has_room : (room : ℕ) (seen : List Entry) (t : Entry) → length (kept (t ∷ seen)) ≤ room → (not (eqb t.value 0) && leb room (length (kept seen))) ≡ false
has_room room seen t h = go (eqb t.value 0) refl
  where
    go : (x : Bool) → eqb t.value 0 ≡ x → (not x && leb room (length (kept seen))) ≡ false
    go true q = refl
    go false q =
        let long = ap length (kept_more t seen (eqb-false t.value 0 q)) ∙ length-append (kept seen) (t ∷ []) in
        lt-leb room (length (kept seen)) (omega (arith, long))

not_last : (i j : ℕ) (v : Signed) → 1 ≤ i → is_last i j v ≡ false
not_last i j v h = rw (ne_eqb i 0 (λ e. omega arith))

-- the value of a stated triple, as the judge has it
value-is : (p : ℕ) (t : StatedEntry) → residue_at p t.value ≡ (entry_of p t).value
value-is p t = sym (residue-value p (is_negative t.value) (magnitude t.value))

verdict-printed : (s : Sizes) (room : ℕ) (seen : List Entry) (t : StatedEntry) → s.n ≤ largest_size → s.m ≤ largest_size → Stands s seen t
    → length (kept (entry_of s.modulus.p t ∷ seen)) ≤ room → verdict_on fresh s room seen (triple_text t) ≡ AnEntry t.row t.column (entry_of s.modulus.p t).value
unfolding judge_line
verdict-printed s room seen t hn hm f h =
    let wi = within-bounds t.row s.n f.row_inside in
    let wj = within-bounds t.column s.m f.column-inside in
    rw (
      line-printed t (omega arith) (omega arith) f.range f.proper,
      not_last t.row t.column t.value wi.0,
      f.row_inside,
      f.column-inside,
      f.place,
      f.range,
      value-is s.modulus.p t,
      has_room room seen (entry_of s.modulus.p t) h,
    )

verdict-last : (s : Sizes) (room : ℕ) (seen : List Entry) → verdict_on fresh s room seen last_line ≡ Last
unfolding judge_line
verdict-last s room seen = rw (line-printed (record { row = 0; column = 0; value = Plus 0 }) (omega arith) (omega arith) refl tt)

triples-printed : (s : Sizes) (room : ℕ) → s.n ≤ largest_size → s.m ≤ largest_size → (ts : List StatedEntry) (k : ℕ) (seen : List Entry) → StandApart s seen ts
    → length (kept (reverse_aux (map (entry_of s.modulus.p) ts) seen)) ≤ room → triples fresh s room k seen (triple_lines ts) ≡ accepted s (reverse_aux (map (entry_of s.modulus.p) ts) seen)
unfolding triples triple_lines
triples-printed s room hn hm [] k seen r h = rw (verdict-last s room seen)
triples-printed s room hn hm (t ∷ ts) k seen r h =
    rw (verdict-printed s room seen t hn hm r.0 (le_trans (kept-grows (map (entry_of s.modulus.p) ts) (entry_of s.modulus.p t ∷ seen)) h))
    (triples-printed s room hn hm ts (k + 1) (entry_of s.modulus.p t ∷ seen) r.1 h)

-- ---- the whole text
lines-back : (ts : List StatedEntry) → pieces 10 (joined 10 (triple_lines ts)) ≡ triple_lines ts
unfolding triple_lines joined
lines-back [] =
    let z : StatedEntry = record { row = 0; column = 0; value = Plus 0 } in
    pieces-line 10 (triple_text z) [] (free-triple z) ∙ ap (more (triple_text z)) (pieces-free 10 [] tt)
lines-back (t ∷ ts) = pieces-line 10 (triple_text t) (joined 10 (triple_lines ts)) (free-triple t) ∙ ap (more (triple_text t)) (lines-back ts)

pub free-sizes : (s : Sizes) → Free 10 (sizes_text s)
unfolding sizes_text joined
free-sizes s =
    free-append 10 (decimal s.n) _ (free-decimal 10 s.n (omega arith))
    ((λ e. omega arith), free-append 10 (decimal s.m) _ (free-decimal 10 s.m (omega arith)) ((λ e. omega arith), ((λ e. omega arith), tt)))

plan-pieces : (s : Sizes) (ts : List StatedEntry) → pieces 10 (plan_text s ts) ≡ more (decimal s.modulus.p) (more (sizes_text s) (triple_lines ts))
unfolding plan_text joined
plan-pieces s ts =
    pieces-line 10 (decimal s.modulus.p) _ (free-decimal 10 s.modulus.p (omega arith))
    ∙ ap (more (decimal s.modulus.p)) (pieces-line 10 (sizes_text s) _ (free-sizes s) ∙ ap (more (sizes_text s)) (lines-back ts))

header-printed : (s : Sizes) → s.n ≤ largest_size → s.m ≤ largest_size → header_of (sizes_text s) ≡ header_with (Some s.n) (Some s.m) true
unfolding sizes_text joined header_of fields_of
header-printed s hn hm =
    rw (
      pieces-line 32 (decimal s.n) (decimal s.m ++ 32 ∷ 77 ∷ []) (free-decimal 32 s.n (omega arith)),
      pieces-line 32 (decimal s.m) (77 ∷ []) (free-decimal 32 s.m (omega arith)),
      pieces-free 32 (77 ∷ []) ((λ e. omega arith), tt),
      number-printed s.n (omega arith),
      number-printed s.m (omega arith),
    )

-- Each text that states a plan is read as that plan.
pub reads-stated : (room : ℕ) (s : Sizes) (ts : List StatedEntry) → Plan room s ts → read_of room (plan_text s ts) ≡ accepted s (entries_of s.modulus.p ts)
unfolding read_by
reads-stated room s ts h =
    rw (
      le-ltb largest_text (length (plan_text s ts)) h.short,
      plan-pieces s ts,
      number-printed s.modulus.p (omega (arith, modulus-range s.modulus.p h.modulus)),
      h.modulus,
      header-printed s h.rows h.columns,
      le-leb s.n largest_size h.rows,
      le-leb s.m largest_size h.columns,
    )
    (triples-printed s room h.rows h.columns ts 3 [] h.apart h.fits)
