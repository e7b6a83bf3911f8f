-- The loop over the triples: where it stands before each line, and what a line leads to.
use mathlib.Core.Path.{◌≡◌, refl, sym, ap, ◌∙◌, subst}
use mathlib.Core.List.{List, [], ◌∷◌}
use mathlib.Core.Bool.{Bool, true, false, ◌&&◌, not}
use Prim.Native.Nat.{ℕ, ◌+◌, ◌≤◌, ◌<◌, zero-le}
use native.Mathlib.Omega.{arith}
use lib.ListN.{length, drop, length-append}
use lib.Dec.{eqb, leb}
use borrow.Author.Tests.{eqb-true, eqb-false, ne_eqb, leb-false}
use Rattle.text_fields.specs.Pieces.{Pieces, pieces}
use Rattle.text_lines.specs.Line.{line_at, line_end, Ends}
use Rattle.text_lines.specs.declared.Place.{Place}
use Rattle.text_judge.specs.declared.judge.Sizes.{Sizes}
use Rattle.text_judge.specs.Judge.{Verdict, Refused, Last, Entry as AnEntry}
use Rattle.text_plan.specs.Needs.{Read}
use Rattle.limits.specs.Limits.{starts_length}
use Rattle.text_judge.specs.Line.{line_of}
use Rattle.text_judge.specs.Judge.{judge_line, may_stand, precedes}
use Rattle.text_opening.specs.Reading.{Entry, ReadResult, refused, accepted, kept, onward, triples, verdict_on}
use Rattle.text_plan.specs.Rising.{last_row, last_column, rises}
use Rattle.text_plan.specs.Stored.{starts_of, RowsWithin, EntriesStored}
use Rattle.text_plan.specs.Needs.{Storable, ReadingReady, Shows}
use Rattle.text_opening.specs.Opening.{Limits}
use Rattle.text_plan.proofs.EachLine.{ending-none, ending-some, no_lines, last_line, next_place, line-more, next-limits}
use Rattle.text_plan.proofs.StoredForm.{starts-length, columns-length, values_length}
use Rattle.text_plan.proofs.Storing.{cleared-stores-none, kept-zero, kept_more}
use Rattle.text_judge.proofs.Verdicts.{IsEntry, judged-entry, within-bounds, before-row}

-- the loop before the line at `here`, after the triple at a and b, with so many entries stored
pub record Progress (text : List ℕ) (from : Place) (s : Sizes) (room : ℕ) (st co va : List ℕ) (here : Place) (a b count : ℕ) : Type 0 where
  pub limits : Limits text s here
  pub seen : List Entry
  pub same : triples rises s room from.line [] (pieces 10 (drop from.at text)) ≡ triples rises s room here.line seen (pieces 10 (drop here.at text))
  pub last-a : a ≡ last_row seen
  pub last-b : b ≡ last_column seen
  pub stored : EntriesStored a room (kept seen) count st co va
  pub row-limit : a ≤ s.n
  pub few : count ≤ here.at
  pub enough : count ≤ room

pub progress-starts : (text : List ℕ) (from : Place) (s : Sizes) (st co va : List ℕ) → ReadingReady text from s st co va → Progress text from s (length co) st co va from 0 0 0
unfolding kept
progress-starts text from s st co va h = record {
  limits = h.limits;
  seen = [];
  same = refl;
  last-a = refl;
  last-b = refl;
  stored = cleared-stores-none st co va h.cleared;
  row-limit = zero-le;
  few = zero-le;
  enough = zero-le;
}

-- one triple more adds at most one entry, and none where there is no room
count-step : (t : Entry) (seen : List Entry) (room : ℕ) → ((t.value ≡ 0 → ⊥) → length (kept seen) < room) → length (kept seen) ≤ room
    → (length (kept (t ∷ seen)) ≤ length (kept seen) + 1) × (length (kept (t ∷ seen)) ≤ room)
count-step t seen room h le = go (eqb t.value 0) refl
  where
    go : (x : Bool) → eqb t.value 0 ≡ x → (length (kept (t ∷ seen)) ≤ length (kept seen) + 1) × (length (kept (t ∷ seen)) ≤ room)
    go true e = let long = ap length (kept-zero t seen (eqb-true t.value 0 e)) in (omega (arith, long), omega (arith, long))
    go false e =
        let z = eqb-false t.value 0 e in
        let long = ap length (kept_more t seen z) ∙ length-append (kept seen) (t ∷ []) in
        (omega (arith, long), omega (arith, long, h z))

module _ {text : List ℕ} {from : Place} {s : Sizes} {room : ℕ} {st co va : List ℕ} {here : Place} {a b count : ℕ} (g : Progress text from s room st co va here a b count) where
  abbrev whole : ReadResult
  whole = triples rises s room from.line [] (pieces 10 (drop from.at text))

  pub starts-long : length st ≡ starts_length
  starts-long = ap length g.stored.starts-are ∙ starts-length a (kept g.seen) (omega (arith, g.row-limit, g.limits.n-limit))

  pub columns-long : length co ≡ room
  columns-long = ap length g.stored.columns-are ∙ columns-length room (kept g.seen) (omega (arith, g.stored.number, g.enough))

  pub values-long : length va ≡ room
  values-long = ap length g.stored.values-are ∙ values_length room (kept g.seen) (omega (arith, g.stored.number, g.enough))

  -- the text is accepted: what the loop returns and leaves
  pub shows-read : (o : ReadResult) → o ≡ accepted s g.seen → Shows room o (Read count a) st co va
  shows-read o q =
      subst (λ (x : ReadResult). Shows room x (Read count a) st co va) (sym q) (
        (λ k. Read (g.stored.number k) (g.last-a k)),
        record {
          rows = subst (λ (n : ℕ). RowsWithin n (kept g.seen)) g.last-a g.stored.rows;
          number = refl;
          starts-are = g.stored.starts-are ∙ ap (λ (n : ℕ). starts_of n (kept g.seen)) g.last-a;
          columns-are = g.stored.columns-are;
          values-are = g.stored.values-are;
        },
        subst (λ (n : ℕ). n ≤ s.n) g.last-a g.row-limit,
      )

  -- the text ends where a line should begin
  pub no_line : length text ≤ here.at → whole ≡ refused 3 here.line
  unfolding triples
  no_line h = g.same ∙ ap (triples rises s room here.line g.seen) (no_lines text here.at h)

  module _ {l : List ℕ} (e : l ≡ line_at text here.at) where
    -- the line has no line feed
    pub no-feed : here.at + length l ≡ length text → whole ≡ refused 3 here.line
    unfolding triples
    no-feed h = g.same ∙ ap (triples rises s room here.line g.seen) (last_line g.limits e h)

    module _ {verdict : Verdict} (j : verdict ≡ judge_line (may_stand (precedes a b) (line_of l)) (leb room count) s (line_of l)) (ends : Ends text here.at here.line (length l))
        (next : Place) (follows : (next.at ≡ line_end text here.at + 1) × (next.line ≡ here.line + 1)) where
      abbrev rest : Pieces
      rest = pieces 10 (drop next.at text)

      verdict-is : verdict ≡ verdict_on rises s room g.seen l
      verdict-is = j ∙ (λ k. judge_line (may_stand (precedes (g.last-a k) (g.last-b k)) (line_of l)) (leb room (g.stored.number k)) s (line_of l))

      judged-line : whole ≡ onward s here.line g.seen rest (λ t. triples rises s room (here.line + 1) (t ∷ g.seen) rest) verdict
      unfolding triples
      judged-line =
          g.same
          ∙ ap (triples rises s room here.line g.seen) (line-more g.limits e ends next follows)
          ∙ ap (onward s here.line g.seen rest (λ t. triples rises s room (here.line + 1) (t ∷ g.seen) rest)) (sym verdict-is)

      pub is-refused : (c : ℕ) → verdict ≡ Refused c → whole ≡ refused c here.line
      is-refused c v = judged-line ∙ rw v

      -- the last line, and nothing after it
      pub is-finished : verdict ≡ Last → next.at ≡ length text → whole ≡ accepted s g.seen
      is-finished v n = judged-line ∙ rw v (ending-none s (here.line + 1) g.seen text next.at n)

      -- the last line, and something after it
      pub not-finished : verdict ≡ Last → (next.at ≡ length text → ⊥) → whole ≡ refused 3 next.line
      not-finished v n =
          judged-line
          ∙ rw v (ending-some s (here.line + 1) g.seen text next.at (next-limits g.limits e ends next follows).place n)
          ∙ ap (refused 3) (sym follows.1)

      module _ {i k v : ℕ} (ve : verdict ≡ AnEntry i k v) where
        abbrev entry : Entry
        entry = record { row = i; column = k; value = v }

        judged : IsEntry (may_stand (precedes a b) (line_of l)) (leb room count) s (line_of l) i k v
        judged = judged-entry (may_stand (precedes a b) (line_of l)) (leb room count) s (line_of l) i k v (sym j ∙ ve)

        ordered : precedes a b i k ≡ true
        ordered = sym (ap (may_stand (precedes a b)) judged.line) ∙ judged.order

        -- a value that is stored has a place
        space : (v ≡ 0 → ⊥) → count < room
        space z = leb-false room count (sym (ap (λ (x : Bool). not x && leb room count) (ne_eqb v 0 z)) ∙ judged.room)

        pub storable : Storable (length st) (length co) (length va) count a i k v
        storable =
            let row = within-bounds i s.n judged.row_inside in
            let column = within-bounds k s.m judged.column-inside in
            record {
              order = before-row a b i k ordered;
              inside = omega (arith, row, g.limits.n-limit);
              starts-length = starts-long;
              first-row = row.0;
              first-column = column.0;
              column_fits = omega (arith, column, g.limits.m-limit);
              count_fits = omega (arith, g.few, g.limits.place, g.limits.short);
              lists = columns-long ∙ sym values-long;
              room = λ z. omega (arith, columns-long, space z);
            }

        pub goes_on : (st' co' va' : List ℕ) (n : ℕ)
            → (EntriesStored a (length co) (kept g.seen) count st co va → EntriesStored i (length co) (kept (entry ∷ g.seen)) n st' co' va')
            → Progress text from s room st' co' va' next i k n
        goes_on st' co' va' n store =
            let h : EntriesStored i room (kept (entry ∷ g.seen)) n st' co' va' =
            subst (λ (r : ℕ). EntriesStored a r (kept g.seen) count st co va → EntriesStored i r (kept (entry ∷ g.seen)) n st' co' va') columns-long store g.stored in
            let c = count-step entry g.seen room (λ z. omega (arith, g.stored.number, space z)) (omega (arith, g.stored.number, g.enough)) in
            record {
              limits = next-limits g.limits e ends next follows;
              seen = entry ∷ g.seen;
              same = judged-line ∙ rw ve (ap (λ (m : ℕ). triples rises s room m (entry ∷ g.seen) rest) (sym follows.1));
              last-a = refl;
              last-b = refl;
              stored = h;
              row-limit = (within-bounds i s.n judged.row_inside).1;
              few = omega (arith, next_place g.limits e ends next follows, c, h.number, g.few, g.stored.number);
              enough = omega (arith, c, h.number);
            }
