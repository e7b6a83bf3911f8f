-- The loop that collects: where it stands before each line, and what a line leads to. A line that is collected has at least six bytes
-- with its line feed, so 10,922 cells hold all that a text can list.
use mathlib.Core.Path.{◌≡◌, refl, sym, ap, ◌∙◌, subst}
use mathlib.Core.List.{List, [], ◌∷◌}
use mathlib.Core.Bool.{Bool, true, false, cond}
use Prim.Native.Nat.{ℕ, ◌+◌, ◌*◌, ◌≤◌, ◌<◌, zero-le}
use native.Mathlib.Omega.{arith}
use lib.Dec.{eqb, leb}
use lib.ListN.{length, drop, set, length-append, length-set}
use borrow.Author.Tests.{eqb-true, eqb-false}
use Rattle.refusals.specs.Outcome.{Outcome}
use Rattle.refusals.specs.Outcome.{Passed, Refused}
use Rattle.std.specs.Prelude.{Option}
use Rattle.text_judge.specs.declared.line.Triple.{Triple}
use Rattle.text_fields.specs.Pieces.{Pieces, pieces}
use Rattle.text_lines.specs.Line.{line_at, line_end, Ends}
use Rattle.text_lines.specs.declared.Place.{Place}
use Rattle.text_judge.specs.declared.judge.Sizes.{Sizes}
use Rattle.text_judge.specs.Sight.{Sight, Stops, Finishes, Stands, Fails}
use Rattle.text_judge.specs.Line.{line_of}
use Rattle.text_judge.specs.Sight.{sight}
use Rattle.text_opening.specs.Reading.{Entry, ReadResult, refused, kept, ending}
use Rattle.text_opening.specs.Opening.{Limits}
use Rattle.text_plan.specs.Collect.{Collected, triple_of, gather, collect, outcome_of, triple_in, ByNumber}
use Rattle.text_plan.specs.Needs.{most_lines, Keepable, Collectable, Collects}
use Rattle.text_judge.proofs.Verdicts.{within-bounds}
use Rattle.text_judge.proofs.Sights.{Placed, Places, sight-places}
use Rattle.text_plan.proofs.Storing.{kept-zero, kept_more}
use Rattle.text_plan.proofs.EachLine.{ending-none, ending-some, has-feed, no_lines, last_line, next_place, line-more, next-limits}
use Rattle.text_plan.proofs.Accepted.{line-prints}
use Rattle.text_plan.proofs.EntryLimit.{triple-long}
use Rattle.text_plan.proofs.Holding.{held_more}

-- the line of a triple that 3 and 4 pass has five bytes: three numbers and two spaces
line-long : (s : Sizes) (l : List ℕ) (i j : ℕ) → Placed s (line_of l) i j → 5 ≤ length l
line-long s l i j h =
    let w = line-prints l i j h.sign h.line in
    omega (arith, ap length w.text, triple-long (record { row = i; column = j; value = h.sign }) w.proper)

-- what one triple more adds to what is stored
kept-adds : (t : Entry) (seen : List Entry) → length (kept (t ∷ seen)) ≡ length (kept seen) + cond (eqb t.value 0) 0 1
kept-adds t seen = go (eqb t.value 0) refl
  where
    go : (x : Bool) → eqb t.value 0 ≡ x → length (kept (t ∷ seen)) ≡ length (kept seen) + cond x 0 1
    go true e = omega (arith, ap length (kept-zero t seen (eqb-true t.value 0 e)))
    go false e = ap length (kept_more t seen (eqb-false t.value 0 e)) ∙ length-append (kept seen) (t ∷ [])

-- a value takes one cell at most
pub takes_one : (w n : ℕ) → n ≡ cond (eqb w 0) 0 1 → n ≤ 1
takes_one w n e = go (eqb w 0) e
  where
    go : (x : Bool) → n ≡ cond x 0 1 → n ≤ 1
    go true q = omega arith
    go false q = omega arith

-- what the last line leads to, by the place of the next one
ending-outcome : (s : Sizes) (k : ℕ) (seen : List Entry) (text : List ℕ) (at : ℕ) → at ≤ length text
    → cond (eqb at (length text)) Passed (Refused 3 k) ≡ outcome_of (ending s k seen (pieces 10 (drop at text)))
ending-outcome s k seen text at h = go (eqb at (length text)) refl
  where
    go : (x : Bool) → eqb at (length text) ≡ x → cond x Passed (Refused 3 k) ≡ outcome_of (ending s k seen (pieces 10 (drop at text)))
    go true e = sym (ap outcome_of (ending-none s k seen text at (eqb-true at (length text) e)))
    go false e = sym (ap outcome_of (ending-some s k seen text at h (eqb-false at (length text) e)))

-- `Collects`, by what all lines come to
collects : (c : Collected) (rows columns values : List ℕ) (ts : List Entry) (r : ReadResult) (n : ℕ) (o : Outcome) → c ≡ record { all = ts; result = r }
    → o ≡ outcome_of r → n ≡ length ts → n ≤ most_lines → ByNumber (triple_in rows columns values) ts → Collects c (record { count = n; outcome = o }) rows columns values
collects c rows columns values ts r n o e out number few h =
    subst (λ (x : Collected). Collects x (record { count = n; outcome = o }) rows columns values) (sym e) (record { outcome-is = out; count-is = number; few = few; held = h })

-- the loop before the line at `here`, with `count` lines collected, `stored` of them not 0
pub record Gathering (text : List ℕ) (from : Place) (s : Sizes) (room : ℕ) (rows columns values : List ℕ) (here : Place) (count stored : ℕ) : Type 0 where
  pub limits : Limits text s here
  pub rows_long : length rows ≡ most_lines
  pub columns-long : length columns ≡ most_lines
  pub values-long : length values ≡ most_lines
  pub seen : List Entry
  pub same : collect s room from.line [] (pieces 10 (drop from.at text)) ≡ collect s room here.line seen (pieces 10 (drop here.at text))
  pub held : ByNumber (triple_in rows columns values) seen
  pub count-is : count ≡ length seen
  pub stored_is : stored ≡ length (kept seen)
  pub stored-few : stored ≤ count
  pub few : 6 * count ≤ here.at

pub gathering-starts : (text : List ℕ) (from : Place) (s : Sizes) (room : ℕ) (rows columns values : List ℕ) → Collectable text from s rows columns values → Gathering text from s room rows columns values from 0 0
unfolding kept
gathering-starts text from s room rows columns values h = record {
  limits = h.limits;
  rows_long = h.rows_long;
  columns-long = h.columns-long;
  values-long = h.values-long;
  seen = [];
  same = refl;
  held = tt;
  count-is = refl;
  stored_is = refl;
  stored-few = zero-le;
  few = zero-le;
}

module _ {text : List ℕ} {from : Place} {s : Sizes} {room : ℕ} {rows columns values : List ℕ} {here : Place} {count stored : ℕ} (g : Gathering text from s room rows columns values here count stored) where
  abbrev whole : Collected
  whole = collect s room from.line [] (pieces 10 (drop from.at text))

  -- what was collected before is all: what the loop returns and leaves
  collects-seen : (r : ReadResult) (o : Outcome) → whole ≡ record { all = g.seen; result = r } → o ≡ outcome_of r → Collects whole (record { count = count; outcome = o }) rows columns values
  collects-seen r o e out = collects whole rows columns values g.seen r count o e out g.count-is (omega (arith, g.few, g.limits.place, g.limits.short)) g.held

  -- the text ends where a line should begin
  pub no_line : length text ≤ here.at → Collects whole (record { count = count; outcome = Refused 3 here.line }) rows columns values
  unfolding collect
  no_line h = collects-seen (refused 3 here.line) (Refused 3 here.line) (g.same ∙ ap (collect s room here.line g.seen) (no_lines text here.at h)) refl

  -- the line has no line feed
  pub no-feed : {l : List ℕ} → l ≡ line_at text here.at → here.at + length l ≡ length text → Collects whole (record { count = count; outcome = Refused 3 here.line }) rows columns values
  unfolding collect
  no-feed e h = collects-seen (refused 3 here.line) (Refused 3 here.line) (g.same ∙ ap (collect s room here.line g.seen) (last_line g.limits e h)) refl

  -- the line at `here` was read and looked at, and `next` is the place of the next one
  pub record Looked (l : List ℕ) (next : Place) (v : Sight) : Type 0 where
    pub line-is : l ≡ line_at text here.at
    pub ends : Ends text here.at here.line (length l)
    pub follows : (next.at ≡ line_end text here.at + 1) × (next.line ≡ here.line + 1)
    pub sight-is : v ≡ sight (leb room stored) s (line_of l)

  pub looks : {l : List ℕ} {said : Option Triple} {v : Sight} (next : Place) → l ≡ line_at text here.at → (here.at + length l ≡ length text → ⊥) → (next.at ≡ line_end text here.at + 1) × (next.line ≡ here.line + 1)
      → said ≡ line_of l → v ≡ sight (leb room stored) s said → Looked l next v
  looks next e q t said-is seen =
      record { line-is = e; ends = has-feed g.limits e q; follows = t; sight-is = seen ∙ ap (sight (leb room stored) s) said-is }

module _ {text : List ℕ} {from : Place} {s : Sizes} {room : ℕ} {rows columns values : List ℕ} {here : Place} {count stored : ℕ} {g : Gathering text from s room rows columns values here count stored} {l : List ℕ} {next : Place} {v : Sight} (h : Looked g l next v) where
  abbrev rest : Pieces
  rest = pieces 10 (drop next.at text)

  pub goes_on : next.at ≡ here.at + length l + 1
  goes_on = next_place g.limits h.line-is h.ends next h.follows

  limits-next : Limits text s next
  limits-next = next-limits g.limits h.line-is h.ends next h.follows

  sight-seen : v ≡ sight (leb room (length (kept g.seen))) s (line_of l)
  sight-seen = h.sight-is ∙ ap (λ (n : ℕ). sight (leb room n) s (line_of l)) g.stored_is

  gathered : whole g ≡ gather s here.line g.seen rest (λ t. collect s room (here.line + 1) (t ∷ g.seen) rest) v
  unfolding collect
  gathered =
      g.same
      ∙ ap (collect s room here.line g.seen) (line-more g.limits h.line-is h.ends next h.follows)
      ∙ ap (gather s here.line g.seen rest (λ t. collect s room (here.line + 1) (t ∷ g.seen) rest)) (sym sight-seen)

  pub is-stopped : (c : ℕ) → v ≡ Stops c → Collects (whole g) (record { count = count; outcome = Refused c here.line }) rows columns values
  is-stopped c q = collects-seen g (refused c here.line) (Refused c here.line) (gathered ∙ rw q) refl

  pub is-finished : v ≡ Finishes → (o : Outcome) → o ≡ cond (eqb next.at (length text)) Passed (Refused 3 next.line) → Collects (whole g) (record { count = count; outcome = o }) rows columns values
  is-finished q o e =
      collects-seen g (ending s (here.line + 1) g.seen rest) o (gathered ∙ rw q)
      (e ∙ ap (λ (k : ℕ). cond (eqb next.at (length text)) Passed (Refused 3 k)) h.follows.1 ∙ ending-outcome s (here.line + 1) g.seen text next.at limits-next.place)

  -- where the triple of the line stands, if it is one
  places : Places s (line_of l) v
  places = subst (Places s (line_of l)) (sym sight-seen) (sight-places (leb room (length (kept g.seen))) s (line_of l))

  pub placed-stands : {i j w : ℕ} → v ≡ Stands i j w → Placed s (line_of l) i j
  placed-stands q = subst (Places s (line_of l)) q places

  pub placed-fails : {c i j : ℕ} → v ≡ Fails c i j → Placed s (line_of l) i j
  placed-fails q = subst (Places s (line_of l)) q places

  module _ {i j : ℕ} (p : Placed s (line_of l) i j) where
    -- the line has six bytes with its line feed, so there is a cell for it
    few-more : 6 * (count + 1) ≤ next.at
    few-more = omega (arith, g.few, goes_on, line-long s l i j p)

    pub cell_free : count < most_lines
    cell_free = omega (arith, few-more, limits-next.place, limits-next.short)

    pub keepable : Keepable (length rows) (length columns) (length values) count i j
    keepable =
        let row = within-bounds i s.n p.row_inside in
        let column = within-bounds j s.m p.column-inside in
        record {
          row-cell = omega (arith, cell_free, g.rows_long);
          column-cell = omega (arith, cell_free, g.columns-long);
          value_cell = omega (arith, cell_free, g.values-long);
          row_fits = omega (arith, row, g.limits.n-limit);
          column_fits = omega (arith, column, g.limits.m-limit);
        }

    -- the triple was kept
    module _ (w : ℕ) {rows' columns' values' : List ℕ} (k : (rows' ≡ set rows count i) × (columns' ≡ set columns count j) × (values' ≡ set values count w)) where
      held_next : ByNumber (triple_in rows' columns' values') (triple_of i j w ∷ g.seen)
      held_next =
          subst (λ (E : ℕ → Entry). ByNumber E (triple_of i j w ∷ g.seen)) (sym (λ t. triple_in (k.0 t) (k.1 t) (k.2 t)))
          (held_more rows columns values g.seen count i j w g.count-is keepable.row-cell keepable.column-cell keepable.value_cell g.held)

      pub rows_next : length rows' ≡ most_lines
      rows_next = ap length k.0 ∙ length-set rows count i ∙ g.rows_long

      pub columns-next : length columns' ≡ most_lines
      columns-next = ap length k.1 ∙ length-set columns count j ∙ g.columns-long

      pub values-next : length values' ≡ most_lines
      values-next = ap length k.2 ∙ length-set values count w ∙ g.values-long

      pub gathering-turn : v ≡ Stands i j w → (n : ℕ) → n ≡ cond (eqb w 0) 0 1 → Gathering text from s room rows' columns' values' next (count + 1) (stored + n)
      gathering-turn q n e =
          let t = triple_of i j w in
          record {
            limits = limits-next;
            rows_long = rows_next;
            columns-long = columns-next;
            values-long = values-next;
            seen = t ∷ g.seen;
            same = gathered ∙ rw q (ap (λ (x : ℕ). collect s room x (t ∷ g.seen) rest) (sym h.follows.1));
            held = held_next;
            count-is = omega (arith, g.count-is);
            stored_is = omega (arith, e, g.stored_is, kept-adds t g.seen);
            stored-few = omega (arith, g.stored-few, takes_one w n e);
            few = few-more;
          }

    pub is-failed : {c : ℕ} → v ≡ Fails c i j → (rows' columns' values' : List ℕ) → (rows' ≡ set rows count i) × (columns' ≡ set columns count j) × (values' ≡ set values count 0)
        → Collects (whole g) (record { count = count + 1; outcome = Refused c here.line }) rows' columns' values'
    is-failed {c} q rows' columns' values' k =
        collects (whole g) rows' columns' values' (triple_of i j 0 ∷ g.seen) (refused c here.line) (count + 1) (Refused c here.line) (gathered ∙ rw q) refl (omega (arith, g.count-is)) (omega (arith, cell_free)) (held_next 0 k)
