-- A text whose triples rise is read as it was: whatever the reading returned, but 5, it returns, and what is stored is the same.
use mathlib.Core.Path.{◌≡◌, refl, sym, ap, ◌∙◌, subst}
use mathlib.Core.Logic.{◌⊎◌, inl, inr}
use mathlib.Core.List.{List, [], ◌∷◌}
use mathlib.Core.Bool.{Bool, true, false, cond, ◌&&◌, not}
use Prim.Native.Nat.{ℕ, ◌+◌, ◌<◌}
use native.Mathlib.Omega.{arith}
use lib.Dec.{eqb, leb, ltb}
use lib.ListN.{length}
use borrow.Author.Tests.{eq-eqb, ne_eqb, ltb-true, eqb-true}
use Rattle.lists.proofs.Bools.{or_cases, and_left, and_right}
use Rattle.refusals.specs.Table.{repeated_place}
use Rattle.text_fields.specs.Pieces.{Pieces, last, more, pieces}
use Rattle.text_fields.specs.Number.{number_in}
use Rattle.std.specs.Prelude.{Option, Some, None}
use Rattle.residue.specs.Range.{is_modulus}
use Rattle.limits.specs.Limits.{largest_size, largest_text}
use Rattle.text_judge.specs.Line.{line_of, header_of}
use Rattle.text_judge.specs.Judge.{may_stand, precedes}
use Rattle.text_opening.specs.Reading.{Entry, ReadResult, refused, accepted, kept, fresh, placed, ending, onward, triples, with_sizes, from_second, with_modulus, from_first, read_by, read_of}
use Rattle.text_plan.specs.Rising.{last_row, last_column, rises, read_rising_of}
use Rattle.text_plan.specs.Call.{answer_by, read_answer_of, answer_rising_of}
use Rattle.text_judge.specs.declared.header.Header.{Header}
use Rattle.text_judge.specs.declared.judge.Sizes.{Sizes}
use Rattle.text_judge.proofs.Verdicts.{within-bounds}
use Rattle.text_judge.specs.Sight.{Sight, Stops, Finishes, Stands, Fails}
use Rattle.text_judge.specs.Sight.{sight, judged_from}
use Rattle.text_plan.specs.Collect.{triple_of}
use Rattle.text_plan.proofs.Kept.{kept-all, Earlier, kept-pairwise}
use Rattle.text_plan.proofs.Scattered.{row_of, column_of}
use Rattle.text_judge.proofs.Sights.{Places, judged-sight, sight-places}
use Rattle.grouping.proofs.Every.{All, all_map, pairwise-with}
use Rattle.grouping.proofs.Groups.{Then, grouped-twice}

true-false : {A : Type 0} → true ≡ false → A
true-false e = let z : ◌≡◌ {A = ℕ} 0 1 = cc in absurd (omega arith)

-- ---- the order
abbrev pub Before : ℕ → ℕ → Entry → Type 0
Before i j t = (t.row < i) ⊎ ((t.row ≡ i) × (t.column < j))

is-before : (t : Entry) (i j : ℕ) → precedes t.row t.column i j ≡ true → Before i j t
is-before t i j e = go (or_cases (ltb t.row i) (eqb t.row i && ltb t.column j) e)
  where
    go : (ltb t.row i ≡ true) ⊎ ((eqb t.row i && ltb t.column j) ≡ true) → Before i j t
    go (inl x) = inl (ltb-true t.row i x)
    go (inr x) = inr (eqb-true t.row i (and_left (eqb t.row i) (ltb t.column j) x), ltb-true t.column j (and_right (eqb t.row i) (ltb t.column j) x))

before-trans : (t u : Entry) (i j : ℕ) → Before u.row u.column t → Before i j u → Before i j t
before-trans t u i j (inl p) (inl q) = inl (omega arith)
before-trans t u i j (inl p) (inr q) = inl (omega (arith, q.0))
before-trans t u i j (inr p) (inl q) = inl (omega (arith, p.0))
before-trans t u i j (inr p) (inr q) = inr (p.0 ∙ q.0, omega (arith, p.1, q.1))

differs : (t : Entry) (i j : ℕ) → Before i j t → not (eqb t.row i && eqb t.column j) ≡ true
differs t i j (inl p) = rw (ne_eqb t.row i (λ e. omega arith))
differs t i j (inr p) = rw (eq-eqb t.row i p.0, ne_eqb t.column j (λ e. omega (arith, p.1)))

-- ---- triples that rise, the latest first, each in the plan
pub record In (s : Sizes) (t : Entry) : Type 0 where
  pub row_in : t.row < s.n + 1
  pub column-in : t.column < s.m + 1

abbrev pub Risen : Sizes → List Entry → Type 0
Risen s [] = Unit {0}
Risen s (t ∷ ts) = All (Before t.row t.column) ts × In s t × Risen s ts

-- what stands after the latest stands after all
all-before : (s : Sizes) (seen : List Entry) (i j : ℕ) → Risen s seen → precedes (last_row seen) (last_column seen) i j ≡ true → All (Before i j) seen
all-before s [] i j u e = tt
all-before s (t ∷ ts) i j u e =
    let b = is-before t i j e in
    (b, all_map (Before t.row t.column) (Before i j) (λ x h. before-trans x t i j h b) ts u.0)

all-fresh : (seen : List Entry) (i j : ℕ) → All (Before i j) seen → fresh seen i j ≡ true
unfolding fresh
all-fresh [] i j a = refl
all-fresh (t ∷ ts) i j a = rw (differs t i j a.0, all-fresh ts i j a.1)

abbrev Up : Entry → Entry → Type 0
Up t u = Before u.row u.column t

risen-in : (s : Sizes) (seen : List Entry) → Risen s seen → All (In s) seen
risen-in s [] u = tt
risen-in s (t ∷ ts) u = (u.1, risen-in s ts u.2)

risen-up : (s : Sizes) (seen : List Entry) → Risen s seen → Earlier Up seen
risen-up s [] u = tt
risen-up s (t ∷ ts) u = (u.0, risen-up s ts u.2)

-- what rises is stored as it stands
pub risen-placed : (s : Sizes) (seen : List Entry) → Risen s seen → placed s seen ≡ kept seen
unfolding placed
risen-placed s seen u =
    grouped-twice row_of column_of (s.n + 1) (s.m + 1) (kept seen)
    (pairwise-with Up (Then row_of column_of) (In s) (λ x y a b h. then x y h) (kept seen) inside (kept-pairwise Up seen (risen-up s seen u)))
    (all_map (In s) (λ x. x.row < s.n + 1) (λ x h. h.row_in) (kept seen) inside)
    (all_map (In s) (λ x. x.column < s.m + 1) (λ x h. h.column-in) (kept seen) inside)
  where
    inside : All (In s) (kept seen)
    inside = kept-all (In s) seen (risen-in s seen u)

    then : (x y : Entry) → Up x y → Then row_of column_of x y
    then x y (inl h) = inl h
    then x y (inr h) = inr (h.0, omega (arith, h.1))

-- ---- the lines
-- a result is the refusal 5
abbrev pub is_five : ReadResult → Bool
is_five (refused c k) = eqb c repeated_place
is_five (accepted s seen) = false

-- what is accepted is stored as it stands
abbrev pub Fine : ReadResult → Type 0
Fine (refused c k) = Unit {0}
Fine (accepted s seen) = placed s seen ≡ kept seen

ending-fine : (s : Sizes) (k : ℕ) (seen : List Entry) (p : Pieces) → Risen s seen → Fine (ending s k seen p)
ending-fine s k seen (last []) u = risen-placed s seen u
ending-fine s k seen (last (b ∷ bs)) u = tt
ending-fine s k seen (more l t) u = tt

pub record First (rising any : ReadResult) : Type 0 where
  pub same : is_five rising ≡ false → any ≡ rising
  pub fine : Fine rising

pub rising-first : (s : Sizes) (room : ℕ) (p : Pieces) (k : ℕ) (seen : List Entry) → Risen s seen → First (triples rises s room k seen p) (triples fresh s room k seen p)
unfolding triples
rising-first s room (last l) k seen u = record { same = λ h. refl; fine = tt }
rising-first s room (more l rest) k seen u =
    subst (λ (x : ReadResult). First x (triples fresh s room k seen (more l rest))) (sym (ap (onward s k seen rest before-next) (judged-sight may-rise full s (line_of l))))
    (subst (λ (x : ReadResult). First (onward s k seen rest before-next (judged_from may-rise seen_as)) x) (sym (ap (onward s k seen rest next) (judged-sight (may_stand (fresh seen) (line_of l)) full s (line_of l))))
    (go seen_as (sight-places full s (line_of l)) (λ t h. rising-first s room rest (k + 1) (t ∷ seen) h)))
  where
    full : Bool
    full = leb room (length (kept seen))

    may-rise : Bool
    may-rise = may_stand (rises seen) (line_of l)

    seen_as : Sight
    seen_as = sight full s (line_of l)

    before-next : Entry → ReadResult
    before-next t = triples rises s room (k + 1) (t ∷ seen) rest

    next : Entry → ReadResult
    next t = triples fresh s room (k + 1) (t ∷ seen) rest

    go : (v : Sight) → Places s (line_of l) v → ((t : Entry) → Risen s (t ∷ seen) → First (before-next t) (next t))
        → First (onward s k seen rest before-next (judged_from may-rise v)) (onward s k seen rest next (judged_from (may_stand (fresh seen) (line_of l)) v))
    go (Stops c) h ih = record { same = λ e. refl; fine = tt }
    go Finishes h ih = record { same = λ e. refl; fine = ending-fine s (k + 1) seen rest u }
    go (Stands i j v) h ih = rw (ap (may_stand (rises seen)) h.line, ap (may_stand (fresh seen)) h.line) (both (precedes (last_row seen) (last_column seen) i j) refl)
      where
        t : Entry
        t = triple_of i j v

        both : (x : Bool) → precedes (last_row seen) (last_column seen) i j ≡ x → First (onward s k seen rest before-next (judged_from x (Stands i j v))) (onward s k seen rest next (judged_from (fresh seen i j) (Stands i j v)))
        both true e =
            let a = all-before s seen i j u e in
            let inside : In s t = record { row_in = omega (arith, within-bounds i s.n h.row_inside); column-in = omega (arith, within-bounds j s.m h.column-inside) } in
            rw (all-fresh seen i j a) (ih t (a, inside, u))
        both false e = record { same = λ q. true-false q; fine = tt }
    go (Fails c i j) h ih = rw (ap (may_stand (rises seen)) h.line, ap (may_stand (fresh seen)) h.line) (both (precedes (last_row seen) (last_column seen) i j) refl)
      where
        both : (x : Bool) → precedes (last_row seen) (last_column seen) i j ≡ x → First (onward s k seen rest before-next (judged_from x (Fails c i j))) (onward s k seen rest next (judged_from (fresh seen i j) (Fails c i j)))
        both true e = rw (all-fresh seen i j (all-before s seen i j u e)) (record { same = λ q. refl; fine = tt })
        both false e = record { same = λ q. true-false q; fine = tt }

-- ---- the whole text
same_first : (r : ReadResult) → Fine r → First r r
same_first r f = record { same = λ e. refl; fine = f }

sizes-first : (p room : ℕ) (rest : Pieces) (h : Option Header) → First (with_sizes rises p room rest h) (with_sizes fresh p room rest h)
sizes-first p room rest None = same_first (refused 3 2) tt
sizes-first p room rest (Some h) = go (leb h.n largest_size && leb h.m largest_size)
  where
    s : Sizes
    s = record { modulus = record { p = p }; n = h.n; m = h.m }

    go : (x : Bool) → First (cond x (triples rises s room 3 [] rest) (refused 2 0)) (cond x (triples fresh s room 3 [] rest) (refused 2 0))
    go true = rising-first s room rest 3 [] tt
    go false = same_first (refused 2 0) tt

second-first : (p room : ℕ) (rest : Pieces) → First (from_second rises p room rest) (from_second fresh p room rest)
second-first p room (last l) = same_first (refused 3 2) tt
second-first p room (more l rest) = sizes-first p room rest (header_of l)

modulus-first : (room : ℕ) (rest : Pieces) (n : Option ℕ) → First (with_modulus rises room rest n) (with_modulus fresh room rest n)
modulus-first room rest None = same_first (refused 3 1) tt
modulus-first room rest (Some p) = go (is_modulus p)
  where
    go : (x : Bool) → First (cond x (from_second rises p room rest) (refused 1 0)) (cond x (from_second fresh p room rest) (refused 1 0))
    go true = second-first p room rest
    go false = same_first (refused 1 0) tt

line_first : (room : ℕ) (t : Pieces) → First (from_first rises room t) (from_first fresh room t)
line_first room (last l) = same_first (refused 3 1) tt
line_first room (more l rest) = modulus-first room rest (number_in l)

-- Any result of the reading as it was, but 5, is the result.
pub read-rising-first : (room : ℕ) (text : List ℕ) → First (read_rising_of room text) (read_of room text)
unfolding read_by
read-rising-first room text = go (ltb largest_text (length text))
  where
    go : (x : Bool) → First (cond x (refused 2 0) (from_first rises room (pieces 10 text))) (cond x (refused 2 0) (from_first fresh room (pieces 10 text)))
    go true = same_first (refused 2 0) tt
    go false = line_first room (pieces 10 text)

-- and what it leaves is what is left
fine-answer : (room : ℕ) (o : ReadResult) → Fine o → read_answer_of room o ≡ answer_rising_of room o
unfolding answer_by
fine-answer room (refused c k) f = refl
fine-answer room (accepted s seen) f = rw f

pub answer-rising-first : (room : ℕ) (text : List ℕ) → is_five (read_rising_of room text) ≡ false → read_answer_of room (read_of room text) ≡ answer_rising_of room (read_rising_of room text)
answer-rising-first room text e =
    let f = read-rising-first room text in
    ap (read_answer_of room) (f.same e) ∙ fine-answer room (read_rising_of room text) f.fine

-- What was accepted is accepted, and stored the same.
pub rising-as-before : (room : ℕ) (s : Sizes) (text : List ℕ) (seen : List Entry) → read_rising_of room text ≡ accepted s seen
    → (read_of room text ≡ accepted s seen) × (read_answer_of room (read_of room text) ≡ answer_rising_of room (read_rising_of room text))
rising-as-before room s text seen e =
    let not_five : is_five (read_rising_of room text) ≡ false = ap is_five e in
    ((read-rising-first room text).same not_five ∙ e, answer-rising-first room text not_five)
