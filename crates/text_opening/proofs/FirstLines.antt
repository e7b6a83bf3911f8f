-- The first two lines: what a line and what it says lead to.
use mathlib.Core.Path.{◌≡◌, refl, sym, ap, ◌∙◌}
use mathlib.Core.List.{List, []}
use mathlib.Core.Bool.{Bool, true, false}
use Prim.Native.Nat.{ℕ, ◌+◌, ◌≤◌, ◌<◌}
use native.Mathlib.Omega.{arith}
use lib.ListN.{length, drop}
use borrow.Author.Tests.{le-leb, lt-leb, le-ltb, lt-ltb}
use Rattle.text_fields.specs.Pieces.{pieces}
use Rattle.text_fields.specs.Number.{number_in}
use Rattle.std.specs.Prelude.{Option, Some, None, Result, Ok, Err}
use Rattle.std.specs.Result.{IsErrAnd}
use Rattle.refusals.specs.declared.Refusal.{Refusal}
use Rattle.refusals.specs.Outcome.{Refused}
use Rattle.refusals.specs.Refusals.{unless}
use Rattle.refusals.specs.Faults.{number}
use Rattle.text_fields.proofs.Cuts.{piece-end, piece-last, piece-more}
use Rattle.text_lines.specs.Line.{line_at, line_end, Ends}
use Rattle.text_lines.specs.declared.Place.{Place}
use Rattle.residue.specs.Range.{is_modulus}
use Rattle.text_judge.specs.declared.judge.Sizes.{Sizes}
use Rattle.text_judge.specs.declared.header.Header.{Header}
use Rattle.limits.specs.Limits.{largest_size, largest_text}
use Rattle.text_judge.specs.Line.{header_of}
use Rattle.text_opening.specs.Reading.{Entry, ReadResult, refused, triples, with_sizes, from_second, with_modulus, from_first, read_by}
use Rattle.text_opening.specs.Opening.{Limits, Second, after_open, Bounded}
use Rattle.text_opening.specs.declared.opening.Opened.{Opened}

-- ---- the second line l
module _ (text : List ℕ) {l : List ℕ} (second : Place) (p : ℕ) (h : Second text second p) (e : l ≡ line_at text second.at) where
  pub second_none : second.at + length l ≡ length text → (rule : List Entry → ℕ → ℕ → Bool) (room : ℕ) → from_second rule p room (pieces 10 (drop second.at text)) ≡ refused 3 second.line
  second_none q rule room = ap (from_second rule p room) (piece-last 10 text l second.at h.place e q) ∙ ap (refused 3) (sym h.number_is)

  pub second-ends : (second.at + length l ≡ length text → ⊥) → Ends text second.at second.line (length l)
  second-ends q = record { size_is = ap length e; feed = omega (arith, piece-end 10 text l second.at h.place e, q); numbered = omega (arith, h.number_is) }

  module _ {header : Option Header} (third : Place) (q : Ends text second.at second.line (length l)) (t : (third.at ≡ line_end text second.at + 1) × (third.line ≡ second.line + 1)) (k : header ≡ header_of l) where
    past : third.at ≡ second.at + length l + 1
    past = t.0 ∙ ap (λ (x : List ℕ). second.at + length x + 1) (sym e)

    second-some : (rule : List Entry → ℕ → ℕ → Bool) (room : ℕ) → from_second rule p room (pieces 10 (drop second.at text)) ≡ with_sizes rule p room (pieces 10 (drop third.at text)) header
    second-some rule room = ap (from_second rule p room) (piece-more 10 text l second.at h.place e third.at q.feed past) ∙ rw k

    pub second-bad : header ≡ None → (rule : List Entry → ℕ → ℕ → Bool) (room : ℕ) → from_second rule p room (pieces 10 (drop second.at text)) ≡ refused 3 second.line
    second-bad b rule room = second-some rule room ∙ rw b (ap (refused 3) (sym h.number_is))

    pub second-n : {n m : ℕ} → header ≡ Some (record { n = n; m = m }) → largest_size < n → (rule : List Entry → ℕ → ℕ → Bool) (room : ℕ) → from_second rule p room (pieces 10 (drop second.at text)) ≡ refused 2 0
    second-n {n} {m} b x rule room = second-some rule room ∙ rw (b, lt-leb n largest_size x)

    pub second-m : {n m : ℕ} → header ≡ Some (record { n = n; m = m }) → n ≤ largest_size → largest_size < m → (rule : List Entry → ℕ → ℕ → Bool) (room : ℕ) → from_second rule p room (pieces 10 (drop second.at text)) ≡ refused 2 0
    second-m {n} {m} b x y rule room = second-some rule room ∙ rw (b, le-leb n largest_size x, lt-leb m largest_size y)

    module _ {n m : ℕ} (x : n ≤ largest_size) (y : m ≤ largest_size) where
      abbrev sizes : Sizes
      sizes = record { modulus = record { p = p }; n = n; m = m }

      pub second-ready : header ≡ Some (record { n = n; m = m }) → (rule : List Entry → ℕ → ℕ → Bool) (room : ℕ) → from_second rule p room (pieces 10 (drop second.at text)) ≡ triples rule sizes room third.line [] (pieces 10 (drop third.at text))
      second-ready b rule room =
          let number : 3 ≡ third.line = omega (arith, t.1, h.number_is) in
          second-some rule room ∙ rw (b, le-leb n largest_size x, le-leb m largest_size y) (ap (λ (j : ℕ). triples rule sizes room j [] (pieces 10 (drop third.at text))) number)

      pub second-limits : Limits text sizes third
      second-limits = record { place = omega (arith, past, q.feed); numbered = omega (arith, past, t.1, h.numbered); short = h.short; modulus = h.modulus; n-limit = x; m-limit = y }

-- ---- the first line l, which starts at 0 and has the number 1
pub too_long : (text : List ℕ) → largest_text < length text → (rule : List Entry → ℕ → ℕ → Bool) (room : ℕ) → read_by rule room text ≡ refused 2 0
unfolding read_by
too_long text h rule room = rw (lt-ltb largest_text (length text) h)

module _ (text : List ℕ) {l : List ℕ} (short : length text ≤ largest_text) (e : l ≡ line_at text 0) where
  in-length : (rule : List Entry → ℕ → ℕ → Bool) (room : ℕ) → read_by rule room text ≡ from_first rule room (pieces 10 text)
  unfolding read_by
  in-length rule room = rw (le-ltb largest_text (length text) short)

  pub first-none : 0 + length l ≡ length text → (rule : List Entry → ℕ → ℕ → Bool) (room : ℕ) → read_by rule room text ≡ refused 3 1
  first-none q rule room = in-length rule room ∙ ap (from_first rule room) (piece-last 10 text l 0 (omega arith) e q)

  pub first_ends : (0 + length l ≡ length text → ⊥) → Ends text 0 1 (length l)
  first_ends q = record { size_is = ap length e; feed = omega (arith, piece-end 10 text l 0 (omega arith) e, q); numbered = omega arith }

  module _ {number : Option ℕ} (second : Place) (q : Ends text 0 1 (length l)) (t : (second.at ≡ line_end text 0 + 1) × (second.line ≡ 1 + 1)) (k : number ≡ number_in l) where
    past_first : second.at ≡ 0 + length l + 1
    past_first = t.0 ∙ ap (λ (x : List ℕ). 0 + length x + 1) (sym e)

    first_some : (rule : List Entry → ℕ → ℕ → Bool) (room : ℕ) → read_by rule room text ≡ with_modulus rule room (pieces 10 (drop second.at text)) number
    first_some rule room = in-length rule room ∙ ap (from_first rule room) (piece-more 10 text l 0 (omega arith) e second.at q.feed past_first) ∙ rw k

    pub first-bad : number ≡ None → (rule : List Entry → ℕ → ℕ → Bool) (room : ℕ) → read_by rule room text ≡ refused 3 1
    first-bad b rule room = first_some rule room ∙ rw b

    pub first-composite : {p : ℕ} → number ≡ Some p → is_modulus p ≡ false → (rule : List Entry → ℕ → ℕ → Bool) (room : ℕ) → read_by rule room text ≡ refused 1 0
    first-composite b x rule room = first_some rule room ∙ rw (b, x)

    pub first-ready : {p : ℕ} → number ≡ Some p → is_modulus p ≡ true → (rule : List Entry → ℕ → ℕ → Bool) (room : ℕ) → read_by rule room text ≡ from_second rule p room (pieces 10 (drop second.at text))
    first-ready b x rule room = first_some rule room ∙ rw (b, x)

    pub first-second : {p : ℕ} → is_modulus p ≡ true → Second text second p
    first-second x = record { place = omega (arith, past_first, q.feed); numbered = omega (arith, past_first, t.1); number_is = omega (arith, t.1); short = short; modulus = x }

-- ---- a refusal that `?` hands on

refused_by : (e : Refusal) (b : Bool) (k : ℕ) → Refused (number e.fault) e.detail ≡ unless b k 0 → (b ≡ false) × (refused k 0 ≡ refused (number e.fault) e.detail)
refused_by e true k f = absurd (let z : ◌≡◌ {A = ℕ} 0 1 = cc in omega arith)
refused_by e false k f =
    let n : number e.fault ≡ k = cc in
    let d : e.detail ≡ 0 = cc in
    (refl, cc)

pub handed_on : (text : List ℕ) (r : Result Opened Refusal) (e : Refusal) (b : Bool) (k : ℕ) (read : (List Entry → ℕ → ℕ → Bool) → ℕ → ReadResult)
    → IsErrAnd r (λ y. y ≡ e) → Refused (number e.fault) e.detail ≡ unless b k 0
    → (b ≡ false → (rule : List Entry → ℕ → ℕ → Bool) (room : ℕ) → read rule room ≡ refused k 0)
    → ((rule : List Entry → ℕ → ℕ → Bool) (room : ℕ) → read rule room ≡ after_open rule room text r) × Bounded text r
handed_on text (Ok o) e b k read left f h = absurd left
handed_on text (Err y) e b k read left f h =
    let by = refused_by e b k f in
    ((λ rule room. h by.0 rule room ∙ by.1 ∙ ap (λ (q : Refusal). refused (number q.fault) q.detail) (sym left)), tt)
