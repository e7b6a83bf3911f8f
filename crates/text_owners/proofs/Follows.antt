-- What follows a plan in its text: one law for each way in which it is read.
--   nothing-follows             the text ends with the plan
--   line-open                   the line that follows has no line feed
--   has-feed, line-ready        it has one, and can be read
--   line-refused                it is no line of owners, or has one that is no byte
--   only-owners, more-follows   it says the owners, and nothing follows it, or something does
use mathlib.Core.Path.{◌≡◌, refl, sym, ap, ◌∙◌, subst}
use mathlib.Core.Bool.{Bool, true, false, cond}
use mathlib.Core.List.{List, [], ◌∷◌}
use Rattle.std.specs.Prelude.{Option, Some, None, Result, Ok, Err}
use Prim.Native.Nat.{ℕ, ◌+◌, ◌≤◌}
use native.Mathlib.Nat.{le_of_eq}
use native.Mathlib.Omega.{arith}
use lib.Dec.{eqb}
use lib.ListN.{length, drop, replicate, length-drop, drop_of_length-le}
use Rattle.lists.specs.Filled.{filled}
use Rattle.refusals.specs.Table.{malformed, owner_too_large}
use Rattle.refusals.specs.Outcome.{Outcome}
use Rattle.refusals.specs.Outcome.{Passed, Refused}
use Rattle.text_fields.specs.Pieces.{Pieces, last, more, prepend, pieces}
use Rattle.text_fields.proofs.Cuts.{piece-end, piece-last, piece-more}
use Rattle.text_lines.specs.Line.{line_at, line_end, Ends}
use Rattle.text_lines.specs.declared.Place.{Place}
use Rattle.text_owners.specs.Owners.{owners_line, all_bytes, OwnersRead, not_read, owned, after_line, on_line, owners_in}
use Rattle.text_owners.specs.Call.{owners_length}
use Rattle.text_owners.specs.Needs.{FootReady, OwnersLineReady, StoredBytes, LineOwns, Owns}
use Rattle.refusals.specs.Faults.{number}
use Rattle.refusals.specs.declared.Fault.{Fault}
use Rattle.refusals.specs.declared.Fault.TheVariants.{Malformed, OwnerTooLarge}

-- ---- what a line leads to, by what reading it returned

-- passing is no refusal
apart : {f : Fault} → ◌≡◌ {A = Result (Unit {0}) Fault} (Ok tt) (Err f) → ⊥
apart e = let z : ◌≡◌ {A = ℕ} 0 1 = cc in omega arith

module _ (k : ℕ) (rest : Pieces) (left : List ℕ) where
  refused-at : (f g : Fault) → ◌≡◌ {A = Result (Unit {0}) Fault} (Err f) (Err g) → not_read (number g) k ≡ not_read (number f) k
  refused-at f g s = let same : f ≡ g = cc in ap (λ (x : Fault). not_read (number x) k) (sym same)

  leads-refused : (f : Fault) (o : Option (List ℕ)) → LineOwns o (Err f) left → on_line k rest o ≡ not_read (number f) k
  leads-refused f None s = refused-at f Malformed s
  leads-refused f (Some vs) s = go (all_bytes vs) s
    where
      go : (t : Bool) → StoredBytes t vs (Err f) left → cond t (after_line (k + 1) vs rest) (not_read owner_too_large k) ≡ not_read (number f) k
      go true s = absurd (apart (sym s.0))
      go false s = refused-at f OwnerTooLarge s

  -- the line says the owners: what follows it decides
  leads-stated : (o : Option (List ℕ)) → LineOwns o (Ok tt) left → (r : Outcome) → ((vs : List ℕ) → left ≡ filled owners_length vs → Owns (after_line (k + 1) vs rest) r left) → Owns (on_line k rest o) r left
  leads-stated None s r f = absurd (apart s)
  leads-stated (Some vs) s r f = go (all_bytes vs) s
    where
      go : (t : Bool) → StoredBytes t vs (Ok tt) left → Owns (cond t (after_line (k + 1) vs rest) (not_read owner_too_large k)) r left
      go true s = f vs s.1
      go false s = absurd (apart s)

-- ---- what follows the line

after_none : (k : ℕ) (vs text : List ℕ) (at : ℕ) → at ≡ length text → after_line k vs (pieces 10 (drop at text)) ≡ owned vs
unfolding pieces
after_none k vs text at h = rw (drop_of_length-le text (le_of_eq (sym h)))

after_more : (k : ℕ) (vs l : List ℕ) → (length l ≡ 0 → ⊥) → after_line k vs (pieces 10 l) ≡ not_read malformed k
unfolding pieces
after_more k vs [] h = absurd (h refl)
after_more k vs (b ∷ bs) h = go (eqb b 10) (pieces 10 bs)
  where
    go : (t : Bool) (p : Pieces) → after_line k vs (cond t (more [] p) (prepend b p)) ≡ not_read malformed k
    go true p = refl
    go false (last l) = refl
    go false (more l q) = refl

-- a line that has no line feed, and is not empty
in-open : (m k : ℕ) (l : List ℕ) → (length l ≡ 0 → ⊥) → owners_in m k (last l) ≡ not_read malformed k
unfolding owners_in
in-open m k [] h = absurd (h refl)
in-open m k (b ∷ bs) h = refl

-- ---- the text from a place on

module _ {text : List ℕ} {from : Place} {m : ℕ} {owners : List ℕ} (g : FootReady text from m owners) where
  abbrev foot : OwnersRead
  foot = owners_in m from.line (pieces 10 (drop from.at text))

  owns : (x : OwnersRead) (r : Outcome) (left : List ℕ) → foot ≡ x → Owns x r left → Owns foot r left
  owns x r left e h = subst (λ (y : OwnersRead). Owns y r left) (sym e) h

  pub nothing-follows : from.at ≡ length text → (left : List ℕ) → left ≡ filled owners_length (replicate m 1) → Owns foot Passed left
  unfolding owners_in pieces
  nothing-follows h left e = owns (owned (replicate m 1)) Passed left (rw (drop_of_length-le text (le_of_eq (sym h)))) (refl, e)

  module _ {l : List ℕ} (e : l ≡ line_at text from.at) where
    line-end : from.at + length l ≤ length text
    line-end = piece-end 10 text l from.at g.place e

    pub line-open : (from.at ≡ length text → ⊥) → from.at + length l ≡ length text → (left : List ℕ) → Owns foot (Refused 3 from.line) left
    line-open n h left =
        owns (not_read malformed from.line) (Refused 3 from.line) left
        (ap (owners_in m from.line) (piece-last 10 text l from.at g.place e h) ∙ in-open m from.line l (λ q. n (omega arith))) refl

    pub has-feed : (from.at + length l ≡ length text → ⊥) → Ends text from.at from.line (length l)
    has-feed h = record { size_is = ap length e; feed = omega (arith, line-end, h); numbered = omega (arith, g.numbered, g.place, g.short) }

    pub line-ready : OwnersLineReady l m owners
    line-ready = record { short = omega (arith, line-end, g.short); few = g.few; cleared = g.cleared }

    module _ (ends : Ends text from.at from.line (length l)) (next : Place) (follows : (next.at ≡ line_end text from.at + 1) × (next.line ≡ from.line + 1)) (left : List ℕ) where
      abbrev rest : Pieces
      rest = pieces 10 (drop next.at text)

      next_place : next.at ≡ from.at + length l + 1
      next_place = follows.0 ∙ ap (λ (x : List ℕ). from.at + length x + 1) (sym e)

      cut : foot ≡ on_line from.line rest (owners_line m l)
      unfolding owners_in
      cut = ap (owners_in m from.line) (piece-more 10 text l from.at g.place e next.at ends.feed next_place)

      module _ {r : Result (Unit {0}) Fault} (s : LineOwns (owners_line m l) r left) where
        said : (x : Result (Unit {0}) Fault) → r ≡ x → LineOwns (owners_line m l) x left
        said x q = subst (λ (y : Result (Unit {0}) Fault). LineOwns (owners_line m l) y left) q s

        pub line-refused : (f : Fault) → r ≡ Err f → Owns foot (Refused (number f) from.line) left
        line-refused f q =
            owns (not_read (number f) from.line) (Refused (number f) from.line) left (cut ∙ leads-refused from.line rest left f (owners_line m l) (said (Err f) q)) refl

        pub only-owners : r ≡ (Ok tt) → next.at ≡ length text → Owns foot Passed left
        only-owners q h =
            owns (on_line from.line rest (owners_line m l)) Passed left cut
            (leads-stated from.line rest left (owners_line m l) (said (Ok tt) q) Passed
            (λ vs x. subst (λ (y : OwnersRead). Owns y Passed left) (sym (after_none (from.line + 1) vs text next.at h)) (refl, x)))

        pub more-follows : r ≡ (Ok tt) → (next.at ≡ length text → ⊥) → Owns foot (Refused 3 next.line) left
        more-follows q h =
            owns (on_line from.line rest (owners_line m l)) (Refused 3 next.line) left cut
            (leads-stated from.line rest left (owners_line m l) (said (Ok tt) q) (Refused 3 next.line)
            (λ vs x.
            subst (λ (y : OwnersRead). Owns y (Refused 3 next.line) left)
            (sym (after_more (from.line + 1) vs (drop next.at text) (λ z. h (omega (arith, length-drop next.at text, next_place, ends.feed)))))
            (ap (Refused 3) follows.1)))
