-- A text cut at a place: where its first part is a plan, that is the plan's own text.
--   cut-ready                              what follows the plan can be read
--   cut-passed                             it says the owners
--   cut-refused, cut-foot-refused          the plan, or what follows it, is refused
--   cut-left                               the plan is, and `?` hands that on
--   Trying, trying-starts, trying-turn     the loop: the place was guessed, or it is the plan's end
--   trying-counts                          what was read counts
--   tries_left, trying-less                 it does not, and the text is read once more, cut at the plan's end
use mathlib.Core.Path.{◌≡◌, refl, sym, ap, ◌∙◌, subst}
use mathlib.Core.Logic.{◌⊎◌, inl, inr}
use mathlib.Core.List.{List, [], ◌∷◌, ◌++◌}
use mathlib.Core.Bool.{Bool, true, false, cond, true≢false}
use Rattle.std.specs.Prelude.{Option, Some, None}
use Prim.Native.Nat.{ℕ, ◌+◌, ◌≤◌, ◌<◌}
use native.Mathlib.Omega.{arith}
use lib.Dec.{ltb}
use lib.ListN.{length, take, drop, take-append-drop}
use lib.Seq.{take_all, length-take-le}
use borrow.Author.Tests.{ltb-true, ltb-false}
use Rattle.lists.specs.Filled.{zeros}
use Rattle.limits.specs.Limits.{largest_text}
use Rattle.refusals.specs.Refusals.{number_of}
use Rattle.refusals.specs.Outcome.{Outcome}
use Rattle.refusals.specs.Outcome.{Passed, Refused}
use Rattle.text_lines.specs.declared.Place.{Place}
use Rattle.text_fields.specs.Pieces.{Pieces, last, more, pieces}
use Rattle.text_plan.specs.Call.{Reading, refusal_of, reading_of, call_of, Gives}
use Rattle.text_plan.specs.Held.{StatesPlan}
use Rattle.text_plan.specs.Stating.{plan_text}
use Rattle.std.specs.Prelude.{Result}
use Rattle.std.specs.Result.{IsErrAnd}
use Rattle.refusals.specs.declared.Refusal.{Refusal}
use Rattle.refusals.specs.Faults.{number}
use Rattle.text_plan.specs.declared.Stated.{Stated}
use Rattle.text_plan.proofs.Answers.{reading-left}
use Rattle.text_plan.proofs.Done.{done-exactly, read-good}
use Rattle.text_owners.specs.Ending.{is_last_line, end_in, lines_in, plan_end, foot_line, PlanEnds}
use Rattle.text_owners.specs.Owners.{owners_line, all_bytes, not_read, after_line, on_line, owners_in}
use Rattle.text_owners.specs.Call.{owners_length, TextAnswer, text_call_of, GivesText}
use Rattle.text_owners.specs.Needs.{FootReady, Owns}
use Rattle.text_owners.specs.Cut.{QuickEnd, CutReady, ReadsCut, counts}
use Rattle.text_owners.proofs.Answers.{passed-refused, plan-refused, foot-refused, foot-passed}
use Rattle.text_owners.proofs.Cutting.{plan-cut}

-- ---- the number of a line matters only to a refusal

module _ (left : List ℕ) (k j : ℕ) where
  after_any : (vs : List ℕ) (t : Pieces) → Owns (after_line k vs t) Passed left → Owns (after_line j vs t) Passed left
  after_any vs (last []) h = h
  after_any vs (last (b ∷ bs)) h = absurd (passed-refused h)
  after_any vs (more l t) h = absurd (passed-refused h)

line-any : (left : List ℕ) (k j : ℕ) (t : Pieces) (o : Option (List ℕ)) → Owns (on_line k t o) Passed left → Owns (on_line j t o) Passed left
line-any left k j t None h = absurd (passed-refused h)
line-any left k j t (Some vs) h = go (all_bytes vs) h
  where
    go : (b : Bool) → Owns (cond b (after_line (k + 1) vs t) (not_read 16 k)) Passed left → Owns (cond b (after_line (j + 1) vs t) (not_read 16 j)) Passed left
    go true h = after_any left (k + 1) (j + 1) vs t h
    go false h = absurd (passed-refused h)

any-line : (left : List ℕ) (m k j : ℕ) (t : Pieces) → Owns (owners_in m k t) Passed left → Owns (owners_in m j t) Passed left
unfolding owners_in
any-line left m k j (last []) h = h
any-line left m k j (last (b ∷ bs)) h = absurd (passed-refused h)
any-line left m k j (more l t) h = line-any left k j t (owners_line m l) h

-- ---- each line takes a byte at least

lines-few : (t : Pieces) → lines_in t ≤ end_in t
unfolding lines_in end_in
lines-few (last l) = omega arith
lines-few (more l t) = go (is_last_line l) (lines-few t)
  where
    go : (b : Bool) → lines_in t ≤ end_in t → 1 + cond b 0 (lines_in t) ≤ length l + 1 + cond b 0 (end_in t)
    go true h = omega arith
    go false h = omega (arith, h)

foot-numbered : (text : List ℕ) → foot_line text ≤ plan_end text + 1
unfolding foot_line plan_end
foot-numbered text = go (ltb largest_text (length text))
  where
    go : (b : Bool) → cond b 1 (lines_in (pieces 10 text) + 1) ≤ cond b (length text) (end_in (pieces 10 text)) + 1
    go true = omega arith
    go false = omega (arith, lines-few (pieces 10 text))

-- ---- the first part was read

module _ (text : List ℕ) (a b c k : ℕ) (end : Place) (ready : CutReady text end k) (r : Reading) (st co va : List ℕ) (call : Gives (call_of (take end.at text) a b c) r st co va) where
  abbrev part : List ℕ
  part = take end.at text

  -- and is no plan
  pub cut-refused : {n d : ℕ} → r.outcome ≡ Refused n d → (ow : List ℕ) → ow ≡ zeros k → ReadsCut text end (text_call_of text a b c k) r st co va ow
  cut-refused q ow w =
      record {
        exact = λ ends. plan-refused text a b c k ready.long end ends r st co va call q ow w;
        passed = λ e. absurd (passed-refused (sym e ∙ q));
      }

  -- or is one
  module _ (q : r.outcome ≡ Passed) where
    stated : StatesPlan b part
    stated = ((done-exactly part a b c r st co va call).0 (ap number_of q)).2

    -- a text above the limit would have been read whole, and refused
    text-short : length text ≤ largest_text
    text-short = go (ltb end.at (length text)) refl
      where
        go : (t : Bool) → ltb end.at (length text) ≡ t → length text ≤ largest_text
        go true e = ready.place.short (ltb-true end.at (length text) e)
        go false e = omega (arith, ap length (sym (take_all end.at text (ltb-false end.at (length text) e)) ∙ stated.text-is), stated.plan.short)

    pub cut-ready : (owners : List ℕ) → owners ≡ zeros k → FootReady text end r.m owners
    cut-ready owners w =
        record {
          place = ready.place.inside;
          numbered = ready.numbered;
          short = text-short;
          few = (read-good part a b c r st co va call (ap number_of q)).few-columns;
          cleared = w ∙ ap zeros ready.long;
        }

    whole : text ≡ plan_text stated.sizes stated.triples ++ drop end.at text
    whole = sym (take-append-drop end.at text) ∙ ap (λ (l : List ℕ). l ++ drop end.at text) stated.text-is

    -- the text was cut where the plan's own text ends
    at-end : plan_end text ≡ end.at
    at-end =
        ap plan_end whole
        ∙ plan-cut b stated.sizes stated.triples (drop end.at text) stated.plan (subst (λ (l : List ℕ). length l ≤ largest_text) whole text-short)
        ∙ ap length (sym stated.text-is) ∙ length-take-le _ _ ready.place.inside

    module _ (o : Outcome) (left : List ℕ) (h : Owns (owners_in r.m end.line (pieces 10 (drop end.at text))) o left) where
      pub cut-foot-refused : {n d : ℕ} → o ≡ Refused n d → (r' : Reading) (st' co' va' ow : List ℕ) → r' ≡ refusal_of o → st' ≡ zeros a → co' ≡ zeros b → va' ≡ zeros c → ow ≡ zeros k
          → ReadsCut text end (text_call_of text a b c k) r' st' co' va' ow
      cut-foot-refused e r' st' co' va' ow f x y z w =
          record {
            exact = λ ends. foot-refused text a b c k ready.long end ends r st co va call q o left h e r' st' co' va' ow f x y z w;
            passed = λ p. absurd (passed-refused (sym p ∙ ap (λ (y : Reading). y.outcome) f ∙ e));
          }

      pub cut-passed : o ≡ Passed → ReadsCut text end (text_call_of text a b c k) r st co va left
      cut-passed e = record { exact = λ ends. answer; passed = λ p. answer }
        where
          answer : GivesText (text_call_of text a b c k) r st co va left
          answer =
              foot-passed text a b c k ready.long (record { at = end.at; line = foot_line text })
              (record { end_is = sym at-end; line-is = refl; inside = ready.place.inside; numbered = omega (arith, foot-numbered text, at-end) }) r st co va call q Passed left
              (any-line left r.m end.line (foot_line text) (pieces 10 (drop end.at text))
              (subst (λ (x : Outcome). Owns (owners_in r.m end.line (pieces 10 (drop end.at text))) x left) e h)) refl

-- `?` hands on that the first part is no plan
pub cut-left : (text : List ℕ) (a b c k : ℕ) (end : Place) → CutReady text end k → (r : Result Stated Refusal) (e : Refusal) (st co va : List ℕ) → IsErrAnd r (λ y. y ≡ e)
    → Gives (call_of (take end.at text) a b c) (refusal_of (Refused (number e.fault) e.detail)) st co va → (ow : List ℕ) → ow ≡ zeros k → ReadsCut text end (text_call_of text a b c k) (reading_of r) st co va ow
cut-left text a b c k end ready r e st co va left call ow w =
    subst (λ (x : Reading). ReadsCut text end (text_call_of text a b c k) x st co va ow) (sym (reading-left r e left))
    (cut-refused text a b c k end ready (refusal_of (Refused (number e.fault) e.detail)) st co va call refl ow w)

-- ---- the loop: the text is read cut at a guess, and then at the plan's end

pub record Trying (text : List ℕ) (end : Place) (exact : Bool) (st₀ st co₀ co va₀ va ow₀ ow : List ℕ) : Type 0 where
  pub ready : CutReady text end (length ow)
  pub exactly : exact ≡ true → PlanEnds text end
  pub starts-long : length st ≡ length st₀
  pub columns-long : length co ≡ length co₀
  pub values-long : length va ≡ length va₀
  pub owners-long : length ow ≡ length ow₀

pub trying-starts : (text : List ℕ) (at : ℕ) (st co va ow : List ℕ) → QuickEnd text at → length ow ≡ owners_length → Trying text (record { at = at; line = 1 }) false st st co co va va ow ow
trying-starts text at st co va ow cut long =
    record {
      ready = record { place = cut; numbered = omega arith; long = long };
      exactly = λ e. absurd (true≢false (sym e));
      starts-long = refl;
      columns-long = refl;
      values-long = refl;
      owners-long = refl;
    }

-- a text above the limit has its plan's end at its own
end_short : (text : List ℕ) (end : Place) → PlanEnds text end → end.at < length text → length text ≤ largest_text
unfolding plan_end
end_short text end ends h = go (ltb largest_text (length text)) refl
  where
    go : (t : Bool) → ltb largest_text (length text) ≡ t → length text ≤ largest_text
    go false e = ltb-false largest_text (length text) e
    go true e =
        let at-end : end.at ≡ length text = ends.end_is ∙ ap (λ (t : Bool). cond t (length text) (end_in (pieces 10 text))) e in
        absurd (omega (arith, at-end, h))

-- the outcome counts
counted : (text : List ℕ) (end : Place) (exact : Bool) (o : Outcome) → (exact ≡ true → PlanEnds text end) → counts exact o ≡ true → PlanEnds text end ⊎ (o ≡ Passed)
counted text end true o h e = inl (h refl)
counted text end false Passed h e = inr refl
counted text end false (Refused n d) h e = absurd (true≢false (sym e))

module _ {text : List ℕ} {end : Place} {exact : Bool} {st₀ st co₀ co va₀ va ow₀ ow : List ℕ} (g : Trying text end exact st₀ st co₀ co va₀ va ow₀ ow) where
  module _ (st' co' va' ow' : List ℕ) where
    -- lists of the same lengths, and the plan's end
    pub trying-turn : length st' ≡ length st → length co' ≡ length co → length va' ≡ length va → length ow' ≡ length ow → (next : Place) → PlanEnds text next
        → Trying text next true st₀ st' co₀ co' va₀ va' ow₀ ow'
    trying-turn e f x y next ends =
        record {
          ready = record { place = record { inside = ends.inside; short = end_short text next ends }; numbered = ends.numbered; long = y ∙ g.ready.long };
          exactly = λ t. ends;
          starts-long = e ∙ g.starts-long;
          columns-long = f ∙ g.columns-long;
          values-long = x ∙ g.values-long;
          owners-long = y ∙ g.owners-long;
        }

    pub trying-counts : (r : Reading) → ReadsCut text end (text_call_of text (length st) (length co) (length va) (length ow)) r st' co' va' ow' → (t : Bool) → t ≡ counts exact r.outcome → t ≡ true
        → GivesText (text_call_of text (length st₀) (length co₀) (length va₀) (length ow₀)) r st' co' va' ow'
    trying-counts r h t e q =
        subst (λ (y : TextAnswer). GivesText y r st' co' va' ow') (λ j. text_call_of text (g.starts-long j) (g.columns-long j) (g.values-long j) (g.owners-long j))
        (go (counted text end exact r.outcome g.exactly (sym e ∙ q)))
      where
        go : PlanEnds text end ⊎ (r.outcome ≡ Passed) → GivesText (text_call_of text (length st) (length co) (length va) (length ow)) r st' co' va' ow'
        go (inl ends) = h.exact ends
        go (inr p) = h.passed p

-- how many times the text may be read once more
abbrev pub tries_left : Bool → ℕ
tries_left exact = cond exact 0 1

pub trying-less : (exact : Bool) (o : Outcome) (t : Bool) → t ≡ counts exact o → t ≡ false → tries_left true < tries_left exact
trying-less true o t e q = absurd (true≢false (sym e ∙ q))
trying-less false o t e q = omega arith
