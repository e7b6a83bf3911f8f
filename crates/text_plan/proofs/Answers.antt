-- From what the steps of reading return to the call's answer.
use mathlib.Core.Path.{◌≡◌, refl, sym, ap, ◌∙◌, subst}
use mathlib.Core.List.{List, []}
use mathlib.Core.Bool.{Bool, true, false}
use Prim.Native.Nat.{ℕ, ◌≤◌, ◌<◌}
use Rattle.std.specs.Prelude.{Result, Ok, Err}
use Rattle.std.specs.Result.{IsErrAnd}
use Rattle.refusals.specs.declared.Refusal.{Refusal}
use Rattle.refusals.specs.Faults.{number}
use Rattle.refusals.specs.Refusals.{unless}
use Rattle.text_plan.specs.declared.Stated.{Stated}
use native.Mathlib.Omega.{arith}
use lib.ListN.{length}
use borrow.Author.Tests.{eq-eqb, ne_eqb}
use Rattle.lists.specs.Filled.{zeros}
use Rattle.refusals.specs.Outcome.{Passed, Refused as Ended}
use Rattle.text_fields.specs.Pieces.{Pieces}
use Rattle.text_judge.specs.declared.judge.Sizes.{Sizes}
use Rattle.text_plan.specs.Call.{Reading}
use Rattle.text_plan.specs.Needs.{TripleLines, Refused, Read}
use Rattle.limits.specs.Limits.{largest_size, starts_length}
use Rattle.text_opening.specs.Reading.{Entry, ReadResult, refused, accepted, fresh, placed, triples, read_of}
use Rattle.text_plan.specs.Stored.{RowsWithin, starts_of}
use Rattle.text_plan.specs.Call.{Gives, answer_by, read_answer_of, call_of, refusal_of, reading_of}
use Rattle.text_plan.specs.Needs.{StoresAll, Settles}
use Rattle.text_plan.proofs.StoredForm.{starts-length}
use Rattle.text_plan.proofs.Accepted.{triples-sizes}
use Rattle.text_plan.proofs.Settling.{refused-read, refused-both}

-- a refusal that `?` hands on
pub reading-left : (r : Result Stated Refusal) (e : Refusal) → IsErrAnd r (λ y. y ≡ e) → reading_of r ≡ refusal_of (Ended (number e.fault) e.detail)
reading-left (Ok x) e h = absurd h
reading-left (Err y) e h = ap (λ (q : Refusal). refusal_of (Ended (number q.fault) q.detail)) h

-- the same at a test of lengths
pub wrong-long : (r : Result Stated Refusal) (e : Refusal) (b : Bool) → IsErrAnd r (λ y. y ≡ e) → Ended (number e.fault) e.detail ≡ unless b 9 0 → (b ≡ false) × (reading_of r ≡ refusal_of (Ended 9 0))
wrong-long r e true h f = absurd (let z : ◌≡◌ {A = ℕ} 0 1 = cc in omega arith)
wrong-long r e false h f = (refl, reading-left r e h ∙ ap refusal_of f)

-- a refusal, and lists that are all zero
pub gives-refusal : (room : ℕ) (o : ReadResult) (c k : ℕ) (r : Reading) (st co va : List ℕ) → o ≡ refused c k → r ≡ refusal_of (Ended c k)
    → st ≡ zeros starts_length → co ≡ zeros room → va ≡ zeros room → Gives (read_answer_of room o) r st co va
unfolding answer_by
gives-refusal room o c k r st co va e f x y z =
    subst (λ (q : ReadResult). Gives (read_answer_of room q) r st co va) (sym e) (record { result-is = f; starts-are = x; columns-are = y; values-are = z })

-- the triples are refused
pub settles-refused : (room : ℕ) (o : ReadResult) (c k : ℕ) (r : TripleLines) (st co va : List ℕ) → Settles room o r st co va → r ≡ Refused c k → o ≡ refused c k
settles-refused room (refused a b) c k r st co va h e = let q = refused-both (sym h ∙ e) in (λ j. refused (q.0 j) (q.1 j))
settles-refused room (accepted s seen) c k (Refused a b) st co va h e = absurd h
settles-refused room (accepted s seen) c k (Read n i) st co va h e = refused-read (sym e)

-- the triples are read: the starts can be extended to all rows, and that is the answer
module _ (s : Sizes) (room line : ℕ) (p : Pieces) (r : TripleLines) (st co va : List ℕ) (count row : ℕ) (is : r ≡ Read count row) (limit : s.n ≤ largest_size) where
  pub extendable : (o : ReadResult) → o ≡ triples fresh s room line [] p → Settles room o r st co va → (row ≤ s.n) × (s.n < starts_length) × (length st ≡ starts_length)
  extendable (refused a b) t h = refused-read (sym h ∙ is)
  extendable (accepted s' seen) t h =
      let e = subst (λ (x : TripleLines). StoresAll s'.n room (placed s' seen) x st co va) is h in
      let inside = subst (λ (z : Sizes). row ≤ z.n) (triples-sizes s s' room p line seen (sym t)) e.1 in
      (inside, omega arith, ap length e.0.starts-are ∙ starts-length row (placed s' seen) (omega arith))

  pub gives-read : (o : ReadResult) → o ≡ triples fresh s room line [] p → Settles room o r st co va → (st' : List ℕ)
      → ((es : List Entry) → RowsWithin row es → count ≡ length es → st ≡ starts_of row es → st' ≡ starts_of s.n es)
      → Gives (read_answer_of room o) (record { outcome = Passed; p = s.modulus.p; n = s.n; m = s.m; count = count }) st' co va
  unfolding answer_by
  gives-read (refused a b) t h st' extend = refused-read (sym h ∙ is)
  gives-read (accepted s' seen) t h st' extend =
      let e = (subst (λ (x : TripleLines). StoresAll s'.n room (placed s' seen) x st co va) is h).0 in
      let same : s ≡ s' = sym (triples-sizes s s' room p line seen (sym t)) in
      record {
        result-is = (λ j. record { outcome = Passed; p = (same j).modulus.p; n = (same j).n; m = (same j).m; count = e.number j });
        starts-are = extend (placed s' seen) e.rows e.number e.starts-are ∙ ap (λ (z : Sizes). starts_of z.n (placed s' seen)) same;
        columns-are = e.columns-are;
        values-are = e.values-are;
      }

-- ---- the call: wrong lengths are 9
module _ (text : List ℕ) (a b c : ℕ) (r : Reading) (st co va : List ℕ) where
  pub call-reads : a ≡ starts_length → b ≡ c → Gives (read_answer_of b (read_of b text)) r st co va → Gives (call_of text a b c) r st co va
  unfolding call_of
  call-reads x y h = rw (eq-eqb a starts_length x, eq-eqb b c y) h

  module _ (f : r ≡ refusal_of (Ended 9 0)) (x : st ≡ zeros a) (y : co ≡ zeros b) (z : va ≡ zeros c) where
    pub call-starts : (a ≡ starts_length → ⊥) → Gives (call_of text a b c) r st co va
    unfolding call_of
    call-starts n = rw (ne_eqb a starts_length n) (record { result-is = f; starts-are = x; columns-are = y; values-are = z })

    pub call-lists : a ≡ starts_length → (b ≡ c → ⊥) → Gives (call_of text a b c) r st co va
    unfolding call_of
    call-lists m n = rw (eq-eqb a starts_length m, ne_eqb b c n) (record { result-is = f; starts-are = x; columns-are = y; values-are = z })
