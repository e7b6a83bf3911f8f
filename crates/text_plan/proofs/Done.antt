-- What a call that reads a text returns and leaves.
--   done-exactly            it returns 0 exactly if its lists have their lengths and the text states a plan for which they have room
--   holds-stated            and then the result and the lists hold that plan
--   read-good               which every later call takes
--   each-stated             each triple that is stated is stored: its residue stands at its place
--   refused-by, read-by     else it returns one of 9 and 1 to 7
--   read-cleared            and leaves p, n, m, the entry count and all lists 0
--   read-any-order          the order of the triples does not matter: texts that state the same triples leave the same
--   read-rising-as-before   a text that was accepted while triples had to rise is read as it was, and leaves what it left
--   accepted-exactly        line by line: a text is accepted, as these sizes and entries, exactly if it states that plan
use mathlib.Core.Path.{◌≡◌, refl, sym, ap, ◌∙◌, subst}
use mathlib.Core.Logic.{◌↔◌}
use mathlib.Core.List.{List, [], ◌∷◌, ◌++◌}
use mathlib.Core.Bool.{Bool, true, false, cond, ◌&&◌, not, true≢false}
use Prim.Native.Nat.{ℕ, ◌+◌, ◌-◌}
use native.Mathlib.Omega.{arith}
use lib.Dec.{eqb, leb, ltb}
use lib.ListN.{length}
use borrow.Author.Tests.{eqb-true, eq-eqb}
use Rattle.lists.specs.Tests.{among}
use Rattle.refusals.specs.Table.{text_faults}
use Rattle.refusals.specs.Refusals.{number_of, NumberFrom}
use Rattle.refusals.proofs.Refusals.{RefusedBy, number-from}
use Rattle.lists.specs.Filled.{zeros}
use Rattle.lists.proofs.Bools.{and_left, and_right}
use Rattle.text_fields.specs.Pieces.{Pieces, last, more, pieces}
use Rattle.text_fields.specs.Number.{number_in}
use Rattle.std.specs.Prelude.{Option, Some, None}
use Rattle.residue.specs.Range.{is_modulus}
use Rattle.residue.specs.Signed.{residue_of}
use Rattle.sparse.specs.Matrix.{compressed, matrix, form}
use Rattle.sparse.proofs.Rows.{form-paired}
use Rattle.lists.specs.Members.{Member}
use Rattle.text_judge.specs.declared.header.Header.{Header}
use Rattle.text_judge.specs.declared.line.Triple.{Triple}
use Rattle.text_judge.specs.declared.judge.Sizes.{Sizes}
use Rattle.text_judge.specs.Judge.{Verdict, Refused, Last, Entry as AnEntry}
use Rattle.text_plan.specs.Call.{Reading}
use Rattle.limits.specs.Limits.{largest_size, largest_text, starts_length}
use Rattle.call_plan.specs.Accepted.{GoodPlan}
use Rattle.text_judge.specs.Line.{header_of}
use Rattle.text_judge.specs.Judge.{judge_line, in_range, is_last, within, residue_at}
use Rattle.text_opening.specs.Reading.{Entry, ReadResult, refused, accepted, fresh, ending, onward, triples, verdict_on, with_sizes, from_second, with_modulus, from_first, read_by, read_of}
use Rattle.text_plan.specs.Rising.{read_rising_of}
use Rattle.text_plan.specs.Stating.{States, StatedEntry, Plan, plan_text, entries_of, integer_of}
use Rattle.text_plan.specs.Call.{ReadAnswer, refuses, answer_by, read_answer_of, answer_rising_of, call_of, Gives}
use Rattle.text_plan.specs.Held.{held_plan, StatesPlan, HoldsPlan, ReadCleared}
use Rattle.text_plan.proofs.Accepted.{accepted-states}
use Rattle.text_plan.proofs.Printed.{reads-stated}
use Rattle.text_plan.proofs.AsStated.{stored-as-stated, stated-found, stated-inside}
use Rattle.text_plan.proofs.EntryLimit.{few-entries}
use Rattle.text_plan.proofs.AnyOrder.{order-free}
use Rattle.text_plan.proofs.RisingFirst.{rising-as-before}

-- ---- every refusal has a number of the table
abbrev Numbered : ReadResult → Type 0
Numbered (refused c d) = among c text_faults ≡ true
Numbered (accepted s seen) = Unit {0}

abbrev VerdictNumbered : Verdict → Type 0
VerdictNumbered (Refused c) = among c text_faults ≡ true
VerdictNumbered Last = Unit {0}
VerdictNumbered (AnEntry i j v) = Unit {0}

judge-numbered : (stands full : Bool) (s : Sizes) (l : Option Triple) → VerdictNumbered (judge_line stands full s l)
unfolding judge_line among
judge-numbered stands full s None = refl
judge-numbered stands full s (Some l) = go (is_last l.i l.j l.v) (within l.i s.n && within l.j s.m) stands (in_range l.v) (not (eqb (residue_at s.modulus.p l.v) 0) && full)
  where
    go : (a b c d e : Bool) → VerdictNumbered (cond a Last (cond b (cond c (cond d (cond e (Refused 7) (AnEntry l.i l.j (residue_at s.modulus.p l.v))) (Refused 6)) (Refused 5)) (Refused 4)))
    go true b c d e = tt
    go false false c d e = refl
    go false true false d e = refl
    go false true true false e = refl
    go false true true true true = refl
    go false true true true false = tt

ending-numbered : (s : Sizes) (k : ℕ) (seen : List Entry) (p : Pieces) → Numbered (ending s k seen p)
unfolding among
ending-numbered s k seen (last []) = tt
ending-numbered s k seen (last (b ∷ bs)) = refl
ending-numbered s k seen (more l t) = refl

triples-numbered : (s : Sizes) (room k : ℕ) (seen : List Entry) (p : Pieces) → Numbered (triples fresh s room k seen p)
unfolding triples among
triples-numbered s room k seen (last l) = refl
triples-numbered s room k seen (more l rest) = go (verdict_on fresh s room seen l) (judge-numbered _ _ s _) (λ t. triples-numbered s room (k + 1) (t ∷ seen) rest)
  where
    go : (v : Verdict) → VerdictNumbered v → ((t : Entry) → Numbered (triples fresh s room (k + 1) (t ∷ seen) rest)) → Numbered (onward s k seen rest (λ t. triples fresh s room (k + 1) (t ∷ seen) rest) v)
    go (Refused c) h ih = h
    go Last h ih = ending-numbered s (k + 1) seen rest
    go (AnEntry i j v) h ih = ih (record { row = i; column = j; value = v })

sizes-numbered : (p room : ℕ) (rest : Pieces) (h : Option Header) → Numbered (with_sizes fresh p room rest h)
unfolding among
sizes-numbered p room rest None = refl
sizes-numbered p room rest (Some h) = go (leb h.n largest_size && leb h.m largest_size)
  where
    go : (t : Bool) → Numbered (cond t (triples fresh (record { modulus = record { p = p }; n = h.n; m = h.m }) room 3 [] rest) (refused 2 0))
    go true = triples-numbered (record { modulus = record { p = p }; n = h.n; m = h.m }) room 3 [] rest
    go false = refl

second-numbered : (p room : ℕ) (t : Pieces) → Numbered (from_second fresh p room t)
unfolding among
second-numbered p room (last l) = refl
second-numbered p room (more l rest) = sizes-numbered p room rest (header_of l)

modulus-numbered : (room : ℕ) (rest : Pieces) (n : Option ℕ) → Numbered (with_modulus fresh room rest n)
unfolding among
modulus-numbered room rest None = refl
modulus-numbered room rest (Some p) = go (is_modulus p)
  where
    go : (t : Bool) → Numbered (cond t (from_second fresh p room rest) (refused 1 0))
    go true = second-numbered p room rest
    go false = refl

first-numbered : (room : ℕ) (t : Pieces) → Numbered (from_first fresh room t)
unfolding among
first-numbered room (last l) = refl
first-numbered room (more l rest) = modulus-numbered room rest (number_in l)

read-numbered : (room : ℕ) (text : List ℕ) → Numbered (read_of room text)
unfolding read_by among
read-numbered room text = go (ltb largest_text (length text))
  where
    go : (t : Bool) → Numbered (cond t (refused 2 0) (from_first fresh room (pieces 10 text)))
    go true = refl
    go false = first-numbered room (pieces 10 text)

pub not-zero : (k : ℕ) → among k text_faults ≡ true → ¬ (k ≡ 0)
unfolding among
not-zero k h z = true≢false (sym h ∙ ap (λ (i : ℕ). among i text_faults) z)

-- ---- a call that returns 0
pub record Accepts (text : List ℕ) (a b c : ℕ) : Type 0 where
  pub starts-length : a ≡ starts_length
  pub lists_length : b ≡ c
  pub sizes : Sizes
  pub seen : List Entry
  pub read_is : read_of b text ≡ accepted sizes seen
  pub answer-is : call_of text a b c ≡ read_answer_of b (accepted sizes seen)

pub done-accepts : (text : List ℕ) (a b c : ℕ) → number_of (call_of text a b c).result.outcome ≡ 0 → Accepts text a b c
unfolding call_of answer_by
done-accepts text a b c z = go (eqb a starts_length && eqb b c) (read_of b text) refl refl (read-numbered b text) z
  where
    go : (t : Bool) (o : ReadResult) → (eqb a starts_length && eqb b c) ≡ t → read_of b text ≡ o → Numbered o → number_of (cond t (read_answer_of b o) (refuses 9 0 a b c)).result.outcome ≡ 0 → Accepts text a b c
    go false o e r n z = absurd (omega arith)
    go true (refused k d) e r n z = absurd (not-zero k n z)
    go true (accepted s seen) e r n z =
        record {
          starts-length = eqb-true a starts_length (and_left (eqb a starts_length) (eqb b c) e);
          lists_length = eqb-true b c (and_right (eqb a starts_length) (eqb b c) e);
          sizes = s;
          seen = seen;
          read_is = r;
          answer-is = (λ j. cond (e j) (read_answer_of b (r j)) (refuses 9 0 a b c));
        }

-- ---- the plan that the lists hold

-- the answer x holds the plan
abbrev Holds : Sizes → List StatedEntry → ReadAnswer → Type 0
Holds s ts x = HoldsPlan s ts x.result x.starts x.columns x.values

-- lists of the right lengths: the call is the reading
call-answers : (text : List ℕ) (a b c : ℕ) → a ≡ starts_length → b ≡ c → call_of text a b c ≡ read_answer_of b (read_of b text)
unfolding call_of
call-answers text a b c long paired = rw (eq-eqb a starts_length long, eq-eqb b c paired)

-- Lists of the right lengths, with room, hold after a text the plan that it states.
answer-holds : (text : List ℕ) (a b c : ℕ) → a ≡ starts_length → b ≡ c → (h : StatesPlan b text) → Holds h.sizes h.triples (call_of text a b c)
answer-holds text a b c long paired h =
    subst (Holds h.sizes h.triples)
    (sym (call-answers text a b c long paired ∙ ap (read_answer_of b) (ap (read_of b) h.text-is ∙ reads-stated b h.sizes h.triples h.plan)))
    (stored-as-stated b h.sizes h.triples h.plan)

accepts-stated : (text : List ℕ) (a b c : ℕ) → Accepts text a b c → StatesPlan b text
accepts-stated text a b c h =
    let x = accepted-states b h.sizes text h.seen h.read_is in
    record { sizes = h.sizes; triples = x.stated; plan = x.plan; text-is = x.text-is }

-- the answer that a call's result and lists are
answer-given : (x : ReadAnswer) (r : Reading) (st co va : List ℕ) → Gives x r st co va → x ≡ record { result = r; starts = st; columns = co; values = va }
answer-given x r st co va g t = record { result = sym g.result-is t; starts = sym g.starts-are t; columns = sym g.columns-are t; values = sym g.values-are t }

-- ---- of a call: its text, the lengths of the lists that it was lent, its result and the lists as it left them

module _ (text : List ℕ) (a b c : ℕ) (r : Reading) (st co va : List ℕ) (call : Gives (call_of text a b c) r st co va) where
  given : call_of text a b c ≡ record { result = r; starts = st; columns = co; values = va }
  given = answer-given (call_of text a b c) r st co va call

  pub holds-stated : a ≡ starts_length → b ≡ c → (h : StatesPlan b text) → HoldsPlan h.sizes h.triples r st co va
  holds-stated long paired h = subst (Holds h.sizes h.triples) given (answer-holds text a b c long paired h)

  pub done-exactly : (number_of r.outcome ≡ 0) ↔ ((a ≡ starts_length) × (b ≡ c) × StatesPlan b text)
  done-exactly = (
    (λ z. let h = done-accepts text a b c (ap (λ (x : ReadAnswer). number_of x.result.outcome) given ∙ z) in (h.starts-length, h.lists_length, accepts-stated text a b c h)),
    λ h. ap number_of (holds-stated h.0 h.1 h.2).done,
  )

  pub read-good : number_of r.outcome ≡ 0 → GoodPlan r.p r.n r.m (held_plan r (compressed st co va))
  read-good z =
      let (long, paired, h) = done-exactly.0 z in
      let x = holds-stated long paired h in
      let A = held_plan r (compressed st co va) in
      let formed : form r.p r.m A ≡ true = (λ t. form (x.modulus-is t) (x.columns-are t) A) ∙ x.formed in
      let few = few-entries b h.sizes (plan_text h.sizes h.triples) (entries_of h.sizes.modulus.p h.triples) (reads-stated b h.sizes h.triples h.plan) in
      record {
        modulus = ap is_modulus x.modulus-is ∙ h.plan.modulus;
        rows = x.starts-stored ∙ ap (λ (k : ℕ). k + 1) (sym x.rows_are);
        paired = form-paired r.p r.m A.starts A.cols A.vals formed;
        few-rows = omega (arith, x.rows_are, h.plan.rows);
        few-columns = omega (arith, x.columns-are, h.plan.columns);
        few-entries = omega (arith, x.entries-stored, x.count-is, few);
        formed = formed;
      }

  pub refused-by : RefusedBy text_faults r.outcome
  unfolding call_of answer_by among
  refused-by =
      subst (λ (x : ReadAnswer). RefusedBy text_faults x.result.outcome) given
      (go (eqb a starts_length && eqb b c) (read_of b text) (read-numbered b text))
    where
      go : (t : Bool) (o : ReadResult) → Numbered o → RefusedBy text_faults (cond t (read_answer_of b o) (refuses 9 0 a b c)).result.outcome
      go false o n = refl
      go true (refused k d) n = n
      go true (accepted s seen) n = tt

  pub read-by : NumberFrom text_faults (number_of r.outcome)
  read-by = number-from text_faults r.outcome refused-by

  pub read-cleared : ¬ (number_of r.outcome ≡ 0) → ReadCleared a b c r st co va
  unfolding call_of answer_by
  read-cleared = subst (λ (x : ReadAnswer). ¬ (number_of x.result.outcome ≡ 0) → ReadCleared a b c x.result x.starts x.columns x.values) given (go (eqb a starts_length && eqb b c) (read_of b text) refl)
    where
      go : (t : Bool) (o : ReadResult) → (eqb a starts_length && eqb b c) ≡ t
          → let x = cond t (read_answer_of b o) (refuses 9 0 a b c) in ¬ (number_of x.result.outcome ≡ 0) → ReadCleared a b c x.result x.starts x.columns x.values
      go false o e n = record { result-is = refl; starts-are = refl; columns-are = refl; values-are = refl }
      go true (refused k d) e n =
          record {
            result-is = refl;
            starts-are = ap zeros (sym (eqb-true a starts_length (and_left (eqb a starts_length) (eqb b c) e)));
            columns-are = refl;
            values-are = ap zeros (eqb-true b c (and_right (eqb a starts_length) (eqb b c) e));
          }
      go true (accepted s seen) e n = absurd (n refl)

  pub read-rising-as-before : (s : Sizes) (seen : List Entry) → a ≡ starts_length → b ≡ c → read_rising_of b text ≡ accepted s seen
      → (read_of b text ≡ accepted s seen) × Gives (answer_rising_of b (read_rising_of b text)) r st co va
  read-rising-as-before s seen long paired e =
      let (read, left) = rising-as-before b s text seen e in
      (read, subst (λ (x : ReadAnswer). Gives x r st co va) (call-answers text a b c long paired ∙ left) call)

-- ts and us are the same triples, in any order
pub read-any-order : (s : Sizes) (room : ℕ) (ts us : List StatedEntry) → Plan room s ts → Plan room s us → ((t : StatedEntry) → Member t ts ↔ Member t us)
    → (r : Reading) (st co va : List ℕ) → Gives (call_of (plan_text s ts) starts_length room room) r st co va → Gives (call_of (plan_text s us) starts_length room room) r st co va
read-any-order s room ts us g h same r st co va call =
    subst (λ (x : ReadAnswer). Gives x r st co va)
    (call-answers (plan_text s ts) starts_length room room refl refl ∙ order-free room s ts us g h same ∙ sym (call-answers (plan_text s us) starts_length room room refl refl)) call

-- t is any of the triples of a plan that is stated: xs stand before it, ys after it
pub each-stated : (s : Sizes) (room : ℕ) (xs : List StatedEntry) (t : StatedEntry) (ys : List StatedEntry) → Plan room s (xs ++ (t ∷ ys))
    → (r : Reading) (st co va : List ℕ) → Gives (call_of (plan_text s (xs ++ (t ∷ ys))) starts_length room room) r st co va
    → matrix (held_plan r (compressed st co va)) (t.row - 1) (t.column - 1) ≡ residue_of s.modulus.p (integer_of t.value)
each-stated s room xs t ys h r st co va call =
    let ts = xs ++ (t ∷ ys) in
    let place = stated-inside s [] xs t ys h.apart in
    (holds-stated (plan_text s ts) starts_length room room r st co va call refl refl (record { sizes = s; triples = ts; plan = h; text-is = refl })).cells (t.row - 1) (t.column - 1) place.0 place.1
    ∙ stated-found s [] xs t ys h.apart

-- ---- line by line

pub accepted-exactly : (room : ℕ) (s : Sizes) (text : List ℕ) (out : List Entry) → (read_of room text ≡ accepted s out) ↔ States room s text out
accepted-exactly room s text out = (
  accepted-states room s text out,
  λ h. ap (read_of room) h.text-is ∙ reads-stated room s h.stated h.plan ∙ ap (accepted s) (sym h.entries-are),
)
