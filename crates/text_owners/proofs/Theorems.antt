-- What a call that reads a text with owners returns and leaves.
--   read-exactly              it returns 0 exactly if its lists have their lengths and the text states a plan, for which they have room, and owners
--   holds-stated              and then the result and the lists hold that plan
--   owners-stated             and the list of owners holds those owners
--   read-good                 every later call takes the plan
--   each-stated               each triple that is stated is stored: its residue stands at its place
--   refused-by, read-by       else it returns one of 9, 1 to 7 and 16
--   read-cleared              and leaves p, n, m, the entry count and all lists of the plan 0
--   owners-cleared            and every owner 0
--   read-any-order            the order of the triples does not matter: texts that state the same triples and owners leave the same
--   read-as-before            a text that states a plan alone is read as it was, and every word belongs to customer 1
--   read-rising-as-before     a text that was accepted while triples had to rise is read as it was, and leaves what it left
--   owner-too-large           a plan with the line of owners of which one is above 255 is refused by 16 with that line
--   owners-alone              owners change nothing of the plan that is read
use mathlib.Core.Path.{◌≡◌, refl, sym, ap, ◌∙◌, subst}
use mathlib.Core.Logic.{◌↔◌, ◌⊎◌, inl, inr}
use mathlib.Core.List.{List, [], ◌∷◌, ◌++◌, append-nil}
use mathlib.Core.Bool.{Bool, true, false, cond}
use Prim.Native.Nat.{ℕ, ◌+◌, ◌-◌, ◌^◌, ◌≤◌, ◌<◌}
use lib.Dec.{eqb, ltb}
use lib.ListN.{length, get_or, take, replicate, length-replicate, take-append-drop}
use lib.Seq.{take-length}
use borrow.Author.Tests.{eqb-true, ltb-false}
use Rattle.lists.specs.Tests.{among}
use Rattle.lists.specs.Filled.{zeros, filled}
use Rattle.lists.specs.Members.{Member}
use Rattle.limits.specs.Limits.{largest_text, starts_length}
use Rattle.refusals.specs.Table.{wrong_length, owner_too_large, text_faults}
use Rattle.refusals.specs.Refusals.{number_of, NumberFrom}
use Rattle.refusals.specs.Outcome.{Outcome}
use Rattle.refusals.specs.Outcome.{Passed, Refused}
use Rattle.refusals.proofs.Refusals.{RefusedBy, number-from}
use Rattle.residue.specs.Signed.{residue_of}
use Rattle.sparse.specs.Matrix.{compressed, matrix}
use Rattle.call_plan.specs.Accepted.{GoodPlan}
use Rattle.text_fields.specs.Pieces.{pieces}
use Rattle.text_judge.specs.declared.judge.Sizes.{Sizes}
use Rattle.text_opening.specs.Reading.{Entry, accepted, read_of}
use Rattle.text_plan.specs.Call.{Reading}
use Rattle.text_plan.specs.Rising.{read_rising_of}
use Rattle.text_plan.specs.Stating.{StatedEntry, Plan, plan_text, integer_of}
use Rattle.text_plan.specs.Call.{ReadAnswer, refusal_of, answer_rising_of, call_of, Gives}
use Rattle.text_plan.specs.Held.{held_plan, StatesPlan, HoldsPlan, ReadCleared}
use Rattle.text_plan.proofs.RisingFirst.{rising-as-before}
use Rattle.text_plan.proofs.Done as plain
use Rattle.text_owners.specs.Ending.{plan_end, plan_part, foot_part, foot_line}
use Rattle.text_owners.specs.Owners.{all_bytes, OwnersRead, not_read, owned, owners_in}
use Rattle.text_owners.specs.Call.{owners_length, TextAnswer, refuses_text, foot_of, after_plan, answer_with, text_call_of, GivesText}
use Rattle.text_owners.specs.Stating.{owners_text, StatesOwners, StatesText}
use Rattle.text_owners.proofs.Cutting.{foot-line, plan-part, foot-part}
use Rattle.text_owners.proofs.Footing.{owned-exactly, too_large, FootRefused, foot-refused, ones-bytes}

-- ---- a call either refuses and clears all, or reads both parts of the text

-- the plan's part, read
abbrev plan_read : List ℕ → (a b c : ℕ) → ReadAnswer
plan_read text a b c = call_of (plan_part text) a b c

-- what an answer gives is itself
gives-itself : (x : ReadAnswer) → Gives x x.result x.starts x.columns x.values
gives-itself x = record { result-is = refl; starts-are = refl; columns-are = refl; values-are = refl }

-- the call refuses, by a number of the table
record Refuses (text : List ℕ) (a b c k : ℕ) : Type 0 where
  number : ℕ
  detail : ℕ
  from-table : among number text_faults ≡ true
  answer-is : text_call_of text a b c k ≡ refuses_text number detail a b c k

-- the call reads a plan, and owners after it
record Reads (text : List ℕ) (a b c k : ℕ) : Type 0 where
  owners-length : k ≡ owners_length
  passed : (plan_read text a b c).result.outcome ≡ Passed
  stated : List ℕ
  foot-is : foot_of text (plan_read text a b c).result.m ≡ owned stated
  answer-is : text_call_of text a b c k ≡ record { plan = plan_read text a b c; owners = filled k stated }

-- 3 and 16 are numbers of the table
foot-numbered : (number detail : ℕ) → FootRefused (not_read number detail) → among number text_faults ≡ true
unfolding among
foot-numbered number detail (inl e) = ap (λ (i : ℕ). among i text_faults) e
foot-numbered number detail (inr e) = ap (λ (i : ℕ). among i text_faults) e

answered : (text : List ℕ) (a b c k : ℕ) → Refuses text a b c k ⊎ Reads text a b c k
unfolding text_call_of foot_of among
answered text a b c k =
    let x = plan_read text a b c in
    go (eqb k owners_length) x.result.outcome (foot_of text x.result.m) refl refl refl
    (plain.refused-by (plan_part text) a b c x.result x.starts x.columns x.values (gives-itself x))
    (foot-refused x.result.m (foot_line text) (pieces 10 (foot_part text)))
  where
    plan : ReadAnswer
    plan = plan_read text a b c

    answer : Bool → Outcome → OwnersRead → TextAnswer
    answer t o f = cond t (answer_with a b c k plan (after_plan o f)) (refuses_text wrong_length 0 a b c k)

    go : (t : Bool) (o : Outcome) (f : OwnersRead) → eqb k owners_length ≡ t → plan.result.outcome ≡ o → foot_of text plan.result.m ≡ f → RefusedBy text_faults o → FootRefused f
        → Refuses text a b c k ⊎ Reads text a b c k
    go false o f e p q n g = inl (record { number = wrong_length; detail = 0; from-table = refl; answer-is = (λ j. answer (e j) (p j) (q j)) })
    go true (Refused number detail) f e p q n g = inl (record { number = number; detail = detail; from-table = n; answer-is = (λ j. answer (e j) (p j) (q j)) })
    go true Passed (not_read number detail) e p q n g = inl (record { number = number; detail = detail; from-table = foot-numbered number detail g; answer-is = (λ j. answer (e j) (p j) (q j)) })
    go true Passed (owned vs) e p q n g = inr (record { owners-length = eqb-true k owners_length e; passed = p; stated = vs; foot-is = q; answer-is = (λ j. answer (e j) (p j) (q j)) })

-- ---- a text that states a plan, with something after it, and lists of the right lengths

module _ (room : ℕ) (s : Sizes) (ts : List StatedEntry) (foot : List ℕ) (h : Plan room s ts) (short : length (plan_text s ts ++ foot) ≤ largest_text) where
  -- the plan is read as it is without the foot, and the foot decides
  then-foot : text_call_of (plan_text s ts ++ foot) starts_length room room owners_length
      ≡ answer_with starts_length room room owners_length (call_of (plan_text s ts) starts_length room room) (owners_in s.m (length ts + 4) (pieces 10 foot))
  unfolding text_call_of foot_of
  then-foot = (λ j. cut (plan-part room s ts foot h short j) (foot-line room s ts foot h short j) (foot-part room s ts foot h short j)) ∙ (λ j. opened (held.done j) (held.columns-are j))
    where
      cut : List ℕ → ℕ → List ℕ → TextAnswer
      cut plan line rest =
          let x = call_of plan starts_length room room in
          answer_with starts_length room room owners_length x (after_plan x.result.outcome (owners_in x.result.m line (pieces 10 rest)))

      x : ReadAnswer
      x = call_of (plan_text s ts) starts_length room room

      held : HoldsPlan s ts x.result x.starts x.columns x.values
      held = plain.holds-stated (plan_text s ts) starts_length room room x.result x.starts x.columns x.values (gives-itself x) refl refl (record { sizes = s; triples = ts; plan = h; text-is = refl })

      opened : Outcome → ℕ → TextAnswer
      opened o m = answer_with starts_length room room owners_length x (after_plan o (owners_in m (length ts + 4) (pieces 10 foot)))

  then-owners : (vs : List ℕ) → StatesOwners s.m foot vs
      → text_call_of (plan_text s ts ++ foot) starts_length room room owners_length ≡ record { plan = call_of (plan_text s ts) starts_length room room; owners = filled owners_length vs }
  then-owners vs said = then-foot ∙ ap (answer_with starts_length room room owners_length (call_of (plan_text s ts) starts_length room room)) ((owned-exactly s.m (length ts + 4) foot vs).1 said)

stated-answer : (text : List ℕ) (a b c k : ℕ) → a ≡ starts_length → b ≡ c → k ≡ owners_length → (h : StatesText b text)
    → text_call_of text a b c k ≡ record { plan = call_of (plan_text h.sizes h.triples) a b c; owners = filled owners_length h.owners }
stated-answer text a b c k long paired full h =
    (λ j. text_call_of (h.text-is j) (long j) b (sym paired j) (full j))
    ∙ then-owners b h.sizes h.triples h.foot h.plan (subst (λ (l : List ℕ). length l ≤ largest_text) h.text-is h.short) h.owners h.owners-stated
    ∙ (λ j. record { plan = call_of (plan_text h.sizes h.triples) (sym long j) b (paired j); owners = filled owners_length h.owners })

-- a text above the limit has no plan part of its own, and is refused
part-short : (text : List ℕ) → length (plan_part text) ≤ largest_text → length text ≤ largest_text
unfolding plan_end
part-short text short = go (ltb largest_text (length text)) refl
  where
    go : (t : Bool) → ltb largest_text (length text) ≡ t → length text ≤ largest_text
    go false e = ltb-false largest_text (length text) e
    go true e =
        let whole : plan_end text ≡ length text = rw e in
        subst (λ (l : List ℕ). length l ≤ largest_text) (ap (λ (i : ℕ). take i text) whole ∙ take-length text) short

-- what is read is stated
reads-stated : (text : List ℕ) (a b c k : ℕ) → Reads text a b c k → (a ≡ starts_length) × (b ≡ c) × (k ≡ owners_length) × StatesText b text
unfolding foot_of
reads-stated text a b c k h =
    let x = plan_read text a b c in
    let (long, paired, g) = (plain.done-exactly (plan_part text) a b c x.result x.starts x.columns x.values (gives-itself x)).0 (ap number_of h.passed) in
    let held = plain.holds-stated (plan_part text) a b c x.result x.starts x.columns x.values (gives-itself x) long paired g in (
      long,
      paired,
      h.owners-length,
      record {
        sizes = g.sizes;
        triples = g.triples;
        plan = g.plan;
        foot = foot_part text;
        owners = h.stated;
        owners-stated = subst (λ (m : ℕ). StatesOwners m (foot_part text) h.stated) held.columns-are ((owned-exactly x.result.m (foot_line text) (foot_part text) h.stated).0 h.foot-is);
        text-is = sym (take-append-drop (plan_end text) text) ∙ ap (λ (l : List ℕ). l ++ foot_part text) g.text-is;
        short = part-short text (subst (λ (l : List ℕ). length l ≤ largest_text) (sym g.text-is) g.plan.short);
      },
    )

-- a text that states a plan alone: every word belongs to customer 1
abbrev without-line : (room : ℕ) (text : List ℕ) → StatesPlan room text → StatesText room text
without-line room text h =
    record {
      sizes = h.sizes;
      triples = h.triples;
      plan = h.plan;
      foot = [];
      owners = replicate h.sizes.m 1;
      owners-stated = record { long = length-replicate h.sizes.m 1; bytes = ones-bytes h.sizes.m; said = inl (refl, refl) };
      text-is = h.text-is ∙ sym (append-nil (plan_text h.sizes h.triples));
      short = subst (λ (l : List ℕ). length l ≤ largest_text) (sym h.text-is) h.plan.short;
    }

-- ---- of a call: its text, the lengths of the lists that it was lent, its result and the lists as it left them

module _ (text : List ℕ) (a b c k : ℕ) (r : Reading) (st co va ow : List ℕ) (call : GivesText (text_call_of text a b c k) r st co va ow) where
  -- what the call gives where its answer is x
  given : (x : TextAnswer) → text_call_of text a b c k ≡ x → GivesText x r st co va ow
  given x e = subst (λ (y : TextAnswer). GivesText y r st co va ow) e call

  given-stated : a ≡ starts_length → b ≡ c → k ≡ owners_length → (h : StatesText b text)
      → GivesText (record { plan = call_of (plan_text h.sizes h.triples) a b c; owners = filled owners_length h.owners }) r st co va ow
  given-stated long paired full h = given _ (stated-answer text a b c k long paired full h)

  pub holds-stated : a ≡ starts_length → b ≡ c → k ≡ owners_length → (h : StatesText b text) → HoldsPlan h.sizes h.triples r st co va
  holds-stated long paired full h =
      plain.holds-stated (plan_text h.sizes h.triples) a b c r st co va (given-stated long paired full h).plan long paired
      (record { sizes = h.sizes; triples = h.triples; plan = h.plan; text-is = refl })

  pub owners-stated : a ≡ starts_length → b ≡ c → k ≡ owners_length → (h : StatesText b text) → ow ≡ filled owners_length h.owners
  owners-stated long paired full h = (given-stated long paired full h).owners-are

  -- a call that returns 0 has read
  number-refused : (h : Refuses text a b c k) → number_of r.outcome ≡ h.number
  number-refused h = ap (λ (x : Reading). number_of x.outcome) (given _ h.answer-is).plan.result-is

  done-reads : number_of r.outcome ≡ 0 → Reads text a b c k
  done-reads z = go (answered text a b c k)
    where
      go : Refuses text a b c k ⊎ Reads text a b c k → Reads text a b c k
      go (inl h) = absurd (plain.not-zero h.number h.from-table (sym (number-refused h) ∙ z))
      go (inr h) = h

  pub read-exactly : (number_of r.outcome ≡ 0) ↔ ((a ≡ starts_length) × (b ≡ c) × (k ≡ owners_length) × StatesText b text)
  read-exactly = ((λ z. reads-stated text a b c k (done-reads z)), λ h. ap number_of (holds-stated h.0 h.1 h.2 h.3).done)

  pub read-good : number_of r.outcome ≡ 0 → GoodPlan r.p r.n r.m (held_plan r (compressed st co va))
  read-good z = plain.read-good (plan_part text) a b c r st co va (given _ (done-reads z).answer-is).plan z

  pub refused-by : RefusedBy text_faults r.outcome
  refused-by = go (answered text a b c k)
    where
      go : Refuses text a b c k ⊎ Reads text a b c k → RefusedBy text_faults r.outcome
      go (inl h) = subst (λ (x : Reading). RefusedBy text_faults x.outcome) (sym (given _ h.answer-is).plan.result-is) h.from-table
      go (inr h) = plain.refused-by (plan_part text) a b c r st co va (given _ h.answer-is).plan

  pub read-by : NumberFrom text_faults (number_of r.outcome)
  read-by = number-from text_faults r.outcome refused-by

  -- a call that does not return 0 has refused
  failed-refuses : ¬ (number_of r.outcome ≡ 0) → Refuses text a b c k
  failed-refuses n = go (answered text a b c k)
    where
      go : Refuses text a b c k ⊎ Reads text a b c k → Refuses text a b c k
      go (inl h) = h
      go (inr h) = absurd (n (ap (λ (x : Reading). number_of x.outcome) (given _ h.answer-is).plan.result-is ∙ ap number_of h.passed))

  pub read-cleared : ¬ (number_of r.outcome ≡ 0) → ReadCleared a b c r st co va
  read-cleared n =
      let h = failed-refuses n in
      let left = (given _ h.answer-is).plan in
      record {
        result-is = left.result-is ∙ ap (λ (x : Reading). refusal_of x.outcome) (sym left.result-is);
        starts-are = left.starts-are;
        columns-are = left.columns-are;
        values-are = left.values-are;
      }

  pub owners-cleared : ¬ (number_of r.outcome ≡ 0) → ow ≡ zeros k
  owners-cleared n = (given _ (failed-refuses n).answer-is).owners-are

  -- a text that states a plan alone was accepted before
  pub read-as-before : a ≡ starts_length → b ≡ c → k ≡ owners_length → (h : StatesPlan b text)
      → Gives (call_of text a b c) r st co va × (ow ≡ filled owners_length (replicate h.sizes.m 1))
  read-as-before long paired full h =
      let left = given-stated long paired full (without-line b text h) in
      (subst (λ (l : List ℕ). Gives (call_of l a b c) r st co va) (sym h.text-is) left.plan, left.owners-are)

  pub read-rising-as-before : (s : Sizes) (seen : List Entry) → a ≡ starts_length → b ≡ c → k ≡ owners_length → read_rising_of b text ≡ accepted s seen
      → (read_of b text ≡ accepted s seen) × Gives (answer_rising_of b (read_rising_of b text)) r st co va × (ow ≡ filled owners_length (replicate s.m 1))
  read-rising-as-before s seen long paired full e =
      let read = (rising-as-before b s text seen e).0 in
      let g = (plain.accepted-exactly b s text seen).0 read in
      let (call-plan, ones) = read-as-before long paired full (record { sizes = s; triples = g.stated; plan = g.plan; text-is = g.text-is }) in
      (read, (plain.read-rising-as-before text a b c r st co va call-plan s seen long paired e).1, ones)

-- ts and us are the same triples, in any order
pub read-any-order : (s : Sizes) (room : ℕ) (ts us : List StatedEntry) (foot vs : List ℕ) → Plan room s ts → Plan room s us → ((t : StatedEntry) → Member t ts ↔ Member t us)
    → StatesOwners s.m foot vs → length (plan_text s ts ++ foot) ≤ largest_text → length (plan_text s us ++ foot) ≤ largest_text
    → (r : Reading) (st co va ow : List ℕ) → GivesText (text_call_of (plan_text s ts ++ foot) starts_length room room owners_length) r st co va ow
    → GivesText (text_call_of (plan_text s us ++ foot) starts_length room room owners_length) r st co va ow
read-any-order s room ts us foot vs g h same said short-ts short-us r st co va ow call =
    let left = subst (λ (x : TextAnswer). GivesText x r st co va ow) (then-owners room s ts foot g short-ts vs said) call in
    subst (λ (x : TextAnswer). GivesText x r st co va ow) (sym (then-owners room s us foot h short-us vs said))
    (record { plan = plain.read-any-order s room ts us g h same r st co va left.plan; owners-are = left.owners-are })

-- t is any of the triples of a plan that is stated: xs stand before it, ys after it
pub each-stated : (s : Sizes) (room : ℕ) (xs : List StatedEntry) (t : StatedEntry) (ys : List StatedEntry) (foot vs : List ℕ) → Plan room s (xs ++ (t ∷ ys))
    → StatesOwners s.m foot vs → length (plan_text s (xs ++ (t ∷ ys)) ++ foot) ≤ largest_text
    → (r : Reading) (st co va ow : List ℕ) → GivesText (text_call_of (plan_text s (xs ++ (t ∷ ys)) ++ foot) starts_length room room owners_length) r st co va ow
    → matrix (held_plan r (compressed st co va)) (t.row - 1) (t.column - 1) ≡ residue_of s.modulus.p (integer_of t.value)
each-stated s room xs t ys foot vs h said short r st co va ow call =
    plain.each-stated s room xs t ys h r st co va
    (subst (λ (x : TextAnswer). GivesText x r st co va ow) (then-owners room s (xs ++ (t ∷ ys)) foot h short vs said) call).plan

pub owner-too-large : (s : Sizes) (room : ℕ) (ts : List StatedEntry) (vs : List ℕ) → Plan room s ts → length vs ≡ s.m → ((j : ℕ) → get_or vs j 0 < 10 ^ 10) → all_bytes vs ≡ false
    → length (plan_text s ts ++ owners_text vs) ≤ largest_text
    → (text_call_of (plan_text s ts ++ owners_text vs) starts_length room room owners_length).plan.result.outcome ≡ Refused owner_too_large (length ts + 4)
owner-too-large s room ts vs h long small large short =
    ap (λ (x : TextAnswer). x.plan.result.outcome)
    (then-foot room s ts (owners_text vs) h short
    ∙ ap (answer_with starts_length room room owners_length (call_of (plan_text s ts) starts_length room room)) (too_large s.m (length ts + 4) vs long small large))

pub owners-alone : (s : Sizes) (room : ℕ) (ts : List StatedEntry) (foot foot' vs vs' : List ℕ) → Plan room s ts → StatesOwners s.m foot vs → StatesOwners s.m foot' vs'
    → length (plan_text s ts ++ foot) ≤ largest_text → length (plan_text s ts ++ foot') ≤ largest_text
    → (text_call_of (plan_text s ts ++ foot) starts_length room room owners_length).plan ≡ (text_call_of (plan_text s ts ++ foot') starts_length room room owners_length).plan
owners-alone s room ts foot foot' vs vs' h said said' short short' =
    ap (λ (x : TextAnswer). x.plan) (then-owners room s ts foot h short vs said) ∙ sym (ap (λ (x : TextAnswer). x.plan) (then-owners room s ts foot' h short' vs' said'))
