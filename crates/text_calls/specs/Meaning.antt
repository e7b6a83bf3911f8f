-- What the calls for C make, pass and report, without an order of tests. The plan of a text is the plan that reading it leaves.
--   Delivered text bs room the text states a plan of at most 16,384 entries, L and U of its factors have at most 16,384 entries each, and the buffer holds
--                          the bytes bs
--   Made text room         so of the certificate of these factors
--   Reportable text room   so of the report
--   TextPasses text cert   the text states a plan of at most 16,384 entries, and the certificate has its layout with the plan's p, n and m and holds a
--                          set that has the published shape and the product A
--   own_certificate x       the certificate of the factors of a plan that was read
--   PackedFrom ks z        the number z that a call returns is a number of ks, or 0, plus 256 times a detail
--   TextAskable ..         the text states a plan of at most 16,384 entries; the certificate passes, or where it has no bytes, L and U of the plan's
--                          factors have at most 16,384 entries each; and y holds m residues, with a = n cells for x and b = m cells for z
--   set_used text cert      the set that a question is answered from: the certificate's, or where it has no bytes, the plan's factors
--   VerdictRight ..        the verdict v, 1 open and 0 closed, with the lists x and z is the right answer to y, from the set s (as `AnswersRight` has it)
use Rattle.std.specs.Prelude.{ℕ, ◌+◌, ◌*◌, ◌≤◌, ◌≡◌, ◌↔◌, true, List, [], ◌∷◌, length}
use Rattle.refusals.specs.Refusals.{NumberFrom}
use Rattle.algebra.specs.Matrix.{vector}
use Rattle.algebra.specs.RowSpace.{InRowSpace}
use Rattle.algebra.specs.Settings.{Determined, Undetermined}
use Rattle.sparse.specs.Matrix.{Compressed, matrix}
use Rattle.sparse.specs.Set.{Set}
use Rattle.text_plan.specs.Call.{ReadAnswer}
use Rattle.text_plan.specs.Held.{plan_of}
use Rattle.text_owners.specs.Stating.{StatesText}
use Rattle.pluq.specs.Judge.{Passes}
use Rattle.certificate.specs.Layout.{certificate_of}
use Rattle.certificate.specs.Reading.{header_ok, set_of_certificate}
use Rattle.limits.specs.Limits.{largest_entries}
use Rattle.call_answer.specs.Meaning.{Askable, LeftOpen, LeftClosed}
use Rattle.stages.specs.Stages.{reading}
use Rattle.stages.specs.Meaning.{factors_of, FitsAll}
use Rattle.report_lib.specs.Reporting.{report_of}

abbrev pub own_certificate : ReadAnswer → List ℕ
own_certificate x = certificate_of x.result.p x.result.n x.result.m (factors_of x)

pub record Delivered (text bytes : List ℕ) (room : ℕ) : Type 0 where
  pub states : StatesText largest_entries text
  pub fits : FitsAll (reading text)
  pub enough : length bytes ≤ room

abbrev pub Made : List ℕ → ℕ → Type 0
Made text room = Delivered text (own_certificate (reading text)) room

abbrev pub Reportable : List ℕ → ℕ → Type 0
Reportable text room = Delivered text (report_of text) room

pub record TextPasses (text cert : List ℕ) : Type 0 where
  pub states : StatesText largest_entries text
  pub layout : header_ok (reading text).result.p (reading text).result.n (reading text).result.m cert ≡ true
  pub passes : Passes (reading text).result.p (reading text).result.n (reading text).result.m (plan_of (reading text)) (set_of_certificate (reading text).result.n (reading text).result.m cert)

pub record PackedFrom (ks : List ℕ) (z : ℕ) : Type 0 where
  pub number : ℕ
  pub detail : ℕ
  pub packed-is : z ≡ number + 256 * detail
  pub from : NumberFrom ks number

pub record TextAskable (text cert y : List ℕ) (a b : ℕ) : Type 0 where
  pub states : StatesText largest_entries text
  pub own : cert ≡ [] → FitsAll (reading text)
  pub certified : ¬ (cert ≡ []) → TextPasses text cert
  pub askable : Askable (reading text).result.p (reading text).result.n (reading text).result.m y a b

abbrev pub set_used : (text cert : List ℕ) → Set
set_used text [] = factors_of (reading text)
set_used text (c ∷ cs) = set_of_certificate (reading text).result.n (reading text).result.m (c ∷ cs)

pub record VerdictRight (p n m : ℕ) (A : Compressed) (s : Set) (y : List ℕ) (v : ℕ) (x z : List ℕ) : Type 0 where
  pub open-exactly : (v ≡ 1) ↔ InRowSpace p n m (matrix A) (vector y)
  pub closed-exactly : (v ≡ 0) ↔ (¬ InRowSpace p n m (matrix A) (vector y))
  pub open-left : v ≡ 1 → LeftOpen p n m A s y x z
  pub closed-left : v ≡ 0 → LeftClosed p n m A s y x z
  pub one_value : v ≡ 1 → Determined p n m (matrix A) (vector y)
  pub every_value : v ≡ 0 → Undetermined p n m (matrix A) (vector y)
