-- What the calls for C that check and make a certificate say, with what they returned and left.
-- Checking, z is the number returned:
--   checked-exactly    0 exactly if the text states a plan and the certificate passes against it
--   checked-passes     0: the certificate passes against the plan that was read
--   checked-product    0: A = PLUQ for the plan that was read
--   checked-rank       0: r is its rank
--   checked-judged     after a text that states a plan: one of 10 to 14 at most
--   checked-by         the numbers of the table by which it refuses
-- Making, z is the number returned and b the buffer as left:
--   made-exactly       0 exactly if the text states a plan, its factors fit, and the buffer holds their certificate
--   made-buffer        0: the buffer has that certificate, zero past its end
--   made-checked       0: which passes the call that checks
--   made-cleared       else the buffer is all zero
--   made-seven         after a text that states a plan: 7 exactly if L or U has more than 16,384 entries
--   made_row           at the first row in processing order that overflows
--   made-nine          9 exactly if they fit and the buffer is shorter than the certificate
--   made-numbers       and nothing else but 0
--   made_by            the numbers of the table by which it refuses
use mathlib.Core.Path.{◌≡◌, refl, sym, ap, subst, ◌∙◌}
use mathlib.Core.Logic.{◌↔◌, ◌⊎◌}
use mathlib.Core.List.{List, [], ◌∷◌, ◌++◌}
use mathlib.Core.Option.{Option, none, some}
use Prim.Native.Nat.{ℕ, ◌+◌, ◌*◌, ◌<◌}
use lib.ListN.{length, take}
use Rattle.lists.specs.Tests.{among}
use Rattle.refusals.specs.Table.{text_faults, set_faults, storage_too_short, wrong_length}
use Rattle.lists.specs.Filled.{zeros, filled}
use Rattle.refusals.specs.Refusals.{◌▷◌}
use Rattle.refusals.specs.Outcome.{Outcome}
use Rattle.refusals.specs.Outcome.{Passed, Refused}
use Rattle.lists.proofs.Filled.{filled-cut}
use Rattle.refusals.proofs.Refusals.{RefusedBy, both-passed, after-passed, refused-then}
use Rattle.algebra.specs.Matrix.{vector}
use Rattle.algebra.specs.Rank.{Rank}
use Rattle.algebra.specs.Factors.{Factors}
use Rattle.algebra.proofs.Rank as ranks
use Rattle.sparse.specs.Matrix.{Compressed, matrix}
use Rattle.sparse.specs.Set.{Set}
use Rattle.certificate.specs.Layout.{certificate_of}
use Rattle.certificate.specs.Reading.{set_of_certificate}
use Rattle.certificate.specs.Writing.{room_for}
use Rattle.limits.specs.Limits.{work_length, largest_entries}
use Rattle.call_plan.proofs.Plans.{good-prime}
use Rattle.text_plan.specs.Call.{ReadAnswer}
use Rattle.text_plan.specs.Held.{plan_of}
use Rattle.text_owners.specs.Stating.{StatesText}
use Rattle.call_check.specs.Calls.{check_certificate_of}
use Rattle.call_check.specs.Passing.{CertificatePasses}
use Rattle.call_check.proofs.Theorems.{factors-exactly, certificate-exactly, stored-certificate, rest, rest-numbers, after-plan}
use Rattle.call_write.specs.Call.{write_outcome, bytes_given}
use Rattle.call_write.proofs.Theorems.{write-room}
use Rattle.factor_all.specs.Factorization.{Factorization, unless_over}
use Rattle.stages.specs.Stages.{reading, factored_of, set_factored}
use Rattle.stages.specs.Meaning.{factors_of, FitsAll, OverflowsAt}
use Rattle.stages.proofs.ReadText.{reading-good, outcome-passed, reading-numbers, first_row, whole_set, factored-is, factored-whole}
use Rattle.stages.proofs.Passing.{factors-pass}
use Rattle.text_calls.specs.Calls.{check_read_of, check_text_of, make_read_of, make_text_of, certificate_for, packed, Makes}
use Rattle.text_calls.specs.Meaning.{own_certificate, Made, TextPasses, PackedFrom}
use Rattle.text_calls.proofs.Numbers.{packed_zero, packed-from, storage}
use Rattle.text_calls.proofs.Writing.{Delivers, zero-exactly, zero-passed, refused-cleared, refused-by, seven-exactly, seven-row, nine-exactly, only-numbers}

-- ---- checking

module _ (text cert : List ℕ) where
  abbrev p : ℕ
  p = (reading text).result.p

  abbrev n : ℕ
  n = (reading text).result.n

  abbrev m : ℕ
  m = (reading text).result.m

  abbrev A : Compressed
  A = plan_of (reading text)

  abbrev check : Outcome
  check = check_certificate_of p n m A cert work_length

  pub text-exactly : (check_text_of text cert ≡ Passed) ↔ TextPasses text cert
  unfolding check_text_of check_read_of
  text-exactly =
      let (there, back) = certificate-exactly p n m A cert work_length in (
        (λ e.
            let (read, passed) = both-passed (reading text).result.outcome check e in
            let h = there passed in
            record { states = (outcome-passed text).0 read; layout = h.layout; passes = h.passes }),
        λ h.
            after-passed (reading text).result.outcome check ((outcome-passed text).1 h.states)
            ∙ back (record { plan = reading-good text h.states; work = refl; layout = h.layout; passes = h.passes }),
      )

  after-reading : StatesText largest_entries text → check_text_of text cert ≡ rest p n m A cert work_length
  unfolding check_text_of check_read_of
  after-reading h =
      after-passed (reading text).result.outcome check ((outcome-passed text).1 h)
      ∙ after-plan p n m A cert work_length (reading-good text h) refl

  text-numbers : RefusedBy (text_faults ++ set_faults) (check_text_of text cert)
  unfolding check_text_of check_read_of
  text-numbers = go (reading text).result.outcome refl (reading-numbers text)
    where
      go : (o : Outcome) → (reading text).result.outcome ≡ o → RefusedBy text_faults o → RefusedBy (text_faults ++ set_faults) (o ▷ check)
      go Passed e h =
          subst (RefusedBy (text_faults ++ set_faults)) (sym (after-plan p n m A cert work_length (reading-good text ((outcome-passed text).0 e)) refl))
          (refused-then text_faults set_faults Passed (rest p n m A cert work_length) tt (rest-numbers p n m A cert work_length))
      go (Refused k d) e h = refused-then text_faults set_faults (Refused k d) Passed h tt

  module _ (z : ℕ) (call : z ≡ packed (check_text_of text cert)) where
    pub checked-exactly : (z ≡ 0) ↔ TextPasses text cert
    unfolding among
    checked-exactly =
        let (there, back) = packed_zero (text_faults ++ set_faults) (check_text_of text cert) text-numbers refl in
        ((λ e. text-exactly.0 (there (sym call ∙ e))), λ h. call ∙ back (text-exactly.1 h))

    pub checked-by : PackedFrom (text_faults ++ set_faults) z
    checked-by = subst (PackedFrom (text_faults ++ set_faults)) (sym call) (packed-from (text_faults ++ set_faults) (check_text_of text cert) text-numbers)

    pub checked-judged : StatesText largest_entries text → PackedFrom set_faults z
    checked-judged h =
        subst (PackedFrom set_faults) (sym (call ∙ ap packed (after-reading h))) (packed-from set_faults (rest p n m A cert work_length) (rest-numbers p n m A cert work_length))

    abbrev set : Set
    set = set_of_certificate n m cert

    pub checked-passes : z ≡ 0 → CertificatePasses p n m A cert work_length
    checked-passes e =
        let h = checked-exactly.0 e in
        record { plan = reading-good text h.states; work = refl; layout = h.layout; passes = h.passes }

    pub checked-product : z ≡ 0 → Factors p n m set.r (matrix A) (vector set.R) (vector set.C) (matrix set.L) (matrix set.U)
    checked-product e = (checked-exactly.0 e).passes.factors

    pub checked-rank : z ≡ 0 → Rank p n m (matrix A) set.r
    checked-rank e = ranks.rank (good-prime (reading-good text (checked-exactly.0 e).states)) (checked-product e)

-- ---- making

module _ (text : List ℕ) where
  abbrev x : Compressed
  x = plan_of (reading text)

  abbrev p₁ : ℕ
  p₁ = (reading text).result.p

  abbrev n₁ : ℕ
  n₁ = (reading text).result.n

  abbrev m₁ : ℕ
  m₁ = (reading text).result.m

  abbrev cert₁ : List ℕ
  cert₁ = own_certificate (reading text)

  made-delivers : (room : ℕ) → Delivers text cert₁ room (make_text_of text room)
  unfolding make_text_of make_read_of
  made-delivers room = record { later = after-factoring (factored_of (reading text)); whole = refl; after-reading = λ h. ap after-factoring (factored-is text h) ∙ go h (first_row text) }
    where
      after-factoring : Factorization → Outcome
      after-factoring f = f.outcome ▷ write_outcome p₁ n₁ m₁ x (set_factored f) work_length room

      go : StatesText largest_entries text → (o : Option ℕ) → after-factoring (unless_over o (whole_set text)) ≡ (storage o ▷ room_for room cert₁)
      go h none = write-room p₁ n₁ m₁ x (factors_of (reading text)) work_length room ((factors-exactly p₁ n₁ m₁ x (factors_of (reading text)) work_length).1 (factors-pass p₁ n₁ m₁ x (reading-good text h)))
      go h (some i) = refl

  module _ (z : ℕ) (b₀ b : List ℕ) (call : Makes text z b₀ b) where
    delivers : Delivers text cert₁ (length b₀) (make_text_of text (length b₀))
    delivers = made-delivers (length b₀)

    pub made_by : PackedFrom (text_faults ++ (storage_too_short ∷ wrong_length ∷ [])) z
    made_by = refused-by text cert₁ (length b₀) _ delivers z call.number

    pub made-cleared : ¬ (z ≡ 0) → b ≡ zeros (length b₀)
    made-cleared = refused-cleared text cert₁ (length b₀) _ delivers z call.number b₀ b _ call.buffer

    pub made-exactly : (z ≡ 0) ↔ Made text (length b₀)
    made-exactly = zero-exactly text cert₁ (length b₀) _ delivers z call.number

    module _ (states : StatesText largest_entries text) where
      pub made-nine : (z ≡ 9) ↔ (FitsAll (reading text) × (length b₀ < length cert₁))
      made-nine = nine-exactly text cert₁ (length b₀) _ delivers z call.number states

      pub made_row : (i : ℕ) → z ≡ 7 + 256 * i → OverflowsAt (reading text) i
      made_row = seven-row text cert₁ (length b₀) _ delivers z call.number states

      pub made-seven : ((i : ℕ) × (z ≡ 7 + 256 * i)) ↔ (¬ FitsAll (reading text))
      made-seven = seven-exactly text cert₁ (length b₀) _ delivers z call.number states

      pub made-numbers : (z ≡ 0) ⊎ ((z ≡ 9) ⊎ ((i : ℕ) × (z ≡ 7 + 256 * i)))
      made-numbers = only-numbers text cert₁ (length b₀) _ delivers z call.number states

    pub made-buffer : z ≡ 0 → b ≡ filled (length b₀) (own_certificate (reading text))
    unfolding certificate_for
    made-buffer e =
        let made = made-exactly.0 e in
        let passed = (zero-passed text cert₁ (length b₀) _ delivers z call.number).0 e in
        let same : set_factored (factored_of (reading text)) ≡ factors_of (reading text) = ap set_factored (factored-whole text made.states made.fits) in
        call.buffer ∙ (λ t. filled (length b₀) (bytes_given (passed t) (certificate_of p₁ n₁ m₁ (same t))))

    pub made-checked : z ≡ 0 → (y : ℕ) → y ≡ packed (check_text_of text (take (length (own_certificate (reading text))) b)) → y ≡ 0
    made-checked e y next =
        let states = (made-exactly.0 e).states in
        let bytes : take (length cert₁) b ≡ cert₁ = ap (take (length cert₁)) (made-buffer e) ∙ filled-cut (length b₀) (length cert₁) cert₁ refl in
        let h = (certificate-exactly p₁ n₁ m₁ x cert₁ work_length).0 (stored-certificate p₁ n₁ m₁ x (factors_of (reading text)) work_length (factors-pass p₁ n₁ m₁ x (reading-good text states))) in
        next ∙ ap packed (ap (check_text_of text) bytes ∙ (text-exactly text cert₁).1 (record { states = states; layout = h.layout; passes = h.passes }))

-- ---- texts that are read as the same plan

module _ (T T' : List ℕ) (same : reading T ≡ reading T') where
  pub checked-alike : (cert : List ℕ) → check_text_of T cert ≡ check_text_of T' cert
  unfolding check_text_of
  checked-alike cert = ap (λ (x : ReadAnswer). check_read_of x cert) same

  pub made_alike : (z : ℕ) (b₀ b : List ℕ) → Makes T z b₀ b → Makes T' z b₀ b
  unfolding make_text_of
  made_alike z b₀ b m =
      record {
        number = m.number ∙ ap (λ (x : ReadAnswer). packed (make_read_of x (length b₀))) same;
        buffer = m.buffer ∙ ap (λ (x : ReadAnswer). filled (length b₀) (bytes_given (make_read_of x (length b₀)) (certificate_for x))) same;
      }
