-- One law for each way out of the call that gives the settings of the free columns.
--   rank-small, parts-ready    a certificate that passed: the length of the list can be computed, and its parts are ready
--   ready_by, filled-by        the same, and the filling, of an equal set
--   refuses                    the certificate or the length of the list is refused
--   parted, gives              both passed
use mathlib.Core.Path.{◌≡◌, refl, sym, ap, subst, ◌∙◌}
use mathlib.Core.Bool.{true}
use mathlib.Core.List.{List, ◌++◌}
use Prim.Native.Nat.{ℕ, ◌-◌, ◌*◌, ◌≤◌}
use native.Mathlib.Omega.{arith}
use lib.Dec.{eqb}
use lib.ListN.{length, take, drop}
use lib.Seq.{length-take-le}
use borrow.Author.Tests.{eqb-true}
use Rattle.lists.specs.Filled.{zeros, filled}
use Rattle.lists.specs.Rest.{rest}
use Rattle.lists.proofs.Filled.{length-zeros, filled-whole}
use Rattle.refusals.specs.Refusals.{unless}
use Rattle.refusals.specs.Outcome.{Outcome}
use Rattle.refusals.specs.Outcome.{Passed, Refused}
use Rattle.refusals.proofs.Refusals.{both-passed, unless-true}
use Rattle.sparse.specs.Matrix.{Compressed, form}
use Rattle.sparse.specs.Set.{Set}
use Rattle.pluq.proofs.Orders.{permutation-means}
use Rattle.row_space.specs.Kernel.{free_columns, setting, kernel_basis}
use Rattle.row_space.proofs.Freedom.{free-count}
use Rattle.answer_question.proofs.Passed.{passed-ready}
use Rattle.answer_question.proofs.AnswerLaws.{cleared, zeros-take, restored}
use Rattle.answer_kernel.specs.Filling.{column_settings, free_settings, BasisFilled}
use Rattle.answer_kernel.specs.Needs.{BasisReady}
use Rattle.certificate.specs.Reading.{places_in, field, set_in, set_of_certificate}
use Rattle.certificate.proofs.Passed.{headed}
use Rattle.limits.specs.Limits.{largest_size}
use Rattle.call_check.specs.Calls.{check_certificate_of, Checks}
use Rattle.call_check.specs.Passing.{CertificatePasses}
use Rattle.call_check.proofs.Checked.{Checked, certificate-checked}
use Rattle.call_check.proofs.Theorems.{certificate-exactly}
use Rattle.call_open.specs.Calls.{listed, Lists}
use Rattle.call_open.proofs.Ways.{leaves, refused-leaves}
use Rattle.call_kernel.specs.Calls.{kernel_after}
use Rattle.call_kernel.specs.Needs.{SettingsPartsReady}

-- ---- a certificate that passed

-- the rank is number 3 of the header
pub rank_is : (n m : ℕ) (cert : List ℕ) → (set_of_certificate n m cert).r ≡ field cert 3
unfolding set_of_certificate set_in
rank_is n m cert = refl

-- a set that passed fills a list of m cells for each of the m - r free columns
set-ready : (p n m : ℕ) (A : Compressed) (s : Set) (width : ℕ) (b v : List ℕ) → Checked p n m A s width → length b ≡ m * (m - s.r) → length v ≡ m → v ≡ zeros (length v)
    → BasisReady p s.r s.U s.C b v
unfolding free_columns
set-ready p n m A s width b v c long wide clear =
    let d = passed-ready p n m A s c.prime c.sized.row-order c.sized.column-order c.sized.lower-starts c.sized.upper-starts c.judged in
    let count = free-count c.prime n m A s c.sized.row-order c.sized.column-order c.judged in
    record {
      prime = c.prime;
      formed = subst (λ (k : ℕ). form p k s.U ≡ true) (sym wide) d.U-form;
      rows = omega (arith, d.long-U);
      order = omega (arith, d.rank-columns, d.long-C);
      places = λ i h. rw wide ((permutation-means m s.C d.long-C d.columns).below i (omega (arith, d.long-C)));
      room = long ∙ ap (λ (k : ℕ). m * k) (sym count) ∙ ap (λ (k : ℕ). k * length (rest (take s.r s.C) k)) (sym wide);
      clear = clear;
    }

module _ (p n m : ℕ) (A : Compressed) (cert : List ℕ) (width : ℕ) (ok : check_certificate_of p n m A cert width ≡ Passed) where
  checked : Checked p n m A (set_of_certificate n m cert) width
  checked = certificate-checked p n m A width cert ok

  passes : CertificatePasses p n m A cert width
  passes = (certificate-exactly p n m A cert width).0 ok

  pub parts-end : length cert ≡ (places_in n m cert).end
  parts-end = (headed p n m cert passes.layout).long

  pub rank-small : (r : ℕ) → r ≡ field cert 3 → (r ≤ m) × (m ≤ largest_size)
  rank-small r e = (omega (arith, passes.passes.factors.rank-columns, rank_is n m cert), passes.plan.few-columns)

  pub parts-ready : (b w : List ℕ) → length b ≡ m * (m - (set_of_certificate n m cert).r) → w ≡ zeros width → SettingsPartsReady p n m cert b w
  parts-ready b w long clear =
      let wide : length w ≡ width = ap length clear ∙ length-zeros width in
      let room : m ≤ length w = omega (arith, checked.room) in
      let all : w ≡ zeros (length w) = cleared w width clear in
      record {
        long = parts-end;
        ready = set-ready p n m A (set_of_certificate n m cert) width b (take m w) checked long (length-take-le m w room) (cleared (take m w) m (zeros-take m w room all));
        room = room;
        clear = all;
      }

-- ---- the value that the bytes make is the set that they hold

pub ready_by : (p k m : ℕ) (s s' : Set) (b w : List ℕ) → k ≡ m → s ≡ s' → BasisReady p s'.r s'.U s'.C b (take m w) → BasisReady p s.r s.U s.C b (take k w)
ready_by p k m s s' b w e f h =
    subst (λ (t : Set). BasisReady p t.r t.U t.C b (take k w)) (sym f) (subst (λ (i : ℕ). BasisReady p s'.r s'.U s'.C b (take i w)) (sym e) h)

settings-basis : (p m : ℕ) (s : Set) → free_settings p m s.r s.C s.U ≡ kernel_basis p m s
unfolding free_settings column_settings kernel_basis setting free_columns
settings-basis p m s = refl

-- the first k cells of the working row are lent, and come back as `part`
pub row-part : (k : ℕ) (w : List ℕ) → k ≤ length w → length (take k w) ≡ k
row-part k w room = length-take-le k w room

pub filled-by : (p k m : ℕ) (s s' : Set) (w b part : List ℕ) → k ≡ m → s ≡ s' → k ≤ length w → w ≡ zeros (length w) → length part ≡ length (take k w)
    → BasisFilled (free_settings p (length (take k w)) s.r s.C s.U) b part → BasisFilled (kernel_basis p m s') b (part ++ drop k w)
filled-by p k m s s' w b part e f room clear long h =
    let cut = row-part k w room in
    record {
      list = h.list ∙ settings-basis p (length (take k w)) s ∙ (λ j. kernel_basis p ((cut ∙ e) j) (f j));
      row = cleared (part ++ drop k w) (length w) (restored k w part room clear (long ∙ cut) h.row ∙ clear);
    }

-- ---- the ways out, after the check of the certificate

-- w₁ is the working row after the tests
module _ (check : Outcome) (p m : ℕ) (s : Set) (l₀ w₀ w₁ : List ℕ) where
  abbrev after : Outcome
  after = kernel_after check m s.r (length l₀)

  pub refuses : (k d : ℕ) → Checks after (Refused k d) w₀ w₁ → (l : List ℕ) → l ≡ zeros (length l₀) → Lists (listed after (kernel_basis p m s)) (Refused k d) l₀ l w₀ w₁
  refuses k d q l el = refused-leaves after (kernel_basis p m s) l₀ l w₀ w₁ k d q.outcome el q.cleared

  -- what passed: the check, and the length of the list
  pub parted : Checks after Passed w₀ w₁ → (check ≡ Passed) × (length l₀ ≡ m * (m - s.r))
  unfolding kernel_after
  parted q =
      let (judged, long) = both-passed check (unless (eqb (length l₀) (m * (m - s.r))) 9 0) (sym q.outcome) in
      (judged, eqb-true (length l₀) (m * (m - s.r)) (unless-true (eqb (length l₀) (m * (m - s.r))) 9 0 long))

  pub gives : Checks after Passed w₀ w₁ → (l w : List ℕ) → length l ≡ length l₀ → length w ≡ length w₁ → BasisFilled (kernel_basis p m s) l w
      → Lists (listed after (kernel_basis p m s)) Passed l₀ l w₀ w
  gives q l w ll lw a =
      leaves (listed after (kernel_basis p m s)) Passed l₀ l w₀ w (ap (λ (u : Outcome). (listed u (kernel_basis p m s)).outcome) q.outcome)
      (sym (filled-whole (length l₀) l ll) ∙ ap (filled (length l₀)) a.list ∙ ap (λ (u : Outcome). filled (length l₀) (listed u (kernel_basis p m s)).list) q.outcome)
      (a.row ∙ ap zeros (lw ∙ ap length q.cleared ∙ length-zeros (length w₀)))
