-- One law for each way out of printing the stages: what was written is what is printed of them.
use mathlib.Core.Path.{◌≡◌, refl, sym, ap, ◌∙◌, subst}
use mathlib.Core.List.{List}
use Prim.Native.Nat.{ℕ}
use lib.ListN.{length, take}
use Rattle.lists.specs.Filled.{zeros, filled}
use Rattle.refusals.specs.Table.{storage_too_short}
use Rattle.refusals.specs.Outcome.{Outcome}
use Rattle.refusals.specs.Outcome.{Passed, Refused}
use Rattle.refusals.specs.declared.Refusal.{Refusal}
use Rattle.refusals.specs.Faults.{number}
use Rattle.lists.proofs.Filled.{filled-whole}
use Rattle.sparse.specs.Matrix.{Compressed}
use Rattle.sparse.specs.Set.{Set, Storage}
use Rattle.row_space.specs.Solve.{open_columns}
use Rattle.byte_buffer.specs.Fills.{Fills}
use Rattle.limits.specs.Limits.{work_length}
use Rattle.call_check.specs.Calls.{check_factors_of}
use Rattle.call_open.specs.Calls.{Listed, listed, columns_after, open_factors_of, Lists}
use Rattle.call_open.proofs.Theorems.{columns-long}
use Rattle.print_text.specs.declared.lines.Summary.{Summary}
use Rattle.print_text.specs.Report.{report_text, refusal_text}
use Rattle.print_text.specs.Printed.{detail_from_one, counted_from_one, printed, Prints}
use Rattle.stages.specs.Results.{Stages}
use Rattle.text_plan.specs.Held.{held_plan}
use Rattle.stages.specs.Staged.{held_set}
use Rattle.stages.proofs.Outcomes.{not-passed}
use Rattle.report_lib.specs.Held.{held_summary, held_list, held_text, staged_text}
use Rattle.report_lib.specs.Needs.{HeldReady}

-- ---- a list of open columns that is not refused has a cell for each column

listed-whole : (o : Outcome) (l : List ℕ) → (listed o l).outcome ≡ Passed → (listed o l).list ≡ l
listed-whole Passed l e = refl
listed-whole (Refused k d) l e = absurd (not-passed refl e)

pub open-length : (p n m : ℕ) (A : Compressed) (s : Set) → (open_factors_of p n m A s m work_length).outcome ≡ Passed → length (open_factors_of p n m A s m work_length).list ≡ m
unfolding open_factors_of
open-length p n m A s e = ap length (listed-whole (columns_after (check_factors_of p n m A s work_length) m m) (open_columns p m s) e) ∙ columns-long p m s

module _ (s : Stages) (A : Compressed) (h : Storage) where
  abbrev list : Listed
  list = held_list s A h s.reading.m work_length

  list_length : list.outcome ≡ Passed → length list.list ≡ s.reading.m
  list_length = open-length s.reading.p s.reading.n s.reading.m (held_plan s.reading A) (held_set s h)

  -- ---- reading and factoring passed

  module _ (ow marks out : List ℕ) (d : HeldReady s A ow h marks out) (o : Outcome) (marks' w' : List ℕ)
      (q : Lists (held_list s A h (length marks) (length h.work)) o marks marks' h.work w') where
    outcome-is : o ≡ list.outcome
    outcome-is = q.outcome ∙ (λ t. (held_list s A h (d.marks-length t) (d.work-length t)).outcome)

    pub columns-refused : (k j size : ℕ) (out' : List ℕ) → o ≡ Refused k j → Fills out out' size (refusal_text k j) → Prints (held_text s A ow h) size out out' h.work w'
    unfolding held_text
    columns-refused k j size out' e f =
        record {
          text-is = subst (Fills out out' size) (ap (λ (u : Outcome). printed u (report_text (held_summary s) ow list.list)) (sym e ∙ outcome-is)) f;
          cleared = q.cleared;
        }

    marks-are : o ≡ Passed → marks' ≡ list.list
    marks-are e =
        q.list-is
        ∙ (λ t. filled (d.marks-length t) (held_list s A h (d.marks-length t) (d.work-length t)).list)
        ∙ filled-whole s.reading.m list.list (list_length (sym outcome-is ∙ e))

    pub columns-listed : (size : ℕ) (out' : List ℕ) (z : Summary) → o ≡ Passed → z ≡ held_summary s → Fills out out' size (report_text z ow marks') → Prints (held_text s A ow h) size out out' h.work w'
    unfolding held_text
    columns-listed size out' z e same f =
        record {
          text-is =
              subst (Fills out out' size)
              ((λ t. report_text (same t) ow (marks-are e t))
              ∙ ap (λ (u : Outcome). printed u (report_text (held_summary s) ow list.list)) (sym e ∙ outcome-is))
              f;
          cleared = q.cleared;
        }

  -- ---- any stages

  module _ (ow out : List ℕ) (size : ℕ) (out' : List ℕ) where
    -- the owners of the words
    abbrev os : List ℕ
    os = take s.reading.m ow

    abbrev after-reading : List ℕ
    after-reading = printed (counted_from_one storage_too_short s.factored.outcome) (held_text s A os h)

    pub read-refused : {k d : ℕ} → s.reading.outcome ≡ Refused k d → h.work ≡ zeros (length h.work) → Fills out out' size (refusal_text k d)
        → Prints (staged_text s A ow h) size out out' h.work h.work
    unfolding staged_text
    read-refused e clear f = record { text-is = subst (Fills out out' size) (ap (λ (o : Outcome). printed o after-reading) (sym e)) f; cleared = clear }

    module _ (passed : s.reading.outcome ≡ Passed) where
      read_done : after-reading ≡ staged_text s A ow h
      unfolding staged_text
      read_done = ap (λ (o : Outcome). printed o after-reading) (sym passed)

      pub factoring-refused : (r told : Refusal) → s.factored.outcome ≡ Refused (number r.fault) r.detail → h.work ≡ zeros (length h.work)
          → told ≡ record r { detail = detail_from_one storage_too_short (number r.fault) r.detail } → Fills out out' size (refusal_text (number told.fault) told.detail)
          → Prints (staged_text s A ow h) size out out' h.work h.work
      factoring-refused r told e clear q f =
          record {
            text-is =
                subst (Fills out out' size)
                (ap (λ (t : Refusal). refusal_text (number t.fault) t.detail) q
                ∙ ap (λ (o : Outcome). printed (counted_from_one storage_too_short o) (held_text s A os h)) (sym e)
                ∙ read_done)
                f;
            cleared = clear;
          }

      pub factoring-done : (w' : List ℕ) → s.factored.outcome ≡ Passed → Prints (held_text s A os h) size out out' h.work w' → Prints (staged_text s A ow h) size out out' h.work w'
      factoring-done w' e =
          subst (λ (text : List ℕ). Prints text size out out' h.work w')
          (ap (λ (o : Outcome). printed (counted_from_one storage_too_short o) (held_text s A os h)) (sym e) ∙ read_done)
