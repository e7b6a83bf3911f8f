-- What is printed of the stages, in terms of the lists that they left: A are those of the plan, ow are the owners, h the lists of the set.
--   held_summary s         the numbers of a report
--   held_list s A h b w    the open columns of the plan, from the set, both as they stand in the lists
--   held_text s A ow h     what is printed once reading and factoring passed
--   staged_text s A ow h   what is printed of any stages: the first refusal, or the above
use Rattle.std.specs.Prelude.{ℕ, List, take}
use Rattle.refusals.specs.Table.{storage_too_short}
use Rattle.sparse.specs.Matrix.{Compressed}
use Rattle.sparse.specs.Set.{Storage}
use Rattle.limits.specs.Limits.{work_length}
use Rattle.call_open.specs.Calls.{Listed, open_factors_of}
use Rattle.print_text.specs.declared.lines.Summary.{Summary}
use Rattle.print_text.specs.Report.{report_text}
use Rattle.print_text.specs.Printed.{counted_from_one, printed}
use Rattle.stages.specs.Results.{Stages}
use Rattle.text_plan.specs.Held.{held_plan}
use Rattle.stages.specs.Staged.{held_set}

abbrev pub held_summary : Stages → Summary
held_summary s =
    record {
      modulus = s.reading.p;
      slots = s.reading.n;
      words = s.reading.m;
      entries = s.reading.count;
      rank = s.factored.rank;
      structural = s.factored.structural;
      lower = s.lower;
      upper = s.upper;
    }

abbrev pub held_list : Stages → Compressed → Storage → (b w : ℕ) → Listed
held_list s A h b w = let r = s.reading in open_factors_of r.p r.n r.m (held_plan r A) (held_set s h) b w

unfoldable pub held_text : Stages → Compressed → (ow : List ℕ) → Storage → List ℕ
held_text s A ow h =
    let g = held_list s A h s.reading.m work_length in
    printed g.outcome (report_text (held_summary s) ow g.list)

unfoldable pub staged_text : Stages → Compressed → (ow : List ℕ) → Storage → List ℕ
staged_text s A ow h =
    printed s.reading.outcome
    (printed (counted_from_one storage_too_short s.factored.outcome)
    (held_text s A (take s.reading.m ow) h))
