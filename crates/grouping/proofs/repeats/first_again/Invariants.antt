use Rattle.std.specs.Slice.Iter.{windows_rest, windows_size}
use mathlib.Core.Path.{◌≡◌}
use Rattle.grouping.specs.Grouping.{key_of}
use Rattle.grouping.specs.Repeats.{same_at, again}
use Rattle.grouping.proofs.repeats.first_again.Given as goal

abbrev pub invariant-loop-pair : goal.invariant-loop-pair
invariant-loop-pair l =
    let same = same_at (key_of l.rows) (key_of l.columns) in
    record {
      pairs : windows_size l.pair-iterator ≡ 2;
      going : again (same) l.d (windows_rest l.pair-iterator) ≡ again (same) l.count l.sorted;
    }
