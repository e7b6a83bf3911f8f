-- `put_factor` meets its contract: three runs, one after another. Assumes nothing.
use mathlib.Core.List.{◌++◌}
use native.Mathlib.Omega.{arith}
use Rattle.certificate.specs.Layout.{factor_numbers}
use Rattle.certificate.proofs.Bytes.{length-bytes}
use Rattle.lists.proofs.Stored.{ends}
use Rattle.certificate.proofs.Storing.{numbers-then}
use Rattle.certificate.proofs.writer.put_factor.Goals as goal

pub put_words-after_cols-requires : goal.put_words-after_cols-requires
put_words-after_cols-requires c = omega (arith, c.requires, ends c.put_words-after_starts.ensures, length-bytes c.args.starts.now)

pub put_words-requires : goal.put_words-requires
put_words-requires c = omega (arith, c.requires, ends c.put_words-after_starts.ensures, ends c.put_words-after_cols.ensures, length-bytes c.args.starts.now, length-bytes c.args.cols.now)

pub returns : goal.returns
unfolding factor_numbers
returns c =
    numbers-then c.args.starts.now (c.args.cols.now ++ c.args.vals.now) c.put_words-after_starts.ensures
    (numbers-then c.args.cols.now c.args.vals.now c.put_words-after_cols.ensures c.put_words.ensures)
