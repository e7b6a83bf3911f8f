-- `put_labelled` meets its contract: two runs, one after the other. Assumes nothing.
use native.Mathlib.Omega.{arith}
use lib.ListN.{length-append}
use Rattle.text_fields.specs.Decimal.{decimal}
use Rattle.lists.proofs.Stored.{ends, stored-then}
use Rattle.print_text.specs.Lines.{labelled}
use Rattle.print_text.proofs.number.put_labelled.Goals as goal

pub put_bytes-after_label-requires : goal.put_bytes-after_label-requires
unfolding labelled
put_bytes-after_label-requires c = omega (arith, c.requires, length-append c.args.label.now (decimal c.args.x))

pub put_number-requires : goal.put_number-requires
unfolding labelled
put_number-requires c = omega (arith, c.requires, ends c.put_bytes-after_label.ensures, length-append c.args.label.now (decimal c.args.x))

pub returns : goal.returns
unfolding labelled
returns c = stored-then c.put_bytes-after_label.ensures c.put_number.ensures
