-- `read_lines` meets its contract: what reading the lines as they stand comes to, or, on 5, what they come to in any order. Assumes nothing.
use mathlib.Core.Path.{sym, ap, ◌∙◌}
use lib.ListN.{length}
use denote.Enum.Bare.{differs_true}
use Rattle.refusals.specs.contracts.Fault.{the_type}
use Rattle.lists.specs.Filled.{zeros}
use Rattle.lists.proofs.Filled.{length-zeros}
use Rattle.limits.specs.Limits.{starts_length}
use Rattle.text_plan.specs.Needs.{lines_of}
use Rattle.text_plan.proofs.Settling.{refused-settles, read-settles, five}
use Rattle.text_plan.proofs.read_lines.Goals as goal

pub returns-in-Ok : goal.returns-in-Ok
returns-in-Ok c = read-settles _ _ _ _ _ _ _ _ c.read_triples.ensures _ _ (ap lines_of c.in-Ok.is)

pub returns-then-ne : goal.returns-then-ne
returns-then-ne c =
    refused-settles _ _ _ _ _ _ _ _ c.read_triples.ensures _ _ (ap lines_of c.in-Err.is)
    (λ z. differs_true the_type _ _ (sym c.ne.ensures ∙ c.if-ne.true) (five c.in-Err.refusal.fault z))

pub read_any_order-requires : goal.read_any_order-requires
read_any_order-requires c =
    let z = c.requires.cleared in
    record {
      limits = c.requires.limits;
      cleared = record {
        starts-zero = c.clear.ensures ∙ ap zeros (c.read_triples.auto.starts ∙ ap length z.starts-zero ∙ length-zeros starts_length);
        columns-zero = c.clear-in-Err.ensures ∙ ap zeros (sym c.clear-in-Err.auto.list);
        values-zero = c.clear-in-Err-2.ensures ∙ ap zeros (c.read_triples.auto.vals ∙ ap length z.values-zero ∙ length-zeros _ ∙ sym (c.clear-in-Err.auto.list ∙ c.read_triples.auto.cols));
      };
    }
