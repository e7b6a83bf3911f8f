-- `missing_value` meets its contract: the row is a row of a well-formed matrix.
use Rattle.std.proofs.Common.{ℕ, ◌-◌, ◌%◌, ap, ◌∙◌, length}
use Rattle.algebra.specs.Matrix.{vector}
use Rattle.sparse.specs.Row.{weigh}
use Rattle.sparse.proofs.Entries.{weigh-dot, row-columns}
use Rattle.sparse.proofs.PartLaws.{has-row}
use Rattle.sparse.proofs.Rows.{form-row}
use Rattle.row_space.proofs.upper.missing_value.Goals as goal

pub row-requires : goal.row-requires
row-requires c = has-row _ _ _ _ c.requires.formed c.requires.inside

pub dot-requires : goal.dot-requires
dot-requires c =
    record {
      positive = c.requires.positive;
      row = rw (c.row.ensures.cols, c.row.ensures.vals) (form-row c.args.q.p _ _ _ _ c.requires.formed c.args.k);
      below = c.requires.small;
    }

pub returns : goal.returns
returns c =
    c.negate.ensures.value
    ∙ ap (λ (x : ℕ). (c.args.q.p - x) % c.args.q.p) c.dot.ensures.value
    ∙ ap (λ (x : ℕ). (c.args.q.p - x % c.args.q.p) % c.args.q.p)
    ((λ i. weigh (c.row.ensures.cols i) (c.row.ensures.vals i) (vector c.args.z.now))
    ∙ weigh-dot (length c.args.z.now) _ _ (vector c.args.z.now) (row-columns _ _ _ _ (form-row c.args.q.p _ _ _ _ c.requires.formed c.args.k)))
