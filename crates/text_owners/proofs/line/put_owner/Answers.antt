-- `put_owner` meets its contract. Assumes nothing.
use mathlib.Core.Path.{refl, sym, ap, ◌∙◌}
use mathlib.Core.Bool.{true≢false}
use Prim.Native.Nat.{ℕ}
use lib.ListN.{set}
use borrow.Author.Tests.{le-leb, lt-leb}
use Rattle.lists.proofs.Bools.{chain-false, chain-true}
use Rattle.text_owners.proofs.line.put_owner.Goals as goal

pub returns-then-v-gt-LARGEST_OWNER : goal.returns-then-v-gt-LARGEST_OWNER
returns-then-v-gt-LARGEST_OWNER c = let large = lt-leb _ 255 c.if-v-gt-LARGEST_OWNER.true in record { bytes-are = chain-false _ _ large; stored = λ e. absurd (true≢false (sym e ∙ large)) }

pub returns : goal.returns
returns c = record { bytes-are = chain-true _ _ _ (le-leb _ 255 c.if-v-gt-LARGEST_OWNER.false) refl; stored = λ e. ap (λ (k : ℕ). set c.args.owners.now k c.args.v) c.index.ensures }
