-- `complete_columns` meets its contract: it completes, or too much is left for the block. Assumes nothing.
use native.Mathlib.Omega.{arith}
use Rattle.factor_passes.proofs.PassOne.{columns-same, columns-completed}
use Rattle.factor_passes.proofs.passes.complete_columns.Goals as goal

pub returns-then-n-s-gt32 : goal.returns-then-n-s-gt32
returns-then-n-s-gt32 c = columns-same _ _ _ _ c.requires.1 (λ a b. omega (arith, c.if-n-s-gt32.true))

pub returns-then-co-s-gt32 : goal.returns-then-co-s-gt32
returns-then-co-s-gt32 c = columns-same _ _ _ _ c.requires.1 (λ a b. omega (arith, c.if-co-s-gt32.true))

pub returns : goal.returns
returns c = columns-completed _ _ _ _ _ _ c.requires.1 c.complete.ensures
