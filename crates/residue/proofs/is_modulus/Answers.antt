-- `is_modulus` meets its contract. Assumes nothing.
use borrow.Author.Tests.{le-leb, lt-leb}
use Rattle.lists.proofs.Bools.{chain-false, chain-true}
use Rattle.residue.specs.Range.{is_modulus}
use Rattle.residue.proofs.is_modulus.Goals as goal

pub returns-then-p-gt-LARGEST_MODULUS : goal.returns-then-p-gt-LARGEST_MODULUS
unfolding is_modulus
returns-then-p-gt-LARGEST_MODULUS c = chain-false _ _ (lt-leb _ _ c.if-p-gt-LARGEST_MODULUS.true)

pub returns : goal.returns
unfolding is_modulus
returns c = chain-true _ _ _ (le-leb _ _ c.if-p-gt-LARGEST_MODULUS.false) c.is_prime.ensures
