-- `sizes_ok` meets its contract. Assumes nothing.
use Prim.Native.Nat.{ℕ}
use mathlib.Core.Path.{◌∙◌, sym, ap}
use lib.Dec.{eqb}
use borrow.Author.Tests.{eq-eqb, ne_eqb}
use Rattle.lists.proofs.Bools.{chain-false, chain-true}
use Rattle.certificate.specs.Reading.{sizes_ok}
use Rattle.certificate.proofs.header.sizes_ok.Goals as goal

pub returns-then-number-p : goal.returns-then-number-p
unfolding sizes_ok
returns-then-number-p c = chain-false _ _ (ne_eqb _ _ (λ e. c.if-number-p.true (c.number.ensures ∙ e)))

pub returns-then-number-n : goal.returns-then-number-n
unfolding sizes_ok
returns-then-number-n c = chain-true _ _ _ (eq-eqb _ _ (sym c.number.ensures ∙ c.if-number-p.false)) (chain-false _ _ (ne_eqb _ _ (λ e. c.if-number-n.true (c.number-2.ensures ∙ e))))

pub returns : goal.returns
unfolding sizes_ok
returns c =
    chain-true _ _ _ (eq-eqb _ _ (sym c.number.ensures ∙ c.if-number-p.false))
    (chain-true _ _ _ (eq-eqb _ _ (sym c.number-2.ensures ∙ c.if-number-n.false)) (ap (λ (k : ℕ). eqb k c.args.m) c.number-3.ensures))
