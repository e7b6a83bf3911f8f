-- `read_line` meets its contract; the loop's invariant is `Listing`, the measure what is left of the line. Assumes nothing.
use mathlib.Core.Path.{◌≡◌, sym, ap, ◌∙◌}
use Prim.Native.Nat.{◌+◌, ◌≤◌}
use native.Mathlib.Omega.{arith}
use lib.ListN.{length}
use Rattle.lists.proofs.Filled.{length-zeros}
use Rattle.text_owners.proofs.Lines.{no_word, listing-starts, field_end, not-number, listing-turn, too_many, wrong-count, all-stated, one-too-large}
use Rattle.text_owners.proofs.line.read_line.Goals as goal

pub returns-then-not-begins_owners : goal.returns-then-not-begins_owners
returns-then-not-begins_owners c = no_word _ _ _ (sym c.begins_owners.ensures ∙ c.if-not-begins_owners.true)

pub loop-at-init : goal.loop-at-init
loop-at-init c = listing-starts _ _ _ (sym c.begins_owners.ensures ∙ c.if-not-begins_owners.false)

pub returns-then-count-m : goal.returns-then-count-m
returns-then-count-m c = too_many c.loop-at.invariant c.loop-at-test.true c.if-count-m.true

pub piece-field-requires : goal.piece-field-requires
piece-field-requires c = omega (arith, c.loop-at-test.true)

pub returns-in_default : goal.returns-in_default
returns-in_default c = not-number c.loop-at.invariant c.loop-at-test.true _ c.piece-field.ensures (sym c.in_default.is ∙ c.number_of.ensures)

pub put_owner-bytes-requires : goal.put_owner-bytes-requires
put_owner-bytes-requires c =
    let room : length c.loop-at.owners ≡ 2048 = c.loop-at.invariant.long ∙ ap length c.requires.cleared ∙ length-zeros 2048 in
    omega (arith, room, c.loop-at.invariant.few, c.if-count-m.false, c.requires.few)

pub overflow_add-at-in-loop-at-2 : goal.overflow_add-at-in-loop-at-2
overflow_add-at-in-loop-at-2 c =
    let field-inside : c.loop-at.at + 1 + length c.piece-field.result.now ≤ length c.args.l.now = field_end c.loop-at.invariant c.loop-at-test.true _ c.piece-field.ensures in
    omega (arith, field-inside, c.requires.short)

pub loop-at-smaller : goal.loop-at-smaller
loop-at-smaller c =
    let field-inside : c.loop-at.at + 1 + length c.piece-field.result.now ≤ length c.args.l.now = field_end c.loop-at.invariant c.loop-at-test.true _ c.piece-field.ensures in
    omega (arith, field-inside)

pub loop-at-preserved : goal.loop-at-preserved
loop-at-preserved c = listing-turn c.loop-at.invariant c.loop-at-test.true _ c.piece-field.ensures c.in-Some.v (sym c.in-Some.is ∙ c.number_of.ensures) c.if-count-m.false _ _ c.put_owner-bytes.ensures c.put_owner-bytes.auto.owners

pub returns-then-count-m-2 : goal.returns-then-count-m-2
returns-then-count-m-2 c = wrong-count c.loop-at.invariant c.loop-at-test.false c.if-count-m-2.true

pub returns-then-not-bytes : goal.returns-then-not-bytes
returns-then-not-bytes c = one-too-large c.loop-at.invariant c.loop-at-test.false c.if-count-m-2.false c.if-not-bytes.true

pub returns : goal.returns
returns c = all-stated c.loop-at.invariant c.loop-at-test.false c.if-count-m-2.false c.requires.few c.requires.cleared c.if-not-bytes.false
