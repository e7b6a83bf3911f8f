-- `fill_block` meets its contract: a marked column leaves the list as it is, another one gets its m cells. Assumes nothing.
use mathlib.Core.Path.{refl}
use native.Mathlib.Omega.{arith}
use lib.ListN.{length}
use Rattle.answer_kernel.proofs.BlockLaws.{part_length, block-marked, block-ready, block-free}
use Rattle.answer_kernel.proofs.settings.fill_block.Goals as goal

pub returns-then-work-c-ne0 : goal.returns-then-work-c-ne0
returns-then-work-c-ne0 c = block-marked _ _ _ _ _ _ _ _ c.requires c.if-work-c-ne0.true

pub offset_bounds-basis-at : goal.offset_bounds-basis-at
offset_bounds-basis-at c = omega (arith, c.requires.room c.if-work-c-ne0.false)

pub kernel_vector-requires : goal.kernel_vector-requires
kernel_vector-requires c =
    block-ready _ _ _ _ _ _ _ _ c.requires _
    (part_length c.args.basis.now c.args.at _ (length c.args.work.now) refl (c.requires.room c.if-work-c-ne0.false))

pub returns : goal.returns
returns c =
    block-free _ _ _ _ _ _ _ _ c.requires _ _ _ _ c.if-work-c-ne0.false refl (omega arith)
    (part_length c.args.basis.now c.args.at _ (length c.args.work.now) refl (c.requires.room c.if-work-c-ne0.false)) c.kernel_vector.ensures
