-- `put_words` meets its contract; the loop keeps that storing what remains of the list completes the buffer. Assumes nothing.
use Prim.Native.Nat.{◌+◌, ◌≤◌}
use mathlib.Core.List.{[], ◌∷◌}
use native.Mathlib.Omega.{arith}
use lib.ListN.{length, get_or}
use Rattle.byte_buffer.proofs.Remaining.{turns-start, turn-room, turns-after, turns-end}
use Rattle.certificate.specs.Layout.{bytes}
use Rattle.certificate.proofs.Bytes.{length-bytes}
use Rattle.certificate.proofs.Storing.{bytes-step, bytes-end, word-stored}
use Rattle.certificate.proofs.writer.put_words.Goals as goal

pub loop-x-init : goal.loop-x-init
loop-x-init c = turns-start _ _ _ _ (omega (arith, c.requires, length-bytes c.args.list.now))

pub put_word-requires : goal.put_word-requires
unfolding bytes
put_word-requires c =
    let room : c.loop-x.next + 4 ≤ length c.loop-x.buffer = turn-room c.loop-x.invariant (bytes (get_or c.args.list.now c.loop-x.x-index 0 ∷ [])) (bytes-step _ _ c.loop-x-test.true) in
    room

pub loop-x-preserved : goal.loop-x-preserved
loop-x-preserved c = turns-after c.loop-x.invariant c.loop-x-test.true (bytes-step _ _ c.loop-x-test.true) (word-stored _ c.put_word.ensures)

pub returns : goal.returns
returns c = turns-end c.loop-x.invariant (bytes-end _ _ c.loop-x-test.false)
