-- `write_cut_line` meets its contract: each way out is a law of `CutOff`.
use Rattle.std.proofs.Common.{refl}
use Rattle.print_text.proofs.Room.{refusal-room}
use Rattle.ask.proofs.CutOff.{refused-before, refused-there}
use Rattle.ask.proofs.cut.write_cut_line.Goals as goal

pub write_refusal-requires : goal.write_refusal-requires
write_refusal-requires c = refusal-room _ _ c.args.out.now c.requires

pub returns-in-Err : goal.returns-in-Err
returns-in-Err c = refused-before _ _ _ c.in-Err.ensures _ _ _ _ _ refl c.write_refusal.ensures

pub write_refusal-requires-in-Ok : goal.write_refusal-requires-in-Ok
write_refusal-requires-in-Ok c = refusal-room _ _ c.args.out.now c.requires

pub returns-in-Ok : goal.returns-in-Ok
returns-in-Ok c = refused-there _ _ _ c.in-Ok.ensures _ _ _ refl c.write_refusal-in-Ok.ensures
