-- `refusal` meets its contract. Assumes nothing.
use Rattle.ask_lib.proofs.Following.{refused-nothing, stopped-counts, refused-stopped}
use Rattle.ask_lib.proofs.refusal.Goals as goal

pub returns-in-Ok : goal.returns-in-Ok
returns-in-Ok c = refused-nothing _ _ c.in-Ok.is

pub stopped_refusal-requires : goal.stopped_refusal-requires
stopped_refusal-requires c = stopped-counts _ _ c.in-Err.is c.requires

pub returns-in-Err : goal.returns-in-Err
returns-in-Err c = refused-stopped _ _ c.in-Err.is _ c.stopped_refusal.ensures
