-- `stopped_refusal` meets its contract. Assumes nothing.
use Rattle.ask_lib.proofs.Following.{refused-reading, row-counts, refused-factoring}
use Rattle.ask_lib.proofs.stopped_refusal.Goals as goal

pub returns-in-InReading : goal.returns-in-InReading
returns-in-InReading c = refused-reading _ _ c.in-InReading.is

pub from_one-requires : goal.from_one-requires
from_one-requires c = row-counts _ _ _ c.in-InFactoring.is c.requires

pub returns-in-InFactoring : goal.returns-in-InFactoring
returns-in-InFactoring c = refused-factoring _ _ _ c.in-InFactoring.is _ c.from_one.ensures
