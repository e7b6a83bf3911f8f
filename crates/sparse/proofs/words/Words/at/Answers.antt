-- `Words::at` meets its contract: a list and bytes in memory have fewer than 2 ^ 64 numbers.
use Rattle.std.proofs.Common.{length, ap, arith}
use Rattle.sparse.proofs.WordLaws.{length-view}
use Rattle.sparse.proofs.words.Words.at.Goals as goal

pub returns-clause-room : goal.returns-clause-room
returns-clause-room c =
    let size = length-view c.self.inside.list.now c.self.inside.bytes.now in
    let long = ap length c.self.view_is in
    omega (arith, size, long, c.requires, c.self.told.0.0, c.self.told.0.1, c.self.told.1.0, c.self.told.1.1)
