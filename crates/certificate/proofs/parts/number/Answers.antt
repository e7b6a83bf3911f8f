-- `number` meets its contract. Assumes nothing.
use Rattle.std.proofs.Common.{length-drop, get_or, drop, length, ap, ◌∙◌, arith}
use Rattle.sparse.specs.Words.{words}
use Rattle.sparse.proofs.WordLaws.{length-words}
use Rattle.certificate.specs.Reading.{field}
use Rattle.certificate.proofs.Cuts.{part_end}
use Rattle.certificate.proofs.parts.number.Goals as goal

pub at-requires : goal.at-requires
at-requires c =
    let cert = c.args.cert.now in
    omega (arith, ap length c.held.ensures, ap (λ l. length (words l)) (part_end cert 5), length-words (drop 5 cert), length-drop 5 cert)

pub returns : goal.returns
unfolding field
returns c = c.at.ensures.value ∙ ap (λ l. get_or l c.args.k 0) (c.held.ensures ∙ ap words (part_end c.args.cert.now 5))
