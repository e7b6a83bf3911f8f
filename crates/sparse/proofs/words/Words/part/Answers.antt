-- `Words::part` meets its contract: a part of the stored list, where no number is held by bytes, else a part of each of the two.
use Rattle.std.proofs.Common.{length, ap, sym, ◌∙◌, min, refl, arith}
use Rattle.std.proofs.Math.Seq.{slice}
use Rattle.sparse.specs.Words.{view}
use Rattle.sparse.proofs.Parts.{view-cut}
use Rattle.sparse.proofs.WordLaws.{length-view, view-stored}
use Rattle.sparse.proofs.words.Words.part.Goals as goal

pub part-requires : goal.part-requires
part-requires c =
    let all = sym (view-stored c.self.inside.list.now c.self.inside.bytes.now c.if-self-eq0.true) ∙ c.self.view_is in
    (c.requires.0, omega (arith, ap length all, c.requires.1))

pub returns-then-self-eq0 : goal.returns-then-self-eq0
returns-then-self-eq0 c =
    let all = sym (view-stored c.self.inside.list.now c.self.inside.bytes.now c.if-self-eq0.true) ∙ c.self.view_is in
    c.stored.ensures ∙ c.part.ensures ∙ ap (slice c.args.a c.args.e) all

pub bytes_part-requires : goal.bytes_part-requires
bytes_part-requires c =
    let size = length-view c.self.inside.list.now c.self.inside.bytes.now in
    let long = ap length c.self.view_is in
    (c.requires.0, omega (arith, size, long, c.requires.1))

pub returns : goal.returns
returns c =
    let l = c.self.inside.list.now in
    let b = c.self.inside.bytes.now in
    let a = c.args.a in
    let e = c.args.e in
    (λ j. view (c.list_part.ensures j) (c.bytes_part.ensures j))
    ∙ (view-cut l b a e (min a (length l)) (min e (length l)) refl refl
    ∙ ap (slice a e) c.self.view_is)
