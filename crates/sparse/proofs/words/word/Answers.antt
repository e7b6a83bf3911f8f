-- `word` meets its contract. Assumes nothing.
use Prim.Native.Nat.{ℕ, ◌<◌}
use mathlib.Core.Path.{sym, ap, ◌∙◌}
use mathlib.Core.List.{List}
use native.Mathlib.Omega.{arith}
use lib.ListN.{length, get_or}
use Rattle.sparse.proofs.WordLaws.{length-view, view-stored, view-bytes, view_first, view-second}
use Rattle.sparse.proofs.words.word.Goals as goal

pub offset_bounds-list-i : goal.offset_bounds-list-i
offset_bounds-list-i c =
    let inside : let a = c.args in a.i < length a.list.now = omega (arith, length-view c.args.list.now c.args.bytes.now, c.requires, c.if-bytes-eq0.true) in
    omega (arith, inside, c.well_formed)

pub bounds-list-i : goal.bounds-list-i
bounds-list-i c =
    let inside : let a = c.args in a.i < length a.list.now = omega (arith, length-view c.args.list.now c.args.bytes.now, c.requires, c.if-bytes-eq0.true) in
    inside

pub returns-then-bytes-eq0 : goal.returns-then-bytes-eq0
returns-then-bytes-eq0 c =
    let a = c.args in
    ap (λ (l : List ℕ). get_or l a.i 0) (sym (view-stored a.list.now a.bytes.now c.if-bytes-eq0.true))

pub word_at-requires : goal.word_at-requires
word_at-requires c = omega (arith, length-view c.args.list.now c.args.bytes.now, c.requires, c.if-n-eq0.true)

pub returns-then-n-eq0 : goal.returns-then-n-eq0
returns-then-n-eq0 c =
    let a = c.args in
    c.word_at.ensures ∙ ap (λ (l : List ℕ). get_or l a.i 0) (sym (view-bytes a.list.now a.bytes.now c.if-n-eq0.true))

pub returns-then-i-n : goal.returns-then-i-n
returns-then-i-n c = let a = c.args in sym (view_first a.list.now a.bytes.now a.i c.if-i-n.true)

pub word_at-requires-2 : goal.word_at-requires-2
word_at-requires-2 c = omega (arith, length-view c.args.list.now c.args.bytes.now, c.requires)

pub returns : goal.returns
returns c = let a = c.args in c.word_at-2.ensures ∙ sym (view-second a.list.now a.bytes.now a.i c.if-i-n.false)
