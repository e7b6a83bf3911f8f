-- `inverse_diagonal` meets its contract: the last entry of row k is the diagonal entry. Assumes nothing.
use Prim.Native.Nat.{◌-◌, ◌≤◌, ◌<◌}
use mathlib.Core.Path.{◌≡◌, ap, ◌∙◌}
use native.Mathlib.Omega.{arith}
use lib.ListN.{length, get_or}
use Rattle.residue.specs.Inverse.{inv_mod}
use Rattle.sparse.specs.Matrix.{Compressed, matrix}
use Rattle.sparse.proofs.Entries.{values-at}
use Rattle.sparse.proofs.Rows.{form-paired, form-values}
use Rattle.row_space.proofs.Diagonal.{diagonal-last}
use Rattle.row_space.proofs.lower.inverse_diagonal.Goals as goal

pub overflow_sub-e : goal.overflow_sub-e
overflow_sub-e c =
    let L : Compressed = c.args.l.now in
    let last : (0 < c.index-e.result) × (c.index-e.result ≤ length (L).cols) × (get_or (L).vals (c.index-e.result - 1) 0 ≡ matrix (L) c.args.k c.args.k) = diagonal-last c.args.q.p _ (L) c.args.k c.index-e.result c.requires.formed c.requires.shaped c.requires.inside
    (omega (arith, c.requires.inside, c.requires.rows)) (c.index-e.ensures ∙ c.after.ensures) in
    omega (arith, (last).0)

pub at-requires : goal.at-requires
at-requires c =
    let L : Compressed = c.args.l.now in
    let last : (0 < c.index-e.result) × (c.index-e.result ≤ length (L).cols) × (get_or (L).vals (c.index-e.result - 1) 0 ≡ matrix (L) c.args.k c.args.k) = diagonal-last c.args.q.p _ (L) c.args.k c.index-e.result c.requires.formed c.requires.shaped c.requires.inside
    (omega (arith, c.requires.inside, c.requires.rows)) (c.index-e.ensures ∙ c.after.ensures) in
    let inside : c.index-e.result - 1 < length (L).vals = omega (arith, (last).0, (last).1, form-paired c.args.q.p _ _ _ _ c.requires.formed) in
    inside

pub invert-requires : goal.invert-requires
invert-requires c =
    let L : Compressed = c.args.l.now in
    let last : (0 < c.index-e.result) × (c.index-e.result ≤ length (L).cols) × (get_or (L).vals (c.index-e.result - 1) 0 ≡ matrix (L) c.args.k c.args.k) = diagonal-last c.args.q.p _ (L) c.args.k c.index-e.result c.requires.formed c.requires.shaped c.requires.inside
    (omega (arith, c.requires.inside, c.requires.rows)) (c.index-e.ensures ∙ c.after.ensures) in
    let inside : c.index-e.result - 1 < length (L).vals = omega (arith, (last).0, (last).1, form-paired c.args.q.p _ _ _ _ c.requires.formed) in
    let v = values-at c.args.q.p _ (form-values c.args.q.p _ _ _ _ c.requires.formed) (c.index-e.result - 1) (inside) in
    record { prime = c.requires.prime; nonzero = omega (arith, v.0, c.at.ensures.value); below = omega (arith, v.1, c.at.ensures.value) }

pub returns : goal.returns
returns c =
    let L : Compressed = c.args.l.now in
    let last : (0 < c.index-e.result) × (c.index-e.result ≤ length (L).cols) × (get_or (L).vals (c.index-e.result - 1) 0 ≡ matrix (L) c.args.k c.args.k) = diagonal-last c.args.q.p _ (L) c.args.k c.index-e.result c.requires.formed c.requires.shaped c.requires.inside
    (omega (arith, c.requires.inside, c.requires.rows)) (c.index-e.ensures ∙ c.after.ensures) in
    record { value = c.invert.ensures.value ∙ ap (inv_mod c.args.q.p) (c.at.ensures.value ∙ (last).2); below = c.invert.ensures.below }
