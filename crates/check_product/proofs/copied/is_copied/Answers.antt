-- `is_copied` meets its contract: the row of A, and the row of U that L's only entry names.
use Rattle.std.proofs.Common.{ℕ, true, ◌+◌, ◌-◌, ◌<◌, get_or, ◌≡◌, sym, ap, ◌∙◌, length, arith}
use Rattle.algebra.specs.Matrix.{vector}
use Rattle.sparse.specs.Matrix.{Compressed, form}
use Rattle.sparse.proofs.Entries.{row-values}
use Rattle.sparse.proofs.PartLaws.{has-row}
use Rattle.sparse.proofs.Rows.{form-starts, form-row}
use Rattle.check_product.proofs.MultipleLaws.{OneEntry, one_entry, copied-agrees}
use Rattle.check_product.proofs.copied.is_copied.Goals as goal

-- row i of L has one entry
one : (p r i at : ℕ) (L : Compressed) → form p r L ≡ true → i + 1 < length L.starts → at ≡ get_or L.starts i 0 → get_or L.starts (i + 1) 0 - get_or L.starts i 0 ≡ 1 → OneEntry p r L i at
one p r i at L f h e g = one_entry _ _ L i _ f h e g

pub row_length-requires : goal.row_length-requires
row_length-requires c = (c.requires.L-row, λ k h. (form-starts c.args.q.p _ _ _ _ c.requires.L-form k h).0)

pub index_at-named-requires : goal.index_at-named-requires
index_at-named-requires c = (one c.args.q.p c.args.r c.args.i _ c.args.l.now c.requires.L-form c.requires.L-row c.index_at-at.ensures (sym c.row_length.ensures ∙ c.if-row_length-ne1.false)).inside

pub row-requires : goal.row-requires
row-requires c = has-row c.args.q.p _ _ _ c.requires.A-form (omega (arith, c.index_at-k.ensures, c.requires.A-row))

pub row-requires-2 : goal.row-requires-2
row-requires-2 c =
    let only = one c.args.q.p c.args.r c.args.i _ c.args.l.now c.requires.L-form c.requires.L-row c.index_at-at.ensures (sym c.row_length.ensures ∙ c.if-row_length-ne1.false) in
    has-row c.args.q.p _ _ _ c.requires.U-form (omega (arith, c.index_at-named.ensures, only.column, c.requires.U-rows))

pub at-requires : goal.at-requires
at-requires c = (one c.args.q.p c.args.r c.args.i _ c.args.l.now c.requires.L-form c.requires.L-row c.index_at-at.ensures (sym c.row_length.ensures ∙ c.if-row_length-ne1.false)).paired

pub is_multiple-requires : goal.is_multiple-requires
is_multiple-requires c =
    let only = one c.args.q.p c.args.r c.args.i _ c.args.l.now c.requires.L-form c.requires.L-row c.index_at-at.ensures (sym c.row_length.ensures ∙ c.if-row_length-ne1.false) in
    let own = form-row c.args.q.p _ _ _ _ c.requires.A-form c.index_at-k.result in
    let row = form-row c.args.q.p _ _ _ _ c.requires.U-form c.index_at-named.result in
    record {
      paired = ap length c.row.ensures.cols ∙ own.paired ∙ sym (ap length c.row.ensures.vals);
      paired' = ap length c.row-2.ensures.cols ∙ row.paired ∙ sym (ap length c.row-2.ensures.vals);
      residue = rw c.at.ensures.value only.value;
      below = rw c.row-2.ensures.vals (row-values c.args.q.p _ _ _ row);
    }

pub returns : goal.returns
returns c =
    let only = one c.args.q.p c.args.r c.args.i _ c.args.l.now c.requires.L-form c.requires.L-row c.index_at-at.ensures (sym c.row_length.ensures ∙ c.if-row_length-ne1.false) in
    λ z m. copied-agrees c.args.q.p c.args.r m c.args.plan.now (vector c.args.ro.now) c.args.l.now c.args.u.now c.args.i _ _ _ _ _ _ _ _ c.requires.L-form only
    c.index_at-k.ensures c.row.ensures.cols c.row.ensures.vals c.index_at-named.ensures c.row-2.ensures.cols c.row-2.ensures.vals c.at.ensures.value (c.is_multiple.ensures z)
