-- `form_ok` meets its contract.
use Prim.Native.Nat.{ℕ}
use mathlib.Core.Path.{◌≡◌, sym, ◌∙◌, ap}
use lib.ListN.{length}
use borrow.Author.Tests.{ne_eqb, eq-eqb}
use Rattle.sparse.specs.Form.{well_formed, starts_ok}
use Rattle.lists.proofs.Bools.{chain-stop, chain-on, chain-false, chain-true}
use Rattle.sparse.proofs.form.form_ok.Goals as goal

pub returns-then-not-starts_ok : goal.returns-then-not-starts_ok
unfolding well_formed
returns-then-not-starts_ok c =
    let first : c.starts_ok.result ≡ starts_ok (length c.args.rows.now.cols)
    c.args.rows.now.starts = c.starts_ok.ensures ∙ ap (λ (n : ℕ). starts_ok n c.args.rows.now.starts) c.len-total.ensures in
    chain-stop _ _ _ (first) (cc)

pub returns-then-len-total : goal.returns-then-len-total
unfolding well_formed
returns-then-len-total c =
    let first : c.starts_ok.result ≡ starts_ok (length c.args.rows.now.cols)
    c.args.rows.now.starts = c.starts_ok.ensures ∙ ap (λ (n : ℕ). starts_ok n c.args.rows.now.starts) c.len-total.ensures in
    chain-on _ _ _ _ (first) (cc)
    (chain-false _ _ (ne_eqb _ _ (λ e. c.if-len-total.true (c.len.ensures ∙ e ∙ sym c.len-total.ensures))))

pub rows_ok-requires : goal.rows_ok-requires
rows_ok-requires c =
    let first : c.starts_ok.result ≡ starts_ok (length c.args.rows.now.cols)
    c.args.rows.now.starts = c.starts_ok.ensures ∙ ap (λ (n : ℕ). starts_ok n c.args.rows.now.starts) c.len-total.ensures in
    sym (first) ∙ c.if-not-starts_ok.false

pub returns-then-not-rows_ok : goal.returns-then-not-rows_ok
unfolding well_formed
returns-then-not-rows_ok c =
    let first : c.starts_ok.result ≡ starts_ok (length c.args.rows.now.cols)
    c.args.rows.now.starts = c.starts_ok.ensures ∙ ap (λ (n : ℕ). starts_ok n c.args.rows.now.starts) c.len-total.ensures in
    chain-on _ _ _ _ (first) (cc)
    (chain-true _ _ _ (eq-eqb _ _ (sym c.len.ensures ∙ c.if-len-total.false ∙ c.len-total.ensures))
    (chain-stop _ _ _ c.rows_ok.ensures (cc)))

pub returns : goal.returns
unfolding well_formed
returns c =
    let first : c.starts_ok.result ≡ starts_ok (length c.args.rows.now.cols)
    c.args.rows.now.starts = c.starts_ok.ensures ∙ ap (λ (n : ℕ). starts_ok n c.args.rows.now.starts) c.len-total.ensures in
    chain-on _ _ _ _ (first) (cc)
    (chain-true _ _ _ (eq-eqb _ _ (sym c.len.ensures ∙ c.if-len-total.false ∙ c.len-total.ensures))
    (chain-on _ _ _ _ c.rows_ok.ensures (cc) c.values_ok.ensures))
