-- `value_at` meets its contract. Assumes nothing.
use Rattle.std.proofs.Common.{rules, arith, ◌≡◌, ℕ, ◌<◌, length, get_or, sym, ap, ◌∙◌}
use Rattle.sparse.specs.Row.{entry}
use Rattle.sparse.proofs.Entries.{entry_at, entry_absent}
use Rattle.sparse.proofs.lookup.value_at.Goals as goal

pub returns-in-Some : goal.returns-in-Some
returns-in-Some c =
    let r = c.requires in
    let inside : c.in-Some.t < length c.args.cols.now = search rules in
    let here : get_or c.args.cols.now c.in-Some.t 0 ≡ c.args.j = search rules in
    sym (entry_at r.width 0 c.args.cols.now c.args.vals.now r.rising c.in-Some.t (inside) (omega (arith, inside, r.paired))) ∙ ap (entry c.args.cols.now c.args.vals.now) (here)

pub returns-in-None : goal.returns-in-None
returns-in-None c =
    let nowhere : (t : ℕ) → t < length c.args.cols.now → get_or c.args.cols.now t 0 ≡ c.args.j → ⊥ = search rules in
    sym (entry_absent _ _ _ (nowhere))
