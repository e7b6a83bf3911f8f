-- `settings_outcome` meets its contract: the check, then the length.
use Rattle.std.proofs.Common.{ℕ, ◌-◌, ◌*◌, sym, ap, ◌∙◌, arith}
use lib.Dec.{eqb}
use Rattle.refusals.proofs.Results.{stops, goes_on, ends_at}
use Rattle.certificate.proofs.Views.{header-fits}
use Rattle.call_check.proofs.Outcomes.{checks}
use Rattle.call_kernel.specs.Calls.{kernel_after}
use Rattle.call_kernel.proofs.Ways.{rank_is, parts-end, rank-small}
use Rattle.call_kernel.proofs.from_certificate.settings_outcome.Goals as goal

pub returns-in_err-check_bytes : goal.returns-in_err-check_bytes
unfolding kernel_after
returns-in_err-check_bytes c = let h = c.in_err-check_bytes.ensures in checks _ _ _ _ (stops _ _ _ _ c.from_residual.ensures.1 h.outcome) h.cleared

pub number-r-requires : goal.number-r-requires
number-r-requires c = (omega arith, header-fits _ _ _ (parts-end _ _ _ _ _ _ (sym c.in_ok-check_bytes.ensures.outcome)))

pub settings_fit-requires : goal.settings_fit-requires
settings_fit-requires c = rank-small _ _ _ _ _ _ (sym c.in_ok-check_bytes.ensures.outcome) _ c.number-r.ensures

pub returns : goal.returns
unfolding kernel_after
returns c =
    let h = c.in_ok-check_bytes.ensures in
    checks _ _ _ _
    (goes_on _ _ _ h.outcome
    (ends_at _ _ _ _ _ c.demand.ensures
    (c.settings_fit.ensures ∙ ap (λ (r : ℕ). eqb c.args.cells (c.args.m * (c.args.m - r))) (c.number-r.ensures ∙ sym (rank_is c.args.n c.args.m c.args.cert.now)))))
    h.cleared
