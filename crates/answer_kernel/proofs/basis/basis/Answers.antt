-- `basis` meets its contract: the marks stand in the working row while the settings are filled in. Assumes nothing.
use Rattle.answer_kernel.proofs.BasisLaws.{basis-marks, basis-settings, basis-done}
use Rattle.answer_kernel.proofs.basis.basis.Goals as goal

pub mark_pivots-requires : goal.mark_pivots-requires
mark_pivots-requires c = basis-marks _ _ _ _ _ _ c.requires

pub fill_settings-requires : goal.fill_settings-requires
fill_settings-requires c = basis-settings _ _ _ _ _ _ c.requires _ c.mark_pivots.auto.work c.mark_pivots.ensures

pub returns : goal.returns
returns c = basis-done _ _ _ _ _ _ c.requires _ _ _ c.mark_pivots.auto.work c.fill_settings.ensures c.clear_row.ensures
