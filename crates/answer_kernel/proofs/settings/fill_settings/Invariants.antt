-- `fill_settings` meets its contract; the loop's invariant is `Filling`: the settings of the free columns below c are stored. Assumes nothing.
use lib.ListN.{length}
use Rattle.answer_kernel.proofs.SettingsLoop.{Filling}
use Rattle.answer_kernel.proofs.settings.fill_settings.Given as goal

abbrev pub invariant-loop-c : goal.invariant-loop-c
invariant-loop-c l = Filling l.q.p (length l.work) l.r l.co l.u l.initial.basis l.basis l.at l.c
