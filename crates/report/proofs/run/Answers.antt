-- `run` is safe: what was read lies in the text, and the report in its buffer. Assumes nothing.
use Rattle.std.proofs.Common.{◌≡◌, ℕ, ◌≤◌, List, length, sym, ap, ◌∙◌, arith}
use lib.Seq.{length-take-le}
use Rattle.lists.specs.Filled.{filled}
use Rattle.byte_buffer.specs.Fills.{Fills}
use Rattle.stages.proofs.Lists.{filled-fits}
use Rattle.report.proofs.run.Goals as goal

size-fits : (b₀ b : List ℕ) (size : ℕ) (ys : List ℕ) → length b ≡ length b₀ → Fills b₀ b size ys → size ≤ length b
size-fits b₀ b size ys e f = omega (arith, f.size_is, filled-fits b ys (f.buffer-is ∙ ap (λ (k : ℕ). filled k ys) (sym e)))

pub slice_bounds-write_last-end : goal.slice_bounds-write_last-end
slice_bounds-write_last-end g c = size-fits _ _ _ _ c.report-size.auto.out c.report-size.ensures.report

pub slice_bounds-write_last-end-2 : goal.slice_bounds-write_last-end-2
slice_bounds-write_last-end-2 g c = sym (length-take-le _ _ (size-fits _ _ _ _ c.report-size.auto.out c.report-size.ensures.report))
