-- `ends_here` meets its contract: a piece is empty at a separator and at the line's end. Assumes nothing.
use mathlib.Core.Path.{◌≡◌, sym, ap}
use mathlib.Core.List.{List}
use Prim.Native.Nat.{ℕ, ◌<◌}
use native.Mathlib.Decide.{ℕ_discrete}
use native.Mathlib.Omega.{arith}
use lib.ListN.{length, get_or}
use lib.Dec.{eqb}
use borrow.Author.Tests.{eq-eqb, ne_eqb}
use Rattle.text_fields.specs.Scan.{size_from}
use Rattle.text_fields.proofs.Cuts.{first-end, first-hit, first-miss}
use Rattle.text_fields.proofs.runs.ends_here.Goals as goal

separator-here : (s : ℕ) (l : List ℕ) (e : ℕ) → e < length l → eqb (get_or l e 0) s ≡ eqb (size_from s l e) 0
separator-here s l e h = go (ℕ_discrete (get_or l e 0) s)
  where
    go : Dec (get_or l e 0 ≡ s) → eqb (get_or l e 0) s ≡ eqb (size_from s l e) 0
    go (yes q) = rw (eq-eqb (get_or l e 0) s q, eq-eqb (size_from s l e) 0 (ap length (first-hit s l e h q)))
    go (no q) = rw (ne_eqb (get_or l e 0) s q, ne_eqb (size_from s l e) 0 (λ z. omega (arith, first-miss s l e h q)))

pub returns-then-end-line : goal.returns-then-end-line
returns-then-end-line c = separator-here _ _ _ c.if-end-line.true

pub returns : goal.returns
returns c = let a = c.args in sym (eq-eqb _ 0 (ap length (first-end a.separator a.line.now a.end (omega arith))))
