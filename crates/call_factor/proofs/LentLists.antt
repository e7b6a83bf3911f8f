-- The lengths of the lent lists, and the test of them.
use mathlib.Core.Path.{◌≡◌}
use mathlib.Core.Bool.{Bool, true, ◌&&◌}
use Prim.Native.Nat.{ℕ, ◌+◌}
use lib.Dec.{eqb}
use borrow.Author.Tests.{eqb-true, eq-eqb}
use Rattle.lists.proofs.Bools.{and_left, and_right}
use Rattle.limits.specs.Limits.{work_length}
use Rattle.call_factor.specs.Lengths.{lent_lengths}
use Rattle.call_factor.specs.Accepted.{LentRight}
use Rattle.call_factor.specs.declared.Lent.{Lent}

module _ (n m : ℕ) (l : Lent) where
  abbrev from-uv : Bool
  from-uv = eqb l.work work_length

  abbrev from-uc : Bool
  from-uc = eqb l.uc l.uv && from-uv

  abbrev from-us : Bool
  from-us = eqb l.us (n + 1) && from-uc

  abbrev from-lc : Bool
  from-lc = eqb l.lc l.lv && from-us

  abbrev from-ls : Bool
  from-ls = eqb l.ls (n + 1) && from-lc

  abbrev from-columns : Bool
  from-columns = eqb l.columns m && from-ls

pub lent-right : (n m : ℕ) (l : Lent) → lent_lengths n m l ≡ true → LentRight n m l
unfolding lent_lengths
lent-right n m l h₀ =
    let h₁ = and_right (eqb l.rows n) (from-columns n m l) h₀ in
    let h₂ = and_right (eqb l.columns m) (from-ls n m l) h₁ in
    let h₃ = and_right (eqb l.ls (n + 1)) (from-lc n m l) h₂ in
    let h₄ = and_right (eqb l.lc l.lv) (from-us n m l) h₃ in
    let h₅ = and_right (eqb l.us (n + 1)) (from-uc n m l) h₄ in
    record {
      rows = eqb-true l.rows n (and_left (eqb l.rows n) (from-columns n m l) h₀);
      columns = eqb-true l.columns m (and_left (eqb l.columns m) (from-ls n m l) h₁);
      ls = eqb-true l.ls (n + 1) (and_left (eqb l.ls (n + 1)) (from-lc n m l) h₂);
      lower = eqb-true l.lc l.lv (and_left (eqb l.lc l.lv) (from-us n m l) h₃);
      us = eqb-true l.us (n + 1) (and_left (eqb l.us (n + 1)) (from-uc n m l) h₄);
      upper = eqb-true l.uc l.uv (and_left (eqb l.uc l.uv) (from-uv n m l) h₅);
      work = eqb-true l.work work_length (and_right (eqb l.uc l.uv) (from-uv n m l) h₅);
    }

pub right-lent : (n m : ℕ) (l : Lent) → LentRight n m l → lent_lengths n m l ≡ true
unfolding lent_lengths
right-lent n m l h =
    rw (eq-eqb l.rows n h.rows)
    (rw (eq-eqb l.columns m h.columns)
    (rw (eq-eqb l.ls (n + 1) h.ls)
    (rw (eq-eqb l.lc l.lv h.lower)
    (rw (eq-eqb l.us (n + 1) h.us)
    (rw (eq-eqb l.uc l.uv h.upper)
    (eq-eqb l.work work_length h.work))))))
