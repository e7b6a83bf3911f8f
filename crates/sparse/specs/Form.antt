-- The form of a matrix that is stored by rows: row starts, columns and values (document 01's stored form).
--   starts_from count from ss       row starts after one that is `from`: they never fall, and the last is `count`
--   starts_ok count ss              all row starts: the first is 0
--   rises_from width low cs         columns of a row rise strictly, each at least `low` and below `width`
--   rows_from width cols from ss    the columns of each row rise; the row that begins at `from` ends where the next begins
--   values_ok p vs                  values from 1 to p - 1
--   well_formed p width ss cs vs    a matrix of that width modulo p is stored: all of the above, and as many values as columns
use Rattle.std.specs.Prelude.{ℕ, ◌+◌, Bool, true, false, ◌&&◌, List, [], ◌∷◌, length, drop, leb, ltb, eqb}
use Rattle.std.proofs.Math.Seq.{slice}

unfoldable pub starts_from : ℕ → ℕ → List ℕ → Bool
starts_from count from [] = eqb from count
starts_from count from (s ∷ ss) = leb from s && starts_from count s ss

unfoldable pub starts_ok : ℕ → List ℕ → Bool
starts_ok count [] = false
starts_ok count (s ∷ ss) = eqb s 0 && starts_from count 0 ss

unfoldable pub rises_from : ℕ → ℕ → List ℕ → Bool
rises_from width low [] = true
rises_from width low (c ∷ cs) = (leb low c && ltb c width) && rises_from width (c + 1) cs

unfoldable pub rows_from : ℕ → List ℕ → ℕ → List ℕ → Bool
rows_from width cols from [] = true
rows_from width cols from (s ∷ ss) = rises_from width 0 (slice from s cols) && rows_from width cols s ss

unfoldable pub values_ok : ℕ → List ℕ → Bool
values_ok p [] = true
values_ok p (v ∷ vs) = (ltb 0 v && ltb v p) && values_ok p vs

unfoldable pub well_formed : ℕ → ℕ → List ℕ → List ℕ → List ℕ → Bool
well_formed p width ss cols vals =
    starts_ok (length cols) ss && (eqb (length vals) (length cols) && (rows_from width cols 0 (drop 1 ss) && values_ok p vals))
