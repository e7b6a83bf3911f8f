-- Refusal 7: lent entry storage that is outgrown.
--   EntriesFit roomL roomU f     the entries of L and of U found so far are at most as many as there is room for
--   Overflows ..                 i is the first row, in the order of the turns, after which they no longer fit: what is found before its turn
--                                fits, and with it no longer
use Rattle.std.specs.Prelude.{ℕ, ◌≤◌, ◌≡◌, List, [], ◌∷◌, ◌++◌}
use Rattle.algebra.specs.Matrix.{Matrix}
use Rattle.elimination.specs.Pivots.{Found, uppers_of, Turn, turns}
use Rattle.elimination.specs.Factoring.{lowers_of, entries, row_of_turn}

pub record EntriesFit (roomL roomU : ℕ) (f : Found) : Type 0 where
  pub L : entries (lowers_of f) ≤ roomL
  pub U : entries (uppers_of f) ≤ roomU

pub record Overflows (p m : ℕ) (A : Matrix) (roomL roomU : ℕ) (f : Found) (ts : List Turn) (i : ℕ) : Type 0 where
  pub before : List Turn
  pub at : Turn
  pub after : List Turn
  pub split : ts ≡ before ++ (at ∷ after)
  pub row : row_of_turn at ≡ i
  pub fitted : EntriesFit roomL roomU (turns p m A f before)
  pub over : ¬ EntriesFit roomL roomU (turns p m A f (before ++ (at ∷ [])))
