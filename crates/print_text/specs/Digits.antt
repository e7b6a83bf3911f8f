-- Digits written from the right.
--   EndsWith x l k    the list l ends with the decimal digits of x, which begin at place k
use Rattle.std.specs.Prelude.{ℕ, ◌≤◌, ◌≡◌, List, length, drop}
use Rattle.text_fields.specs.Decimal.{decimal}

pub record EndsWith (x : ℕ) (l : List ℕ) (k : ℕ) : Type 0 where
  pub inside : k ≤ length l
  pub ending : drop k l ≡ decimal x
