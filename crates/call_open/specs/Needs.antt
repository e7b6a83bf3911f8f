-- What the open columns from a certificate that passed need.
--   OpenPartsReady p n m cert l w    the bytes end where their parts do, and the set that they hold is ready for its unit questions
use Rattle.std.specs.Prelude.{ℕ, ◌≡◌, List, length}
use Rattle.answer_open.specs.Needs.{ColumnsReady}
use Rattle.certificate.specs.Reading.{places_in, set_of_certificate}

pub record OpenPartsReady (p n m : ℕ) (cert l w : List ℕ) : Type 0 where
  pub long : length cert ≡ (places_in n m cert).end
  pub ready : let s = set_of_certificate n m cert in ColumnsReady p s.r s.U s.C l w
