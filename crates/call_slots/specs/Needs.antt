-- What the answer from a certificate that passed needs.
--   SlotsPartsReady p n m cert h st w work    the bytes end where their parts do, and the set that they hold is ready to answer
use Rattle.std.specs.Prelude.{ℕ, ◌≡◌, List, length}
use Rattle.answer_slots.specs.Needs.{SlotsReady}
use Rattle.certificate.specs.Reading.{places_in, set_of_certificate}

pub record SlotsPartsReady (p n m : ℕ) (cert h st w work : List ℕ) : Type 0 where
  pub long : length cert ≡ (places_in n m cert).end
  pub ready : SlotsReady p (set_of_certificate n m cert) h st w work
