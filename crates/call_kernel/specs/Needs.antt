-- What the settings from a certificate that passed need.
--   SettingsPartsReady p n m cert b w    the bytes end where their parts do, the working row w is all zero, and the set that the bytes hold is ready to fill the
--                                        list b, with the first m cells of w
use Rattle.std.specs.Prelude.{ℕ, ◌≤◌, ◌≡◌, List, length, take}
use Rattle.lists.specs.Filled.{zeros}
use Rattle.certificate.specs.Reading.{places_in, set_of_certificate}
use Rattle.answer_kernel.specs.Needs.{BasisReady}

pub record SettingsPartsReady (p n m : ℕ) (cert b w : List ℕ) : Type 0 where
  pub long : length cert ≡ (places_in n m cert).end
  pub ready : let s = set_of_certificate n m cert in BasisReady p s.r s.U s.C b (take m w)
  pub room : m ≤ length w
  pub clear : w ≡ zeros (length w)
