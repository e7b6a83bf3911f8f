-- What a check passes exactly, without an order of tests.
--   StoredPasses ..         stored factors: a good plan, lists of their lengths, a working row of its length, and a set that has the published shape and
--                           the product A
--   CertificatePasses ..    a certificate: a good plan, a working row of its length, the layout with the plan's p, n and m, and a set that has the
--                           published shape and the product A
use Rattle.std.specs.Prelude.{ℕ, ◌≡◌, true, List}
use Rattle.sparse.specs.Matrix.{Compressed}
use Rattle.sparse.specs.Set.{Set}
use Rattle.pluq.specs.Judge.{Passes}
use Rattle.certificate.specs.Layout.{Sized}
use Rattle.certificate.specs.Reading.{header_ok, set_of_certificate}
use Rattle.limits.specs.Limits.{work_length}
use Rattle.call_plan.specs.Accepted.{GoodPlan}

pub record StoredPasses (p n m : ℕ) (A : Compressed) (s : Set) (w : ℕ) : Type 0 where
  pub plan : GoodPlan p n m A
  pub sized : Sized n m s
  pub work : w ≡ work_length
  pub passes : Passes p n m A s

pub record CertificatePasses (p n m : ℕ) (A : Compressed) (cert : List ℕ) (w : ℕ) : Type 0 where
  pub plan : GoodPlan p n m A
  pub work : w ≡ work_length
  pub layout : header_ok p n m cert ≡ true
  pub passes : Passes p n m A (set_of_certificate n m cert)
