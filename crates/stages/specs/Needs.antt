-- What factoring a plan that was read starts from, and what it comes to.
--   Lendable r A h          the lists of A hold the plan, which is a good one, and those of h have the largest lengths
--   cut_to n m h             the lists of h as they are lent for an n by m plan: R, C and the starts cut to their lengths
--   HeldFactored r A f h    the lists so cut are left as factoring the plan says
use Rattle.std.specs.Prelude.{ℕ, ◌+◌, ◌≤◌, ◌≡◌, length, take}
use Rattle.sparse.specs.Matrix.{Compressed, compressed}
use Rattle.sparse.specs.Set.{Storage, storage_of}
use Rattle.limits.specs.Limits.{largest_size, work_length}
use Rattle.text_plan.specs.Held.{held_plan}
use Rattle.text_plan.specs.Call.{Reading}
use Rattle.factor_all.specs.Factorization.{Leaves}
use Rattle.factor_all.specs.Factored.{Factored}
use Rattle.call_plan.specs.Accepted.{GoodPlan}
use Rattle.call_factor.specs.Calls.{factor_call_of}
use Rattle.stages.specs.Stages.{lent_for}
use Rattle.stages.specs.Lists.{SetLists, Held}

pub record Lendable (r : Reading) (A : Compressed) (h : Storage) : Type 0 where
  pub plan : Held r A
  pub rows-small : r.n ≤ largest_size
  pub columns-small : r.m ≤ largest_size
  pub good : GoodPlan r.p r.n r.m (held_plan r A)
  pub set : SetLists h
  pub work-length : length h.work ≡ work_length

abbrev pub cut_to : (n m : ℕ) → Storage → Storage
cut_to n m h =
    storage_of (take n h.R) (take m h.C) (compressed (take (n + 1) h.L.starts) h.L.cols h.L.vals)
    (compressed (take (n + 1) h.U.starts) h.U.cols h.U.vals) h.work

abbrev pub HeldFactored : Reading → Compressed → Factored → Storage → Type 0
HeldFactored r A f h = Leaves (factor_call_of r.p r.n r.m (held_plan r A) (lent_for r.n r.m)) f (cut_to r.n r.m h)
