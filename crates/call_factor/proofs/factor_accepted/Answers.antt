-- `factor_accepted` meets its contract: everything lent is cleared, and is then ready.
use Rattle.std.proofs.Common.{ap, ◌∙◌}
use Rattle.call_factor.specs.Lengths.{lent_outcome}
use Rattle.call_factor.proofs.Ready.{kept_same, ready, call-done}
use Rattle.call_factor.proofs.factor_accepted.Goals as goal

pub factor-requires : goal.factor-requires
factor-requires c =
    ready _ _ _ _ _ (ap (lent_outcome _ _ _ _) (kept_same _ _ (record {
      R-long = c.clear_all.auto.ro;
      C-long = c.clear_all.auto.co;
      ls-long = c.clear_all.auto.ls;
      lc-long = c.clear_all.auto.lc;
      lv-long = c.clear_all.auto.lv;
      us-long = c.clear_all.auto.us;
      uc-long = c.clear_all.auto.uc;
      uv-long = c.clear_all.auto.uv;
      w-long = c.clear_all.auto.work;
    })) ∙ c.requires) c.clear_all.ensures

pub returns : goal.returns
returns c =
    call-done _ _ _ _ _ _ _ (kept_same _ _ (record {
      R-long = c.clear_all.auto.ro;
      C-long = c.clear_all.auto.co;
      ls-long = c.clear_all.auto.ls;
      lc-long = c.clear_all.auto.lc;
      lv-long = c.clear_all.auto.lv;
      us-long = c.clear_all.auto.us;
      uc-long = c.clear_all.auto.uc;
      uv-long = c.clear_all.auto.uv;
      w-long = c.clear_all.auto.work;
    })) _ c.requires c.factor.ensures
