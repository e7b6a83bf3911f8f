-- `factor_from` meets its contract: both ways out are laws of `FromPairs`.
use Rattle.std.proofs.Common.{refl}
use Rattle.factor_all.proofs.FromPairs.{from-pairs, from-refused, from-rank, from-complete, from-done}
use Rattle.factor_all.proofs.factor.factor_from.Goals as goal

pub returns-then-over : goal.returns-then-over
returns-then-over c = from-refused _ _ _ _ c.requires _ _ c.pass_one-pass.ensures c.if-over.true _ c.clear_all.ensures

pub pass_two-requires : goal.pass_two-requires
pass_two-requires c =
    from-complete _ _ _ _ c.requires _ _ c.pass_one-pass.ensures c.if-over.false (record {
      R-long = c.pass_one-pass.auto.ro;
      C-long = c.pass_one-pass.auto.co;
      ls-long = c.pass_one-pass.auto.ls;
      lc-long = c.pass_one-pass.auto.lc;
      lv-long = c.pass_one-pass.auto.lv;
      us-long = c.pass_one-pass.auto.us;
      uc-long = c.pass_one-pass.auto.uc;
      uv-long = c.pass_one-pass.auto.uv;
      w-long = c.pass_one-pass.auto.work;
    })

pub overflow_cast-rank : goal.overflow_cast-rank
overflow_cast-rank c = record { fits = from-rank _ _ _ _ c.requires _ _ c.pass_one-pass.ensures c.if-over.false }

pub overflow_cast-structural : goal.overflow_cast-structural
overflow_cast-structural c = record { fits = from-pairs _ _ _ _ c.requires }

pub returns : goal.returns
returns c =
    from-done _ _ _ _ c.requires _ _ c.pass_one-pass.ensures c.if-over.false (record {
      R-long = c.pass_one-pass.auto.ro;
      C-long = c.pass_one-pass.auto.co;
      ls-long = c.pass_one-pass.auto.ls;
      lc-long = c.pass_one-pass.auto.lc;
      lv-long = c.pass_one-pass.auto.lv;
      us-long = c.pass_one-pass.auto.us;
      uc-long = c.pass_one-pass.auto.uc;
      uv-long = c.pass_one-pass.auto.uv;
      w-long = c.pass_one-pass.auto.work;
    }) _ refl c.pass_two.ensures
