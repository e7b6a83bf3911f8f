-- `factor_owned` meets its contract: each way out is a law of `Factored`.
use Rattle.std.proofs.Common.{refl}
use Rattle.sparse.specs.Matrix.{compressed}
use Rattle.sparse.specs.Set.{storage_of}
use Rattle.stages.proofs.Factored.{given-as, lengths-same, read-refused, lendable, lower-inside, upper-inside, factoring-refused, staged}
use Rattle.stages.proofs.factor_owned.Goals as goal

pub returns-in-Err : goal.returns-in-Err
returns-in-Err c =
    read-refused _ _ (compressed _ _ _) _ _ _ c.requires _ (given-as c.in-Err.is c.read.ensures)
    _ (storage_of _ _ (compressed _ _ _) (compressed _ _ _) _) _ _ refl c.clear_row.ensures

pub factor_held-requires : goal.factor_held-requires
factor_held-requires c =
    let a = c.read.auto in
    lendable _ _ (compressed _ _ _) _ _ _ c.requires _ (given-as c.in-Ok.is c.read.ensures) a.starts a.cols a.vals refl

pub returns-in-Err-factor_held : goal.returns-in-Err-factor_held
returns-in-Err-factor_held c =
    let a = c.read.auto in
    let l = c.factor_held.auto in
    factoring-refused _ _ (compressed _ _ _) _ _ _ c.requires _ (given-as c.in-Ok.is c.read.ensures) a.starts a.cols a.vals
    _ (storage_of _ _ (compressed _ _ _) (compressed _ _ _) _) (lengths-same _ _ l.ro l.co l.ls l.lc l.lv l.us l.uc l.uv l.work) c.in-Err-factor_held.ensures refl

pub bounds-ls-stated : goal.bounds-ls-stated
bounds-ls-stated c =
    let a = c.read.auto in
    let l = c.factor_held.auto in
    lower-inside _ _ (compressed _ _ _) _ _ _ c.requires _ (given-as c.in-Ok.is c.read.ensures) a.starts a.cols a.vals
    _ (storage_of _ _ (compressed _ _ _) (compressed _ _ _) _) (lengths-same _ _ l.ro l.co l.ls l.lc l.lv l.us l.uc l.uv l.work) c.in-Ok-factor_held.ensures

pub bounds-us-ranks : goal.bounds-us-ranks
bounds-us-ranks c =
    let a = c.read.auto in
    let l = c.factor_held.auto in
    upper-inside _ _ (compressed _ _ _) _ _ _ c.requires _ (given-as c.in-Ok.is c.read.ensures) a.starts a.cols a.vals
    _ (storage_of _ _ (compressed _ _ _) (compressed _ _ _) _) (lengths-same _ _ l.ro l.co l.ls l.lc l.lv l.us l.uc l.uv l.work) c.in-Ok-factor_held.ensures

pub returns : goal.returns
returns c =
    let a = c.read.auto in
    let l = c.factor_held.auto in
    staged _ _ (compressed _ _ _) _ _ _ c.requires _ (given-as c.in-Ok.is c.read.ensures) a.starts a.cols a.vals
    _ (storage_of _ _ (compressed _ _ _) (compressed _ _ _) _) (lengths-same _ _ l.ro l.co l.ls l.lc l.lv l.us l.uc l.uv l.work) c.in-Ok-factor_held.ensures
