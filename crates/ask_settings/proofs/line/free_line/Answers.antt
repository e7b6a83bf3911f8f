-- `free_line` meets its contract: the setting is filled into the first m cells of a list, which are then printed. Assumes nothing.
use mathlib.Core.Path.{refl, sym}
use Rattle.sparse.specs.Matrix.{Compressed, compressed}
use Rattle.ask_settings.proofs.Column.{C-part, starts-part, cols-part, vals-part, z-part, closed-ready, z-again, z-holds, line-fits, line-written}
use Rattle.ask_settings.proofs.line.free_line.Goals as goal

pub slice_bounds-fill_setting-end : goal.slice_bounds-fill_setting-end
slice_bounds-fill_setting-end c =
    let upper : Compressed = compressed c.args.us.now c.args.uc.now c.args.uv.now in
    sym (C-part c.args.g c.args.co.now (upper) c.args.c c.args.out.now c.requires)

pub slice_bounds-fill_setting-end-2 : goal.slice_bounds-fill_setting-end-2
slice_bounds-fill_setting-end-2 c =
    let upper : Compressed = compressed c.args.us.now c.args.uc.now c.args.uv.now in
    sym (starts-part c.args.g c.args.co.now (upper) c.args.c c.args.out.now c.requires)

pub slice_bounds-fill_setting-end-3 : goal.slice_bounds-fill_setting-end-3
slice_bounds-fill_setting-end-3 c =
    let upper : Compressed = compressed c.args.us.now c.args.uc.now c.args.uv.now in
    sym (cols-part c.args.g c.args.co.now (upper) c.args.c c.args.out.now c.requires)

pub slice_bounds-fill_setting-end-4 : goal.slice_bounds-fill_setting-end-4
slice_bounds-fill_setting-end-4 c =
    let upper : Compressed = compressed c.args.us.now c.args.uc.now c.args.uv.now in
    sym (vals-part c.args.g c.args.co.now (upper) c.args.c c.args.out.now c.requires)

pub slice_bounds-fill_setting-end-5 : goal.slice_bounds-fill_setting-end-5
slice_bounds-fill_setting-end-5 c =
    let upper : Compressed = compressed c.args.us.now c.args.uc.now c.args.uv.now in
    sym (z-part c.args.g c.args.co.now (upper) c.args.c c.args.out.now c.requires _ refl)

pub fill_setting-requires : goal.fill_setting-requires
fill_setting-requires c =
    let upper : Compressed = compressed c.args.us.now c.args.uc.now c.args.uv.now in
    closed-ready c.args.g c.args.co.now (upper) c.args.c c.args.out.now c.requires _ refl

pub slice_bounds-z-end-2 : goal.slice_bounds-z-end-2
slice_bounds-z-end-2 c =
    let upper : Compressed = compressed c.args.us.now c.args.uc.now c.args.uv.now in
    z-holds c.args.g c.args.co.now (upper) c.args.c c.args.out.now c.requires _ refl c.fill_setting.new.z c.fill_setting.auto.z

pub slice_bounds-write_setting-end : goal.slice_bounds-write_setting-end
slice_bounds-write_setting-end c =
    let upper : Compressed = compressed c.args.us.now c.args.uc.now c.args.uv.now in
    sym (z-again c.args.g c.args.co.now (upper) c.args.c c.args.out.now c.requires _ refl c.fill_setting.new.z c.fill_setting.auto.z)

pub write_setting-requires : goal.write_setting-requires
write_setting-requires c =
    let upper : Compressed = compressed c.args.us.now c.args.uc.now c.args.uv.now in
    line-fits c.args.g c.args.co.now (upper) c.args.c c.args.out.now c.requires _ refl c.fill_setting.new.z c.fill_setting.auto.z

pub returns : goal.returns
returns c =
    let upper : Compressed = compressed c.args.us.now c.args.uc.now c.args.uv.now in
    line-written c.args.g c.args.co.now (upper) c.args.c c.args.out.now c.requires _ refl c.fill_setting.new.z c.fill_setting.auto.z c.write_setting.result c.write_setting.new.out c.fill_setting.ensures c.write_setting.ensures
