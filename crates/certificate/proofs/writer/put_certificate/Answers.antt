-- `put_certificate` meets its contract: five runs, one after another, with room for each. Assumes nothing.
use Prim.Native.Nat.{◌+◌, ◌*◌}
use mathlib.Core.Path.{◌≡◌}
use mathlib.Core.List.{◌++◌}
use native.Mathlib.Omega.{arith}
use lib.ListN.{length}
use Rattle.sparse.specs.Matrix.{compressed}
use Rattle.sparse.specs.Set.{Set, set_of}
use Rattle.certificate.specs.Layout.{bytes, mark, version, factor_numbers, numbers_of, certificate_of}
use Rattle.certificate.proofs.Bytes.{length-bytes}
use Rattle.certificate.proofs.Lengths.{factor_size, length-factor, length-by-lists}
use Rattle.lists.proofs.Stored.{ends, stored-then}
use Rattle.certificate.proofs.Storing.{numbers-then}
use Rattle.certificate.proofs.writer.put_certificate.Goals as goal

pub put_header-after_header-requires : goal.put_header-after_header-requires
put_header-after_header-requires c =
    let the-set : Set = set_of c.args.r c.args.ro.now c.args.co.now
    (compressed c.args.ls.now c.args.lc.now c.args.lv.now)
    (compressed c.args.us.now c.args.uc.now c.args.uv.now) in
    let size : length (certificate_of c.args.p c.args.n c.args.m (the-set)) ≡ 29 + 4 * (length c.args.ro.now + (length c.args.co.now + (factor_size (the-set).L + factor_size (the-set).U))) = length-by-lists c.args.p c.args.n c.args.m (the-set) in
    omega (arith, size, c.requires.room)

pub put_words-after_rows-requires : goal.put_words-after_rows-requires
unfolding mark version bytes
put_words-after_rows-requires c =
    let the-set : Set = set_of c.args.r c.args.ro.now c.args.co.now
    (compressed c.args.ls.now c.args.lc.now c.args.lv.now)
    (compressed c.args.us.now c.args.uc.now c.args.uv.now) in
    let size : length (certificate_of c.args.p c.args.n c.args.m (the-set)) ≡ 29 + 4 * (length c.args.ro.now + (length c.args.co.now + (factor_size (the-set).L + factor_size (the-set).U))) = length-by-lists c.args.p c.args.n c.args.m (the-set) in
    omega (arith, size, c.requires.room, ends c.put_header-after_header.ensures)

pub put_words-after_cols-requires : goal.put_words-after_cols-requires
unfolding mark version bytes
put_words-after_cols-requires c =
    let the-set : Set = set_of c.args.r c.args.ro.now c.args.co.now
    (compressed c.args.ls.now c.args.lc.now c.args.lv.now)
    (compressed c.args.us.now c.args.uc.now c.args.uv.now) in
    let size : length (certificate_of c.args.p c.args.n c.args.m (the-set)) ≡ 29 + 4 * (length c.args.ro.now + (length c.args.co.now + (factor_size (the-set).L + factor_size (the-set).U))) = length-by-lists c.args.p c.args.n c.args.m (the-set) in
    omega (arith, size, c.requires.room, ends c.put_header-after_header.ensures, ends c.put_words-after_rows.ensures, length-bytes c.args.ro.now)

pub put_factor-after_lower-requires : goal.put_factor-after_lower-requires
unfolding mark version bytes
put_factor-after_lower-requires c =
    let the-set : Set = set_of c.args.r c.args.ro.now c.args.co.now
    (compressed c.args.ls.now c.args.lc.now c.args.lv.now)
    (compressed c.args.us.now c.args.uc.now c.args.uv.now) in
    let size : length (certificate_of c.args.p c.args.n c.args.m (the-set)) ≡ 29 + 4 * (length c.args.ro.now + (length c.args.co.now + (factor_size (the-set).L + factor_size (the-set).U))) = length-by-lists c.args.p c.args.n c.args.m (the-set) in
    omega (arith, size, c.requires.room, ends c.put_header-after_header.ensures, ends c.put_words-after_rows.ensures, ends c.put_words-after_cols.ensures, length-bytes c.args.ro.now, length-bytes c.args.co.now)

pub put_factor-requires : goal.put_factor-requires
unfolding mark version bytes
put_factor-requires c =
    let the-set : Set = set_of c.args.r c.args.ro.now c.args.co.now
    (compressed c.args.ls.now c.args.lc.now c.args.lv.now)
    (compressed c.args.us.now c.args.uc.now c.args.uv.now) in
    let size : length (certificate_of c.args.p c.args.n c.args.m (the-set)) ≡ 29 + 4 * (length c.args.ro.now + (length c.args.co.now + (factor_size (the-set).L + factor_size (the-set).U))) = length-by-lists c.args.p c.args.n c.args.m (the-set) in
    omega (arith, size, c.requires.room, ends c.put_header-after_header.ensures, ends c.put_words-after_rows.ensures, ends c.put_words-after_cols.ensures, ends c.put_factor-after_lower.ensures, length-bytes c.args.ro.now, length-bytes c.args.co.now, length-bytes (factor_numbers (the-set).L), length-factor (the-set).L)

pub returns : goal.returns
unfolding certificate_of numbers_of mark version bytes
returns c =
    let the-set : Set = set_of c.args.r c.args.ro.now c.args.co.now
    (compressed c.args.ls.now c.args.lc.now c.args.lv.now)
    (compressed c.args.us.now c.args.uc.now c.args.uv.now) in
    let L = factor_numbers (the-set).L in let U = factor_numbers (the-set).U in
    stored-then c.put_header-after_header.ensures
    (numbers-then c.args.ro.now (c.args.co.now ++ (L ++ U)) c.put_words-after_rows.ensures
    (numbers-then c.args.co.now (L ++ U) c.put_words-after_cols.ensures (numbers-then L U c.put_factor-after_lower.ensures c.put_factor.ensures)))
