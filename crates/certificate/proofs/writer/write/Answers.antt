-- `write` meets its contract: the buffer is cleared, then refused or filled. Assumes nothing.
use Prim.Native.Nat.{ℕ}
use mathlib.Core.Path.{◌≡◌, sym, ap, ◌∙◌}
use mathlib.Core.List.{List}
use native.Mathlib.Omega.{arith}
use lib.ListN.{length}
use Rattle.lists.proofs.Filled.{length-zeros}
use Rattle.sparse.specs.Matrix.{compressed}
use Rattle.sparse.specs.Set.{set_of}
use Rattle.certificate.specs.Layout.{certificate_of}
use Rattle.certificate.specs.declared.parts.Places.{Places}
use Rattle.certificate.proofs.Lengths.{length-certificate}
use Rattle.certificate.proofs.Rooms.{writes-refused, writes-done}
use Rattle.certificate.proofs.writer.write.Goals as goal

pub returns-then-buffer-places : goal.returns-then-buffer-places
returns-then-buffer-places c =
    let certificate : List ℕ = certificate_of c.args.p c.args.n c.args.m
    (set_of c.args.r c.args.ro.now c.args.co.now
    (compressed c.args.ls.now c.args.lc.now c.args.lv.now)
    (compressed c.args.us.now c.args.uc.now c.args.uv.now)) in
    let cleared-long : length c.clear_bytes.new.bytes ≡ length c.args.buffer.now = ap length c.clear_bytes.ensures ∙ length-zeros (length c.args.buffer.now) in
    let size : c.places_of-places.result.end ≡ length (certificate) = ap (λ (q : Places). q.end) c.places_of-places.ensures ∙ sym (length-certificate c.args.p c.args.n c.args.m _ c.requires.sized) in
    writes-refused (certificate) c.args.buffer.now _ (omega (arith, size, cleared-long, c.if-buffer-places.true)) c.clear_bytes.ensures

pub put_certificate-requires : goal.put_certificate-requires
put_certificate-requires c =
    let certificate : List ℕ = certificate_of c.args.p c.args.n c.args.m
    (set_of c.args.r c.args.ro.now c.args.co.now
    (compressed c.args.ls.now c.args.lc.now c.args.lv.now)
    (compressed c.args.us.now c.args.uc.now c.args.uv.now)) in
    let cleared-long : length c.clear_bytes.new.bytes ≡ length c.args.buffer.now = ap length c.clear_bytes.ensures ∙ length-zeros (length c.args.buffer.now) in
    let size : c.places_of-places.result.end ≡ length (certificate) = ap (λ (q : Places). q.end) c.places_of-places.ensures ∙ sym (length-certificate c.args.p c.args.n c.args.m _ c.requires.sized) in
    record { writable = c.requires; room = omega (arith, size, cleared-long, c.if-buffer-places.false) }

pub returns : goal.returns
returns c =
    let certificate : List ℕ = certificate_of c.args.p c.args.n c.args.m
    (set_of c.args.r c.args.ro.now c.args.co.now
    (compressed c.args.ls.now c.args.lc.now c.args.lv.now)
    (compressed c.args.us.now c.args.uc.now c.args.uv.now)) in
    let cleared-long : length c.clear_bytes.new.bytes ≡ length c.args.buffer.now = ap length c.clear_bytes.ensures ∙ length-zeros (length c.args.buffer.now) in
    let size : c.places_of-places.result.end ≡ length (certificate) = ap (λ (q : Places). q.end) c.places_of-places.ensures ∙ sym (length-certificate c.args.p c.args.n c.args.m _ c.requires.sized) in
    writes-done (certificate) c.args.buffer.now _ (omega (arith, size, cleared-long, c.if-buffer-places.false)) c.clear_bytes.ensures c.put_certificate.ensures
