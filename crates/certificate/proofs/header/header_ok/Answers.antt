-- `header_ok` meets its contract. Assumes nothing.
use Rattle.std.proofs.Common.{List, ℕ, ◌-◌, length, take, drop, ◌≡◌, sym, ap, ◌∙◌}
use lib.Dec.{eqb}
use Rattle.lists.proofs.Bools.{chain-false, chain-true}
use Rattle.std.specs.List.{starts_with}
use Rattle.certificate.specs.Reading.{begins, header_ok}
use Rattle.certificate.specs.Layout.{mark, version}
use Rattle.certificate.proofs.Beginnings.{begins-starts}
use Rattle.certificate.proofs.Cuts.{part_end}
use Rattle.certificate.proofs.Passed.{short-fails}
use Rattle.certificate.proofs.header.header_ok.Goals as goal

-- the library's test of what follows the mark
version-test : (cert : List ℕ) → starts_with eqb (take (length cert - 3) (drop 3 cert)) version ≡ begins version (drop 3 cert)
version-test cert = begins-starts version _ ∙ ap (begins version) (part_end cert 3)

pub returns-then-not-starts_with : goal.returns-then-not-starts_with
unfolding header_ok mark
returns-then-not-starts_with c =
    let cert = c.args.cert.now in
    chain-false _ _ (sym (c.starts_with.ensures.value ∙ begins-starts mark cert) ∙ c.if-not-starts_with.true)

pub returns-then-cert-lt29 : goal.returns-then-cert-lt29
returns-then-cert-lt29 c = short-fails c.args.p c.args.n c.args.m c.args.cert.now c.if-cert-lt29.true

pub returns-then-not-starts_with-2 : goal.returns-then-not-starts_with-2
unfolding header_ok mark version begins
returns-then-not-starts_with-2 c =
    let cert = c.args.cert.now in
    chain-true _ _ _ (sym (c.starts_with.ensures.value ∙ begins-starts mark cert) ∙ c.if-not-starts_with.false)
    (chain-false _ _ (sym (c.starts_with-2.ensures.value ∙ version-test cert) ∙ c.if-not-starts_with-2.true))

pub returns-then-not-length_ok : goal.returns-then-not-length_ok
unfolding header_ok mark version begins
returns-then-not-length_ok c =
    let cert = c.args.cert.now in
    chain-true _ _ _ (sym (c.starts_with.ensures.value ∙ begins-starts mark cert) ∙ c.if-not-starts_with.false)
    (chain-true _ _ _ (sym (c.starts_with-2.ensures.value ∙ version-test cert) ∙ c.if-not-starts_with-2.false)
    (chain-false _ _ (sym c.length_ok.ensures ∙ c.if-not-length_ok.true)))

pub returns : goal.returns
unfolding header_ok mark version begins
returns c =
    let cert = c.args.cert.now in
    chain-true _ _ _ (sym (c.starts_with.ensures.value ∙ begins-starts mark cert) ∙ c.if-not-starts_with.false)
    (chain-true _ _ _ (sym (c.starts_with-2.ensures.value ∙ version-test cert) ∙ c.if-not-starts_with-2.false)
    (chain-true _ _ _ (sym c.length_ok.ensures ∙ c.if-not-length_ok.false) c.sizes_ok.ensures))
