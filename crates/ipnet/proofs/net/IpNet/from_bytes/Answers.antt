-- In each branch the first byte is the tag of a known family, so the error is never `Variant`.
use Rattle.std.proofs.Common.{Err, sym, ap, ◌∙◌}
use Rattle.ipnet_base.specs.Address.{IPv4, IPv6}
use Rattle.ipnet.proofs.CompactLaws.{no_other_tag}
use Rattle.ipnet.proofs.net.IpNet.from_bytes.Goals as goal

pub returns-in_err-from_bytes-in-0-clause-variant : goal.returns-in_err-from_bytes-in-0-clause-variant
returns-in_err-from_bytes-in-0-clause-variant c =
    no_other_tag IPv4 c.args.bytes.now c.in-Some.rest.now c.in-Some.tag.now c.in-Some.ensures.cases.0 c.in-0.is
    (λ e. c.from_bytes.ensures.variant (c.in_err-from_bytes-in-0.was
    ∙ ap Err (sym (rw e at c.from_residual.ensures.1))))

pub returns-in_err-from_bytes-in-1-clause-variant : goal.returns-in_err-from_bytes-in-1-clause-variant
returns-in_err-from_bytes-in-1-clause-variant c =
    no_other_tag IPv6 c.args.bytes.now c.in-Some.rest.now c.in-Some.tag.now c.in-Some.ensures.cases.0 c.in-1.is
    (λ e. c.from_bytes-in-1.ensures.variant
    (c.in_err-from_bytes-in-1.was ∙ ap Err (sym (rw e at c.from_residual-in_err-from_bytes-in-1.ensures.1))))

pub returns-in_ok-from_bytes-in-0-clause-variant : goal.returns-in_ok-from_bytes-in-0-clause-variant
returns-in_ok-from_bytes-in-0-clause-variant c =
    no_other_tag IPv4 c.args.bytes.now c.in-Some.rest.now c.in-Some.tag.now c.in-Some.ensures.cases.0 c.in-0.is
    (λ e. cc)

pub returns-in_ok-from_bytes-in-1-clause-variant : goal.returns-in_ok-from_bytes-in-1-clause-variant
returns-in_ok-from_bytes-in-1-clause-variant c =
    no_other_tag IPv6 c.args.bytes.now c.in-Some.rest.now c.in-Some.tag.now c.in-Some.ensures.cases.0 c.in-1.is
    (λ e. cc)
