use Rattle.std.proofs.Common.{◌≡◌, subst, rules, IfSome, IfNone}
use Rattle.ipnet_base.specs.Address.{ip_address}
use Rattle.ipnet_lists.specs.Entries.{IsAddressText}
use Rattle.ipnet_lists.proofs.ListLines.{address_utf8}
use Rattle.netset_words.specs.Places.{IsSomeAddress}
use Rattle.netset_words.proofs.PlaceLaws.{no_address_read}
use Rattle.netset_words.proofs.Separators.{no_address}
use Rattle.netset_words.proofs.host.address_of.Goals as goal

pub returns-in-Ok-clause-some : goal.returns-in-Ok-clause-some
returns-in-Ok-clause-some c =
    let same : c.in-Ok.text.now ≡ c.args.text.now = search rules in
    subst (λ z. IfSome c.parse_address.result (λ a. IsAddressText c.args.grammar z (ip_address a))) same
    c.parse_address.ensures.some

pub returns-in-Ok-clause-none : goal.returns-in-Ok-clause-none
returns-in-Ok-clause-none c =
    let same : c.in-Ok.text.now ≡ c.args.text.now = search rules in
    subst (λ z. IfNone c.parse_address.result (¬ (IsSomeAddress c.args.grammar z))) same
    (no_address_read c.args.grammar c.in-Ok.text.now c.parse_address.result c.parse_address.ensures)

pub returns-in-Err-clause-none : goal.returns-in-Err-clause-none
returns-in-Err-clause-none c = λ is. c.in-Err.ensures.cases.0 (address_utf8 c.args.grammar c.args.text.now is.0 is.1)

pub returns-then-not-has_signs-clause-none : goal.returns-then-not-has_signs-clause-none
returns-then-not-has_signs-clause-none c = λ is.
    no_address c.args.grammar c.args.text.now is.0 (c.has_signs.ensures c.if-not-has_signs.true) is.1
