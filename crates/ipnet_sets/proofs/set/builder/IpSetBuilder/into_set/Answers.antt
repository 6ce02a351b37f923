-- Without an address no range that waits has a number, so none of them needs memory.
use Rattle.std.proofs.Common.{inr}
use Rattle.std.proofs.lemmas.Bool.{false≢true}
use Rattle.ipnet_base.specs.Address.{IPv4, IPv6}
use Rattle.ipnet_sets.proofs.MemberLaws.{fits_below}
use Rattle.ipnet_sets.proofs.PushedLaws.{made_of_both}
use Rattle.ipnet_sets.proofs.set.builder.IpSetBuilder.into_set.Goals as goal

pub returns-in_err-ipv4-clause-empty : goal.returns-in_err-ipv4-clause-empty
returns-in_err-ipv4-clause-empty c = λ none.
    absurd (false≢true (c.in_err-ipv4.ensures.empty (λ x le waits.
    none (record { family = IPv4; number = x }) (record { fits = fits_below IPv4 x le; held = inr waits }))))

pub returns-in_err-ipv6-clause-empty : goal.returns-in_err-ipv6-clause-empty
returns-in_err-ipv6-clause-empty c = λ none.
    absurd (false≢true (c.in_err-ipv6.ensures.empty (λ x le waits.
    none (record { family = IPv6; number = x }) (record { fits = fits_below IPv6 x le; held = inr waits }))))

pub returns-clause-members : goal.returns-clause-members
returns-clause-members c =
    made_of_both c.args.self _ c.in_ok-ipv4.ensures.members c.in_ok-ipv6.ensures.members
