-- The family is IPv4.
use Rattle.std.proofs.Common.{◌↔◌, map, IfOk, IfSome, IsNone, ap, subst}
use Rattle.ipnet.specs.NetworkOf.{ip_network}
use Rattle.ipnet_sets.specs.Members.{IsMember, IsMemberOf}
use Rattle.ipnet_shortest.specs.Covers.{IsFewestCover, HasCoverAdding}
use Rattle.ipnet_shortest.proofs.cover.fewest_ipv4_networks.Goals as goal

pub returns-clause-fewest : goal.returns-clause-fewest
returns-clause-fewest c =
    subst (λ f. IfOk c.fewest_of_family.result (λ o. IfSome o (λ list. IsFewestCover c.args.spare
    (IsMemberOf f c.args.set.now) (IsMember c.args.never.now) (map ip_network list.items))))
    (ap (λ n. n.family) c.new_assert-whole.ensures) c.fewest_of_family.ensures.fewest

pub returns-clause-none : goal.returns-clause-none
returns-clause-none c =
    subst (λ f. IfOk c.fewest_of_family.result (λ o. IsNone o
    ↔ ¬ (HasCoverAdding c.args.spare (IsMemberOf f c.args.set.now) (IsMember c.args.never.now))))
    (ap (λ n. n.family) c.new_assert-whole.ensures) c.fewest_of_family.ensures.none
