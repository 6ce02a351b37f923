-- The family is IPv4.
use Rattle.std.proofs.Common.{◌↔◌, map, IfOk, IfSome, IsNone, ap, subst}
use Rattle.ipnet.specs.NetworkOf.{ip_network}
use Rattle.ipnet_sets.specs.Members.{IsMember, IsMemberOf}
use Rattle.ipnet_shortest.specs.Covers.{IsBestCover, HasCoverWithin}
use Rattle.ipnet_shortest.proofs.cover.shortest_ipv4_cover.Goals as goal

pub returns-clause-best : goal.returns-clause-best
returns-clause-best c =
    subst (λ f. IfOk c.cover_of_family.result (λ o. IfSome o (λ list. IsBestCover c.args.limit
    (IsMemberOf f c.args.set.now) (IsMember c.args.never.now) (map ip_network list.items))))
    (ap (λ n. n.family) c.new_assert-family.ensures) c.cover_of_family.ensures.best

pub returns-clause-none : goal.returns-clause-none
returns-clause-none c =
    subst (λ f. IfOk c.cover_of_family.result (λ o. IsNone o
    ↔ ¬ (HasCoverWithin c.args.limit (IsMemberOf f c.args.set.now) (IsMember c.args.never.now))))
    (ap (λ n. n.family) c.new_assert-family.ensures) c.cover_of_family.ensures.none
