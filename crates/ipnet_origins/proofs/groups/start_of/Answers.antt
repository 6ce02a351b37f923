-- The payloads that are not before the network begin with its first payload.
use Rattle.std.proofs.Common.{◌≡◌, ◌-◌, ◌∙◌, rules, ap, arith, subst}
use Rattle.std.proofs.lemmas.Bool.Decides.{nat_tests}
use Rattle.std.proofs.lemmas.Fn.{always_returns_same}
use Rattle.ipnet_base.proofs.ListLaws.{at_place}
use Rattle.ipnet_base.proofs.ResultLaws.{false_gives}
use Rattle.ipnet.specs.NetworkOf.{ip_network}
use Rattle.ipnet_origins.specs.Groups.{network_of, IsStartOf}
use Rattle.ipnet_origins.proofs.OrderLaws.{is_less, are_parted, one_start, start_from}
use Rattle.ipnet_origins.proofs.groups.start_of.Goals as goal

pub returns-then-last-eq0 : goal.returns-then-last-eq0
returns-then-last-eq0 c =
    let zero : c.args.last ≡ 0 = grind (arith, nat_tests, c.if-last-eq0.true) in
    subst (λ k. IsStartOf c.args.payloads.now (ip_network c.args.network.now) k c.args.last) zero
    (one_start c.args.payloads.now c.requires.order (ip_network c.args.network.now) c.args.last c.requires.last
    (λ i d l same. omega (arith, zero, l)))

pub returns-then-not-is_of : goal.returns-then-not-is_of
returns-then-not-is_of c =
    one_start c.args.payloads.now c.requires.order (ip_network c.args.network.now) c.args.last c.requires.last
    (λ i d l same. false_gives c.is_of.result c.is_of.ensures c.if-not-is_of.true
    (ap network_of (c.index-payloads-last.is
    ∙ at_place c.args.payloads.now (c.args.last - 1) c.index-payloads-last.result d
    (omega (arith, l, c.requires.last.within))) ∙ same))

pub returns : goal.returns
returns c =
    let compare = c.ip_nets_compare_by_network.ensures.compare in
    let vrps = c.args.payloads.now in
    let n = c.args.network.now in
    start_from _ _ _ compare vrps c.requires.order n c.args.last c.partition_point.result c.requires.last
    (c.partition_point.ensures.partitioned (is_less _ _ _ compare n)
    (always_returns_same _ _ _ (λ a r f k. search rules))
    (are_parted _ _ _ compare vrps c.requires.order n))
