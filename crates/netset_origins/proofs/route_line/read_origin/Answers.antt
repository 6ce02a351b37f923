use Rattle.ipnet_base.proofs.ResultLaws.{false_gives}
use Rattle.netset_origins.proofs.RouteLaws.{no_origin}
use Rattle.netset_origins.proofs.route_line.read_origin.Goals as goal

pub returns-in-Some-clause-some : goal.returns-in-Some-clause-some
returns-in-Some-clause-some c = (c.asn_of.ensures c.in-Some.asn).0 c.in-Some.is

pub returns-else-is_as_set-clause-none : goal.returns-else-is_as_set-clause-none
returns-else-is_as_set-clause-none c = λ e.
    no_origin c.args.text.now
    (λ n h.
    let found = (c.asn_of.ensures n).1 h in
    let none = c.in-None.is in
    absurd cc)
    (false_gives c.is_as_set.result c.is_as_set.ensures c.if-is_as_set.false)
