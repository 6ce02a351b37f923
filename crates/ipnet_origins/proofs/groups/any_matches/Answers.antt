-- The last payload of the origin decides: the others of the origin have no greater length.
use Rattle.std.proofs.Common.{◌≡◌, ◌<◌, ◌↔◌, ◌+◌, ◌*◌, false, IsTrue, Any, leb, rules, arith, sym, subst}
use Rattle.std.proofs.lemmas.Bool.Decides.{nat_tests}
use Rattle.std.proofs.lemmas.Fn.{always_returns_same}
use Rattle.std.proofs.lemmas.List.Sorted.{IsPartitionedBy-leb}
use Rattle.ipnet_base.proofs.ResultLaws.{never}
use Rattle.ipnet.specs.NetworkOf.{ip_network}
use Rattle.ipnet_origins.specs.Groups.{rank_of}
use Rattle.ipnet_origins.specs.Origins.{IsMatched}
use Rattle.ipnet_origins.proofs.RankLaws.{none_ranked, last_decides}
use Rattle.ipnet_origins.proofs.groups.any_matches.Goals as goal

pub returns-then-end-eq0 : goal.returns-then-end-eq0
returns-then-end-eq0 c =
    let vrps = c.args.payloads.now in
    let n = ip_network c.args.network.now in
    let asn = c.in-Some.asn in
    let most = c.from.result * 256 + 255 in
    let point = c.partition_point-end.ensures.partitioned (λ vrp. leb (rank_of vrp) most)
    (always_returns_same _ _ _ (λ a r f k. search rules)) (IsPartitionedBy-leb rank_of vrps most c.requires.ranked) in
    let zero : c.partition_point-end.result ≡ 0 = grind (arith, nat_tests, c.if-end-eq0.true) in
    subst (λ o. IsTrue false ↔ Any (IsMatched n o) vrps) (sym c.in-Some.is)
    (never _ (none_ranked vrps n asn most c.partition_point-end.result (omega (arith, c.from.ensures)) point zero))

pub returns : goal.returns
returns c =
    let vrps = c.args.payloads.now in
    let n = ip_network c.args.network.now in
    let asn = c.in-Some.asn in
    let most = c.from.result * 256 + 255 in
    let point = c.partition_point-end.ensures.partitioned (λ vrp. leb (rank_of vrp) most)
    (always_returns_same _ _ _ (λ a r f k. search rules)) (IsPartitionedBy-leb rank_of vrps most c.requires.ranked) in
    let some : 0 < c.partition_point-end.result = grind (arith, nat_tests, c.if-end-eq0.false) in
    let decides = last_decides vrps n asn most c.partition_point-end.result (omega (arith, c.from.ensures)) point some
    c.partition_point-end.ensures.bound c.requires.one c.requires.ranked c.index-payloads-end.result
    c.index-payloads-end.is in
    subst (λ o. IsTrue c.matches.result ↔ Any (IsMatched n o) vrps) (sym c.in-Some.is)
    (λ e. decides.0 (c.matches.ensures.0 e), λ h. c.matches.ensures.1 (decides.1 h))
