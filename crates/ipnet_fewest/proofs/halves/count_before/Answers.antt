use Rattle.std.proofs.Common.{rules}
use Rattle.std.proofs.lemmas.Fn.{always_returns_same}
use Rattle.ipnet_fewest.proofs.PlaceLaws.{is_before, are_parted, place_from}
use Rattle.ipnet_fewest.proofs.halves.count_before.Goals as goal

pub returns : goal.returns
returns c =
    let compare = c.ip_nets_compare_by_network.ensures.compare in
    let routes = c.args.routes.now in
    let n = c.args.network.now in
    place_from _ _ _ compare routes n c.partition_point.result c.partition_point.ensures.bound
    (c.partition_point.ensures.partitioned (is_before _ _ _ compare n)
    (always_returns_same _ _ _ (λ a r f k. search rules)) (are_parted _ _ _ compare routes c.requires n))
