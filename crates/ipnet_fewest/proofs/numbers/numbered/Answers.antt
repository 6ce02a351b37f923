-- Each number is at most the number of values.
use Rattle.std.proofs.Common.{◌≡◌, length, arith}
use Rattle.std.proofs.lemmas.List.{length-map}
use Rattle.ipnet_fewest.proofs.RankLaws.{rank_below}
use Rattle.ipnet_routes.specs.Routes.{ip_routes}
use Rattle.ipnet_fewest.proofs.ListedLaws.{numbered_more, read_route}
use Rattle.ipnet_fewest.proofs.numbers.numbered.Goals as goal

pub overflow_add-rank : goal.overflow_add-rank
overflow_add-rank g c =
    let routes = c.args.routes.now in
    let x = c.index-routes-index.result in
    let size : length (ip_routes routes) ≡ length routes = length-map routes _ in
    let lt = rank_below g.V.Ord.cmp g.met.V.Ord.total c.args.values.now x.1
    (c.requires.has _ (
      c.loop-index.index,
      omega (arith, size),
      read_route routes c.loop-index.index x (omega arith) c.index-routes-index.is,
    )) c.rank.result c.rank.ensures in
    omega (arith, lt)

pub loop-index-preserved : goal.loop-index-preserved
loop-index-preserved g c =
    let x = c.index-routes-index.result in
    numbered_more c.args.routes.now c.loop-index.index x (omega arith) c.index-routes-index.is g.V.Ord.cmp
    c.args.values.now c.loop-index.numbered.items c.push.new.self.items c.rank.result c.loop-index.invariant
    c.rank.ensures c.in_ok-push.ensures.items
