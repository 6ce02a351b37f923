use Rattle.std.proofs.Common.{◌≡◌, ◌-◌, length, min, arith}
use Rattle.ipnet_fewest.proofs.ListedLaws.{valued_more}
use Rattle.ipnet_fewest.proofs.numbers.valued.Goals as goal

pub loop-index-preserved : goal.loop-index-preserved
loop-index-preserved g c =
    let x = c.index-routes-index.result in
    let values = c.args.values.now in
    let at : c.min-place.result ≡ min (x.1 - 1) (length values - 1) =
    omega (arith, c.min-place.ensures, c.saturating_sub.ensures) in
    valued_more c.args.routes.now c.loop-index.index x (omega arith) c.index-routes-index.is values
    c.loop-index.valued.items c.push.new.self.items c.index-values-place.result c.min-place.result c.requires.some at
    c.index-values-place.is c.loop-index.invariant c.in_ok-push.ensures.items
