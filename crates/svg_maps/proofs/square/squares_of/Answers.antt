use Rattle.std.proofs.Common.{◌+◌, ◌≤◌, subst, sym}
use Rattle.ipnet.specs.NetworkOf.{ip_network}
use Rattle.ipnet_bars.proofs.PartLaws.{one_value_more}
use Rattle.svg_maps.specs.Squares.{IsSquareOf}
use Rattle.svg_maps.proofs.SquareLaws.{all_squares, at_large}
use Rattle.svg_maps.proofs.square.squares_of.Goals as goal

pub loop-network-preserved : goal.loop-network-preserved
loop-network-preserved c =
    one_value_more (IsSquareOf (ip_network c.args.frame.now) c.args.depth c.args.counted.now) ip_network
    c.args.networks.now c.loop-network.network-index c.network-item.result c.in_ok-square.square
    c.loop-network.squares.items c.push.new.self.items c.loop-network-test.true c.network-item.is
    c.loop-network.invariant c.in_ok-square.ensures c.in_ok-push.ensures.items

pub square_of-requires-clause-large : goal.square_of-requires-clause-large
square_of-requires-clause-large c =
    let n = ip_network c.args.frame.now in
    subst (λ z. (ip_network z).prefix_len ≤ n.prefix_len + c.args.depth) (sym c.network-item.is)
    (at_large n c.args.depth c.args.networks.now c.loop-network.network-index c.network-item.result
    c.loop-network-test.true c.requires.all)

pub returns : goal.returns
returns c =
    all_squares (ip_network c.args.frame.now) c.args.depth c.args.counted.now c.args.networks.now
    c.loop-network.network-index c.loop-network.squares.items c.loop-network-test.false c.requires.all
    c.loop-network.invariant
