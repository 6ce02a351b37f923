use Rattle.std.proofs.Common.{◌+◌, ◌<◌, refl, arith}
use Rattle.std.proofs.lemmas.Bool.Decides.{nat_tests}
use Rattle.ipnet.specs.NetworkOf.{ip_network}
use Rattle.ipnet_maps.proofs.ListsLaws.{divided_too_deep}
use Rattle.ipnet_maps.proofs.drawing.drawn_if_few.Goals as goal

pub returns-then-are_divided-clause-many : goal.returns-then-are_divided-clause-many
returns-then-are_divided-clause-many c =
    let more : 16 < c.args.depth = grind (arith, nat_tests, c.if-depth-gt16.true) in
    divided_too_deep c.args.lists.now (ip_network c.args.frame.now) c.args.depth c.prefix_len.result
    (c.prefix_len.result + c.args.depth) c.prefix_len.ensures refl more c.requires.inside
    (c.are_divided.ensures c.if-are_divided.true)
