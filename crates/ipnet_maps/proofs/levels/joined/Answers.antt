use Rattle.std.proofs.Common.{arith}
use Rattle.ipnet.specs.NetworkOf.{ip_network}
use Rattle.ipnet_maps.proofs.LevelLaws.{joined_room}
use Rattle.ipnet_maps.proofs.levels.joined.Goals as goal

pub overflow_add-cell : goal.overflow_add-cell
overflow_add-cell c =
    let room = joined_room c.args.current c.in_ok-cell.cell (ip_network c.args.network.now) c.in_ok-cell.was c.requires
    (c.contains.ensures.0 c.if-not-contains.false) in
    omega (arith, room, c.last_place.ensures)

pub overflow_add-cell-2 : goal.overflow_add-cell-2
overflow_add-cell-2 c =
    let room = joined_room c.args.current c.in_ok-cell.cell (ip_network c.args.network.now) c.in_ok-cell.was c.requires
    (c.contains.ensures.0 c.if-not-contains.false) in
    omega (arith, room, c.last_place.ensures)
