-- The value is of the route that was found.
use Rattle.ipnet_c.proofs.ImageRowReplies.{value_of_route, value_of_none}
use Rattle.ipnet_c.proofs.image_rows.value_of.Goals as goal

pub returns-in-Some : goal.returns-in-Some
returns-in-Some c =
    let found = c.in-Some.ensures in
    value_of_route c.args.image.now.table.bytes.now c.args.index c.in-Some.route c.requires
    (record { of_table = found.table; stored = found.stored; read = found.read })

pub returns-in-None : goal.returns-in-None
returns-in-None c =
    let found = c.in-None.ensures in
    value_of_none c.args.image.now.table.bytes.now c.args.index c.requires
    (record { of_table = found.table; stored = found.stored; read = found.read })
