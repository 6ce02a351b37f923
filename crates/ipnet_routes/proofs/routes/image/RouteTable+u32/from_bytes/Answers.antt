-- The bytes hold the routes of one table, so the restored routes are the routes of which the bytes are the image.
use Rattle.std.proofs.Common.{subst}
use Rattle.ipnet_routes.specs.RoutesOf.{routes_of}
use Rattle.ipnet_routes.specs.TableImages.{route_count, AreRoutesIn, IsTableImageOf}
use Rattle.ipnet_routes.proofs.TableOnceLaws.{one_list}
use Rattle.ipnet_routes.proofs.routes.image.RouteTable+u32.from_bytes.Goals as goal

pub returns-in-Ok : goal.returns-in-Ok
returns-in-Ok c =
    let bytes = c.args.bytes.now in
    let (same, some) = c.in_ok-stored.ensures in
    let (t, image) = some in
    let restored = routes_of c.in-Ok.table in
    let held : AreRoutesIn bytes (route_count bytes) restored
    = subst (λ z. AreRoutesIn z (route_count z) restored) same c.in-Ok.ensures in
    subst (IsTableImageOf bytes) (one_list bytes t restored image.table.held held) image
