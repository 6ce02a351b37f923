-- The route that is read is the route of the table at this place.
use Rattle.std.proofs.Common.{◌≡◌, Some, None, sym, ◌∙◌, arith}
use Rattle.ipnet_base.proofs.ListLaws.{one_place}
use Rattle.ipnet.specs.NetworkOf.{ip_network}
use Rattle.ipnet_routes.proofs.TableImageLaws.{found_at, none_read}
use Rattle.ipnet_routes.proofs.routes.image.RouteTableImage.route.Goals as goal

pub returns-in_err-stored-clause-table : goal.returns-in_err-stored-clause-table
returns-in_err-stored-clause-table c t h r d e =
    absurd (none_read c.args.self.now.table.bytes.now t h.table.held c.args.index c.route.result
    (omega (arith, d.1, e, h.table.held.as_many)) c.route.ensures.read c.in_err-stored.was)

pub returns-in_err-stored-clause-read : goal.returns-in_err-stored-clause-read
returns-in_err-stored-clause-read c within r valid has =
    let got = c.route.ensures.read r.0 r.1 has.0 valid has.1 in
    let apart : Some got.route ≡ None = sym got.is ∙ c.in_err-stored.was in
    absurd (cc)

pub returns-clause-table : goal.returns-clause-table
returns-clause-table c t h r d e =
    let stored = c.in_ok-stored.stored in
    let found = found_at c.args.self.now.table.bytes.now t h.table.held c.args.index stored c.route.result
    (omega (arith, d.1, e, h.table.held.as_many)) c.route.ensures.read c.in_ok-stored.was in
    one_place t (ip_network stored.network, stored.value) r found.member d (found.member_at ∙ sym e)
