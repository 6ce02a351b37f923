-- The route that was read is the route of the table at this place, and its link is the link of the table.
use Rattle.std.proofs.Common.{◌-◌, arith}
use Rattle.ipnet_base.proofs.ResultLaws.{true_gives, false_gives}
use Rattle.ipnet.specs.NetworkOf.{ip_network}
use Rattle.ipnet.specs.NetLaws.{ip_valid}
use Rattle.ipnet_routes.specs.Routes.{networks_of}
use Rattle.ipnet_routes.proofs.RouteLaws.{searched_none}
use Rattle.ipnet_routes.proofs.TableImageLaws.{found_at, none_read, image_found, image_on}
use Rattle.ipnet_routes.proofs.routes.image.stored_table.StoredTable.nearest.Goals as goal

pub loop-place-preserved : goal.loop-place-preserved
loop-place-preserved c =
    let bytes = c.args.self.now.bytes.now in
    let n = ip_network c.args.network.now in
    let place = c.loop-place.place in
    let other = c.in-Some.other in
    record {
      within = omega (arith, c.loop-place.invariant.within);
      search = λ count t h large up. image_on bytes t h n c.args.limit place other (omega arith)
          (found_at bytes t h (place - 1) other c.route.result
          (omega (arith, c.loop-place.invariant.within, large)) c.route.ensures.read c.in-Some.is) up
          (false_gives c.contains.result c.contains.ensures c.if-contains.false)
          (c.loop-place.invariant.search count t h large up);
    }

pub returns-clause-nearest : goal.returns-clause-nearest
returns-clause-nearest c count t h large up =
    searched_none (networks_of t) (ip_network c.args.network.now) c.args.limit c.loop-place.place (omega arith)
    (c.loop-place.invariant.search count t h large up)

pub returns-in_default-clause-nearest : goal.returns-in_default-clause-nearest
returns-in_default-clause-nearest c count t h large up =
    absurd (none_read c.args.self.now.bytes.now t h (c.loop-place.place - 1) c.route.result
    (omega (arith, c.loop-place.invariant.within, large)) c.route.ensures.read c.in_default.is)

pub returns-then-contains-clause-nearest : goal.returns-then-contains-clause-nearest
returns-then-contains-clause-nearest c count t h large up =
    let bytes = c.args.self.now.bytes.now in
    let place = c.loop-place.place in
    image_found bytes t h (ip_network c.args.network.now) c.args.limit place c.in-Some.other (omega arith)
    (found_at bytes t h (place - 1) c.in-Some.other c.route.result
    (omega (arith, c.loop-place.invariant.within, large)) c.route.ensures.read c.in-Some.is)
    (true_gives c.contains.result c.contains.ensures c.if-contains.true)
    (c.loop-place.invariant.search count t h large up)

pub returns-then-other-place-clause-nearest : goal.returns-then-other-place-clause-nearest
returns-then-other-place-clause-nearest c count t h large up =
    let bytes = c.args.self.now.bytes.now in
    let place = c.loop-place.place in
    let found = found_at bytes t h (place - 1) c.in-Some.other c.route.result
    (omega (arith, c.loop-place.invariant.within, large)) c.route.ensures.read c.in-Some.is in
    absurd (omega (arith, found.linked.within, c.if-other-place.true))

pub returns-then-contains-clause-stored : goal.returns-then-contains-clause-stored
returns-then-contains-clause-stored c some =
    let other = c.in-Some.other in
    record {
      route = (ip_network other.network, other.value);
      link = other.link;
      valid = ip_valid other.network;
      row = c.in-Some.ensures.stored;
      holds = true_gives c.contains.result c.contains.ensures c.if-contains.true;
    }
