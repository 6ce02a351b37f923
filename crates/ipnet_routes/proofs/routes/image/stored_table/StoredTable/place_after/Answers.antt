-- The route that was read is the route of the table at this place, so the search goes on as in the table.
use Rattle.std.proofs.Common.{arith, sym, ◌∙◌, ◌+◌, ◌-◌, ◌/◌}
use Rattle.ipnet.specs.NetworkOf.{ip_network}
use Rattle.ipnet_routes.specs.Routes.{networks_of}
use Rattle.ipnet_routes.proofs.RouteLaws.{place_end, less_gives, not_less_gives}
use Rattle.ipnet_routes.proofs.TableImageLaws.{as_networks, found_at, none_read, image_down, image_up}
use Rattle.ipnet_routes.proofs.routes.image.stored_table.StoredTable.place_after.Goals as goal

pub loop-low-init : goal.loop-low-init
loop-low-init c =
    let bytes = c.args.self.now.bytes.now in
    let between = c.between-between.ensures in
    record {
      ordered = between.ordered;
      within = between.within;
      search = λ t h. record {
        ordered = between.ordered;
        within = omega (arith, between.within, as_networks bytes t h.held);
        up_to = between.up_to t h;
        above = between.above t h;
      };
    }

pub loop-low-preserved-then-lt : goal.loop-low-preserved-then-lt
loop-low-preserved-then-lt c =
    let bytes = c.args.self.now.bytes.now in
    let n = ip_network c.args.network.now in
    let middle = c.loop-low.low + (c.loop-low.high - c.loop-low.low) / 2 in
    let other = c.in-Some.other in
    record {
      ordered = omega arith;
      within = omega (arith, c.loop-low.invariant.within);
      search = λ t h. image_down bytes t h.held n c.loop-low.low c.loop-low.high middle other
          (found_at bytes t h.held middle other c.route.result (omega (arith, c.loop-low.invariant.within))
          c.route.ensures.read c.in-Some.is)
          (omega arith) (omega arith)
          (less_gives c.args.network.now other.network
          (c.ip_nets_compare_by_network.ensures.compare c.args.network.now other.network)
          (sym c.lt.ensures ∙ c.if-lt.true)) (c.loop-low.invariant.search t h);
    }

pub loop-low-preserved : goal.loop-low-preserved
loop-low-preserved c =
    let bytes = c.args.self.now.bytes.now in
    let n = ip_network c.args.network.now in
    let middle = c.loop-low.low + (c.loop-low.high - c.loop-low.low) / 2 in
    let other = c.in-Some.other in
    record {
      ordered = omega arith;
      within = c.loop-low.invariant.within;
      search = λ t h. image_up bytes t h.held n c.loop-low.low c.loop-low.high middle other
          (found_at bytes t h.held middle other c.route.result (omega (arith, c.loop-low.invariant.within))
          c.route.ensures.read c.in-Some.is)
          (omega arith)
          (not_less_gives c.args.network.now other.network
          (c.ip_nets_compare_by_network.ensures.compare c.args.network.now other.network)
          (sym c.lt.ensures ∙ c.if-lt.false))
          (c.loop-low.invariant.search t h);
    }

pub returns-in_default-clause-place : goal.returns-in_default-clause-place
returns-in_default-clause-place c t h =
    absurd (none_read c.args.self.now.bytes.now t h.held (c.loop-low.low + (c.loop-low.high - c.loop-low.low) / 2)
    c.route.result (omega (arith, c.loop-low.invariant.within)) c.route.ensures.read c.in_default.is)

pub returns-clause-place : goal.returns-clause-place
returns-clause-place c t h =
    place_end (networks_of t) (ip_network c.args.network.now) c.loop-low.low c.loop-low.high (omega arith)
    (c.loop-low.invariant.search t h)
