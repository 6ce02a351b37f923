use Rattle.std.proofs.Common.{◌∙◌, ap, string_bytes, take_all}
use Rattle.ipnet_routes.specs.Routes.{ip_routes}
use Rattle.netset_routes.specs.Shortening.{route_lines}
use Rattle.netset_routes.proofs.ShortenLaws.{one_line_more}
use Rattle.netset_routes.proofs.shorten.routes_text.Goals as goal

pub loop-route-preserved : goal.loop-route-preserved
loop-route-preserved c =
    one_line_more c.args.routes.now c.loop-route.route-index c.route-item.result (string_bytes c.loop-route.text)
    (string_bytes c.push_route.new.text) c.loop-route-test.true c.route-item.is c.loop-route.invariant
    c.in_ok-push_route.ensures

pub returns : goal.returns
returns c =
    c.loop-route.invariant
    ∙ ap (λ z. route_lines (ip_routes z))
    (take_all c.loop-route.route-index c.args.routes.now c.loop-route-test.false)
