use Rattle.std.proofs.Common.{◌∙◌, ◌==◌, ap, ◌++◌, append-nil, string_bytes, sym, take_all}
use Rattle.std.proofs.lemmas.Bool.{true≢false}
use Rattle.std.proofs.lemmas.List.{length-map}
use Rattle.ipnet.specs.NetworkOf.{ip_network}
use Rattle.std.specs.List.{flat_map}
use Rattle.ipnet_routes.specs.Routes.{ip_routes}
use Rattle.netset_routes.specs.AllRoutes.{holder_line}
use Rattle.netset_routes.proofs.AllRouteLaws.{one_line_more, some_lines}
use Rattle.netset_routes.proofs.all_routes.push_holders.Goals as goal

pub loop-route-init : goal.loop-route-init
loop-route-init c = sym (append-nil (string_bytes c.args.text.now))

pub loop-route-preserved : goal.loop-route-preserved
loop-route-preserved c =
    one_line_more c.args.written.now (string_bytes c.args.text.now) (string_bytes c.push_holder.new.text)
    (string_bytes c.loop-route.text) c.args.routes.now c.loop-route.route-index c.route-item.result
    c.loop-route-test.true c.route-item.is c.loop-route.invariant c.in_ok-push_holder.ensures

pub returns : goal.returns
returns c =
    c.loop-route.invariant
    ∙ ap (λ z. string_bytes c.args.text.now ++ flat_map (λ q. holder_line c.args.written.now q.0 q.1.now) (ip_routes z))
    (take_all c.loop-route.route-index c.args.routes.now c.loop-route-test.false)
    ∙ ap (λ z. string_bytes c.args.text.now ++ z)
    (some_lines c.args.written.now (ip_routes c.args.routes.now)
    (λ none. true≢false (sym (ap (λ k. k == 0)
    (sym (length-map c.args.routes.now (λ q. (ip_network q.0, q.1))) ∙ none))
    ∙ sym c.is_empty.ensures ∙ c.if-is_empty.false)))
