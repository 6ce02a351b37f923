-- No network of the list is above this one, so only the last route can have it.
use Rattle.std.proofs.Common.{◌≡◌, ◌-◌, length, take, inl, inr, refl, sym, ap, ◌∙◌, subst}
use Rattle.ipnet_base.proofs.ResultLaws.{true_gives, false_gives}
use Rattle.ipnet.specs.NetworkOf.{ip_network}
use Rattle.ipnet_routes.specs.Routes.{ip_networks}
use Rattle.ipnet_routes.specs.RouteSteps.{EndsWith}
use Rattle.ipnet_routes.proofs.RouteOrderLaws.{dropped}
use Rattle.ipnet_routes.proofs.routes.drop_last.Goals as goal

pub returns-then-ends_with : goal.returns-then-ends_with
returns-then-ends_with g c =
    let old = c.args.routes.now.items in
    let new = c.pop.new.self.items in
    let n = ip_network c.args.network.now in
    let ends : EndsWith (ip_networks old) n = subst (λ z. EndsWith (ip_networks z) n) c.as_slice.ensures.value
    (true_gives c.ends_with.result c.ends_with.ensures c.if-ends_with.true) in
    let front : new ≡ take (length old - 1) old
    = c.pop.ensures.rest
    ∙ ap (λ k. take (k - 1) old) (sym c.as_slice.ensures.len ∙ ap length c.as_slice.ensures.value) in
    let h = dropped old new n c.requires.ascending c.requires.order (inr (ends, front)) in
    record { ascending = h.0; before = h.1; others = h.2 }

pub returns-else-ends_with : goal.returns-else-ends_with
returns-else-ends_with g c =
    let old = c.args.routes.now.items in
    let n = ip_network c.args.network.now in
    let out = false_gives c.ends_with.result c.ends_with.ensures c.if-ends_with.false in
    let h = dropped old old n c.requires.ascending c.requires.order
    (inl (λ ends. out (subst (λ z. EndsWith (ip_networks z) n) (sym c.as_slice.ensures.value) ends), refl)) in
    record { ascending = h.0; before = h.1; others = h.2 }
