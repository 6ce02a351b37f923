-- The value 0 is for no route of the network itself.
use Rattle.std.proofs.Common.{ℕ, List, ◌++◌, ◌∷◌, [], Contains, sym, ap, ◌∙◌, append_assoc, arith, ◌<◌, length}
use Rattle.std.proofs.Common.{get_or, subst}
use Rattle.ipnet.specs.NetLaws.{ip_valid}
use Rattle.ipnet.specs.NetworkOf.{ip_network}
use Rattle.ipnet_base.specs.Network.{IsTruncated}
use Rattle.ipnet_routes.specs.Routes.{Route, ip_routes}
use Rattle.ipnet_fewest.specs.ItemsOf.{items_of}
use Rattle.ipnet_fewest.specs.FewestRoutes.{AreFewestAdded}
use Rattle.ipnet_fewest.specs.Solved.{IsSolved}
use Rattle.ipnet_fewest.specs.Plans.{routes_for}
use Rattle.ipnet_fewest.proofs.NumberLaws.{first_number}
use Rattle.ipnet_fewest.proofs.FewestLaws.{fewest_without, fewest_with}
use Rattle.ipnet_fewest.proofs.LeftLaws.{routes_push}
use Rattle.ipnet_fewest.proofs.fewest.push_fewest.Goals as goal

pub push_routes-requires : goal.push_routes-requires
push_routes-requires c =
    let (plan, sized, is) = c.requires.plan in
    (plan, sized, is ∙ sym c.as_slice-2.ensures.value)

pub returns-then-value-eq0 : goal.returns-then-value-eq0
returns-then-value-eq0 c wanted around s =
    let best = s.of_block.best in
    let values = items_of c.args.solution.now.block.values in
    let firsts = c.as_slice.result.now in
    let w = get_or firsts 0 0 in
    let has = subst (λ z. Contains z w) c.as_slice.ensures
    (first_number firsts (subst (λ z. 0 < length z) (sym c.as_slice.ensures) best.solved.some)) in
    let routed = c.in_ok-push_routes.ensures best.plan best.sized (sym (c.as_slice-2.ensures.value ∙ best.added)) in
    record {
      made = routes_for best.plan w;
      added = routed;
      fewest = fewest_without wanted around values best.plan best.solved w
          (omega (arith, c.if-value-eq0.true)) has;
    }

pub returns : goal.returns
returns c wanted around s =
    let best = s.of_block.best in
    let network = c.args.solution.now.block.network in
    let same = s.of_block.network in
    let values = items_of c.args.solution.now.block.values in
    let firsts = c.as_slice.result.now in
    let w = get_or firsts 0 0 in
    let has = subst (λ z. Contains z w) c.as_slice.ensures
    (first_number firsts (subst (λ z. 0 < length z) (sym c.as_slice.ensures) best.solved.some)) in
    let routed = c.in_ok-push_routes.ensures best.plan best.sized (sym (c.as_slice-2.ensures.value ∙ best.added)) in
    let own : List (Route ℕ) = (ip_network network, w) ∷ [] in
    let old = ip_routes c.args.fewest.now.items in
    let new = ip_routes c.push.new.self.items in
    subst (λ z. AreFewestAdded wanted z old new) same (record {
      made = routes_for best.plan w ++ own;
      added =
          routes_push c.push_routes.new.routes.items c.push.new.self.items (network, w) c.in_ok-push.ensures.items
          ∙ ap (λ z. z ++ own) routed ∙ append_assoc old (routes_for best.plan w) own;
      fewest = fewest_with wanted (ip_network network) values best.plan
          (subst (λ z. IsSolved wanted 0 z values best.plan) (sym same) best.solved) w
          (λ e. omega (arith, c.if-value-eq0.false, e)) has (ip_valid network)
          (subst IsTruncated (sym same) s.truncated);
    })
