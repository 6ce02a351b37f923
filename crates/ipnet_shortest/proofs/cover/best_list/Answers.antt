-- The networks of the first index that costs little enough.
use Rattle.std.proofs.Common.{◌++◌, map, IfSome, sym, ap, ◌∙◌, subst}
use Rattle.ipnet_base.specs.Blocks.{IsCoveredBy}
use Rattle.ipnet_base.proofs.DecidedLaws.{IsDecided-cover}
use Rattle.ipnet.specs.NetworkOf.{ip_network}
use Rattle.ipnet_sets.specs.Members.{IsMember}
use Rattle.ipnet_shortest.specs.Covers.{AreInOrder}
use Rattle.ipnet_shortest.specs.Halves.{IsFirstWithin}
use Rattle.ipnet_shortest.specs.PartCovers.{IsBestOf}
use Rattle.ipnet_shortest.specs.Parts.{IsPartOf}
use Rattle.ipnet_shortest.specs.Plans.{networks_of, IsOrderly}
use Rattle.ipnet_shortest.proofs.OrderLaws.{plan_in_order}
use Rattle.ipnet_shortest.proofs.RoomLaws.{best_of}
use Rattle.ipnet_shortest.proofs.cover.best_list.Goals as goal

pub returns-clause-best : goal.returns-clause-best
returns-clause-best c =
    let blocks = map ip_network c.args.blocks.now in
    let terms = c.args.terms.now in
    let part = c.in-Some.part in
    let index = c.first_within-index.result in
    let known = subst (λ z. IfSome z (IsPartOf blocks terms)) c.in-Some.is c.in_ok-part.ensures.some in
    let list = c.in_ok-push_networks.ensures
    ∙ ap (λ z. map ip_network z ++ networks_of part.plan index) c.new-networks.ensures.items in
    let spare = c.args.spare in
    subst (IsBestOf (IsCoveredBy blocks) (IsMember terms.allowed) terms.limit spare) (sym list)
    (best_of (IsCoveredBy blocks) (IsMember terms.allowed) (IsDecided-cover blocks) terms.limit spare part.lacking
    part.fewest (ip_network part.around) part.costs.items (networks_of part.plan) known.solved index
    (subst (λ z. IsFirstWithin z spare index) c.as_slice.ensures.value c.first_within-index.ensures))

pub returns-clause-order : goal.returns-clause-order
returns-clause-order c = λ trunc.
    let around = ip_network c.args.around.now in
    let part = c.in-Some.part in
    let index = c.first_within-index.result in
    let known = subst (λ z. IfSome z (λ p. IsOrderly p.plan around)) c.in-Some.is (c.in_ok-part.ensures.order trunc) in
    let list = c.in_ok-push_networks.ensures
    ∙ ap (λ z. map ip_network z ++ networks_of part.plan index) c.new-networks.ensures.items in
    subst AreInOrder (sym list) (plan_in_order part.plan around index known)
