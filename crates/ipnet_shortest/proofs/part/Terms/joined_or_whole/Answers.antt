-- Only the network, or the best shares of both parts.
use Rattle.std.proofs.Common.{◌≡◌, [], ◌∷◌, ◌++◌, length, refl, sym, ap, ◌∙◌, subst, arith}
use Rattle.ipnet.specs.NetLaws.{ip_valid}
use Rattle.ipnet.specs.NetworkOf.{ip_network}
use Rattle.ipnet_shortest.specs.declared.plan.Plan.TheVariants.{OneOr}
use Rattle.ipnet_shortest.specs.PartCovers.{costs_from}
use Rattle.ipnet_shortest.specs.Plans.{IsOrderly, IsSound, size_of, networks_of}
use Rattle.ipnet_shortest.proofs.CostLaws.{length-costs_from}
use Rattle.ipnet_shortest.proofs.PartOfLaws.{whole_solved, are_shares}
use Rattle.ipnet_shortest.proofs.ShareLaws.{best_of_slices, costs_of_slices}
use Rattle.ipnet_shortest.proofs.part.Terms.joined_or_whole.Goals as goal

pub returns-clause-order : goal.returns-clause-order
returns-clause-order c = λ l r t halves p q. (
  t,
  λ x a. a,
  subst (λ z. IsOrderly z (ip_network c.args.around.now)) (sym c.in_ok-new-3.ensures.ok) (
    l,
    r,
    halves,
    subst (λ z. IsOrderly z l) (sym c.in_ok-new.ensures.ok) p,
    subst (λ z. IsOrderly z r) (sym c.in_ok-new-2.ensures.ok) q,
  ),
)

pub returns-clause-some : goal.returns-clause-some
returns-clause-some c front back j =
    let first = c.args.first in
    let second = c.args.second in
    let shares = c.in_ok-shares.shares.items in
    let count = c.cost_count-count.result in
    let best = best_of_slices first.costs.items second.costs.items c.deref.result.now c.deref-2.result.now shares
    c.deref.ensures.value c.deref-2.ensures.value c.in_ok-shares.ensures.best in
    let lacking = c.lacking_in-lacking.result in
    let one = c.in_ok-new.field-0.value in
    let two = c.in_ok-new-2.field-0.value in
    let rest = c.in_ok-new-3.field-0.value in
    let is_one : one ≡ first.plan = c.in_ok-new.ensures.ok in
    let is_two : two ≡ second.plan = c.in_ok-new-2.ensures.ok in
    let is_rest = c.in_ok-new-3.ensures.ok in
    let shares_size : size_of rest ≡ length shares = ap size_of is_rest in
    let costs : c.push_costs.new.costs.items ≡ lacking ∷ costs_from first.costs.items second.costs.items 0 shares =
    c.in_ok-push_costs.ensures
    ∙ costs_of_slices first.costs.items second.costs.items shares c.deref-3.result.now c.deref-4.result.now
    c.deref-5.result.now c.push.new.self.items c.deref-3.ensures.value c.deref-4.ensures.value
    c.deref-5.ensures.value
    ∙ ap (λ z. z ++ costs_from first.costs.items second.costs.items 0 shares)
    (c.in_ok-push.ensures.items ∙ ap (λ z. z ++ lacking ∷ []) c.in_ok-costs.ensures.items) in
    record {
      solved = whole_solved front back c.args.self.now first second (ip_network c.args.around.now) j
          (ip_valid c.args.around.now) lacking c.lacking_in-lacking.ensures shares best count c.cost_count-count.ensures
          c.in_ok-shares.ensures.count one two is_one is_two c.push_costs.new.costs.items
          (networks_of (OneOr c.args.around.now c.in_ok-new-3.field-0)) costs refl
          (λ i. ap (λ z. networks_of z i) is_rest) c.requires.limit.some c.requires.whole;
      sound = subst IsSound (sym is_rest) (
        subst IsSound (sym is_one) j.of_front.sound,
        subst IsSound (sym is_two) j.of_back.sound,
        are_shares front back c.args.self.now first second (ip_network c.args.around.now) j (ip_valid c.args.around.now)
            lacking c.lacking_in-lacking.ensures shares best count c.cost_count-count.ensures
            c.in_ok-shares.ensures.count one two is_one is_two,
      );
      size = omega (
        arith,
        shares_size,
        ap length costs,
        length-costs_from first.costs.items second.costs.items 0 shares,
      );
    }
