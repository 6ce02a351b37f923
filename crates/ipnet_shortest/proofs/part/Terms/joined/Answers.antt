-- Both parts have the costs of the best shares, and too few networks cover neither.
use Rattle.std.proofs.Common.{◌≡◌, ◌+◌, ◌++◌, length, sym, ap, ◌∙◌, subst, arith, inl, inr}
use Rattle.std.proofs.lemmas.Bool.{cases_lt}
use Rattle.ipnet.specs.NetLaws.{ip_valid}
use Rattle.ipnet.specs.NetworkOf.{ip_network}
use Rattle.ipnet_shortest.specs.PartCovers.{costs_from}
use Rattle.ipnet_shortest.specs.Plans.{IsOrderly, IsSound}
use Rattle.ipnet_shortest.proofs.CostLaws.{length-costs_from}
use Rattle.ipnet_shortest.proofs.PartOfLaws.{none_of_both, both_solved, are_shares}
use Rattle.ipnet_shortest.proofs.ShareLaws.{best_of_slices, costs_of_slices}
use Rattle.ipnet_shortest.proofs.part.Terms.joined.Goals as goal

pub returns-then-count-eq0-clause-none : goal.returns-then-count-eq0-clause-none
returns-then-count-eq0-clause-none c front back j =
    let first = c.args.first in
    let second = c.args.second in
    none_of_both front back c.args.self.now first second (ip_network c.args.around.now) j c.requires.part
    (elim (cases_lt c.args.self.now.limit (first.fewest + second.fewest)) [
      | inl lt ↦ lt
      | inr le ↦ absurd (omega (arith, c.cost_count-count.ensures.some le, c.if-count-eq0.true))
    ])

pub returns-clause-order : goal.returns-clause-order
returns-clause-order c = λ l r halves p q. (
  l,
  r,
  halves,
  subst (λ z. IsOrderly z l) (sym c.in_ok-new.ensures.ok) p,
  subst (λ z. IsOrderly z r) (sym c.in_ok-new-2.ensures.ok) q,
)

pub returns-clause-some : goal.returns-clause-some
returns-clause-some c front back j =
    let first = c.args.first in
    let second = c.args.second in
    let shares = c.in_ok-shares.shares.items in
    let count = c.cost_count-count.result in
    let best = best_of_slices first.costs.items second.costs.items c.deref.result.now c.deref-2.result.now shares
    c.deref.ensures.value c.deref-2.ensures.value c.in_ok-shares.ensures.best in
    let one = c.in_ok-new.field-0.value in
    let two = c.in_ok-new-2.field-0.value in
    let is_one : one ≡ first.plan = c.in_ok-new.ensures.ok in
    let is_two : two ≡ second.plan = c.in_ok-new-2.ensures.ok in
    let costs : c.push_costs.new.costs.items ≡ costs_from first.costs.items second.costs.items 0 shares =
    c.in_ok-push_costs.ensures
    ∙ costs_of_slices first.costs.items second.costs.items shares c.deref-3.result.now c.deref-4.result.now
    c.deref-5.result.now c.in_ok-costs.costs.items c.deref-3.ensures.value c.deref-4.ensures.value
    c.deref-5.ensures.value
    ∙ ap (λ z. z ++ costs_from first.costs.items second.costs.items 0 shares) c.in_ok-costs.ensures.items in
    record {
      solved = both_solved front back c.args.self.now first second (ip_network c.args.around.now) j
          (ip_valid c.args.around.now) c.lacking_in-lacking.result c.lacking_in-lacking.ensures shares best count
          c.cost_count-count.ensures c.in_ok-shares.ensures.count one two is_one is_two c.push_costs.new.costs.items
          costs
          (omega (arith, c.if-count-eq0.false)) c.requires.part;
      sound = (
        subst IsSound (sym is_one) j.of_front.sound,
        subst IsSound (sym is_two) j.of_back.sound,
        are_shares front back c.args.self.now first second (ip_network c.args.around.now) j (ip_valid c.args.around.now)
            c.lacking_in-lacking.result c.lacking_in-lacking.ensures shares best count c.cost_count-count.ensures
            c.in_ok-shares.ensures.count one two is_one is_two,
      );
      size = sym (ap length costs ∙ length-costs_from first.costs.items second.costs.items 0 shares);
    }
