-- The networks of the plan are a placement, and the network that names the family is of this family.
use Rattle.std.proofs.Common.{All, IfOk, map, ap, subst}
use Rattle.ipnet_base.specs.Address.{IPv6}
use Rattle.ipnet.specs.NetworkOf.{ip_network}
use Rattle.ipnet_sets.specs.Members.{IsMember}
use Rattle.ipnet_pools.specs.Fits.{HasRoom}
use Rattle.ipnet_pools.specs.Plans.{KeepsRoom}
use Rattle.ipnet_pools.proofs.PlanLaws.{answer_places}
use Rattle.ipnet_pools.proofs.plan.plan_ipv6.Goals as goal

pub returns-clause-placed : goal.returns-clause-placed
returns-clause-placed c =
    answer_places (IsMember c.args.set.now) (ip_network c.new_assert-family.result).family IPv6 c.args.lengths.now
    (λ list. map ip_network list.items) c.plan.result (ap (λ n. n.family) c.new_assert-family.ensures)
    c.plan.ensures.plan

pub returns-clause-keeps : goal.returns-clause-keeps
returns-clause-keeps c =
    subst (λ f. IfOk c.plan.result (λ list. KeepsRoom (IsMember c.args.set.now) f c.args.lengths.now
    (map ip_network list.items))) (ap (λ n. n.family) c.new_assert-family.ensures) c.plan.ensures.keeps

pub returns-clause-memory : goal.returns-clause-memory
returns-clause-memory c = λ e.
    subst (λ f. All (HasRoom (IsMember c.args.set.now) f) c.args.lengths.now)
    (ap (λ n. n.family) c.new_assert-family.ensures) (c.plan.ensures.memory e)
