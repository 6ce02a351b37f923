-- The family of the call is the family of the plan.
use Rattle.std.proofs.Common.{All, sym, subst}
use Rattle.ipnet_sets.specs.Members.{IsMember}
use Rattle.ipnet_pools.specs.Fits.{HasRoom}
use Rattle.netset_lib.specs.Planning.{family_of}
use Rattle.netset_lib.proofs.plan.plan_of.Goals as goal

pub returns-in-Ipv4-clause-memory : goal.returns-in-Ipv4-clause-memory
returns-in-Ipv4-clause-memory c = λ e.
    subst (λ f. All (HasRoom (IsMember c.args.set.now) (family_of f)) c.args.lengths.now) (sym c.in-Ipv4.is)
    (c.plan_ipv4.ensures.memory e)

pub returns-in-Ipv6-clause-memory : goal.returns-in-Ipv6-clause-memory
returns-in-Ipv6-clause-memory c = λ e.
    subst (λ f. All (HasRoom (IsMember c.args.set.now) (family_of f)) c.args.lengths.now) (sym c.in-Ipv6.is)
    (c.plan_ipv6.ensures.memory e)
