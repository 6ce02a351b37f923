use Rattle.std.proofs.Common.{rules, subst, inr}
use Rattle.ipnet.specs.NetworkOf.{ip_network}
use Rattle.ipnet_sets.specs.Parts.{IsInPart}
use Rattle.ipnet_sets.specs.Members.{IsMember}
use Rattle.ipnet_sets.specs.Supernets.{IsSmallestAround}
use Rattle.netset_pictures.proofs.plan_bar.bar_of_plan.Goals as goal

pub returns : goal.returns
returns c = inr record {
  frame = ip_network c.in-Some.frame;
  is_frame = subst (λ n. IsSmallestAround (IsInPart (IsMember c.args.set.now) n) (ip_network c.in-Some.frame))
      c.all_of_family.ensures (search rules);
  taken = c.in_ok-taken.taken;
  are_taken = c.in_ok-taken.ensures;
  bar = c.in_ok-text.ensures;
}
