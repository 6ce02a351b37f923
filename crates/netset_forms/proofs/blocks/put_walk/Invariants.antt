-- The items of the walk up to here are put, and the items of the networks that are left are not.
use Rattle.std.proofs.Common.{◌≡◌, length}
use Rattle.ipnet.specs.SubnetsLeft.{ip_subnets_left}
use Rattle.netset_forms.specs.FormSteps.{IsPutUpTo, layout_of, items_of, front_in, none_after}
use Rattle.netset_forms.specs.FormSteps.{number_after}
use Rattle.netset_forms.proofs.blocks.put_walk.Given as goal

abbrev pub invariant-loop-network : goal.invariant-loop-network
invariant-loop-network g l = record {
  up_to : IsPutUpTo (g.W.Write.contents l.fn.out) (g.W.Write.contents l.out) l.fn.piece.bytes l.piece.bytes
      (front_in (layout_of l.part.frame) l.now.none
      (items_of l.part.item l.now.number (ip_subnets_left l.network-iterator)))
      (front_in (layout_of l.part.frame) l.fn.place.none
      (items_of l.part.item l.fn.place.number (ip_subnets_left l.fn.walk)));
  now_is : none_after l.now.none (items_of l.part.item l.now.number (ip_subnets_left l.network-iterator))
      ≡ none_after l.fn.place.none (items_of l.part.item l.fn.place.number (ip_subnets_left l.fn.walk));
  number_is : number_after l.now.number (ip_subnets_left l.network-iterator)
      ≡ number_after l.fn.place.number (ip_subnets_left l.fn.walk);
}

abbrev pub decreases-loop-network : goal.decreases-loop-network
decreases-loop-network g l = length (ip_subnets_left l.network-iterator)
