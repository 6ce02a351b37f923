use Rattle.std.proofs.Common.{rules}
use Rattle.ipnet.specs.NetworkOf.{ip_network}
use Rattle.ipnet_sets.specs.ManySets.{IsInSome}
use Rattle.ipnet_sets.specs.Members.{IsMember}
use Rattle.netset_pictures.proofs.FrameLaws.{frame_same, no_frame_same}
use Rattle.netset_pictures.proofs.map.framed_sets_map_text.Goals as goal

pub returns-in_default-clause-none : goal.returns-in_default-clause-none
returns-in_default-clause-none c = λ none.
    no_frame_same (IsMember c.in_ok-all.all) (IsInSome IsMember c.args.sets.now) c.in_ok-all.ensures.members
    c.args.request.frame (search rules)

pub returns-clause-map : goal.returns-clause-map
returns-clause-map c =
    let network = ip_network c.in-Some.network in record {
      network = network;
      is_frame = frame_same (IsMember c.in_ok-all.all) (IsInSome IsMember c.args.sets.now)
          c.in_ok-all.ensures.members c.args.request.frame network (search rules);
      shown = search rules;
    }
