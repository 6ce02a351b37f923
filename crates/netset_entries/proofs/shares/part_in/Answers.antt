-- A network has the addresses of its range.
use Rattle.std.proofs.Common.{refl}
use Rattle.ipnet.specs.NetworkOf.{ip_network}
use Rattle.ipnet_sets.specs.Members.{IsMember}
use Rattle.netset_entries.proofs.ShareLineLaws.{part_of_range}
use Rattle.netset_entries.proofs.shares.part_in.Goals as goal

pub returns-in-Network : goal.returns-in-Network
returns-in-Network c = rw c.in-Network.is
    (part_of_range (IsMember c.args.set.now) (ip_network c.in-Network.network) _ c.within.result
    refl c.within.ensures.members)
