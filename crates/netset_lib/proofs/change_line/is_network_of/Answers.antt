use Rattle.std.proofs.Common.{refl}
use Rattle.ipnet_sets.specs.Members.{IsMember}
use Rattle.ipnet.specs.NetLaws.{ip_valid}
use Rattle.ipnet.specs.NetworkOf.{ip_network}
use Rattle.netset_lib.proofs.ApplyLaws.{maximal_by_supernet}
use Rattle.netset_lib.proofs.CoveredLaws.{largest_whole}
use Rattle.netset_lib.proofs.change_line.is_network_of.Goals as goal

pub returns-in-Some : goal.returns-in-Some
returns-in-Some c =
    let n = c.args.network.now in
    maximal_by_supernet (IsMember c.args.set.now) (ip_network n) (ip_network c.in-Some.supernet)
    (ip_valid n) c.requires (c.if-not-covers.ensures.0 refl) c.in-Some.ensures.some c.covers-in-Some.result
    c.covers-in-Some.ensures

pub returns-in-None : goal.returns-in-None
returns-in-None c =
    let n = c.args.network.now in (
      λ yes. largest_whole (IsMember c.args.set.now) (ip_network n) (ip_valid n) c.requires
          (c.if-not-covers.ensures.0 refl) (c.in-None.ensures.none.0 refl),
      λ h. refl,
    )
