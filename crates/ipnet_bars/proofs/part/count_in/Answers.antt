-- The part, or the set itself if it is within the block, has the addresses to be counted.
use Rattle.std.proofs.Common.{refl}
use Rattle.ipnet.specs.NetworkOf.{ip_network}
use Rattle.ipnet_sets.specs.Members.{IsMember}
use Rattle.ipnet_bars.specs.Parts.{counted}
use Rattle.ipnet_bars.proofs.PartLaws.{own_part, part_counted, part_fits}
use Rattle.ipnet_bars.proofs.part.count_in.Goals as goal

pub returns-then-is_within-clause-count : goal.returns-then-is_within-clause-count
returns-then-is_within-clause-count c =
    let set = c.args.set.now in
    let n = ip_network c.args.network.now in
    part_counted set set n n.family (counted c.count_of_family.result) refl
    (own_part set n (c.is_within.ensures.0 c.if-is_within.true)) c.count_of_family.ensures

pub returns-then-is_within-clause-part : goal.returns-then-is_within-clause-part
returns-then-is_within-clause-part c =
    let set = c.args.set.now in
    let n = ip_network c.args.network.now in
    part_fits (IsMember set) n (counted c.count_of_family.result)
    (part_counted set set n n.family (counted c.count_of_family.result) refl
    (own_part set n (c.is_within.ensures.0 c.if-is_within.true)) c.count_of_family.ensures)

pub returns-clause-count : goal.returns-clause-count
returns-clause-count c =
    let n = ip_network c.args.network.now in
    part_counted c.args.set.now c.in_ok-part.part n n.family (counted c.count_of_family-2.result) refl
    c.in_ok-part.ensures.members c.count_of_family-2.ensures

pub returns-clause-part : goal.returns-clause-part
returns-clause-part c =
    let n = ip_network c.args.network.now in
    part_fits (IsMember c.args.set.now) n (counted c.count_of_family-2.result)
    (part_counted c.args.set.now c.in_ok-part.part n n.family (counted c.count_of_family-2.result) refl
    c.in_ok-part.ensures.members c.count_of_family-2.ensures)
