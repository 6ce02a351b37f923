use Rattle.ipnet.specs.NetworkOf.{ip_network}
use Rattle.ipnet_sets.specs.Members.{IsMember}
use Rattle.ipnet_bars.proofs.PartLaws.{own_part}
use Rattle.ipnet_bars.proofs.FrameLaws.{around_part, none_of_part}
use Rattle.ipnet_bars.proofs.frame.frame_in.Goals as goal

pub returns-then-is_within-clause-some : goal.returns-then-is_within-clause-some
returns-then-is_within-clause-some c =
    let set = c.args.set.now in
    let n = ip_network c.args.network.now in
    around_part (IsMember set) n set (own_part set n (c.is_within.ensures.0 c.if-is_within.true))
    c.smallest_around.result c.smallest_around.ensures.some

pub returns-then-is_within-clause-none : goal.returns-then-is_within-clause-none
returns-then-is_within-clause-none c =
    let set = c.args.set.now in
    let n = ip_network c.args.network.now in
    let same = none_of_part (IsMember set) n set (own_part set n (c.is_within.ensures.0 c.if-is_within.true)) in (
      λ t. same.0 (c.smallest_around.ensures.none.0 t),
      λ none. c.smallest_around.ensures.none.1 (same.1 none),
    )

pub returns-clause-some : goal.returns-clause-some
returns-clause-some c =
    around_part (IsMember c.args.set.now) (ip_network c.args.network.now) c.in_ok-part.part c.in_ok-part.ensures.members
    c.smallest_around-2.result c.smallest_around-2.ensures.some

pub returns-clause-none : goal.returns-clause-none
returns-clause-none c =
    let same = none_of_part (IsMember c.args.set.now) (ip_network c.args.network.now) c.in_ok-part.part
    c.in_ok-part.ensures.members in (
      λ t. same.0 (c.smallest_around-2.ensures.none.0 t),
      λ none. c.smallest_around-2.ensures.none.1 (same.1 none),
    )
