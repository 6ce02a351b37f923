-- A set with room for the shortest length has room for each of them.
use Rattle.std.proofs.Common.{◌↔◌, All, sym, ap, ◌∙◌, subst₂}
use Rattle.ipnet.specs.NetworkOf.{ip_network}
use Rattle.ipnet_sets.specs.Members.{IsMember}
use Rattle.ipnet_sets.proofs.SetEqualLaws.{member_or_not}
use Rattle.ipnet_pools.specs.Fits.{HasRoom}
use Rattle.ipnet_pools.proofs.RoomLaws.{room_for_shortest}
use Rattle.ipnet_pools.proofs.plan.has_room_for_each.Goals as goal

pub returns-in-Some : goal.returns-in-Some
returns-in-Some c =
    let S = IsMember c.args.set.now in
    let f = (ip_network c.args.family.now).family in
    let lengths = c.args.lengths.now in
    let of_family = ap (λ z. z.family) c.new_assert.ensures ∙ ap (λ z. z.family) c.addr.ensures in
    let of_length = ap (λ z. z.prefix_len) c.new_assert.ensures in
    let both : HasRoom S f c.in-Some.prefix_len ↔ All (HasRoom S f) lengths =
    room_for_shortest S (member_or_not c.args.set.now) f c.in-Some.prefix_len lengths c.in-Some.ensures.some.0
    c.in-Some.ensures.some.1 c.requires in (
      λ yes. both.0 (subst₂ (HasRoom S) of_family of_length (c.has_room.ensures.0 yes)),
      λ each. c.has_room.ensures.1 (subst₂ (HasRoom S) (sym of_family) (sym of_length) (both.1 each)),
    )
