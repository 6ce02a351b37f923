-- The blocks of the family's part of the set, if they are few enough; and else the best list for them.
use Rattle.std.proofs.Common.{map, refl, sym, subst, arith}
use Rattle.std.proofs.lemmas.List.{length-map}
use Rattle.ipnet_base.specs.Blocks.{AreMaximalBlocks, IsCoveredBy}
use Rattle.ipnet_base.proofs.ResultLaws.{true_gives}
use Rattle.ipnet.specs.NetLaws.{ip_valid}
use Rattle.ipnet.specs.NetworkOf.{ip_network}
use Rattle.ipnet_sets.specs.Members.{IsMember, IsMemberOf}
use Rattle.ipnet_shortest.specs.Covers.{IsBestCover, HasCoverWithin}
use Rattle.ipnet_shortest.specs.Halves.{AreBlocksIn}
use Rattle.ipnet_shortest.specs.PartCovers.{IsBestOf}
use Rattle.ipnet_shortest.specs.Parts.{HasNoCover}
use Rattle.ipnet_shortest.proofs.OrderLaws.{blocks_in_order, each_truncated}
use Rattle.ipnet_shortest.proofs.FamilyLaws.{exact_answer, none_of_zero, in_order, best_answer, none_answer}
use Rattle.ipnet_shortest.proofs.FamilyLaws.{weaker_some, none_exactly}
use Rattle.ipnet_shortest.proofs.cover.cover_of_family.Goals as goal

pub returns-then-len-limit-clause-best : goal.returns-then-len-limit-clause-best
returns-then-len-limit-clause-best c =
    let n = ip_network c.args.family.now in
    let whole = ip_network c.whole_family-around.result in
    let u = ip_valid c.whole_family-around.result in
    let w = c.whole_family-around.ensures in
    let set = c.args.set.now in
    let part = c.in_ok-part.part in
    let never = c.args.never.now in
    let members = c.in_ok-part.ensures.members in
    let blocks = map ip_network c.in_ok-blocks.blocks.items in
    let given = c.in_ok-blocks.ensures.blocks in
    let size = length-map c.in_ok-blocks.blocks.items ip_network in
    exact_answer set part never n whole w u members blocks given c.args.limit
    (true_gives c.is_disjoint.result c.is_disjoint.ensures c.if-not-is_disjoint.false)
    (omega (arith, c.if-len-limit.true, c.len.ensures, c.in_ok-blocks.blocks.ok.0, size))

pub returns-then-len-limit-clause-none : goal.returns-then-len-limit-clause-none
returns-then-len-limit-clause-none c =
    let n = ip_network c.args.family.now in
    let whole = ip_network c.whole_family-around.result in
    let u = ip_valid c.whole_family-around.result in
    let w = c.whole_family-around.ensures in
    let set = c.args.set.now in
    let part = c.in_ok-part.part in
    let never = c.args.never.now in
    let members = c.in_ok-part.ensures.members in
    let blocks = map ip_network c.in_ok-blocks.blocks.items in
    let given = c.in_ok-blocks.ensures.blocks in
    let size = length-map c.in_ok-blocks.blocks.items ip_network in
    let best = exact_answer set part never n whole w u members blocks given c.args.limit
    (true_gives c.is_disjoint.result c.is_disjoint.ensures c.if-not-is_disjoint.false)
    (omega (arith, c.if-len-limit.true, c.len.ensures, c.in_ok-blocks.blocks.ok.0, size)) in
    (λ e. absurd (cc), λ out. absurd (out (blocks, best.cover)))

pub returns-then-limit-eq0-clause-none : goal.returns-then-limit-eq0-clause-none
returns-then-limit-eq0-clause-none c =
    let n = ip_network c.args.family.now in
    let whole = ip_network c.whole_family-around.result in
    let u = ip_valid c.whole_family-around.result in
    let w = c.whole_family-around.ensures in
    let set = c.args.set.now in
    let part = c.in_ok-part.part in
    let never = c.args.never.now in
    let members = c.in_ok-part.ensures.members in
    let blocks = map ip_network c.in_ok-blocks.blocks.items in
    let given = c.in_ok-blocks.ensures.blocks in
    let size = length-map c.in_ok-blocks.blocks.items ip_network in
    let none = none_of_zero set part never n whole w u members blocks given
    (omega (arith, c.if-len-limit.false, c.len.ensures, c.in_ok-blocks.blocks.ok.0, size)) in (
      λ e. subst (λ z. ¬ (HasCoverWithin z (IsMemberOf n.family set) (IsMember never))) (sym c.if-limit-eq0.true) none,
      λ out. refl,
    )

pub best_list-requires-clause-blocks : goal.best_list-requires-clause-blocks
best_list-requires-clause-blocks c =
    let n = ip_network c.args.family.now in
    let whole = ip_network c.whole_family-around.result in
    let u = ip_valid c.whole_family-around.result in
    let w = c.whole_family-around.ensures in
    let set = c.args.set.now in
    let part = c.in_ok-part.part in
    let never = c.args.never.now in
    let members = c.in_ok-part.ensures.members in
    let blocks = map ip_network c.in_ok-blocks.blocks.items in
    let given = c.in_ok-blocks.ensures.blocks in
    let size = length-map c.in_ok-blocks.blocks.items ip_network in
    subst (λ z. AreBlocksIn (map ip_network z) whole) (sym c.as_slice.ensures.value)
    (in_order set part never n whole w u members blocks given
    (omega (arith, c.if-len-limit.false, c.len.ensures, c.in_ok-blocks.blocks.ok.0, size)))

pub returns-clause-best : goal.returns-clause-best
returns-clause-best c =
    let n = ip_network c.args.family.now in
    let whole = ip_network c.whole_family-around.result in
    let u = ip_valid c.whole_family-around.result in
    let w = c.whole_family-around.ensures in
    let set = c.args.set.now in
    let part = c.in_ok-part.part in
    let never = c.args.never.now in
    let members = c.in_ok-part.ensures.members in
    let blocks = map ip_network c.as_slice.result.now in
    let given = subst (λ z. AreMaximalBlocks (IsMember part) 0 (map ip_network z)) (sym c.as_slice.ensures.value)
    c.in_ok-blocks.ensures.blocks in
    let allowed = c.in_ok-allowed.allowed in
    let complement = c.in_ok-allowed.ensures.members in
    weaker_some (λ list. IsBestOf (IsCoveredBy blocks) (IsMember allowed) c.args.limit 0 (map ip_network list.items))
    (λ list. IsBestCover c.args.limit (IsMemberOf n.family set) (IsMember never) (map ip_network list.items))
    c.best_list.result (λ list best. best_answer set part never n whole w u members blocks given c.args.limit allowed
    (map ip_network list.items) complement best) c.best_list.ensures.best

pub returns-clause-none : goal.returns-clause-none
returns-clause-none c =
    let n = ip_network c.args.family.now in
    let whole = ip_network c.whole_family-around.result in
    let u = ip_valid c.whole_family-around.result in
    let w = c.whole_family-around.ensures in
    let set = c.args.set.now in
    let part = c.in_ok-part.part in
    let never = c.args.never.now in
    let members = c.in_ok-part.ensures.members in
    let blocks = map ip_network c.as_slice.result.now in
    let given = subst (λ z. AreMaximalBlocks (IsMember part) 0 (map ip_network z)) (sym c.as_slice.ensures.value)
    c.in_ok-blocks.ensures.blocks in
    let allowed = c.in_ok-allowed.allowed in
    let complement = c.in_ok-allowed.ensures.members in
    none_exactly (λ list. IsBestOf (IsCoveredBy blocks) (IsMember allowed) c.args.limit 0 (map ip_network list.items))
    (HasNoCover blocks (record { allowed = allowed; limit = c.args.limit }))
    (HasCoverWithin c.args.limit (IsMemberOf n.family set) (IsMember never)) c.best_list.result
    (λ list best. (
      map ip_network list.items,
      (best_answer set part never n whole w u members blocks given c.args.limit
          allowed (map ip_network list.items) complement best).cover,
    ))
    (none_answer set part never n whole w u members blocks given c.args.limit allowed complement)
    c.best_list.ensures.best c.best_list.ensures.none

pub returns-then-len-limit-clause-order : goal.returns-then-len-limit-clause-order
returns-then-len-limit-clause-order c =
    blocks_in_order (IsMember c.in_ok-part.part) (map ip_network c.in_ok-blocks.blocks.items)
    c.in_ok-blocks.ensures.blocks

pub returns-clause-order : goal.returns-clause-order
returns-clause-order c =
    let part = c.in_ok-part.part in
    let blocks = map ip_network c.as_slice.result.now in
    let given = subst (λ z. AreMaximalBlocks (IsMember part) 0 (map ip_network z)) (sym c.as_slice.ensures.value)
    c.in_ok-blocks.ensures.blocks in
    c.best_list.ensures.order (each_truncated (IsMember part) blocks given)
