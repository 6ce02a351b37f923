-- The blocks of the family's part of the set, if no address may be added; and else the best list for them.
use Rattle.std.proofs.Common.{◌≡◌, ◌≤◌, ◌⊎◌, inl, inr, map, length, ap, ◌∙◌, sym, subst, arith}
use Rattle.std.proofs.lemmas.List.{length-map}
use Rattle.ipnet_base.specs.Blocks.{AreMaximalBlocks, IsCoveredBy}
use Rattle.ipnet_base.proofs.ResultLaws.{true_gives}
use Rattle.ipnet.specs.NetLaws.{ip_valid}
use Rattle.ipnet.specs.NetworkOf.{ip_network}
use Rattle.ipnet_sets.specs.Members.{IsMember, IsMemberOf}
use Rattle.ipnet_shortest.specs.Covers.{IsFewestCover, HasCoverAdding}
use Rattle.ipnet_shortest.specs.Halves.{AreBlocksIn}
use Rattle.ipnet_shortest.specs.PartCovers.{IsBestOf}
use Rattle.ipnet_shortest.specs.Parts.{HasNoCover}
use Rattle.ipnet_shortest.proofs.OrderLaws.{blocks_in_order, each_truncated}
use Rattle.ipnet_shortest.proofs.FamilyLaws.{exact_fewest_answer, in_order, fewest_answer, some_answer}
use Rattle.ipnet_shortest.proofs.FamilyLaws.{weaker_some, none_exactly, no_blocks, has_blocks}
use Rattle.ipnet_shortest.proofs.cover.fewest_of_family.Goals.{then-spare-eq0-via-then-spare-eq0}
use Rattle.ipnet_shortest.proofs.cover.fewest_of_family.Goals.{then-spare-eq0-via-else-spare-eq0+then-is_empty}
use Rattle.ipnet_shortest.proofs.cover.fewest_of_family.Goals as goal

pub returns-then-spare-eq0-clause-fewest : goal.returns-then-spare-eq0-clause-fewest
returns-then-spare-eq0-clause-fewest c =
    let n = ip_network c.args.family.now in
    let whole = ip_network c.whole_family-around.result in
    let u = ip_valid c.whole_family-around.result in
    let w = c.whole_family-around.ensures in
    let set = c.args.set.now in
    let part = c.in_ok-part.part in
    let never = c.args.never.now in
    let members = c.in_ok-part.ensures.members in
    let apart = true_gives c.is_disjoint.result c.is_disjoint.ensures c.if-not-is_disjoint.false in
    let list = c.in_ok-blocks.blocks in
    let blocks = map ip_network list.items in
    let given = c.in_ok-blocks.ensures.blocks in
    let which : (c.args.spare ≡ 0) ⊎ (length blocks ≡ 0) = elim c.then-spare-eq0.branch [
      | then-spare-eq0-via-then-spare-eq0 w ↦ inl w.if-spare-eq0.true
      | then-spare-eq0-via-else-spare-eq0+then-is_empty w ↦ inr (no_blocks list
          (sym w.is_empty.ensures ∙ w.if-is_empty.true))
    ] in
    let best = exact_fewest_answer set part never n whole w u members blocks given c.args.spare apart which in
    best

pub returns-then-spare-eq0-clause-none : goal.returns-then-spare-eq0-clause-none
returns-then-spare-eq0-clause-none c =
    let n = ip_network c.args.family.now in
    let whole = ip_network c.whole_family-around.result in
    let u = ip_valid c.whole_family-around.result in
    let w = c.whole_family-around.ensures in
    let set = c.args.set.now in
    let part = c.in_ok-part.part in
    let never = c.args.never.now in
    let members = c.in_ok-part.ensures.members in
    let apart = true_gives c.is_disjoint.result c.is_disjoint.ensures c.if-not-is_disjoint.false in
    let list = c.in_ok-blocks.blocks in
    let blocks = map ip_network list.items in
    let given = c.in_ok-blocks.ensures.blocks in
    let which : (c.args.spare ≡ 0) ⊎ (length blocks ≡ 0) = elim c.then-spare-eq0.branch [
      | then-spare-eq0-via-then-spare-eq0 w ↦ inl w.if-spare-eq0.true
      | then-spare-eq0-via-else-spare-eq0+then-is_empty w ↦ inr (no_blocks list
          (sym w.is_empty.ensures ∙ w.if-is_empty.true))
    ] in
    let best = exact_fewest_answer set part never n whole w u members blocks given c.args.spare apart which in
    (λ e. absurd (cc), λ out. absurd (out (blocks, best.added, best.cover)))

pub best_list-requires-clause-blocks : goal.best_list-requires-clause-blocks
best_list-requires-clause-blocks c =
    let n = ip_network c.args.family.now in
    let whole = ip_network c.whole_family-around.result in
    let u = ip_valid c.whole_family-around.result in
    let w = c.whole_family-around.ensures in
    let set = c.args.set.now in
    let part = c.in_ok-part.part in
    let never = c.args.never.now in
    let members = c.in_ok-part.ensures.members in
    let apart = true_gives c.is_disjoint.result c.is_disjoint.ensures c.if-not-is_disjoint.false in
    let list = c.in_ok-blocks.blocks in
    let blocks = map ip_network list.items in
    let given = c.in_ok-blocks.ensures.blocks in
    subst (λ z. AreBlocksIn (map ip_network z) whole) (sym c.as_slice.ensures.value)
    (in_order set part never n whole w u members blocks given
    (has_blocks list (sym c.is_empty.ensures ∙ c.if-is_empty.false)))

pub returns-clause-fewest : goal.returns-clause-fewest
returns-clause-fewest c =
    let n = ip_network c.args.family.now in
    let whole = ip_network c.whole_family-around.result in
    let u = ip_valid c.whole_family-around.result in
    let w = c.whole_family-around.ensures in
    let set = c.args.set.now in
    let part = c.in_ok-part.part in
    let never = c.args.never.now in
    let members = c.in_ok-part.ensures.members in
    let apart = true_gives c.is_disjoint.result c.is_disjoint.ensures c.if-not-is_disjoint.false in
    let blocks = map ip_network c.as_slice.result.now in
    let given = subst (λ z. AreMaximalBlocks (IsMember part) 0 (map ip_network z)) (sym c.as_slice.ensures.value)
    c.in_ok-blocks.ensures.blocks in
    let allowed = c.in_ok-complement.field-0 in
    let complement = c.in_ok-complement.ensures.members in
    let few : length blocks ≤ c.len.result =
    omega (
      arith,
      length-map c.as_slice.result.now ip_network,
      ap length c.as_slice.ensures.value,
      c.len.ensures,
      c.in_ok-blocks.blocks.ok.0,
    ) in
    weaker_some (λ list. IsBestOf (IsCoveredBy blocks) (IsMember allowed) c.len.result c.args.spare
    (map ip_network list.items))
    (λ list. IsFewestCover c.args.spare (IsMemberOf n.family set) (IsMember never) (map ip_network list.items))
    c.best_list.result (λ list best. fewest_answer set part never n whole w u members blocks given c.args.spare apart
    c.len.result few allowed complement (map ip_network list.items) best) c.best_list.ensures.best

pub returns-clause-none : goal.returns-clause-none
returns-clause-none c =
    let n = ip_network c.args.family.now in
    let whole = ip_network c.whole_family-around.result in
    let u = ip_valid c.whole_family-around.result in
    let w = c.whole_family-around.ensures in
    let set = c.args.set.now in
    let part = c.in_ok-part.part in
    let never = c.args.never.now in
    let members = c.in_ok-part.ensures.members in
    let apart = true_gives c.is_disjoint.result c.is_disjoint.ensures c.if-not-is_disjoint.false in
    let blocks = map ip_network c.as_slice.result.now in
    let given = subst (λ z. AreMaximalBlocks (IsMember part) 0 (map ip_network z)) (sym c.as_slice.ensures.value)
    c.in_ok-blocks.ensures.blocks in
    let allowed = c.in_ok-complement.field-0 in
    let complement = c.in_ok-complement.ensures.members in
    let few : length blocks ≤ c.len.result =
    omega (
      arith,
      length-map c.as_slice.result.now ip_network,
      ap length c.as_slice.ensures.value,
      c.len.ensures,
      c.in_ok-blocks.blocks.ok.0,
    ) in
    let chosen = fewest_answer set part never n whole w u members blocks given c.args.spare apart c.len.result few
    allowed complement in
    none_exactly (λ list. IsBestOf (IsCoveredBy blocks) (IsMember allowed) c.len.result c.args.spare
    (map ip_network list.items)) (HasNoCover blocks (record { allowed = allowed; limit = c.len.result }))
    (HasCoverAdding c.args.spare (IsMemberOf n.family set) (IsMember never)) c.best_list.result
    (λ list best.
    let fewest = chosen (map ip_network list.items) best in
    (map ip_network list.items, fewest.added, fewest.cover))
    (λ none. absurd (some_answer set part never n whole w u members blocks given c.args.spare apart c.len.result few
    allowed complement none)) c.best_list.ensures.best c.best_list.ensures.none

pub returns-then-spare-eq0-clause-order : goal.returns-then-spare-eq0-clause-order
returns-then-spare-eq0-clause-order c =
    blocks_in_order (IsMember c.in_ok-part.part) (map ip_network c.in_ok-blocks.blocks.items)
    c.in_ok-blocks.ensures.blocks

pub returns-clause-order : goal.returns-clause-order
returns-clause-order c =
    let part = c.in_ok-part.part in
    let blocks = map ip_network c.as_slice.result.now in
    let given = subst (λ z. AreMaximalBlocks (IsMember part) 0 (map ip_network z)) (sym c.as_slice.ensures.value)
    c.in_ok-blocks.ensures.blocks in
    c.best_list.ensures.order (each_truncated (IsMember part) blocks given)
