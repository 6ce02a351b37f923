-- Sorting and removing repeats leaves each owner once.
use Rattle.std.proofs.Common.{subst}
use Rattle.std.proofs.lemmas.List.Filters.{dedup_is}
use Rattle.std.proofs.lemmas.List.Kept.{Contains-dedup_nat, Contains-from_dedup, AllPairs-from_increasing}
use Rattle.std.proofs.lemmas.List.Sorted.{Contains-permutation, IsPermutation-sym}
use Rattle.std.proofs.lemmas.Map.Keys.{IsStrictlyIncreasing-dedup}
use Rattle.ipnet_base.specs.Address.{IPv4, IPv6}
use Rattle.ipnet_rules.specs.Cells.{HasOwnersAdded}
use Rattle.ipnet_rules.proofs.OwnerLaws.{in_order, deciders_from_owners}
use Rattle.ipnet_rules.proofs.unreached.deciders.Goals as goal

pub returns : goal.returns
returns c = λ unreached of_ipv4 of_ipv6.
    let ipv4 = c.args.ipv4.now in
    let ipv6 = c.args.ipv6.now in
    let none = c.new-found.result.items in
    let first = c.push_owners.new.found.items in
    let second = c.push_owners-2.new.found.items in
    let moved = c.sort_unstable.ensures.permutation in
    let is = dedup_is _ _ _ c.dedup.ensures.filtered in
    deciders_from_owners c.args.rules.now ipv4 ipv6 c.args.place _ c.in_ok-ipv4_pieces.ipv4_pieces.items
    c.in_ok-ipv6_pieces.ipv6_pieces.items none first second c.dedup.new.self.items of_ipv4 of_ipv6
    unreached c.in_ok-ipv4_pieces.ensures c.in_ok-ipv6_pieces.ensures c.new-found.ensures.items
    (subst (λ ps. HasOwnersAdded ipv4 ps none first) c.as_slice.ensures.value
    (c.in_ok-push_owners.ensures (in_order IPv4 c.args.rules.now ipv4 of_ipv4)))
    (subst (λ ps. HasOwnersAdded ipv6 ps first second) c.as_slice-2.ensures.value
    (c.in_ok-push_owners-2.ensures (in_order IPv6 c.args.rules.now ipv6 of_ipv6)))
    (λ i. (
      λ h. Contains-permutation _ _ i (IsPermutation-sym _ _ moved) (Contains-from_dedup _ _ i (rw is at h)),
      λ h. rw is (Contains-dedup_nat _ i (Contains-permutation _ _ i moved h)),
    ))
    (rw is (AllPairs-from_increasing _ (IsStrictlyIncreasing-dedup _ c.sort_unstable.ensures.sorted)))
