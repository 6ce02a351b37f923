-- A set of addresses has one list of boundaries in each family, and `==`, the order and the hash go by these lists.
use Rattle.std.proofs.Common.{refl}
use Rattle.ipnet_sets.proofs.SetEqualLaws.{equal_by_addresses, tied_by_addresses, partial_of_sets, same_words}
use Rattle.ipnet_sets.proofs.HashLaws.{hashed_apart}
use Rattle.ipnet_sets.proofs.set.laws.sets_follow_addresses.Goals as goal

pub returns-clause-equality : goal.returns-clause-equality
returns-clause-equality c a b = equal_by_addresses a b

pub returns-clause-order : goal.returns-clause-order
returns-clause-order c a b = tied_by_addresses a b

pub returns-clause-partial_order : goal.returns-clause-partial_order
returns-clause-partial_order c a b = partial_of_sets a.ipv4.items b.ipv4.items a.ipv6.items b.ipv6.items

pub returns-clause-hash : goal.returns-clause-hash
returns-clause-hash c a b = (
  hashed_apart a b,
  λ same.
      let ipv4 = (same_words a b same).0 in
      let ipv6 = (same_words a b same).1 in
      rw (ipv4, ipv6) refl,
)
