-- The addresses of an entry that a set has: which they are, how many, and the share of the entry.
use Rattle.std.proofs.Common.{◌≡◌, ◌≢◌, ◌↔◌, ◌+◌, ◌*◌, ◌/◌, ◌<◌, ◌≤◌, ℕ, ap, arith, sym}
use Rattle.std.proofs.Common.{List, length, map, subst, ◌∙◌}
use Rattle.std.proofs.Common.{IfOk, Result}
use Rattle.std.proofs.lemmas.Nat.{div-mul-add}
use Rattle.std.proofs.lemmas.Result.{IfOk-weaker}
use Rattle.ipnet_sets.proofs.ManyLaws.{both_ways}
use Rattle.ipnet_base.proofs.BlockLaws.{between_from_block, block_from_between}
use Rattle.ipnet_base.proofs.ListLaws.{pairs_weaker}
use Rattle.ipnet_base.proofs.RangeLaws.{addresses_ascend, between_from_contains, contains_from_between}
use Rattle.ipnet_base.proofs.RangeLaws.{length-addresses_of}
use Rattle.ipnet_base.specs.Address.{Address}
use Rattle.ipnet_base.specs.Network.{Network}
use Rattle.ipnet_base.specs.Ranges.{AddressRange, address_count, addresses_of}
use Rattle.ipnet_bars.proofs.PartLaws.{no_more, same_count}
use Rattle.ipnet_lists.specs.Entries.{block_range}
use Rattle.ipnet_sets.specs.Members.{IsCountOf, IsMember, IsMemberOf}
use Rattle.ipnet_sets.specs.Parts.{IsInPart}
use Rattle.ipnet_sets.specs.SetRanges.{IsInRange}
use Rattle.ipnet_sets.specs.declared.set.IpSet.{IpSet}
use Rattle.ipnet.specs.declared.parser.Grammar.{Grammar}
use Rattle.ipnet_lists.specs.declared.content_line.ListFailure.TheVariants as Failures
use Rattle.netset_entries.specs.EntryLineOf.{IsReadOf, numbered}
use Rattle.netset_entries.specs.Shares.{IsEntriesFailure, IsInEntry}
use Rattle.netset_entries.specs.declared.entry_list.EntryList.{EntryList}

-- what a set has of a block is what it has of the range of the block
block_in_entry : (InSet : Address → Type 0) (n : Network) (x : Address)
    → IsInPart InSet n x ↔ IsInEntry InSet (block_range n) x
block_in_entry InSet n x = (
  λ i. (between_from_block n x i.in_block, i.in_set),
  λ h. record { in_block = block_from_between n x h.0; in_set = h.1 },
)

pub part_of_range : {E : Type 0} (InSet : Address → Type 0) (n : Network) (r : AddressRange) (result : Result IpSet E)
    → block_range n ≡ r → IfOk result (λ s. (x : Address) → IsMember s x ↔ IsInPart InSet n x)
    → IfOk result (λ s. (x : Address) → IsMember s x ↔ IsInEntry InSet r x)
part_of_range InSet n r result is = IfOk-weaker result (λ s. (x : Address) → IsMember s x ↔ IsInPart InSet n x)
    (λ s. (x : Address) → IsMember s x ↔ IsInEntry InSet r x)
    (λ s h x. subst (λ z. IsMember s x ↔ IsInEntry InSet z x) is (both_ways (h x) (block_in_entry InSet n x)))

-- the part of a set that is in an entry has as many addresses of the entry's family
pub entry_counted : (InSet : Address → Type 0) (part : IpSet) (r : AddressRange) (count : ℕ)
    → ((x : Address) → IsMember part x ↔ IsInEntry InSet r x) → IsCountOf (IsMemberOf r.family part) count
    → IsCountOf (IsInEntry InSet r) count
entry_counted InSet part r count is = same_count (IsMemberOf r.family part) (IsInEntry InSet r) count (λ x. (
  λ m. (is x).0 m.1,
  λ i. (i.0.of_family, (is x).1 i),
))

-- the addresses of a range can be listed
range_counted : (r : AddressRange) → IsCountOf (IsInRange r) (address_count r)
range_counted r = record {
  addresses = addresses_of r;
  once = pairs_weaker (λ x y. x.number < y.number) (λ x y. x ≢ y)
      (λ x y lt e. omega (arith, lt, ap (λ z. z.number) e)) (addresses_of r) (addresses_ascend r);
  members = λ x. (between_from_contains r x, contains_from_between r x);
  count = length-addresses_of r;
}

-- a set has at most all addresses of an entry
entry_fits : (InSet : Address → Type 0) (r : AddressRange) (count : ℕ) → IsCountOf (IsInEntry InSet r) count
    → count ≤ address_count r
entry_fits InSet r count h =
    no_more (IsInEntry InSet r) (IsInRange r) count (address_count r) (λ x i. i.0) h (range_counted r)

pub part_size : (InSet : Address → Type 0) (r : AddressRange) (count size : ℕ) → IsCountOf (IsInEntry InSet r) count
    → size ≡ address_count r → count ≤ size
part_size InSet r count size h is = omega (arith, is, entry_fits InSet r count h)

-- a thousand counts have this number of whole sizes
pub whole_sizes : (count size whole rest turns : ℕ) → rest < size → count * turns ≡ whole * size + rest
    → 1000 ≤ turns → turns ≤ 1000 → whole ≡ count * 1000 / size
whole_sizes count size whole rest turns below is ended most =
    let all : turns ≡ 1000 = omega (arith, ended, most) in
    let at : (whole * size + rest) / size ≡ whole = div-mul-add whole size rest below in
    sym (ap (λ n. count * n / size) (sym all) ∙ ap (λ n. n / size) is ∙ at)

-- lines of a list are refused
pub refused_entries : (grammar : Grammar) (bytes : List ℕ) (list : EntryList) → IsReadOf grammar bytes list
    → list.refused.count ≢ 0 → IsEntriesFailure grammar bytes (Failures.Refused list.refused)
refused_entries grammar bytes list (refusals, read, kept) some = (
  map numbered list.entries.items,
  refusals,
  read,
  λ none. some (kept.count ∙ ap length none),
  kept,
)
