-- The addresses of an entry, as those of its range.
use Rattle.std.proofs.Common.{◌≡◌, ℕ, ◌*◌, ◌/◌, ◌⊎◌, ◌↔◌, List, [], ◌∷◌, ◌++◌, refl, sym, ◌∙◌, arith, inl, inr}
use Rattle.std.proofs.Common.{add-zero}
use Rattle.ipnet_base.specs.Address.{Family, IPv4, IPv6, Address, address_at, width}
use Rattle.ipnet_base.specs.Ranges.{AddressRange}
use Rattle.ipnet_sets.specs.Members.{IsFromTo}
use Rattle.ipnet_sets.specs.SetRanges.{range_of, IsInRange}
use Rattle.ipnet_sets.proofs.JoinLaws.{any_push}
use Rattle.ipnet_base.proofs.ListLaws.{contains_nil}
use Rattle.ipnet_lists.specs.Entries.{block_range}
use Rattle.ipnet_lists.specs.Lists.{ListEntry, HaveAddresses}

-- the addresses of one entry more
pub has_more : (Has Wider Added : Address → Type 0) (entries : List ListEntry) (e : ListEntry)
    → ((x : Address) → Added x ↔ IsInRange e.range x) → ((x : Address) → Wider x ↔ (Has x ⊎ Added x))
    → HaveAddresses Has entries → HaveAddresses Wider (entries ++ e ∷ [])
has_more Has Wider Added entries e same adds has x =
    let more = any_push (λ y. IsInRange y.range x) entries e in (
      λ h. more.1 (elim ((adds x).0 h) [ inl a ↦ inl ((has x).0 a) | inr b ↦ inr ((same x).0 b) ]),
      λ h. (adds x).1 (elim (more.0 h) [ inl a ↦ inl ((has x).1 a) | inr b ↦ inr ((same x).1 b) ]),
    )

-- what has no address has those of no entry
pub has_none : (Has : Address → Type 0) → ((x : Address) → ¬ (Has x)) → HaveAddresses Has []
has_none Has none x = (λ h. absurd (none x h), λ h. absurd (contains_nil h.1 (h.0, h.2, h.3)))

-- from one address to another
from_to_in_range : (start end : Address) → end.family ≡ start.family → (x : Address)
    → IsFromTo start end x ↔ IsInRange (range_of start.family start.number end.number) x
from_to_in_range start end same x = (
  λ h. record { of_family = h.family_of_start; from_start = h.from_start; to_end = h.to_end },
  λ h. record {
    family_of_start = h.of_family;
    family_of_end = h.of_family ∙ sym same;
    from_start = h.from_start;
    to_end = h.to_end;
  },
)

-- from the address of a range's start to that of its end
pub ends_in_range : (first last : Address) (r : AddressRange) → first ≡ address_at r.family r.start
    → last ≡ address_at r.family r.end → (x : Address) → IsFromTo first last x ↔ IsInRange r x
ends_in_range first last r p q x =
    rw (p, q) (from_to_in_range (address_at r.family r.start) (address_at r.family r.end) refl x)

-- the block of an address with all its bits is the address
pub whole_block : (f : Family) (number : ℕ)
    → block_range (record { family = f; number = number; prefix_len = width f }) ≡ range_of f number number
whole_block IPv4 number = let first : number / 1 * 1 ≡ number = omega arith in rw (first, add-zero number) refl
whole_block IPv6 number = let first : number / 1 * 1 ≡ number = omega arith in rw (first, add-zero number) refl
