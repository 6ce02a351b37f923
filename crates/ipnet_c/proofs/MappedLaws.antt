-- Addresses by their numbers: IPv4-mapped addresses, columns of numbers, and the first addresses of networks.
use Rattle.std.proofs.Common.{◌≡◌, ℕ, ◌/◌, ◌%◌, ◌^◌, ◌<◌, ◌↔◌, Bool, IsTrue, List, Some, refl, sym, ap, ◌∙◌}
use Rattle.std.proofs.Common.{subst, arith}
use Rattle.std.specs.Int.{from_bool}
use Rattle.std.specs.Net.Addr.{ipv6_bits, IsIpv4OfBits}
use Rattle.std.specs.declared.net.ipv4_addr.Ipv4Addr.{Ipv4Addr}
use Rattle.std.specs.declared.net.ipv6_addr.Ipv6Addr.{Ipv6Addr}
use Rattle.ipnet.specs.Address.{IPv4, Address, width, address_at, ipv4_address, ipv6_address}
use Rattle.ipnet.specs.Network.{Network, InBlock, IsLeastOf}
use Rattle.ipnet.specs.NetworkParts.{network_at}
use Rattle.ipnet_base.proofs.AddressLaws.{bits_from_number}
use Rattle.ipnet_sets.specs.Images.{IsImageOf}
use Rattle.ipnet_sets.specs.Members.{IsMember}
use Rattle.ipnet_sets.specs.declared.set.IpSet.{IpSet}
use Rattle.ipnet_c.specs.Rows.{family_byte, IsRowOf, IsWrittenRowOf, written_octets}
use Rattle.ipnet_c.specs.RowReplies.{mapped_network, last_ipv4, length_for, IsTruncatedRow}
use Rattle.ipnet_c.specs.SetReplies.{IsAnswerAt}
use Rattle.ipnet_c.proofs.RowLaws.{row_once, not_both}
use Rattle.ipnet_c.proofs.StatusLaws.{answered_at}

-- ---- mapped addresses

pub mapped_block : (ip : Ipv6Addr) (number : ℕ) → number ≡ ipv6_bits ip → number / 0x1_0000_0000 ≡ 0xffff
    → InBlock mapped_network (ipv6_address ip)
mapped_block ip number e h = record { same_family = refl; same_prefix = ap (λ z. z / 0x1_0000_0000) (sym e) ∙ h }

low_bits : (number : ℕ) → number % 0x1_0000_0000 < 2 ^ 32
low_bits number = omega arith

pub last_is : (a : Ipv4Addr) (ip : Ipv6Addr) (number : ℕ) → number ≡ ipv6_bits ip
    → IsIpv4OfBits a (number % 0x1_0000_0000) → ipv4_address a ≡ last_ipv4 (ipv6_address ip)
last_is a ip number e of =
    ap (address_at IPv4) (bits_from_number a (number % 0x1_0000_0000) (low_bits number) of
    ∙ ap (λ z. z % 0x1_0000_0000) e)

-- ---- addresses of numbers

pub number_address : (a : Ipv4Addr) (number : ℕ) → number < 2 ^ 32 → IsIpv4OfBits a number
    → ipv4_address a ≡ address_at IPv4 number
number_address a number fits of = ap (address_at IPv4) (bits_from_number a number fits of)

pub number_answered : (set : List ℕ) (a : Ipv4Addr) (number : ℕ) (answer : Bool) (shown : ℕ) → number < 2 ^ 32
    → IsIpv4OfBits a number → ((s : IpSet) → IsImageOf set s → IsTrue answer ↔ IsMember s (ipv4_address a))
    → shown ≡ from_bool answer → IsAnswerAt set (address_at IPv4 number) shown
number_answered set a number answer shown fits of h e =
    subst (λ x. IsAnswerAt set x shown) (number_address a number fits of)
    (answered_at set (ipv4_address a) answer shown h e)

-- ---- the addresses of rows

pub row_answered : (set : List ℕ) (family : ℕ) (bytes : List ℕ) (y x : Address) (answer : Bool) (shown : ℕ)
    → IsRowOf family bytes y → IsRowOf family bytes x
    → ((s : IpSet) → IsImageOf set s → IsTrue answer ↔ IsMember s y) → shown ≡ from_bool answer → IsAnswerAt set x shown
row_answered set family bytes y x answer shown of_y of_x h e =
    subst (λ z. IsAnswerAt set z shown) (row_once family bytes y x of_y of_x) (answered_at set y answer shown h e)

-- a row becomes the row of the least address of its network
pub row_truncated : (ipv4_length ipv6_length family : ℕ) (bytes new : List ℕ) (own least : Address) (n : Network)
    (prefix_len : ℕ) → IsRowOf family bytes own → IsLeastOf n least → n ≡ network_at own prefix_len
    → prefix_len ≡ length_for ipv4_length ipv6_length own.family → new ≡ written_octets (Some least)
    → IsTruncatedRow ipv4_length ipv6_length family bytes new
row_truncated ipv4_length ipv6_length family bytes new own least n prefix_len of_own is made len written = record {
  address = λ x of_x. subst (λ z. (y : Address)
      × IsLeastOf (network_at z (length_for ipv4_length ipv6_length z.family)) y
      × IsWrittenRowOf family new (Some y)) (row_once family bytes own x of_own of_x) (
        least,
        first,
        record {
          address = subst (λ f. least.number < 2 ^ width f) (sym first.inside.same_family)
              (omega (
                arith,
                first.least own (record { same_family = refl; same_prefix = refl }),
                of_own.octets_are.address,
              ));
          family_is = of_own.family_is ∙ ap family_byte (sym first.inside.same_family);
          bytes_are = written;
        },
      );
  none = λ none. absurd (not_both family bytes own of_own none);
}
  where
    first : IsLeastOf (network_at own (length_for ipv4_length ipv6_length own.family)) least
    first = subst (λ k. IsLeastOf (network_at own k) least) len (subst (λ m. IsLeastOf m least) made is)
