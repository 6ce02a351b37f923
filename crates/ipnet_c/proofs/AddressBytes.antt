-- The octets of an address as bytes.
use Rattle.std.proofs.Common.{◌≡◌, ℕ, ◌+◌, ◌^◌, ◌<◌, List, take, length, get_or, sym, ◌∙◌, subst, arith}
use Rattle.std.proofs.lemmas.List.{take_all}
use Rattle.std.proofs.lemmas.Nat.{be_bytes_4}
use Rattle.std.specs.Int.{w32, w128, to_be_bytes, from_be_bytes}
use Rattle.std.specs.Net.Addr.{IsIpv4OfBits, IsIpv6OfBits}
use Rattle.std.specs.declared.net.ipv4_addr.Ipv4Addr.{Ipv4Addr}
use Rattle.std.specs.declared.net.ipv6_addr.Ipv6Addr.{Ipv6Addr}
use Rattle.ipnet_base.specs.Address.{ipv4_address, ipv6_address}
use Rattle.ipnet_base.proofs.AddressLaws.{bits_from_number, ipv6_bits_from_number}
use Rattle.ipnet.proofs.NumberOctets.{sixteen_again}
use Rattle.ipnet_c.specs.SetReplies.{AreOctetsOf}

-- four bytes are the octets of the address with their number
pub four_octets : (a : Ipv4Addr) (bytes octets rest : List ℕ) (number : ℕ) → octets ≡ take 4 bytes
    → length rest + 4 ≡ length bytes → length rest < 1 → ((k : ℕ) → get_or bytes k 0 < 2 ^ 8)
    → number ≡ from_be_bytes w32 octets → number < 2 ^ 32 → IsIpv4OfBits a number → AreOctetsOf bytes (ipv4_address a)
four_octets a bytes octets rest number front whole none fit is small of =
    let all : octets ≡ bytes = front ∙ take_all 4 bytes (omega (arith, whole, none)) in
    let bits = bits_from_number a number small of in
    let again : to_be_bytes w32 number ≡ bytes =
    be_bytes_4 bytes number (omega (arith, whole, none)) (λ k. omega (arith, fit k))
    (subst (λ z. number ≡ from_be_bytes w32 z) all is) in
    record {
      address = subst (λ z. z < 2 ^ 32) (sym bits) small;
      octets_are = sym (subst (λ z. to_be_bytes w32 z ≡ bytes) (sym bits) again);
    }

-- sixteen bytes are the octets of the address with their number
pub sixteen_octets : (a : Ipv6Addr) (bytes octets rest : List ℕ) (number : ℕ) → octets ≡ take 16 bytes
    → length rest + 16 ≡ length bytes → length rest < 1 → ((k : ℕ) → get_or bytes k 0 < 2 ^ 8)
    → number ≡ from_be_bytes w128 octets → number < 2 ^ 128 → IsIpv6OfBits a number
    → AreOctetsOf bytes (ipv6_address a)
sixteen_octets a bytes octets rest number front whole none fit is small of =
    let all : octets ≡ bytes = front ∙ take_all 16 bytes (omega (arith, whole, none)) in
    let bits = ipv6_bits_from_number a number small of in
    let number_is : number ≡ from_be_bytes w128 bytes = subst (λ z. number ≡ from_be_bytes w128 z) all is in
    let again : to_be_bytes w128 number ≡ bytes =
    subst (λ z. to_be_bytes w128 z ≡ bytes) (sym number_is)
    (sixteen_again bytes (omega (arith, whole, none)) fit) in
    record {
      address = subst (λ z. z < 2 ^ 128) (sym bits) small;
      octets_are = sym (subst (λ z. to_be_bytes w128 z ≡ bytes) (sym bits) again);
    }
