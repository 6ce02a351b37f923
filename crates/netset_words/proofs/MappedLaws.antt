-- The texts of entries that are not addresses, and IPv4-mapped addresses.
use Rattle.std.proofs.Common.{◌≡◌, ◌<◌, ◌+◌, ◌/◌, ◌%◌, ◌^◌, ℕ, Bool, true, List, ◌∷◌, ◌++◌, []}
use Rattle.std.proofs.Common.{All, refl, sym, ap, ◌∙◌, arith}
use Rattle.std.proofs.Common.{inl, inr, subst, append_assoc, Option, Some, None, MatchOption}
use Rattle.std.specs.Net.Addr.{ipv4_bits, ipv6_bits}
use Rattle.std.specs.declared.net.ipv4_addr.Ipv4Addr.{Ipv4Addr}
use Rattle.std.specs.declared.net.ipv6_addr.Ipv6Addr.{Ipv6Addr}
use Rattle.std.specs.declared.net.ip_addr.IpAddr.TheVariants as Ip
use Rattle.ipnet_base.specs.Address.{Address, IPv4, IPv6, ip_address}
use Rattle.ipnet_base.specs.Network.{Network}
use Rattle.ipnet.specs.declared.parser.Grammar.{Grammar}
use Rattle.ipnet_lists.specs.Entries.{IsAddressText, IsNetworkOrMasked, JoinsAddresses}
use Rattle.ipnet_lists.proofs.AddressBytes.{IsAddressByte, ipv4_bytes, ipv6_bytes, middle}
use Rattle.ipnet_lists.proofs.EntryTexts.{one_address}
use Rattle.netset_words.specs.Places.{IsMappedText}

-- ---- a text that is not an address

bytes_of : (grammar : Grammar) (text : List ℕ) (x : Address) → IsAddressText grammar text x → All IsAddressByte text
bytes_of grammar text x (inl h) = ipv4_bytes grammar text h.octets h.writes
bytes_of grammar text x (inr h) = ipv6_bytes grammar text h.groups h.writes

has_slash : (text front back : List ℕ) → text ≡ front ++ (47 ∷ []) ++ back → All IsAddressByte text → ⊥
has_slash text front back is bytes =
    let byte = middle IsAddressByte front 47 back
    (subst (All IsAddressByte) (is ∙ append_assoc front (47 ∷ []) back) bytes) in
    byte.no_slash refl

has_dash : (text front back : List ℕ) → text ≡ front ++ (45 ∷ []) ++ back → All IsAddressByte text → ⊥
has_dash text front back is bytes =
    let byte = middle IsAddressByte front 45 back
    (subst (All IsAddressByte) (is ∙ append_assoc front (45 ∷ []) back) bytes) in
    byte.no_dash refl

pub network_is_no_address : (grammar : Grammar) (text : List ℕ) (n : Network) (x : Address)
    → IsNetworkOrMasked grammar text n → IsAddressText grammar text x → ⊥
network_is_no_address grammar text n x (inl (inl is)) h =
    has_slash text is.address_text is.length_text is.spelled (bytes_of grammar text x h)
network_is_no_address grammar text n x (inl (inr is)) h =
    has_slash text is.address_text is.length_text is.spelled (bytes_of grammar text x h)
network_is_no_address grammar text n x (inr is) h =
    has_slash text is.address_text is.mask_text is.spelled (bytes_of grammar text x h)

pub range_is_no_address : (grammar : Grammar) (text : List ℕ) (first last x : Address)
    → JoinsAddresses grammar text first last → IsAddressText grammar text x → ⊥
range_is_no_address grammar text first last x is h =
    has_dash text is.first_text is.last_text is.spelled (bytes_of grammar text x h)

-- ---- mapped addresses

mapped_is_address : (grammar : Grammar) (text : List ℕ) (ipv4 : ℕ) → IsMappedText grammar text ipv4
    → (x : Address) × IsAddressText grammar text x
mapped_is_address grammar text ipv4 (x, writes, number, low) = (x, inr writes)

pub network_is_not_mapped : (mapped : Bool) (grammar : Grammar) (text : List ℕ) (n : Network)
    → IsNetworkOrMasked grammar text n → mapped ≡ true → (ipv4 : ℕ) → ¬ (IsMappedText grammar text ipv4)
network_is_not_mapped mapped grammar text n is on ipv4 m =
    let (x, writes) = mapped_is_address grammar text ipv4 m in network_is_no_address grammar text n x is writes

pub range_is_not_mapped : (mapped : Bool) (grammar : Grammar) (text : List ℕ) (first last : Address)
    → JoinsAddresses grammar text first last → mapped ≡ true → (ipv4 : ℕ) → ¬ (IsMappedText grammar text ipv4)
range_is_not_mapped mapped grammar text first last is on ipv4 m =
    let (x, writes) = mapped_is_address grammar text ipv4 m in range_is_no_address grammar text first last x is writes

-- an address of IPv4
pub ipv4_is_not_mapped : (grammar : Grammar) (text : List ℕ) (x : Address) → x.family ≡ IPv4
    → IsAddressText grammar text x → (ipv4 : ℕ) → ¬ (IsMappedText grammar text ipv4)
ipv4_is_not_mapped grammar text x family is ipv4 (y, writes, number, low) =
    let same = one_address grammar text x y is (inr writes) in
    let clash : IPv4 ≡ IPv6 = sym family ∙ ap (λ z. z.family) same ∙ writes.family in
    absurd cc

-- an address of IPv6
pub ipv6_mapped : (grammar : Grammar) (text : List ℕ) (a : Ipv6Addr) (r : Option Ipv4Addr)
    → IsAddressText grammar text (ip_address (Ip.V6 a))
    → MatchOption r ((ipv4 : ℕ) → ipv4 < 4294967296 → ¬ (ipv6_bits a ≡ 281470681743360 + ipv4))
    (λ b. (ipv6_bits a ≡ 281470681743360 + ipv4_bits b) × (ipv4_bits b < 4294967296))
    → MatchOption r ((ipv4 : ℕ) → ¬ (IsMappedText grammar text ipv4))
    (λ b. IsMappedText grammar text (ipv4_bits b))
ipv6_mapped grammar text a None is h = λ ipv4 m.
    let (y, writes, number, low) = m in
    let same = one_address grammar text (ip_address (Ip.V6 a)) y is (inr writes) in
    h ipv4 low (ap (λ z. z.number) same ∙ number)
ipv6_mapped grammar text a (Some b) (inl is) h = let clash : IPv6 ≡ IPv4 = is.family in absurd cc
ipv6_mapped grammar text a (Some b) (inr is) h = (ip_address (Ip.V6 a), is, h.0, h.1)

-- if that is asked for
pub mapped_asked : (mapped : Bool) (grammar : Grammar) (text : List ℕ) (r : Option Ipv4Addr) → mapped ≡ true
    → MatchOption r ((ipv4 : ℕ) → ¬ (IsMappedText grammar text ipv4)) (λ b. IsMappedText grammar text (ipv4_bits b))
    → MatchOption r (mapped ≡ true → (ipv4 : ℕ) → ¬ (IsMappedText grammar text ipv4))
    (λ b. (mapped ≡ true) × IsMappedText grammar text (ipv4_bits b))
mapped_asked mapped grammar text None on h = λ again. h
mapped_asked mapped grammar text (Some b) on h = (on, h)

-- ---- numbers

pub high_is : (n ipv4 : ℕ) → ipv4 < 4294967296 → n ≡ 281470681743360 + ipv4 → n / 4294967296 ≡ 65535
high_is n ipv4 low is = omega (arith, low, is)

pub parts_of : (n bits low : ℕ) → n ≡ bits → n / 4294967296 ≡ 65535 → low ≡ n % 4294967296
    → (bits ≡ 281470681743360 + low) × (low < 4294967296)
parts_of n bits low is high rest = (omega (arith, is, high, rest), omega (arith, rest))

pub low_bits : (n : ℕ) → n % 4294967296 < 2 ^ 32
low_bits n = omega arith
