-- IANA's registries of special-purpose addresses (RFC 6890, as updated by RFC 8190): one for IPv4, and one for IPv6.
-- The newest RFC in them is RFC 9665, of June 2025.
use Rattle.std.specs.Prelude.{◌≡◌, ◌⊎◌, ◌↔◌, ℕ, ◌+◌, ◌*◌, List, [], ◌∷◌, codes, Bool, IsTrue}
use Rattle.ipnet_base.specs.Address.{Family, IPv4, IPv6}
use Rattle.ipnet_base.specs.Network.{Network, IsSubnetOf, AreDisjoint}

-- A row of a registry: its block, its name, and the RFC that assigns the block.
pub record SpecialBlock : Type 0 where
  pub network : Network
  pub name : List ℕ
  pub rfc : List ℕ

-- The row of this block.
abbrev pub special_block : Family → (number prefix_len : ℕ) → (name rfc : List ℕ) → SpecialBlock
special_block family number prefix_len name rfc = record {
  network = record { family = family; number = number; prefix_len = prefix_len };
  name = name;
  rfc = rfc;
}

-- The number of an IPv4 address. Example: `octets 10 0 0 1` is 167772161.
abbrev pub octets : (a b c d : ℕ) → ℕ
octets a b c d = ((a * 256 + b) * 256 + c) * 256 + d

-- The number of an IPv6 address. Example: `groups 0 0 0 0 0 0 0 1` is 1.
abbrev pub groups : (a b c d e f g h : ℕ) → ℕ
groups a b c d e f g h =
    ((((((a * 65536 + b) * 65536 + c) * 65536 + d) * 65536 + e) * 65536 + f) * 65536 + g) * 65536 + h

-- A row of the registry of IPv4.
abbrev pub ipv4_block : (number prefix_len : ℕ) → (name rfc : List ℕ) → SpecialBlock
ipv4_block = special_block IPv4

-- A row of the registry of IPv6.
abbrev pub ipv6_block : (number prefix_len : ℕ) → (name rfc : List ℕ) → SpecialBlock
ipv6_block = special_block IPv6

-- The registry of IPv4.
abbrev pub ipv4_registry : List SpecialBlock
ipv4_registry = ipv4_block (octets 0 0 0 0) 8 (codes "This network") (codes "RFC 791")
    ∷ ipv4_block (octets 0 0 0 0) 32 (codes "This host on this network") (codes "RFC 1122")
    ∷ ipv4_block (octets 10 0 0 0) 8 (codes "Private-Use") (codes "RFC 1918")
    ∷ ipv4_block (octets 100 64 0 0) 10 (codes "Shared Address Space") (codes "RFC 6598")
    ∷ ipv4_block (octets 127 0 0 0) 8 (codes "Loopback") (codes "RFC 1122")
    ∷ ipv4_block (octets 169 254 0 0) 16 (codes "Link Local") (codes "RFC 3927")
    ∷ ipv4_block (octets 172 16 0 0) 12 (codes "Private-Use") (codes "RFC 1918")
    ∷ ipv4_block (octets 192 0 0 0) 24 (codes "IETF Protocol Assignments") (codes "RFC 6890")
    ∷ ipv4_block (octets 192 0 0 0) 29 (codes "IPv4 Service Continuity Prefix") (codes "RFC 7335")
    ∷ ipv4_block (octets 192 0 0 8) 32 (codes "IPv4 dummy address") (codes "RFC 7600")
    ∷ ipv4_block (octets 192 0 0 9) 32 (codes "Port Control Protocol Anycast") (codes "RFC 7723")
    ∷ ipv4_block (octets 192 0 0 10) 32 (codes "Traversal Using Relays around NAT Anycast") (codes "RFC 8155")
    ∷ ipv4_block (octets 192 0 0 170) 32 (codes "NAT64/DNS64 Discovery") (codes "RFC 8880")
    ∷ ipv4_block (octets 192 0 0 171) 32 (codes "NAT64/DNS64 Discovery") (codes "RFC 8880")
    ∷ ipv4_block (octets 192 0 2 0) 24 (codes "Documentation (TEST-NET-1)") (codes "RFC 5737")
    ∷ ipv4_block (octets 192 31 196 0) 24 (codes "AS112-v4") (codes "RFC 7535")
    ∷ ipv4_block (octets 192 52 193 0) 24 (codes "AMT") (codes "RFC 7450")
    ∷ ipv4_block (octets 192 88 99 0) 24 (codes "Deprecated (6to4 Relay Anycast)") (codes "RFC 7526")
    ∷ ipv4_block (octets 192 88 99 2) 32 (codes "6a44-relay anycast address") (codes "RFC 6751")
    ∷ ipv4_block (octets 192 168 0 0) 16 (codes "Private-Use") (codes "RFC 1918")
    ∷ ipv4_block (octets 192 175 48 0) 24 (codes "Direct Delegation AS112 Service") (codes "RFC 7534")
    ∷ ipv4_block (octets 198 18 0 0) 15 (codes "Benchmarking") (codes "RFC 2544")
    ∷ ipv4_block (octets 198 51 100 0) 24 (codes "Documentation (TEST-NET-2)") (codes "RFC 5737")
    ∷ ipv4_block (octets 203 0 113 0) 24 (codes "Documentation (TEST-NET-3)") (codes "RFC 5737")
    ∷ ipv4_block (octets 240 0 0 0) 4 (codes "Reserved") (codes "RFC 1112")
    ∷ ipv4_block (octets 255 255 255 255) 32 (codes "Limited Broadcast") (codes "RFC 919")
    ∷ []

-- The registry of IPv6.
abbrev pub ipv6_registry : List SpecialBlock
ipv6_registry = ipv6_block (groups 0 0 0 0 0 0 0 1) 128 (codes "Loopback Address") (codes "RFC 4291")
    ∷ ipv6_block (groups 0 0 0 0 0 0 0 0) 128 (codes "Unspecified Address") (codes "RFC 4291")
    ∷ ipv6_block (groups 0 0 0 0 0 0xffff 0 0) 96 (codes "IPv4-mapped Address") (codes "RFC 4291")
    ∷ ipv6_block (groups 0x64 0xff9b 0 0 0 0 0 0) 96 (codes "IPv4-IPv6 Translat.") (codes "RFC 6052")
    ∷ ipv6_block (groups 0x64 0xff9b 1 0 0 0 0 0) 48 (codes "IPv4-IPv6 Translat.") (codes "RFC 8215")
    ∷ ipv6_block (groups 0x100 0 0 0 0 0 0 0) 64 (codes "Discard-Only Address Block") (codes "RFC 6666")
    ∷ ipv6_block (groups 0x100 0 0 1 0 0 0 0) 64 (codes "Dummy IPv6 Prefix") (codes "RFC 9780")
    ∷ ipv6_block (groups 0x2001 0 0 0 0 0 0 0) 23 (codes "IETF Protocol Assignments") (codes "RFC 2928")
    ∷ ipv6_block (groups 0x2001 0 0 0 0 0 0 0) 32 (codes "TEREDO") (codes "RFC 4380")
    ∷ ipv6_block (groups 0x2001 1 0 0 0 0 0 1) 128 (codes "Port Control Protocol Anycast") (codes "RFC 7723")
    ∷ ipv6_block (groups 0x2001 1 0 0 0 0 0 2) 128 (codes "Traversal Using Relays around NAT Anycast")
    (codes "RFC 8155")
    ∷ ipv6_block (groups 0x2001 1 0 0 0 0 0 3) 128 (codes "DNS-SD Service Registration Protocol Anycast")
    (codes "RFC 9665")
    ∷ ipv6_block (groups 0x2001 2 0 0 0 0 0 0) 48 (codes "Benchmarking") (codes "RFC 5180")
    ∷ ipv6_block (groups 0x2001 3 0 0 0 0 0 0) 32 (codes "AMT") (codes "RFC 7450")
    ∷ ipv6_block (groups 0x2001 4 0x112 0 0 0 0 0) 48 (codes "AS112-v6") (codes "RFC 7535")
    ∷ ipv6_block (groups 0x2001 0x10 0 0 0 0 0 0) 28 (codes "Deprecated (previously ORCHID)") (codes "RFC 4843")
    ∷ ipv6_block (groups 0x2001 0x20 0 0 0 0 0 0) 28 (codes "ORCHIDv2") (codes "RFC 7343")
    ∷ ipv6_block (groups 0x2001 0x30 0 0 0 0 0 0) 28 (codes "Drone Remote ID Protocol Entity Tags (DETs) Prefix")
    (codes "RFC 9374")
    ∷ ipv6_block (groups 0x2001 0xdb8 0 0 0 0 0 0) 32 (codes "Documentation") (codes "RFC 3849")
    ∷ ipv6_block (groups 0x2002 0 0 0 0 0 0 0) 16 (codes "6to4") (codes "RFC 3056")
    ∷ ipv6_block (groups 0x2620 0x4f 0x8000 0 0 0 0 0) 48 (codes "Direct Delegation AS112 Service")
    (codes "RFC 7534")
    ∷ ipv6_block (groups 0x3fff 0 0 0 0 0 0 0) 20 (codes "Documentation") (codes "RFC 9637")
    ∷ ipv6_block (groups 0x5f00 0 0 0 0 0 0 0) 16 (codes "Segment Routing (SRv6) SIDs") (codes "RFC 9602")
    ∷ ipv6_block (groups 0xfc00 0 0 0 0 0 0 0) 7 (codes "Unique-Local") (codes "RFC 4193")
    ∷ ipv6_block (groups 0xfe80 0 0 0 0 0 0 0) 10 (codes "Link-Local Unicast") (codes "RFC 4291")
    ∷ []

-- The registry of the family.
abbrev pub registry : Family → List SpecialBlock
registry IPv4 = ipv4_registry
registry IPv6 = ipv6_registry

-- A row for a network, and whether all addresses of the network are in its block.
pub record SpecialPurpose : Type 0 where
  pub block : SpecialBlock
  pub is_whole : Bool

-- The row shares an address with the network.
-- Example: 10.0.0.0/8 for 10.1.0.0/16, which is in it as a whole, and for 0.0.0.0/0, which is not.
pub record IsPurposeOf (n : Network) (block : SpecialBlock) (purpose : SpecialPurpose) : Type 0 where
  pub is : purpose.block ≡ block
  pub shares : ¬ (AreDisjoint n block.network)
  pub whole : IsTrue purpose.is_whole ↔ IsSubnetOf n block.network

-- The rows that share an address with the network, in the order of these rows.
-- Example: 192.0.0.0/24 and 192.0.0.8/32 for the network 192.0.0.8/32.
abbrev pub ArePurposes : Network → List SpecialBlock → List SpecialPurpose → Type 0
ArePurposes n [] purposes = purposes ≡ []
ArePurposes n (block ∷ blocks) purposes =
    ((first : SpecialPurpose) × (more : List SpecialPurpose) × IsPurposeOf n block first
    × (purposes ≡ first ∷ more) × ArePurposes n blocks more)
    ⊎ (AreDisjoint n block.network × ArePurposes n blocks purposes)
