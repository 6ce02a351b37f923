-- Validation of the origin of a route by validated ROA payloads (VRPs): RFC 6811, section 2; RFC 6483, section 4; and
-- what follows from RFC 7607: no VRP matches a route of AS 0. A route has a network and an origin, the AS number that
-- announced it. If the path is empty, or ends with a segment of a confederation, the origin is the speaker's own AS
-- number. The origin `None` is the value "NONE" of RFC 6811: the path ends with a set of AS numbers, so no single AS is
-- the origin.
use Rattle.std.specs.Prelude.{◌≡◌, ◌≢◌, ◌⊎◌, ℕ, ◌<◌, ◌≤◌, Option, Some, List, ◌++◌, All, Any, AllPairs, IsPermutation}
use Rattle.ipnet_base.specs.Network.{Network, InBlock}
use Rattle.ipnet.specs.NetworkOf.{ip_network}
use Rattle.ipnet.specs.NetworkParts.{own_address}
use Rattle.ipnet_origins.specs.declared.payload.Payload.{Payload}
use Rattle.ipnet_origins.specs.declared.origins.Validity.{Validity}
use Rattle.ipnet_origins.specs.declared.origins.Validity.TheVariants.{Valid, Invalid, NotFound}

-- "Covered: A Route Prefix is said to be Covered by a VRP when the VRP prefix length is less than or equal to the Route
-- prefix length, and the VRP prefix address and the Route prefix address are identical for all bits specified by the
-- VRP prefix length." (RFC 6811, section 2)
-- Example: 192.0.2.0/24 covers 192.0.2.0/24 and 192.0.2.128/25, and not 192.0.0.0/16.
pub record IsCovered (route : Network) (vrp : Payload) : Type 0 where
  pub no_longer : (ip_network vrp.network).prefix_len ≤ route.prefix_len
  pub same_bits : InBlock (ip_network vrp.network) (own_address route)

-- "Matched: A Route Prefix is said to be Matched by a VRP when the Route Prefix is Covered by that VRP, the Route
-- prefix length is less than or equal to the VRP maximum length, and the Route Origin ASN is equal to the VRP ASN."
-- And "no Route can be Matched by a VRP whose ASN is zero." (RFC 6811, section 2; RFC 6483, section 4; RFC 7607)
-- Example: 192.0.2.0/24 with greatest length 26 and AS 64496 matches 192.0.2.64/26 of AS 64496; it does not match
-- 192.0.2.0/27 of AS 64496.
pub record IsMatched (route : Network) (origin : Option ℕ) (vrp : Payload) : Type 0 where
  pub covered : IsCovered route vrp
  pub within_length : route.prefix_len ≤ vrp.max_len
  pub same_origin : origin ≡ Some vrp.asn
  pub not_zero : vrp.asn ≢ 0

-- "Valid: At least one VRP Matches the Route Prefix. Invalid: At least one VRP Covers the Route Prefix, but no VRP
-- Matches it. NotFound: No VRP Covers the Route Prefix." (RFC 6811, section 2)
-- Example: by 192.0.2.0/24 with greatest length 24 and AS 64496, 192.0.2.0/24 of AS 64496 is valid, 192.0.2.0/25 of
-- AS 64496 and 192.0.2.0/24 of AS 64497 are invalid, and 192.0.0.0/16 of AS 64496 is not found. By 192.0.2.0/24 with
-- AS 0 and 192.0.2.0/24 with AS 64496, each with greatest length 24, 192.0.2.0/24 of AS 64496 is valid.
abbrev pub IsValidity : List Payload → Network → Option ℕ → Validity → Type 0
IsValidity vrps route origin Valid = Any (IsMatched route origin) vrps
IsValidity vrps route origin Invalid = Any (IsCovered route) vrps × ¬ (Any (IsMatched route origin) vrps)
IsValidity vrps route origin NotFound = ¬ (Any (IsCovered route) vrps)

-- No payload comes after a payload with a shorter network.
-- Example: the payloads of 192.0.2.0/25, 192.0.2.0/24, 192.0.2.0/24 and 192.0.0.0/16, in this order.
abbrev pub AreLongestFirst : List Payload → Type 0
AreLongestFirst vrps =
    AllPairs (λ vrp later. (ip_network later.network).prefix_len ≤ (ip_network vrp.network).prefix_len) vrps

-- The first payload comes before the second in a list of payloads that cover a route: its network is longer. If the
-- networks are as long, its AS number is less. If the AS numbers are equal too, its greatest length is not more.
-- Example: 192.0.2.0/24 with AS 2 and 24, then 192.0.2.0/24 with AS 2 and 25, then 192.0.0.0/16 with AS 1 and 16.
abbrev pub ComesBefore : Payload → Payload → Type 0
ComesBefore vrp later = ((ip_network later.network).prefix_len < (ip_network vrp.network).prefix_len)
    ⊎ (((ip_network vrp.network).prefix_len ≡ (ip_network later.network).prefix_len)
    × ((vrp.asn < later.asn) ⊎ ((vrp.asn ≡ later.asn) × (vrp.max_len ≤ later.max_len))))

-- All payloads of the list that cover the route, each as often as the list has it, and sorted: the payloads of the
-- longest networks first, then by AS number and by greatest length.
-- Example: of 192.0.0.0/16, 192.0.2.0/24 with 25, 192.0.2.0/24 with 24 and 192.0.2.0/25, each with AS 1, for the route
-- 192.0.2.0/24: 192.0.2.0/24 with 24, 192.0.2.0/24 with 25 and 192.0.0.0/16.
pub record AreCovering (vrps : List Payload) (route : Network) (covering : List Payload) : Type 0 where
  pub cover : All (IsCovered route) covering
  -- the payloads of the list that do not cover the route
  pub others : List Payload
  pub do_not_cover : All (λ vrp. ¬ (IsCovered route vrp)) others
  pub all : IsPermutation vrps (covering ++ others)
  pub sorted : AllPairs ComesBefore covering
