-- The image of a table of routes whose values are numbers below 2^32: its routes as bytes, which can be stored, sent
-- and mapped. All numbers are little-endian.
--
--     bytes 0 to 7     the text `ipnettab`
--     bytes 8 to 15    the version, 1
--     bytes 16 to 23   m, the number of IPv4 routes
--     bytes 24 to 31   n, the number of IPv6 routes
--     from byte 32     the m IPv4 routes, 16 bytes each: the number of the network, its prefix length, the value and
--                      the link, 4 bytes each
--     then             the n IPv6 routes, 32 bytes each: the number of the network, 16 bytes; its prefix length, 4
--                      bytes; the value, 4 bytes; and the link, 8 bytes
--     then             the index, 4 bytes for each entry
--
-- The link is one more than the index of the smallest network that encloses the network, or 0. The index divides the
-- networks into buckets by the first bits of their numbers, and has the index of the first route of each bucket. Each
-- table of fewer than 2^32 routes has exactly one image.
use Rattle.std.specs.Prelude.{◌≡◌, ℕ, zero, ◌+◌, ◌-◌, ◌*◌, ◌^◌, ◌<◌, ◌≤◌, ◌↔◌, ◌⊎◌, List, ◌++◌, length, get_or}
use Rattle.std.specs.Prelude.{Contains, All, Option, Some}
use Rattle.std.specs.Prelude.{nat_le, if◌then◌else◌}
use Rattle.std.specs.List.{zip}
use Rattle.ipnet_base.specs.Address.{Family, IPv4, IPv6}
use Rattle.ipnet_base.specs.Network.{Network, IsNetwork, IsTruncated, IsBefore, IsSubnetOf}
use Rattle.ipnet_base.specs.Stack.{IsBeforeOrEqual}
use Rattle.ipnet_base.specs.Blocks.{IsAscending}
use Rattle.ipnet.specs.NetworkOf.{ipv4_network_of, ipv6_network_of, ip_network}
use Rattle.ipnet_sets.specs.Images.{number_from}
use Rattle.ipnet_routes.specs.Routes.{Route, networks_of}
use Rattle.ipnet_routes.specs.RouteSteps.{IsNearest, IsPlaceOf}
use Rattle.ipnet_routes.specs.declared.routes.image.rows.StoredRoute.{StoredRoute}
use Rattle.ipnet_routes.specs.declared.routes.image.TableImageError.{TableImageError}
use Rattle.ipnet_routes.specs.declared.routes.image.TableImageError.TheVariants.{TooShort, Magic, Version, Length}
use Rattle.ipnet_routes.specs.declared.routes.image.TableImageError.TheVariants.{Routes, Index, Memory}

-- ---- the header

-- The number of routes of each family, as the header states it.
abbrev pub stated_routes : List ℕ → Family → ℕ
stated_routes bytes IPv4 = number_from 8 bytes 16
stated_routes bytes IPv6 = number_from 8 bytes 24

-- The number of routes of both families, as the header states it.
abbrev pub route_count : List ℕ → ℕ
route_count bytes = stated_routes bytes IPv4 + stated_routes bytes IPv6

-- How many of the first bits the index reads of the networks of a family with this many routes.
-- Example: 0 for 255 routes, 8 for 256, 20 for a million.
unfoldable pub index_bits : ℕ → ℕ
index_bits count = if nat_le 524288 count then 20 else (if nat_le 65536 count then 16 else (if nat_le 4096 count then 12
    else (if nat_le 256 count then 8 else 0)))

-- The number of entries of an index that reads these numbers of bits: none if it reads none; else one for each bucket
-- of IPv4 and of IPv6, and one for the end.
-- Example: 0 for 0 and 0 bits; 256 + 1 + 1 = 258 for 8 and 0 bits.
unfoldable pub index_size : ℕ → ℕ → ℕ
index_size zero zero = 0
index_size ipv4 ipv6 = 2 ^ ipv4 + 2 ^ ipv6 + 1

-- The bits that the index of the bytes reads of each family.
abbrev pub stated_bits : List ℕ → Family → ℕ
stated_bits bytes f = index_bits (stated_routes bytes f)

-- The number of entries of the index of the bytes.
abbrev pub stated_index : List ℕ → ℕ
stated_index bytes = index_size (stated_bits bytes IPv4) (stated_bits bytes IPv6)

-- The byte at which the route at an index begins: an IPv4 route takes 16 bytes, an IPv6 route 32.
-- Example: with two IPv4 routes, the routes begin at 32, 48, 64, 96.
abbrev pub route_place : List ℕ → ℕ → ℕ
route_place bytes i = 32 + i * 16 + (i - stated_routes bytes IPv4) * 16

-- The byte at which the index begins.
abbrev pub index_place : List ℕ → ℕ
index_place bytes = route_place bytes (route_count bytes)

-- The number whose eight bytes are the text `ipnettab`.
abbrev pub table_magic : ℕ
table_magic = 0x6261_7474_656e_7069

-- The bytes have room for the header.
abbrev pub HasTableRoom : List ℕ → Type 0
HasTableRoom bytes = 32 ≤ length bytes

-- The bytes begin with the text `ipnettab`.
abbrev pub HasTableMagic : List ℕ → Type 0
HasTableMagic bytes = number_from 8 bytes 0 ≡ table_magic

-- The version is 1.
abbrev pub HasTableVersion : List ℕ → Type 0
HasTableVersion bytes = number_from 8 bytes 8 ≡ 1

-- The header, the stated routes and their index have this length together.
abbrev pub HasTableLength : List ℕ → Type 0
HasTableLength bytes = length bytes ≡ index_place bytes + stated_index bytes * 4

-- The bytes begin with a header, and their length fits it. The routes and the index may be any.
pub record HasTableHeader (bytes : List ℕ) : Type 0 where
  pub room : HasTableRoom bytes
  pub magic : HasTableMagic bytes
  pub version : HasTableVersion bytes
  pub stated : HasTableLength bytes

-- ---- the routes

-- How many bytes the number of a network takes.
abbrev pub number_width : Family → ℕ
number_width IPv4 = 4
number_width IPv6 = 16

-- How many bytes the link of a route takes.
abbrev pub link_width : Family → ℕ
link_width IPv4 = 4
link_width IPv6 = 8

-- The network, the value and the link are stored from byte `at` on.
-- Example: 0, 0, 0, 10, 8, 0, 0, 0, 7, 0, 0, 0, 0, 0, 0, 0 are 10.0.0.0/8 with the value 7 and the link 0.
pub record IsRowAt (bytes : List ℕ) (at : ℕ) (n : Network) (value link : ℕ) : Type 0 where
  pub number : number_from (number_width n.family) bytes at ≡ n.number
  pub prefix_len : number_from 4 bytes (at + number_width n.family) ≡ n.prefix_len
  pub value_is : number_from 4 bytes (at + number_width n.family + 4) ≡ value
  pub link_is : number_from (link_width n.family) bytes (at + number_width n.family + 8) ≡ link

-- The same of the route with the index `i`, which is among the IPv4 routes if and only if the network is one of IPv4.
pub record IsRouteAt (bytes : List ℕ) (i : ℕ) (n : Network) (value link : ℕ) : Type 0 where
  pub in_part : (n.family ≡ IPv4) ↔ (i < stated_routes bytes IPv4)
  pub row : IsRowAt bytes (route_place bytes i) n value link

-- The route is stored with the index `i` and with the link to the nearest of the networks that encloses its network.
pub record IsLinkedAt (bytes : List ℕ) (networks : List Network) (i : ℕ) (route : Route ℕ) : Type 0 where
  pub link : ℕ
  pub stored : IsRouteAt bytes i route.0 route.1 link
  pub nearest : IsNearest networks route.0 i link

-- The bytes hold these `count` routes of a table, in order, each with its link.
pub record AreRoutesIn (bytes : List ℕ) (count : ℕ) (routes : List (Route ℕ)) : Type 0 where
  pub as_many : length routes ≡ count
  pub valid : All IsNetwork (networks_of routes)
  pub truncated : All IsTruncated (networks_of routes)
  pub ascending : IsAscending (networks_of routes)
  pub held : (r : Route ℕ) (c : Contains routes r) → IsLinkedAt bytes (networks_of routes) c.0 r

-- ---- the index

-- The first network that a bucket may have, if the index reads these numbers of bits. The buckets of IPv4 come first.
-- The buckets of IPv6 divide 2000::/3, and after the last of them the end has 4000::/0.
-- Example: with 8 bits of each, bucket 10 has 10.0.0.0/0, and bucket 257 has 2020::/0.
unfoldable pub bucket_start : ℕ → ℕ → ℕ → Network
bucket_start ipv4 ipv6 bucket =
    if nat_le (2 ^ ipv4) bucket then ipv6_network_of ((2 ^ 29 + (bucket - 2 ^ ipv4) * 2 ^ (29 - ipv6)) * 2 ^ 96) 0
    else ipv4_network_of (bucket * 2 ^ (32 - ipv4)) 0

-- Each entry of the index is the place of the first network of its bucket among the networks.
-- Example: with 8 bits of IPv4, entry 10 is the number of the networks whose first octet is below 10.
abbrev pub AreStartsIn : List ℕ → List Network → Type 0
AreStartsIn bytes networks = (bucket : ℕ) → bucket < stated_index bytes
    → IsPlaceOf networks (bucket_start (stated_bits bytes IPv4) (stated_bits bytes IPv6) bucket)
    (number_from 4 bytes (index_place bytes + bucket * 4))

-- ---- any bytes

-- The bytes hold the route at some index, with some link. Nothing is said of the other bytes, which may be any.
-- Example: the image of 10.0.0.0/8 with 7 holds this route. With another link in it, it holds the route too.
pub record IsStoredRoute (bytes : List ℕ) (route : Route ℕ) : Type 0 where
  pub place : ℕ
  pub within : place < route_count bytes
  pub link : ℕ
  pub row : IsRouteAt bytes place route.0 route.1 link

-- The bytes hold the route with the index `i`, with some link. Nothing is said of the other bytes, which may be any.
-- Example: the image of 10.0.0.0/8 with 7 holds this route with the index 0.
abbrev pub HasRouteAt : List ℕ → ℕ → Route ℕ → Type 0
HasRouteAt bytes i route = (link : ℕ) × IsRouteAt bytes i route.0 route.1 link

-- ---- images

-- The bytes hold the routes of a table, as many as the header states, and their index.
pub record IsTableIn (bytes : List ℕ) (routes : List (Route ℕ)) : Type 0 where
  pub held : AreRoutesIn bytes (route_count bytes) routes
  pub starts : AreStartsIn bytes (networks_of routes)

-- The bytes are the image of the table with these routes.
-- Example: the image of 10.0.0.0/8 with 7 has 48 bytes: the header with m = 1 and n = 0, then 0, 0, 0, 10, 8, 0, 0, 0,
-- 7, 0, 0, 0 and four bytes 0.
pub record IsTableImageOf (bytes : List ℕ) (routes : List (Route ℕ)) : Type 0 where
  pub header : HasTableHeader bytes
  pub table : IsTableIn bytes routes

-- The bytes are the image of a table.
abbrev pub IsTableImage : List ℕ → Type 0
IsTableImage bytes = (routes : List (Route ℕ)) × IsTableImageOf bytes routes

-- The bytes hold the routes of some table. The index may be any.
abbrev pub HasRoutes : List ℕ → Type 0
HasRoutes bytes = (routes : List (Route ℕ)) × AreRoutesIn bytes (route_count bytes) routes

-- The error is the reason why the bytes are not the image of a table. The reasons are tried in this order, so each
-- error occurs exactly if its condition holds and none before it does. Memory runs out only for an image of a table.
abbrev pub IsTableRefusal : TableImageError → List ℕ → Type 0
IsTableRefusal TooShort bytes = ¬ (HasTableRoom bytes)
IsTableRefusal Magic bytes = HasTableRoom bytes × ¬ (HasTableMagic bytes)
IsTableRefusal Version bytes = HasTableRoom bytes × HasTableMagic bytes × ¬ (HasTableVersion bytes)
IsTableRefusal Length bytes =
    HasTableRoom bytes × HasTableMagic bytes × HasTableVersion bytes × ¬ (HasTableLength bytes)
IsTableRefusal Routes bytes = HasTableHeader bytes × ¬ (HasRoutes bytes)
IsTableRefusal Index bytes = HasTableHeader bytes × HasRoutes bytes × ¬ (IsTableImage bytes)
IsTableRefusal Memory bytes = IsTableImage bytes

-- ---- other values

-- The new bytes are the old ones, but the value of each route is the value at its index. So the image of a table has
-- become the image of the table with the same networks and these values.
-- Example: the image of 10.0.0.0/8 with 7 has become the image of 10.0.0.0/8 with 9, if the values are the list of 9.
pub record HasOtherValues (old values new : List ℕ) : Type 0 where
  pub as_long : length new ≡ length old
  pub header : HasTableHeader old → HasTableHeader new
  pub routes : (i : ℕ) (n : Network) (value link : ℕ) → i < route_count old → IsRouteAt old i n value link
      → IsRouteAt new i n (get_or values i 0) link
  pub table : (t : List (Route ℕ)) → IsTableImageOf old t → IsTableImageOf new (zip (networks_of t) values)

-- ---- private steps

-- The byte at which the value of the route at an index begins, if the first `m` routes are IPv4 routes.
-- Example: with one IPv4 route, the values begin at 40, 68, 100.
unfoldable pub value_place : ℕ → ℕ → ℕ
value_place m i = if nat_le m i then 52 + m * 16 + (i - m) * 32 else 40 + i * 16

-- The number is written into four bytes from byte `at` on, and the other bytes are the old ones.
pub record IsNumberWritten (at number : ℕ) (old new : List ℕ) : Type 0 where
  pub as_long : length new ≡ length old
  pub number_is : number_from 4 new at ≡ number
  pub others : (k : ℕ) → (k < at) ⊎ (at + 4 ≤ k) → get_or new k 0 ≡ get_or old k 0

-- The first `count` values are written over the values of the routes, and the other bytes are the old ones.
pub record AreValuesWritten (m count : ℕ) (values old new : List ℕ) : Type 0 where
  pub as_long : length new ≡ length old
  pub written : (i : ℕ) → i < count → number_from 4 new (value_place m i) ≡ get_or values i 0
  pub others : (k : ℕ) → ((i : ℕ) → i < count → (k < value_place m i) ⊎ (value_place m i + 4 ≤ k))
      → get_or new k 0 ≡ get_or old k 0

-- The network lies in the bucket: it is the first network of the bucket or comes after it, and comes before the first
-- network of the next bucket.
pub record IsInBucket (ipv4 ipv6 bucket : ℕ) (n : Network) : Type 0 where
  pub within : bucket + 1 < index_size ipv4 ipv6
  pub from : IsBeforeOrEqual (bucket_start ipv4 ipv6 bucket) n
  pub below : IsBefore n (bucket_start ipv4 ipv6 (bucket + 1))

-- The route that was read has this network, value and link.
pub record IsSomeRoute (answer : Option StoredRoute) (n : Network) (value link : ℕ) : Type 0 where
  pub route : StoredRoute
  pub is : answer ≡ Some route
  pub network_is : ip_network route.network ≡ n
  pub value_is : route.value ≡ value
  pub link_is : route.link ≡ link

-- The route with the index `i` has a network that contains the block of `n`. The other bytes may be any.
pub record IsHolderAt (bytes : List ℕ) (i : ℕ) (n : Network) : Type 0 where
  pub route : Route ℕ
  pub link : ℕ
  pub valid : IsNetwork route.0
  pub row : IsRouteAt bytes i route.0 route.1 link
  pub holds : IsSubnetOf n route.0

-- The new bytes are the old ones, and then a route with its link.
pub record IsRowAdded (n : Network) (value link : ℕ) (old new : List ℕ) : Type 0 where
  pub more : List ℕ
  pub bytes_are : new ≡ old ++ more
  pub size : length new ≡ length old + (number_width n.family + link_width n.family + 8)
  pub row : IsRowAt new (length old) n value link

-- The new bytes are the old ones, and then the routes, each with its link; the first `ipv4` of them are IPv4 routes.
pub record AreRowsAdded (routes : List (Route ℕ)) (links : List ℕ) (ipv4 : ℕ) (old new : List ℕ) : Type 0 where
  pub more : List ℕ
  pub bytes_are : new ≡ old ++ more
  pub size : length new ≡ length old + length routes * 16 + (length routes - ipv4) * 16
  pub rows : (r : Route ℕ) (c : Contains routes r)
      → IsRowAt new (length old + c.0 * 16 + (c.0 - ipv4) * 16) r.0 r.1 (get_or links c.0 0)

-- The first `count` of the networks, and no others, are IPv4 networks.
abbrev pub AreFirstIpv4 : List Network → ℕ → Type 0
AreFirstIpv4 networks count = (n : Network) (c : Contains networks n) → (n.family ≡ IPv4) ↔ (c.0 < count)

-- Each number is the place of the first network of its bucket.
pub record AreStarts (networks : List Network) (ipv4 ipv6 : ℕ) (starts : List ℕ) : Type 0 where
  pub as_many : length starts ≡ index_size ipv4 ipv6
  pub each : (bucket d : ℕ) → bucket < length starts
      → IsPlaceOf networks (bucket_start ipv4 ipv6 bucket) (get_or starts bucket d)

-- The bytes begin with this number, and hold the routes of a table and their index, and nothing else.
pub record IsTableWritten (magic : ℕ) (routes : List (Route ℕ)) (bytes : List ℕ) : Type 0 where
  pub magic_is : number_from 8 bytes 0 ≡ magic
  pub version : HasTableVersion bytes
  pub stated : HasTableLength bytes
  pub table : IsTableIn bytes routes
