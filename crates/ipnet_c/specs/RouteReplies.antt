-- The longest route for an address or a network in the image of a table: the status, and what the call leaves in the
-- caller's memory.
use Rattle.std.specs.Prelude.{◌≡◌, ◌≢◌, ℕ, ◌<◌, ◌≤◌, ◌↔◌, ◌⊎◌, List, ◌++◌, length, drop, Contains}
use Rattle.ipnet.specs.Address.{Address}
use Rattle.ipnet.specs.Network.{Network, IsNetwork, InBlock, IsSubnetOf}
use Rattle.ipnet.specs.Blocks.{IsCoveredBy}
use Rattle.ipnet.specs.Bytes.{tagged_network_bytes, HasWrongTaggedLen, HasUnknownVariant, HasLongTaggedPrefix}
use Rattle.ipnet_routes.specs.Routes.{Route, networks_of, IsLongestMatch, IsLongestHolder}
use Rattle.ipnet_routes.specs.TableImages.{HasTableHeader, IsStoredRoute, IsTableImageOf}
use Rattle.ipnet_c.specs.Statuses as statuses
use Rattle.ipnet_c.specs.Replies.{AreBytesOf}
use Rattle.ipnet_c.specs.SetReplies.{AreOctetsOf, HasAddressLen}

-- The buffer begins with the bytes of the network, and its other bytes are unchanged.
-- Example: for 10.0.0.0/8 it begins with 0, 10, 0, 0, 0, 8.
abbrev pub HasNetwork : Network → List ℕ → List ℕ → Type 0
HasNetwork n old new = new ≡ tagged_network_bytes n ++ drop (length (tagged_network_bytes n)) old

-- The longest match of an address and its network: the status is 1, `value` is the value and the buffer begins with the
-- bytes of the network; or 0; or says why there is no answer. Whatever the bytes of the table are, they hold the route,
-- and its network contains the address.
-- Example: of the image of 10.0.0.0/8 with 7, 10, 0, 0, 1 gives 1, the bytes 0, 10, 0, 0, 0, 8, and 7.
pub record IsRouteReply (table address old new : List ℕ) (value_old value status : ℕ) : Type 0 where
  pub some : status ≡ 1 → (n : Network) × IsNetwork n × HasNetwork n old new × IsStoredRoute table (n, value)
      × ((x : Address) → AreOctetsOf address x → InBlock n x)
      × ((t : List (Route ℕ)) (x : Address) → IsTableImageOf table t → AreOctetsOf address x
      → IsLongestMatch t x (n, value))
  pub none : (t : List (Route ℕ)) (x : Address) → IsTableImageOf table t → AreOctetsOf address x → 18 ≤ length old
      → (status ≡ 0) ↔ ¬ (IsCoveredBy (networks_of t) x)
  pub known : HasAddressLen address → 18 ≤ length old → HasTableHeader table → (status ≡ 0) ⊎ (status ≡ 1)
  pub wrong_length : (status ≡ statuses.wrong_length) ↔ ¬ (HasAddressLen address)
  pub too_short : (status ≡ statuses.buffer_too_short) ↔ (HasAddressLen address × (length old < 18))
  pub not_a_table : (status ≡ statuses.not_a_table)
      ↔ (HasAddressLen address × (18 ≤ length old) × ¬ (HasTableHeader table))
  pub kept : status ≢ 1 → (new ≡ old) × (value ≡ value_old)

-- The longest network of a table that contains a network: the status is 1, `value` is its value and the buffer begins
-- with its bytes; or 0, and no network of the table contains it; or says why there is no answer. The bytes of the
-- network are checked first, then the length of the buffer, then the header of the image. Whatever the bytes of the
-- table are, they hold the route, and its network contains the given one.
-- Example: of the image of 10.0.0.0/8 with 7, 10.1.0.0/16 gives 1, the bytes 0, 10, 0, 0, 0, 8, and 7; and 0.0.0.0/0
-- gives 0.
pub record IsCoveringReply (table network old new : List ℕ) (value_old value status : ℕ) : Type 0 where
  pub some : status ≡ 1 → (n k : Network) × AreBytesOf network n × IsNetwork k × HasNetwork k old new
      × IsStoredRoute table (k, value) × IsSubnetOf n k
      × ((t : List (Route ℕ)) → IsTableImageOf table t → IsLongestHolder t n (k, value))
  pub none : status ≡ 0 → (n : Network) × AreBytesOf network n × ((t : List (Route ℕ)) → IsTableImageOf table t
      → (k : Network) → Contains (networks_of t) k → ¬ (IsSubnetOf n k))
  pub known : (n : Network) → AreBytesOf network n → 18 ≤ length old → HasTableHeader table
      → (status ≡ 0) ⊎ (status ≡ 1)
  pub wrong_length : (status ≡ statuses.wrong_length) ↔ HasWrongTaggedLen network
  pub unknown_family : (status ≡ statuses.unknown_family) ↔ HasUnknownVariant network
  pub prefix_too_long : (status ≡ statuses.prefix_too_long) ↔ HasLongTaggedPrefix network
  pub too_short : (status ≡ statuses.buffer_too_short)
      ↔ (((n : Network) × AreBytesOf network n) × (length old < 18))
  pub not_a_table : (status ≡ statuses.not_a_table)
      ↔ (((n : Network) × AreBytesOf network n) × (18 ≤ length old) × ¬ (HasTableHeader table))
  pub kept : status ≢ 1 → (new ≡ old) × (value ≡ value_old)
