-- Payloads in the order of their networks: the payloads of one network are neighbours, a group. A table promises
-- `AreInOrder` and `AreRanked` of its payloads; only private contracts use the others.
use Rattle.std.specs.Prelude.{◌≡◌, ◌≢◌, ◌⊎◌, ℕ, ◌+◌, ◌*◌, ◌<◌, ◌≤◌, List, [], ◌∷◌, length, get_or, Contains}
use Rattle.ipnet_base.specs.Network.{Network, IsBefore}
use Rattle.ipnet.specs.declared.net.IpNet.{IpNet}
use Rattle.ipnet.specs.NetworkOf.{ip_network}
use Rattle.ipnet_routes.specs.Routes.{Route}
use Rattle.ipnet_origins.specs.declared.payload.Payload.{Payload}

-- The network of a payload. Example: 192.0.2.0/24, of 192.0.2.0/24 with greatest length 26 and AS 64496.
abbrev pub network_of : Payload → Network
network_of vrp = ip_network vrp.network

-- No payload has a network before the network of an earlier one.
-- Example: 192.0.2.0/24, 192.0.2.0/24, 198.51.100.0/24, 2001:db8::/32.
abbrev pub AreInOrder : List Payload → Type 0
AreInOrder vrps = (i j : ℕ) (d : Payload) → i ≤ j → j < length vrps
    → ¬ (IsBefore (network_of (get_or vrps j d)) (network_of (get_or vrps i d)))

-- The rank of a payload: payloads of one network are sorted by AS number, and then by greatest length.
-- Example: 536 for AS 2 with greatest length 24, and 537 for AS 2 with 25.
abbrev pub rank_of : Payload → ℕ
rank_of vrp = vrp.asn * 256 + vrp.max_len

-- The payloads of each network are in the order of their ranks.
-- Example: of 192.0.2.0/24: AS 1 with 24, AS 1 with 25, AS 2 with 24.
abbrev pub AreRanked : List Payload → Type 0
AreRanked vrps = (i j : ℕ) (d : Payload) → i ≤ j → j < length vrps
    → network_of (get_or vrps i d) ≡ network_of (get_or vrps j d)
    → rank_of (get_or vrps i d) ≤ rank_of (get_or vrps j d)

-- the payloads have one network
abbrev pub AreOfOne : List Payload → Type 0
AreOfOne vrps = (vrp other : Payload) → Contains vrps vrp → Contains vrps other → network_of vrp ≡ network_of other

-- the index is the last of the payloads of the network
pub record IsLastOf (vrps : List Payload) (n : Network) (place : ℕ) : Type 0 where
  pub within : place < length vrps
  pub is : (d : Payload) → network_of (get_or vrps place d) ≡ n
  pub last : (j : ℕ) (d : Payload) → place < j → j < length vrps → network_of (get_or vrps j d) ≢ n

-- the table has the network of each payload, and the index of its last payload
pub record AreLasts (vrps : List Payload) (routes : List (Route ℕ)) : Type 0 where
  pub lasts : (r : Route ℕ) → Contains routes r → IsLastOf vrps r.0 r.1
  pub reached : (vrp : Payload) → Contains vrps vrp
      → ¬ ((r : Route ℕ) → Contains routes r → r.0 ≢ network_of vrp)

-- the payloads from the start to the last one have the network, and no earlier one has it
pub record IsStartOf (vrps : List Payload) (n : Network) (start last : ℕ) : Type 0 where
  pub within : start ≤ last
  pub group : (i : ℕ) (d : Payload) → start ≤ i → i ≤ last → network_of (get_or vrps i d) ≡ n
  pub before : (i : ℕ) (d : Payload) → i < start → network_of (get_or vrps i d) ≢ n

-- The payloads of the list with the property, in order, each as often as the list has it.
-- Example: of a, b, a, c with the property of not being b: a, a, c.
abbrev pub AreThose : (Payload → Type 0) → List Payload → List Payload → Type 0
AreThose Is [] those = those ≡ []
AreThose Is (vrp ∷ vrps) those = (Is vrp × (more : List Payload) × (those ≡ vrp ∷ more) × AreThose Is vrps more)
    ⊎ ((¬ (Is vrp)) × AreThose Is vrps those)

-- the payloads of the network
abbrev pub IsGroup : List Payload → Network → List Payload → Type 0
IsGroup vrps n group = AreThose (λ vrp. network_of vrp ≡ n) vrps group

-- the routes of the payloads, each with the index of the payload
pub record ArePlaces (vrps : List Payload) (routes : List (IpNet × ℕ)) : Type 0 where
  pub size : length routes ≡ length vrps
  pub networks : (i : ℕ) (d : IpNet × ℕ) (e : Payload) → i < length vrps
      → ip_network (get_or routes i d).0 ≡ network_of (get_or vrps i e)
  pub places : (i : ℕ) (d : IpNet × ℕ) → i < length vrps → (get_or routes i d).1 ≡ i
