-- Networks of given families and lengths, placed in a set one after the other.
use Rattle.std.specs.Prelude.{ℕ, ⊤, List, [], ◌∷◌}
use Rattle.ipnet_base.specs.Address.{Family, Address}
use Rattle.ipnet_base.specs.Network.{Network}
use Rattle.ipnet_pools.specs.Fits.{IsFit, Without}

-- A request: a family and a prefix length. Example: IPv4 and 26, for any /26 of IPv4.
abbrev pub Request : Type 0
Request = Family × ℕ

-- The request that the network meets. Example: IPv4 and 26 for 10.0.0.64/26.
abbrev pub request_of : Network → Request
request_of n = (n.family, n.prefix_len)

-- Each request can be given a network in the set, so that no two of these networks share an address. Read: the first
-- request gets a network n, and the others can be placed in the set without n.
-- Example: in 10.0.0.0/24 the lengths 26, 25 and 27 can be placed, and the lengths 25, 25 and 27 cannot.
abbrev pub CanPlace : (Address → Type 0) → List Request → Type 0
CanPlace InSet [] = ⊤
CanPlace InSet (r ∷ rs) = (n : Network) × IsFit InSet r.0 r.1 n × CanPlace (Without InSet n) rs
