-- The validity of a route, by the networks in the table of its payloads.
use Rattle.std.proofs.Common.{◌≡◌, ℕ, ◌↔◌, List, Contains, Any, Option, refl, sym, ap, ◌∙◌, subst}
use Rattle.ipnet_base.specs.Network.{Network, IsNetwork, IsSubnetOf}
use Rattle.ipnet_base.proofs.BlockLaws.{own, own_in}
use Rattle.ipnet_base.proofs.NestingLaws.{longer_from_subnet, subnet_from_own}
use Rattle.ipnet_base.proofs.ListLaws.{any_from_contains}
use Rattle.ipnet.specs.NetLaws.{ip_valid}
use Rattle.ipnet_routes.specs.Routes.{Route}
use Rattle.ipnet_origins.specs.declared.payload.Payload.{Payload}
use Rattle.ipnet_origins.specs.declared.origins.Validity.{Validity}
use Rattle.ipnet_origins.specs.declared.origins.Validity.TheVariants.{Valid, Invalid, NotFound}
use Rattle.ipnet_origins.specs.Groups.{network_of, AreLasts}
use Rattle.ipnet_origins.specs.Origins.{IsCovered, IsMatched, IsValidity}
use Rattle.ipnet_origins.proofs.LastLaws.{payload_at}

-- covering is containment
pub contained : (route : Network) (vrp : Payload) → IsCovered route vrp → IsSubnetOf route (network_of vrp)
contained route vrp h = subnet_from_own route (network_of vrp) h.no_longer h.same_bits

pub covered_from : (route : Network) (vrp : Payload) → IsNetwork route → IsSubnetOf route (network_of vrp)
    → IsCovered route vrp
covered_from route vrp valid h = record {
  no_longer = longer_from_subnet route (network_of vrp) valid (ip_valid vrp.network) h;
  same_bits = h (own route) (own_in route);
}

-- a network of the table that contains the route is the network of a payload that covers it
pub some_covers : (vrps : List Payload) (routes : List (Route ℕ)) → AreLasts vrps routes → (n : Network) → IsNetwork n
    → (r : Route ℕ) → Contains routes r → IsSubnetOf n r.0 → Any (IsCovered n) vrps
some_covers vrps routes lasts n valid r c sub =
    let last = lasts.lasts r c in
    let found = payload_at vrps r.1 last.within in
    let same : r.0 ≡ network_of found.0 = sym (last.is found.0) ∙ ap network_of (found.2 found.0) in
    any_from_contains (IsCovered n) vrps found.0 found.1
    (covered_from n found.0 valid (subst (IsSubnetOf n) same sub))

-- a route has one validity
pub one : (vrps : List Payload) (route : Network) (origin : Option ℕ) (v w : Validity)
    → IsValidity vrps route origin v → IsValidity vrps route origin w → v ≡ w
one vrps route origin Valid Valid h k = refl
one vrps route origin Valid Invalid h k = absurd (k.1 h)
one vrps route origin Valid NotFound (i, vrp, l, e, m) k = absurd (k (i, vrp, l, e, m.covered))
one vrps route origin Invalid Valid h k = absurd (h.1 k)
one vrps route origin Invalid Invalid h k = refl
one vrps route origin Invalid NotFound h k = absurd (k h.0)
one vrps route origin NotFound Valid h (i, vrp, l, e, m) = absurd (h (i, vrp, l, e, m.covered))
one vrps route origin NotFound Invalid h k = absurd (h k.0)
one vrps route origin NotFound NotFound h k = refl

any_other : (P : Payload → Type 0) (vrps others : List Payload)
    → ((vrp : Payload) → Contains vrps vrp → Contains others vrp) → Any P vrps → Any P others
any_other P vrps others same (i, vrp, l, e, h) = any_from_contains P others vrp (same vrp (i, l, e)) h

-- it depends on the members
pub by_members : (vrps others : List Payload) (route : Network) (origin : Option ℕ) (v : Validity)
    → ((vrp : Payload) → Contains vrps vrp ↔ Contains others vrp)
    → IsValidity vrps route origin v → IsValidity others route origin v
by_members vrps others route origin Valid same h =
    any_other (IsMatched route origin) vrps others (λ vrp. (same vrp).0) h
by_members vrps others route origin Invalid same h = (
  any_other (IsCovered route) vrps others (λ vrp. (same vrp).0) h.0,
  λ m. h.1 (any_other (IsMatched route origin) others vrps (λ vrp. (same vrp).1) m),
)
by_members vrps others route origin NotFound same h =
    λ m. h (any_other (IsCovered route) others vrps (λ vrp. (same vrp).1) m)
