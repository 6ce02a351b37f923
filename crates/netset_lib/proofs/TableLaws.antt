-- The networks of a table: those that are pushed for an entry are the fewest of its range once their host bits are
-- taken away, and a table of routes with no values has just the networks that were given, without host bits.
use Rattle.std.proofs.Common.{◌≡◌, ℕ, zero, suc, ◌<◌, ◌⊎◌, ◌↔◌, List, [], ◌∷◌, ◌++◌, length, map, get_or, Contains}
use Rattle.std.proofs.Common.{Option, Some, None, IsNone, IsSome, IfSome, refl, sym, ap, ◌∙◌, subst, arith, inl, inr}
use Rattle.std.proofs.lemmas.Bool.{cases_order}
use Rattle.std.proofs.lemmas.List.{map-append, length-map}
use Rattle.std.proofs.lemmas.List.Elements.{Contains-append_left, Contains-append_right, Contains-append_cases}
use Rattle.ipnet_base.specs.Address.{Address}
use Rattle.ipnet_base.specs.Network.{Network, IsNetwork, IsTruncated, truncation}
use Rattle.ipnet_base.specs.Blocks.{IsMaximal, AreMaximalBlocks}
use Rattle.ipnet_base.specs.Ranges.{AddressRange}
use Rattle.ipnet_base.proofs.FamilyLaws.{cases_family}
use Rattle.ipnet_base.proofs.ListLaws.{contains_nil, contains_here, contains_there, contains_cases, all_at}
use Rattle.ipnet_base.proofs.NetworkLaws.{same_network, truncation_of_truncated}
use Rattle.ipnet.specs.declared.net.IpNet.{IpNet}
use Rattle.ipnet.specs.NetworkOf.{ip_network}
use Rattle.ipnet_routes.specs.Routes.{Route, networks_of, ip_routes, ip_networks, without_host_bits, IsLatest}
use Rattle.ipnet_routes.specs.Routes.{IsTableOf}
use Rattle.ipnet_sets.specs.SetRanges.{IsInRange}
use Rattle.ipnet_routes.specs.declared.routes.RouteTable.{RouteTable}
use Rattle.ipnet_routes.proofs.RouteLaws.{same_networks, all_valid}
use Rattle.ipnet_lists.specs.Lists.{ListEntry}
use Rattle.netset_lib.specs.Routing.{IsTruncatedOne, AddsMaximal, AreTableNetworks, InTable}
use Rattle.ipnet_sets.proofs.JoinLaws.{any_push}

-- ---- the fewest networks of a range

-- networks that have no host bits are those without their host bits
one_of_truncated : (networks : List Network) → ((n : Network) → Contains networks n → truncation n ≡ n)
    → (n : Network) → IsTruncatedOne networks n ↔ Contains networks n
one_of_truncated [] own n = (λ h. absurd (contains_nil n h), λ h. absurd (contains_nil n h))
one_of_truncated (k ∷ networks) own n =
    let rest = one_of_truncated networks (λ m c. own m (contains_there k networks m c)) n in
    let same : truncation k ≡ k = own k (contains_here k networks) in (
      λ h. elim (contains_cases (truncation k) (map truncation networks) n h) [
        | inl here ↦ subst (Contains (k ∷ networks)) (sym same ∙ here) (contains_here k networks)
        | inr there ↦ contains_there k networks n (rest.0 there)
      ],
      λ h. elim (contains_cases k networks n h) [
        | inl here ↦ subst (IsTruncatedOne (k ∷ networks)) (same ∙ here)
            (contains_here (truncation k) (map truncation networks))
        | inr there ↦ contains_there (truncation k) (map truncation networks) n (rest.1 there)
      ],
    )

-- the maximal blocks of a range have none
blocks_maximal : (InSet : Address → Type 0) (blocks : List Network) → AreMaximalBlocks InSet 0 blocks → (n : Network)
    → IsTruncatedOne blocks n ↔ IsMaximal InSet 0 n
blocks_maximal InSet blocks h n =
    let same = one_of_truncated blocks
    (λ m c. truncation_of_truncated m ((h.members m).0 c).inside.truncated) n in
    (λ one. (h.members n).0 (same.0 one), λ maximal. same.1 ((h.members n).1 maximal))

-- networks behind the others that are the fewest of the range
adds_more : (old more new : List Network) (range : AddressRange)
    → ((n : Network) → IsTruncatedOne more n ↔ IsMaximal (IsInRange range) 0 n) → new ≡ old ++ more
    → AddsMaximal old range new
adds_more old more new range same e n =
    let cut : map truncation new ≡ map truncation old ++ map truncation more
    = ap (map truncation) e ∙ map-append truncation old more in (
      λ h. elim (Contains-append_cases (map truncation old) (map truncation more) n (subst (λ z. Contains z n) cut h)) [
        | inl before ↦ inl before
        | inr added ↦ inr ((same n).0 added)
      ],
      λ h. subst (λ z. Contains z n) (sym cut) (elim h [
        | inl before ↦ Contains-append_left (map truncation old) (map truncation more) n before
        | inr added ↦ Contains-append_right (map truncation old) (map truncation more) n ((same n).1 added)
      ]),
    )

pub adds_blocks : (old more new : List Network) (range : AddressRange) → AreMaximalBlocks (IsInRange range) 0 more
    → new ≡ old ++ more → AddsMaximal old range new
adds_blocks old more new range blocks = adds_more old more new range (blocks_maximal (IsInRange range) more blocks)

-- ---- the networks of a table, entry by entry

pub no_networks : AreTableNetworks (IsTruncatedOne []) []
no_networks n = (λ h. absurd (contains_nil n h), λ h. absurd (contains_nil h.1 (h.0, h.2, h.3)))

pub more_networks : (old new : List Network) (entries : List ListEntry) (e : ListEntry)
    → AreTableNetworks (IsTruncatedOne old) entries → AddsMaximal old e.range new
    → AreTableNetworks (IsTruncatedOne new) (entries ++ e ∷ [])
more_networks old new entries e same adds n =
    let more = any_push (λ y. IsMaximal (IsInRange y.range) 0 n) entries e in (
      λ h. more.1 (elim ((adds n).0 h) [ inl a ↦ inl ((same n).0 a) | inr b ↦ inr b ]),
      λ h. (adds n).1 (elim (more.0 h) [ inl a ↦ inl ((same n).1 a) | inr b ↦ inr b ]),
    )

-- ---- a table of routes without values

abbrev Plain : Type 0
Plain = Route (Unit {0})

network_same_or_not : (n k : Network) → (n ≡ k) ⊎ (n ≡ k → ⊥)
network_same_or_not n k = elim (cases_family n.family k.family) [
  | inr other ↦ inr (λ e. other (ap (λ z. z.family) e))
  | inl f ↦ elim (cases_order n.number k.number) [
    | inr (inl lt) ↦ inr (λ e. absurd (omega (arith, lt, ap (λ z. z.number) e)))
    | inr (inr gt) ↦ inr (λ e. absurd (omega (arith, gt, ap (λ z. z.number) e)))
    | inl a ↦ elim (cases_order n.prefix_len k.prefix_len) [
      | inr (inl lt) ↦ inr (λ e. absurd (omega (arith, lt, ap (λ z. z.prefix_len) e)))
      | inr (inr gt) ↦ inr (λ e. absurd (omega (arith, gt, ap (λ z. z.prefix_len) e)))
      | inl l ↦ inl (same_network n k f a l)
    ]
  ]
]

contained_or_not : (networks : List Network) (n : Network) → Contains networks n ⊎ (Contains networks n → ⊥)
contained_or_not [] n = inr (contains_nil n)
contained_or_not (k ∷ networks) n = elim (network_same_or_not k n) [
  | inl e ↦ inl (subst (Contains (k ∷ networks)) e (contains_here k networks))
  | inr other ↦ elim (contained_or_not networks n) [
    | inl there ↦ inl (contains_there k networks n there)
    | inr none ↦ inr (λ h. elim (contains_cases k networks n h) [ inl e ↦ other e | inr there ↦ none there ])
  ]
]

-- the network of a route
pub network_of_route : {V : Type 0} (routes : List (Route V)) (r : Route V) → Contains routes r
    → Contains (networks_of routes) r.0
network_of_route [] r h = absurd (contains_nil r h)
network_of_route (q ∷ routes) r h = elim (contains_cases q routes r h) [
  | inl e ↦ subst (Contains (q.0 ∷ networks_of routes)) (ap (λ z. z.0) e) (contains_here q.0 (networks_of routes))
  | inr there ↦ contains_there q.0 (networks_of routes) r.0 (network_of_route routes r there)
]

-- a network of the routes has a route
pub some_route : {V : Type 0} (routes : List (Route V)) (n : Network) → Contains (networks_of routes) n
    → (value : V) × Contains routes (n, value)
some_route [] n h = absurd (contains_nil n h)
some_route ((k, v) ∷ routes) n h = elim (contains_cases k (networks_of routes) n h) [
  | inl e ↦ (v, subst (λ z. Contains ((k, v) ∷ routes) (z, v)) e (contains_here (k, v) routes))
  | inr there ↦ let rest = some_route routes n there in (rest.0, contains_there (k, v) routes (n, rest.0) rest.1)
]

-- a route without a value is its network
plain_route : (routes : List Plain) (n : Network) → Contains routes (n, tt) ↔ Contains (networks_of routes) n
plain_route [] n = (λ h. absurd (contains_nil (n, tt) h), λ h. absurd (contains_nil n h))
plain_route ((k, tt) ∷ routes) n =
    let rest = plain_route routes n in (
      λ h. elim (contains_cases (k, tt) routes (n, tt) h) [
        | inl e ↦ subst (Contains (k ∷ networks_of routes)) (ap (λ z. z.0) e) (contains_here k (networks_of routes))
        | inr there ↦ contains_there k (networks_of routes) n (rest.0 there)
      ],
      λ h. elim (contains_cases k (networks_of routes) n h) [
        | inl e ↦ subst (λ z. Contains ((k, tt) ∷ routes) (z, tt)) e (contains_here (k, tt) routes)
        | inr there ↦ contains_there (k, tt) routes (n, tt) (rest.1 there)
      ],
    )

-- the network at a place of the routes
network_in : (routes : List Plain) (j : ℕ) (d : Plain) → j < length routes
    → Contains (networks_of routes) (get_or routes j d).0
network_in [] j d l = absurd (omega (arith, l))
network_in (r ∷ routes) zero d l = contains_here r.0 (networks_of routes)
network_in (r ∷ routes) (suc j) d l =
    contains_there r.0 (networks_of routes) (get_or routes j d).0 (network_in routes j d (omega (arith, l)))

-- a network of the routes has a latest route
pub latest_of : {V : Type 0} (routes : List (Route V)) (n : Network) → Contains (networks_of routes) n
    → (v : V) × IsLatest routes (n, v)
latest_of [] n h = absurd (contains_nil n h)
latest_of ((k, v) ∷ routes) n h = elim (contained_or_not (networks_of routes) n) [
  | inl there ↦
      let (w, rest) = latest_of routes n there in (
        w,
        record {
          place = suc rest.place;
          within = omega (arith, rest.within);
          is = rest.is;
          last = elim [
            | zero ↦ λ d lt l. absurd (omega (arith, lt))
            | suc j ↦ λ d lt l. rest.last j d (omega (arith, lt)) (omega (arith, l))
          ];
        },
      )
  | inr none ↦
      let here : k ≡ n = elim (contains_cases k (networks_of routes) n h) [
        | inl e ↦ e
        | inr there ↦ absurd (none there)
      ] in (
        v,
        record {
          place = 0;
          within = omega arith;
          is = ap (λ z. (z, v)) here;
          last = elim [
            | zero ↦ λ d lt l. absurd (omega (arith, lt))
            | suc j ↦ λ d lt l e. none (
              j,
              omega (arith, l, length-map routes (λ z. z.0)),
              same_at routes j d n (omega (arith, l)) e,
            )
          ];
        },
      )
]
  where
    same_at : {V : Type 0} (routes : List (Route V)) (j : ℕ) (d : Route V) (n : Network) → j < length routes
        → (get_or routes j d).0 ≡ n → get_or (networks_of routes) j n ≡ n
    same_at [] j d n l e = absurd (omega (arith, l))
    same_at (r ∷ routes) zero d n l e = e
    same_at (r ∷ routes) (suc j) d n l e = same_at routes j d n (omega (arith, l)) e

latest_there : (routes : List Plain) (n : Network) → Contains (networks_of routes) n → IsLatest routes (n, tt)
latest_there routes n h = let (v, latest) = latest_of routes n h in only v latest
  where
    only : (v : Unit {0}) → IsLatest routes (n, v) → IsLatest routes (n, tt)
    only tt latest = latest

from_latest : (routes : List Plain) (n : Network) → IsLatest routes (n, tt) → Contains (networks_of routes) n
from_latest routes n h =
    subst (Contains (networks_of routes)) (ap (λ z. z.0) h.is) (network_in routes h.place (n, tt) h.within)

given_networks : (given : List (IpNet × Unit {0}))
    → networks_of (without_host_bits (ip_routes given)) ≡ map truncation (ip_networks given)
given_networks [] = refl
given_networks (r ∷ given) = ap (λ z. truncation (ip_network r.0) ∷ z) (given_networks given)

-- the table has the networks that were given, without their host bits
table_networks : (given : List (IpNet × Unit {0})) (routes : List Plain) → IsTableOf (ip_routes given) routes
    → (n : Network) → Contains (networks_of routes) n ↔ IsTruncatedOne (ip_networks given) n
table_networks given routes h n =
    let cut : List Plain = without_host_bits (ip_routes given) in (
      λ c. subst (λ z. Contains z n) (given_networks given)
          (from_latest cut n ((h.members (n, tt)).0 ((plain_route routes n).1 c))),
      λ one. (plain_route routes n).0 ((h.members (n, tt)).1
          (latest_there cut n (subst (λ z. Contains z n) (sym (given_networks given)) one))),
    )

-- so a table of the networks of these entries has these
pub table_of_entries : (given : List (IpNet × Unit {0})) (routes : List Plain) (entries : List ListEntry)
    → IsTableOf (ip_routes given) routes → AreTableNetworks (IsTruncatedOne (ip_networks given)) entries
    → AreTableNetworks (Contains (networks_of routes)) entries
table_of_entries given routes entries h same n =
    let one = table_networks given routes h n in
    (λ c. (same n).0 (one.0 c), λ k. one.1 ((same n).1 k))

-- each network of a table is one without host bits
pub table_good : {V : Type 0} (table : RouteTable V) (n : Network) → InTable table n → IsNetwork n × IsTruncated n
table_good table n one =
    let list = table.routes.items in
    let at = subst (λ z. Contains z n) (same_networks list) one in (
      all_at IsNetwork (ip_networks list) (all_valid list) n at,
      all_at IsTruncated (ip_networks list) table.table.truncated n at,
    )

-- a search that gives the value of a network tells whether the table has it
pub got_or_not : {A V : Type 0} (o : Option A) (value : A → V) (routes : List (Route V)) (t : Network)
    → (IsNone o ↔ ¬ (Contains (networks_of routes) t)) → IfSome o (λ v. Contains routes (t, value v))
    → IsSome o ↔ Contains (networks_of routes) t
got_or_not None value routes t none some = (λ e. absurd cc, λ c. absurd (none.0 refl c))
got_or_not (Some v) value routes t none some = (λ e. network_of_route routes (t, value v) some, λ c. refl)
