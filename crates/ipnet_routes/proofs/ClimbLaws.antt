-- The climb to the longest route that holds a network: from the last route up to the network to the smallest network
-- that contains both, and so on.
use Rattle.std.proofs.Common.{◌≢◌, ◌<◌, ◌≤◌, List, Contains, sym, ap}
use Rattle.std.proofs.Common.{◌∙◌}
use Rattle.std.proofs.Common.{subst, arith, inl, inr}
use Rattle.std.proofs.lemmas.Bool.{cases_lt}
use Rattle.ipnet_base.specs.Address.{width, family_index}
use Rattle.ipnet_base.specs.Network.{Network, IsNetwork, host_bits, InBlock, IsSubnetOf, IsTruncated, IsBefore}
use Rattle.ipnet_base.specs.Network.{IsTruncationOf}
use Rattle.ipnet_base.specs.Stack.{IsBeforeOrEqual}
use Rattle.ipnet_base.proofs.BlockLaws.{own, own_in}
use Rattle.ipnet_base.proofs.NestingLaws.{nested}
use Rattle.ipnet_base.proofs.ListLaws.{all_at}
use Rattle.ipnet.specs.declared.net.IpNet.{IpNet}
use Rattle.ipnet_routes.specs.Routes.{Route, ip_routes, ip_networks, IsLongestHolder}
use Rattle.ipnet_routes.specs.RouteSteps.{IsTable}
use Rattle.ipnet_routes.specs.RouteMapSteps.{IsLastUpTo}
use Rattle.ipnet_sets.specs.CommonSupernets.{IsCommonSupernet}
use Rattle.ipnet_routes.proofs.RouteLaws.{all_valid, network_of_route, encloses}
use Rattle.ipnet_routes.proofs.CoveringLaws.{not_after, no_longer}

-- each network of the list that contains n contains the wanted network, which contains n
pub record IsClimbedTo (networks : List Network) (n wanted : Network) : Type 0 where
  pub network : IsNetwork wanted
  pub truncated : IsTruncated wanted
  pub holds : IsSubnetOf n wanted
  pub all : (k : Network) → Contains networks k → IsSubnetOf n k → IsSubnetOf wanted k

pub climb_start : (networks : List Network) (n t : Network) → IsTruncationOf t n → IsClimbedTo networks n t
climb_start networks n t is = record {
  network = is.network;
  truncated = is.truncated;
  holds = is.same_block.1;
  all = λ k c sub x a. sub x (is.same_block.0 x a);
}

module _ {V : Type 0} (list : List (IpNet × V)) (table : IsTable (ip_networks list)) (n wanted : Network)
    (climbed : IsClimbedTo (ip_networks list) n wanted) where
  valid : (k : Network) → Contains (ip_networks list) k → IsNetwork k
  valid k c = all_at IsNetwork (ip_networks list) (all_valid list) k c

  cut : (k : Network) → Contains (ip_networks list) k → IsTruncated k
  cut k c = all_at IsTruncated (ip_networks list) table.truncated k c

  -- a route that holds n does not come after the wanted network
  not_behind : (k : Network) → Contains (ip_networks list) k → IsSubnetOf n k → IsBefore wanted k → ⊥
  not_behind k c sub = not_after wanted k climbed.network (valid k c) (cut k c) (climbed.all k c sub)

  pub climb_none : ((k : Network) → Contains (ip_networks list) k → IsBefore wanted k)
      → (k : Network) → Contains (ip_networks list) k → IsSubnetOf n k → ⊥
  climb_none later k c sub = not_behind k c sub (later k c)

  module _ (r : Route V) (last : IsLastUpTo list wanted r) where
    at : Contains (ip_networks list) r.0
    at = network_of_route list r last.member

    -- so it is the last route up to the wanted network, or comes before it
    up_to_last : (k : Network) → Contains (ip_networks list) k → IsSubnetOf n k → IsBeforeOrEqual k r.0
    up_to_last k c sub = elim (last.last k c) [
      | inl le ↦ le
      | inr later ↦ absurd (not_behind k c sub later)
    ]

    pub climb_found : IsSubnetOf n r.0 → IsLongestHolder (ip_routes list) n r
    climb_found inside = record {
      member = last.member;
      holds = inside;
      longest = λ other has sub.
          let c : Contains (ip_networks list) other.0 = network_of_route list other has in
          elim (up_to_last other.0 c sub) [
            | inl same ↦ omega (arith, ap (λ z. z.prefix_len) same)
            | inr before ↦ no_longer (ip_networks list) table (own n) other.0 r.0 at (sub (own n) (own_in n))
                (inside (own n) (own_in n)) before
          ];
    }

    module _ (out : IsSubnetOf n r.0 → ⊥) where
      not_held : IsSubnetOf wanted r.0 → ⊥
      not_held sub = out (λ x a. sub x (climbed.holds x a))

      -- a route that holds n holds the last route too
      around : (k : Network) → Contains (ip_networks list) k → IsSubnetOf n k → IsSubnetOf r.0 k
      around k c sub = elim (up_to_last k c sub) [
        | inl same ↦ absurd (out (subst (IsSubnetOf n) same sub))
        | inr before ↦ encloses k r.0 wanted before last.up_to (climbed.all k c sub) not_held
      ]

      pub climb_apart : wanted.family ≢ r.0.family → (k : Network) → Contains (ip_networks list) k → IsSubnetOf n k
          → ⊥
      climb_apart apart k c sub = apart (
          (climbed.all k c sub (own wanted) (own_in wanted)).same_family
          ∙ sym (around k c sub (own r.0) (own_in r.0)).same_family
          )

      module _ (s : Network) (common : IsCommonSupernet wanted r.0 s) where
        pub climb_on : IsClimbedTo (ip_networks list) n s
        climb_on = record {
          network = common.network;
          truncated = common.truncated;
          holds = λ x a. common.first x (climbed.holds x a);
          all = λ k c sub. common.smallest k (valid k c) (climbed.all k c sub) (around k c sub);
        }

        -- the common network is shorter
        pub climb_shorter : s.prefix_len < wanted.prefix_len
        climb_shorter = elim (cases_lt s.prefix_len wanted.prefix_len) [
          | inl lt ↦ lt
          | inr ge ↦ absurd (not_held (held ge))
        ]
          where
            held : wanted.prefix_len ≤ s.prefix_len → IsSubnetOf wanted r.0
            held ge =
                let in_s : InBlock s (own wanted) = common.first (own wanted) (own_in wanted) in
                let bits : host_bits s ≤ host_bits wanted = omega (arith, ge, ap width in_s.same_family) in
                let back : IsSubnetOf s wanted = nested s wanted (own wanted) in_s (own_in wanted) bits in
                let inside : InBlock wanted (own r.0) = back (own r.0) (common.second (own r.0) (own_in r.0)) in
                let least : wanted.number ≤ r.0.number = climbed.truncated (own r.0) inside in
                elim last.up_to [
                  | inl same ↦ subst (IsSubnetOf wanted) (sym same) (λ x a. a)
                  | inr (inl earlier) ↦ absurd (omega (arith, earlier, ap family_index inside.same_family))
                  | inr (inr (f, inl less)) ↦ absurd (omega (arith, less, least))
                  | inr (inr (f, inr (same, shorter))) ↦ nested wanted r.0 (own r.0) inside (own_in r.0)
                      (omega (arith, shorter, ap width inside.same_family))
                ]
