-- The routes of each family of a table.
use Rattle.std.proofs.Common.{◌≡◌, ℕ, List, [], ◌++◌, map, take, drop, Contains, sym, ap, ap₂, ◌∙◌, subst}
use Rattle.std.proofs.lemmas.List.{take-map, drop-map, map-append, take-append-drop}
use Rattle.std.proofs.lemmas.List.Elements.{Contains-append_left, Contains-append_right}
use Rattle.ipnet_base.specs.Address.{IPv4, IPv6}
use Rattle.ipnet_base.specs.Network.{Network, IsNetwork}
use Rattle.ipnet_base.proofs.ListLaws.{all_at}
use Rattle.ipnet.specs.declared.net.IpNet.{IpNet}
use Rattle.ipnet.specs.NetworkOf.{ip_network}
use Rattle.ipnet_routes.specs.Routes.{Route, ip_routes, ip_networks}
use Rattle.ipnet_routes.specs.RouteSteps.{IsTable, IsPlaceOf}
use Rattle.ipnet_routes.proofs.RouteLaws.{all_valid, network_of_route, one_match}
use Rattle.ipnet_fewest.specs.Solved.{AreTableIn, HaveValues}
use Rattle.ipnet_fewest.specs.FewestRoutes.{AreFewestAdded, AreFewest, IsWhole}
use Rattle.ipnet_fewest.proofs.FewestLaws.{ipv4_table, ipv6_table, families_apart, are_fewest, in_either}

module _ (four six : IpNet) (w4 : IsWhole IPv4 (ip_network four)) (w6 : IsWhole IPv6 (ip_network six))
    (routes : List (IpNet × ℕ)) (table : IsTable (ip_networks routes)) (values : HaveValues (ip_routes routes))
    (count : ℕ) (place : IsPlaceOf (ip_networks routes) (ip_network six) count) (front back : List (IpNet × ℕ))
    (of_front : front ≡ take count routes) (of_back : back ≡ drop count routes) where
  abbrev network : IpNet × ℕ → Network
  network x = ip_network x.0

  abbrev route : IpNet × ℕ → Route ℕ
  route r = (ip_network r.0, r.1)

  valid : (n : Network) → Contains (ip_networks routes) n → IsNetwork n
  valid n c = all_at IsNetwork (ip_networks routes) (all_valid routes) n c

  pub front_in_ipv4 : AreTableIn (ip_network four) (ip_networks front)
  front_in_ipv4 = subst (AreTableIn (ip_network four))
      (take-map network count routes ∙ ap (map network) (sym of_front))
      (ipv4_table (ip_network four) (ip_network six) w4 w6 (ip_networks routes) count valid table place)

  pub back_in_ipv6 : AreTableIn (ip_network six) (ip_networks back)
  back_in_ipv6 = subst (AreTableIn (ip_network six))
      (drop-map network count routes ∙ ap (map network) (sym of_back))
      (ipv6_table (ip_network four) (ip_network six) w4 w6 (ip_networks routes) count valid table place)

  both : ip_routes front ++ ip_routes back ≡ ip_routes routes
  both =
      sym (map-append route front back)
      ∙ ap (map route) (ap₂ (λ x y. x ++ y) of_front of_back ∙ take-append-drop count routes)

  pub ipv4_values : HaveValues (ip_routes front)
  ipv4_values x c = values x (subst (λ z. Contains z x) both
      (Contains-append_left (ip_routes front) (ip_routes back) x c))

  pub ipv6_values : HaveValues (ip_routes back)
  ipv6_values x c = values x (subst (λ z. Contains z x) both
      (Contains-append_right (ip_routes front) (ip_routes back) x c))

  pub fewest_of_both : (start first second : List (IpNet × ℕ)) → start ≡ []
      → AreFewestAdded (ip_routes back) (ip_network six) (ip_routes start) (ip_routes first)
      → AreFewestAdded (ip_routes front) (ip_network four) (ip_routes first) (ip_routes second)
      → AreFewest (ip_routes routes) (ip_routes second)
  fewest_of_both start first second none a b =
      let all : ip_routes second ≡ a.made ++ b.made =
      b.added ∙ ap (λ z. z ++ b.made) (a.added ∙ ap (λ z. ip_routes z ++ a.made) none) in
      subst (AreFewest (ip_routes routes)) (sym all)
      (are_fewest (ip_routes routes) (ip_routes front) (ip_routes back) (ip_network four) (ip_network six)
      (families_apart (ip_network four) (ip_network six) w4 w6) both
      (λ r c. front_in_ipv4.within r.0 (network_of_route front r c))
      (λ r c. back_in_ipv6.within r.0 (network_of_route back r c)) values (one_match routes table) b.made a.made
      b.fewest a.fewest (in_either (ip_network four) (ip_network six) w4 w6))
