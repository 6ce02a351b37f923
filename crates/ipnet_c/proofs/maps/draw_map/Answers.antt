-- The map is of the set of the image.
use Rattle.std.proofs.Common.{rules, subst}
use Rattle.ipnet.specs.NetworkOf.{ip_network}
use Rattle.ipnet_routes.specs.Routes.{IsTableOf, ip_routes}
use Rattle.ipnet_routes.specs.RoutesOf.{routes_of}
use Rattle.ipnet_c.proofs.MapEntryLaws.{no_routes}
use Rattle.ipnet_c.proofs.maps.draw_map.Goals as goal

pub titled_map-requires : goal.titled_map-requires
titled_map-requires c =
    no_routes (routes_of c.in_ok-names.names) (subst (λ xs. IsTableOf (ip_routes xs) (routes_of c.in_ok-names.names))
    c.new.ensures.items c.in_ok-names.ensures.table)

pub returns-in_default-clause-none : goal.returns-in_default-clause-none
returns-in_default-clause-none c = λ none. (c.in_ok-first.first, c.in_ok-first.ensures, search rules)

pub returns-clause-map : goal.returns-clause-map
returns-clause-map c =
    let (look, is_look, shown) = c.in_ok-text.ensures in (
      c.in_ok-first.first,
      c.in_ok-first.ensures,
      record {
        network = ip_network c.in-Some.network;
        is_frame = search rules;
        look = look;
        is_look = is_look;
        shown = shown;
      },
    )
