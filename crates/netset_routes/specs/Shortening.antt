-- What `shorten` prints for a table of networks with texts.
use Rattle.std.specs.Prelude.{◌≡◌, ◌∷◌, ◌++◌, ℕ, List, [], All}
use Rattle.std.specs.List.{flat_map}
use Rattle.std.specs.Borrow.{Bor}
use Rattle.ipnet.specs.CanonicalTexts.{canonical_text}
use Rattle.ipnet.specs.declared.parser.Grammar.{Grammar}
use Rattle.ipnet_base.specs.Blocks.{IsAscending}
use Rattle.ipnet_base.specs.Network.{Network, IsNetwork, IsTruncated}
use Rattle.ipnet_routes.specs.Routes.{Route, networks_of}
use Rattle.ipnet_routes.specs.RoutesOf.{routes_of}
use Rattle.ipnet_routes.specs.declared.routes.RouteTable.{RouteTable}
use Rattle.ipnet_fewest.specs.Shortest.{IsShortest}
use Rattle.netset_lib.specs.TextTables.{IsTableOfTexts, text_part}

-- The line of a route: its network, its text after a space, and "\n" (10). An empty text has no space before it.
-- Example: `10.0.0.0/8 eth0`, and `10.0.0.0/8` for an empty text.
abbrev pub route_line : Network → List ℕ → List ℕ
route_line n text = canonical_text n ++ text_part text ++ 10 ∷ []

-- The lines of the routes, in their order. Example: `10.0.0.0/8 eth0\n10.2.0.0/16 eth1\n`.
abbrev pub route_lines : List (Route (Bor (List ℕ))) → List ℕ
route_lines = flat_map (λ r. route_line r.0 r.1.now)

-- The texts have the same bytes. Example: `eth0` and `eth0`, but not `eth0` and `Eth0`.
abbrev pub IsSameText : Bor (List ℕ) → Bor (List ℕ) → Type 0
IsSameText s t = s.now ≡ t.now

-- The text has a line for each of these routes. Each address has the same text in the routes and in the table, or no
-- route in both. A text may be empty. No list of routes of which this is true has fewer routes. The networks have no
-- host bits and ascend, IPv4 before IPv6.
-- Example: of 10.0.0.0/8 with `a`, 10.1.0.0/16 with `a` and 10.2.0.0/16 with `b`, the text is
-- `10.0.0.0/8 a\n10.2.0.0/16 b\n`. Of 10.0.0.0/8 with no text and 10.1.0.0/16 with `a`, it has both routes.
pub record IsShortenedText (table : RouteTable (Bor (List ℕ))) (text : List ℕ) : Type 0 where
  pub routes : List (Route (Bor (List ℕ)))
  pub shortest : IsShortest IsSameText (routes_of table) routes
  pub networks : All IsNetwork (networks_of routes)
  pub truncated : All IsTruncated (networks_of routes)
  pub ascending : IsAscending (networks_of routes)
  pub is : text ≡ route_lines routes

-- The text is what `shorten` prints for the bytes of a table. Each line of the bytes is an entry, or an entry and a
-- text after it. Blank lines and comments are skipped. The networks of an entry get its text. If several lines have a
-- network, the last line counts. The text has the fewest routes for the table of these networks.
-- Example: for `10.0.0.0/8 a # x\n\n10.1.0.0/16 a\n`, it is `10.0.0.0/8 a\n`. For `10.0.0.0/33 a\n` there is none.
pub record IsShortenAnswer (grammar : Grammar) (bytes text : List ℕ) : Type 0 where
  pub table : RouteTable (Bor (List ℕ))
  pub read : IsTableOfTexts grammar bytes table
  pub shortened : IsShortenedText table text
