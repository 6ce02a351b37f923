-- The fewest routes for a table whose values are numbers. Only private contracts use these.
use Rattle.std.specs.Prelude.{◌≡◌, ℕ, ◌≤◌, List, ◌++◌, length, Contains}
use Rattle.ipnet_base.specs.Address.{Family}
use Rattle.ipnet_base.specs.Network.{Network, IsNetwork, IsTruncated}
use Rattle.ipnet_routes.specs.Routes.{Route}
use Rattle.ipnet_fewest.specs.Shortest.{RouteAlike}
use Rattle.ipnet_fewest.specs.Solved.{IsSameNumber, AreRoutesIn, RoutesAs, HaveValues}

-- Routes in a block give each address of it the value that the wanted routes give it. No list of routes in the block
-- does so with fewer routes.
pub record AreFewestIn (wanted : List (Route ℕ)) (block : Network) (made : List (Route ℕ)) : Type 0 where
  pub inside : AreRoutesIn block made
  pub truncated : (r : Route ℕ) → Contains made r → IsTruncated r.0
  pub as_wanted : RoutesAs block made 0 wanted 0
  pub least : (others : List (Route ℕ)) → AreRoutesIn block others → RoutesAs block others 0 wanted 0
      → length made ≤ length others

-- The new routes are the old ones, and then the fewest for the block.
pub record AreFewestAdded (wanted : List (Route ℕ)) (block : Network) (old new : List (Route ℕ)) : Type 0 where
  pub made : List (Route ℕ)
  pub added : new ≡ old ++ made
  pub fewest : AreFewestIn wanted block made

-- The routes that were made give each address the value that the wanted routes give it, and no list of routes does so
-- with fewer routes.
pub record AreFewest (wanted made : List (Route ℕ)) : Type 0 where
  pub valid : (r : Route ℕ) → Contains made r → IsNetwork r.0
  pub truncated : (r : Route ℕ) → Contains made r → IsTruncated r.0
  pub values : HaveValues made
  pub alike : RouteAlike IsSameNumber wanted made
  pub least : (others : List (Route ℕ)) → ((r : Route ℕ) → Contains others r → IsNetwork r.0) → HaveValues others
      → RouteAlike IsSameNumber wanted others → length made ≤ length others

-- The network of all addresses of the family. Example: 0.0.0.0/0.
pub record IsWhole (family : Family) (whole : Network) : Type 0 where
  pub network : IsNetwork whole
  pub truncated : IsTruncated whole
  pub of_family : whole.family ≡ family
  pub all : whole.prefix_len ≡ 0
