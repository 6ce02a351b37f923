-- Lists that route alike.
use Rattle.std.proofs.Common.{◌≡◌, List, All, length, arith}
use Rattle.ipnet_base.specs.Network.{IsNetwork}
use Rattle.ipnet_routes.specs.Routes.{Route, networks_of}
use Rattle.ipnet_fewest.specs.Shortest.{RouteAlike, IsShortest}

module _ {V : Type 0} (IsSame : V → V → Type 0) where
  alike_back : (r s : List (Route V)) → RouteAlike IsSame r s → RouteAlike IsSame s r
  alike_back r s h x v = ((h x v).1, (h x v).0)

  alike_on : (r s t : List (Route V)) → RouteAlike IsSame r s → RouteAlike IsSame s t → RouteAlike IsSame r t
  alike_on r s t h k x v = (λ g. (k x v).0 ((h x v).0 g), λ g. (h x v).1 ((k x v).1 g))

  pub one_length : (given other shortest least : List (Route V)) → All IsNetwork (networks_of shortest)
      → All IsNetwork (networks_of least) → RouteAlike IsSame given other → IsShortest IsSame given shortest
      → IsShortest IsSame other least → length least ≡ length shortest
  one_length given other shortest least valid sound h s t =
      let up = s.fewest least sound (alike_on given other least h t.alike) in
      let down = t.fewest shortest valid
      (alike_on other given shortest (alike_back given other h) s.alike) in
      omega (arith, up, down)

  pub again_as_long : (given shortest again : List (Route V)) → All IsNetwork (networks_of shortest)
      → All IsNetwork (networks_of again) → IsShortest IsSame given shortest → IsShortest IsSame shortest again
      → length again ≡ length shortest
  again_as_long given shortest again valid sound s t =
      one_length given shortest shortest again valid sound s.alike s t
