use Rattle.std.proofs.Common.{ℕ, List}
use Rattle.ipnet_routes.specs.Routes.{Route}
use Rattle.ipnet_routes.specs.TableImages.{route_count, AreRoutesIn}
use Rattle.ipnet_routes.proofs.TableRestoredLaws.{AreRestoredTo}
use Rattle.ipnet_routes.proofs.routes.image.restored.restored_table.Given as goal

-- What holds of the routes so far, of whatever routes the bytes hold.
abbrev pub invariant-loop-index : goal.invariant-loop-index
invariant-loop-index l = (t : List (Route ℕ)) → AreRoutesIn l.stored.bytes.now (route_count l.stored.bytes.now) t
    → AreRestoredTo t l.index l.routes.items l.enclosing.items
