-- The routes so far are routes of a table, and the last of them is known.
use Rattle.std.proofs.Common.{ℕ, List}
use Rattle.ipnet_routes.specs.Routes.{Route}
use Rattle.ipnet_routes.specs.TableImages.{AreRoutesIn}
use Rattle.ipnet_routes.proofs.TableCheckLaws.{IsLastOf}
use Rattle.ipnet_routes.proofs.routes.image.stored_table.StoredTable.has_routes.Given as goal

abbrev pub invariant-loop-index : goal.invariant-loop-index
invariant-loop-index l =
    (t : List (Route ℕ)) × AreRoutesIn l.self.bytes.now l.index t × IsLastOf t l.index l.previous
