-- The clone has as many chunks of as many routes, with the same networks.
use Rattle.std.proofs.Common.{sym, ◌∙◌, subst}
use Rattle.std.proofs.lemmas.Slice.Zip.{AllZip-long}
use Rattle.ipnet_routes.specs.Routes.{ip_routes}
use Rattle.ipnet_routes.specs.RouteSteps.{IsTable}
use Rattle.ipnet_routes.specs.RouteMapSteps.{all_of}
use Rattle.ipnet_routes.specs.RouteValues.{AreClones}
use Rattle.ipnet_routes.proofs.RouteValueLaws.{IsClone, cloned_networks, cloned_routes, cloned_chunks, cloned_filled}
use Rattle.ipnet_routes.proofs.route_map.values.RouteMapClone.clone.Goals as goal

pub from_chunks-requires-clause-table : goal.from_chunks-requires-clause-table
from_chunks-requires-clause-table g c =
    let map = c.args.self.now in
    let is_clone = g.V.Clone.is_clone in
    let chunks = c.in_ok-chunks.chunks.items in
    let all = cloned_chunks is_clone map.chunks.items chunks c.in_ok-chunks.ensures.cases.0 in
    subst IsTable (sym (cloned_networks is_clone (all_of map.chunks.items) (all_of chunks) all)) map.table

pub from_chunks-requires-clause-filled : goal.from_chunks-requires-clause-filled
from_chunks-requires-clause-filled g c =
    let map = c.args.self.now in
    cloned_filled g.V.Clone.is_clone map.chunks.items c.in_ok-chunks.chunks.items c.in_ok-chunks.ensures.cases.0
    map.filled

pub from_chunks-requires-clause-size : goal.from_chunks-requires-clause-size
from_chunks-requires-clause-size g c =
    let map = c.args.self.now in
    let is_clone = g.V.Clone.is_clone in
    let chunks = c.in_ok-chunks.chunks.items in
    let all = cloned_chunks is_clone map.chunks.items chunks c.in_ok-chunks.ensures.cases.0 in
    map.size ∙ sym (AllZip-long (IsClone is_clone) (all_of map.chunks.items) (all_of chunks) all)

pub returns : goal.returns
returns g c =
    let is_clone = g.V.Clone.is_clone in
    let old = c.args.self.now.chunks.items in
    let new = c.in_ok-chunks.chunks.items in
    record {
      cases = subst (λ z. AreClones is_clone (ip_routes (all_of old)) (ip_routes (all_of z.items)))
          (sym c.from_chunks.ensures)
          (cloned_routes is_clone (all_of old) (all_of new)
          (cloned_chunks is_clone old new c.in_ok-chunks.ensures.cases.0));
    }
