use Rattle.ipnet_lists.proofs.ListTexts.{made_list}
use Rattle.netset_routes.specs.AllRouteSteps.{AreRoutesBy}
use Rattle.netset_routes.proofs.AllRouteLaws.{no_routes_made}
use Rattle.netset_routes.proofs.all_routes.read_routes.Goals as goal

pub returns : goal.returns
returns c =
    let table = c.args.table.now.table in
    made_list c.args.grammar c.args.list.now c.skip_mark.result.now c.new-lines.result c.read.new.self
    (AreRoutesBy table c.new-routes.result) (AreRoutesBy table c.read.new.made) c.new-lines.ensures.grammar
    c.new-lines.ensures.first c.new-lines.ensures.line c.new-lines.ensures.none c.skip_mark.ensures c.in_ok-read.ensures
    (no_routes_made table c.new-routes.result c.new-routes.ensures.text c.new-routes.ensures.missing)
