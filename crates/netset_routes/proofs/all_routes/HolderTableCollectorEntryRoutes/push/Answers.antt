use Rattle.std.proofs.Common.{◌≡◌, rules, subst}
use Rattle.std.proofs.lemmas.Result.{on_ok_weaker}
use Rattle.ipnet_lists.specs.FoundEntry.{entry_of}
use Rattle.netset_routes.specs.AllRouteSteps.{AddsRoutes}
use Rattle.netset_routes.proofs.AllRouteLaws.{routes_push}
use Rattle.netset_routes.proofs.all_routes.HolderTableCollectorEntryRoutes.push.Goals as goal

pub returns : goal.returns
returns c =
    let table = c.args.self.now.table in
    let same : c.in-Ok.written.now ≡ c.args.text.now = search rules in
    on_ok_weaker c.push_entry.result
    (λ adds before h. routes_push table c.args.made.now c.push_entry.new.made before
    (entry_of c.args.text.now c.args.entry) h
    (subst (λ t. AddsRoutes table c.args.made.now c.push_entry.new.made (entry_of t c.args.entry))
    same adds))
    c.push_entry.ensures
