-- The table has the networks without host bits, sorted, each with the last value that was given for it.
use Rattle.std.proofs.Common.{length, sym, ap, ◌∙◌, subst}
use Rattle.ipnet_base.specs.Blocks.{IsAscending}
use Rattle.ipnet_routes.specs.Routes.{ip_routes, ip_networks}
use Rattle.ipnet_routes.specs.RouteSteps.{IsTable, AreLinks}
use Rattle.ipnet_routes.proofs.RouteLaws.{table_of, same_networks}
use Rattle.ipnet_routes.proofs.RouteOrderLaws.{truncated_kept, table_members}
use Rattle.ipnet_routes.proofs.routes.RouteTable.from_routes.Goals as goal

pub links-requires : goal.links-requires
links-requires g c =
    let given = c.args.routes.items in
    let kept = c.in_ok-routes.routes.items in
    let members = table_members given c.truncate_all.new.routes.items c.sort.new.routes.items kept
    c.truncate_all.ensures c.in_ok-sort.ensures.latest c.in_ok-routes.ensures.members in
    subst (λ z. IsTable (ip_networks z)) (sym c.as_slice.ensures.value)
    (table_of (ip_networks kept) (truncated_kept (ip_routes given) kept (λ q. (members q).0))
    c.in_ok-routes.ensures.ascending)

pub invariant_of-result-2 : goal.invariant_of-result-2
invariant_of-result-2 g c =
    let given = c.args.routes.items in
    let kept = c.in_ok-routes.routes.items in
    let links = c.in_ok-enclosing.enclosing.items in
    let members = table_members given c.truncate_all.new.routes.items c.sort.new.routes.items kept
    c.truncate_all.ensures c.in_ok-sort.ensures.latest c.in_ok-routes.ensures.members in
    record {
      table = table_of (ip_networks kept) (truncated_kept (ip_routes given) kept (λ q. (members q).0))
          c.in_ok-routes.ensures.ascending;
      links = subst (λ z. AreLinks (ip_networks z) links) c.as_slice.ensures.value c.in_ok-enclosing.ensures.links;
      all = c.in_ok-enclosing.ensures.all ∙ ap length c.as_slice.ensures.value;
    }

pub returns-clause-table : goal.returns-clause-table
returns-clause-table g c =
    let given = c.args.routes.items in
    let kept = c.in_ok-routes.routes.items in
    record {
      ascending = subst IsAscending (sym (same_networks kept)) c.in_ok-routes.ensures.ascending;
      members = table_members given c.truncate_all.new.routes.items c.sort.new.routes.items kept
          c.truncate_all.ensures c.in_ok-sort.ensures.latest c.in_ok-routes.ensures.members;
    }
