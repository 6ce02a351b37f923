-- The clone has the networks of the table in their order, so its links are the links of the table.
use Rattle.std.proofs.Common.{◌≡◌, length, sym, ap, ◌∙◌, subst, subst₂}
use Rattle.std.specs.List.{each_same}
use Rattle.std.proofs.lemmas.Slice.Zip.{AllZip-long}
use Rattle.ipnet_routes.specs.RouteSteps.{IsTable, AreLinks}
use Rattle.ipnet_routes.proofs.RouteValueLaws.{IsClone, cloned_networks, cloned_routes}
use Rattle.ipnet_routes.proofs.routes.values.RouteTableClone.clone.Goals as goal

pub invariant_of-result : goal.invariant_of-result
invariant_of-result g c =
    let table = c.args.self.now in
    let routes = c.in_ok-routes.routes.items in
    let links : c.in_ok-enclosing.enclosing.items ≡ table.enclosing.items
    = each_same table.enclosing.items c.in_ok-enclosing.enclosing.items c.in_ok-enclosing.ensures.cases.0 in
    let same = sym (cloned_networks g.V.Clone.is_clone table.routes.items routes c.in_ok-routes.ensures.cases.0) in
    record {
      table = subst IsTable same table.table;
      links = subst₂ AreLinks same (sym links) table.links;
      all = ap length links ∙ table.all
          ∙ sym (AllZip-long (IsClone g.V.Clone.is_clone) table.routes.items routes c.in_ok-routes.ensures.cases.0);
    }

pub returns : goal.returns
returns g c =
    record {
      cases = cloned_routes g.V.Clone.is_clone c.args.self.now.routes.items c.in_ok-routes.routes.items
          c.in_ok-routes.ensures.cases.0;
    }
