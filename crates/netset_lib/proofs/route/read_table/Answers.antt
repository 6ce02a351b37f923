use Rattle.ipnet_routes.specs.Routes.{ip_networks}
use Rattle.ipnet_routes.specs.RoutesOf.{routes_of}
use Rattle.netset_lib.specs.Routing.{AreTableNetworks, InTable, IsTruncatedOne}
use Rattle.ipnet_lists.proofs.MadeLaws.{made_of, made_weaker}
use Rattle.netset_lib.proofs.TableLaws.{table_of_entries, no_networks}
use Rattle.netset_lib.proofs.route.read_table.Goals as goal

pub returns : goal.returns
returns g c =
    let left = g.R.Read.remaining c.args.input.now in
    let after = g.R.Read.remaining c.read_list.new.input in
    let given = c.read_list.new.made.items in
    let table = c.in_ok-from_routes.field-0 in
    let made = AreTableNetworks (IsTruncatedOne (ip_networks given)) in
    made_weaker left after c.args.reading.now c.read_list.new.self made (AreTableNetworks (InTable table))
    (made_of left after c.args.reading.now c.read_list.new.self
    (AreTableNetworks (IsTruncatedOne (ip_networks c.new-routes.result.items))) made c.in_ok-read_list.ensures
    (rw c.new-routes.ensures.items no_networks))
    (λ entries same. table_of_entries given (routes_of table) entries c.in_ok-from_routes.ensures.table same)
