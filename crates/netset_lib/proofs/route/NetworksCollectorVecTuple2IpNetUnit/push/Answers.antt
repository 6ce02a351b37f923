use Rattle.std.proofs.lemmas.Result.{on_ok_weaker}
use Rattle.ipnet_routes.specs.Routes.{ip_networks}
use Rattle.ipnet_lists.specs.FoundEntry.{entry_of}
use Rattle.netset_lib.proofs.TableLaws.{more_networks}
use Rattle.netset_lib.proofs.route.NetworksCollectorVecTuple2IpNetUnit.push.Goals as goal

pub returns : goal.returns
returns c =
    on_ok_weaker c.push_entry.result
    (λ adds before h. more_networks (ip_networks c.args.made.now.items) (ip_networks c.push_entry.new.routes.items)
    before (entry_of c.args.arg3.now c.args.entry) h adds)
    c.push_entry.ensures
