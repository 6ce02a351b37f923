use Rattle.std.proofs.Common.{Contains, refl, sym, subst}
use Rattle.std.proofs.lemmas.Result.{on_ok_weaker}
use Rattle.ipnet_base.proofs.NetworkLaws.{truncation_of_truncated}
use Rattle.ipnet.specs.NetworkOf.{ip_network}
use Rattle.ipnet_routes.specs.RoutesOf.{routes_of}
use Rattle.ipnet_lists.specs.FoundEntry.{entry_of}
use Rattle.netset_lib.specs.Routing.{InTable}
use Rattle.netset_lib.proofs.TableLaws.{table_good}
use Rattle.netset_lib.proofs.TextAnswerLaws.{text_some}
use Rattle.netset_lib.proofs.text_route.push_text_route.Goals as goal

pub returns-in-Some-get : goal.returns-in-Some-get
returns-in-Some-get c =
    let table = c.args.table.now in
    let n = ip_network c.in-Some.network in
    let after = c.in-Some-get.after.now in
    let own = truncation_of_truncated n (table_good table n c.in-Some.ensures.network).1 in
    on_ok_weaker c.push_text.result
    (λ text. text_some table c.args.answers.now _ (entry_of c.args.text.now c.args.entry) c.in-Some.network after
    c.in-Some.ensures (subst (λ z. Contains (routes_of table) (z, after)) own c.in-Some-get.ensures.some) text refl)
    c.push_text.ensures

pub returns-in-None : goal.returns-in-None
returns-in-None c =
    let table = c.args.table.now in
    let n = ip_network c.in-Some.network in
    let own = truncation_of_truncated n (table_good table n c.in-Some.ensures.network).1 in
    absurd (c.in-None.ensures.none.0 refl (subst (InTable table) (sym own) c.in-Some.ensures.network))
