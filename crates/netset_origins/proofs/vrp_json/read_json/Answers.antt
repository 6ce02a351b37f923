use Rattle.std.proofs.Common.{◌≡◌, Some, codes, subst}
use Rattle.serde_json.specs.Read.{read}
use Rattle.serde_json.specs.View.{view, items_view}
use Rattle.netset_origins.proofs.VrpLaws.{no_array}
use Rattle.netset_origins.proofs.vrp_json.read_json.Goals as goal

pub returns-in_default-clause-fault : goal.returns-in_default-clause-fault
returns-in_default-clause-fault c =
    let d = view c.in-Ok.value in
    let reads = subst (λ z. read z ≡ Some d) c.skip_mark.ensures c.in-Ok.ensures.ok.1 in
    let none = no_array (λ v. items_view v.now.items) c.items_in.result d (codes "roas") c.in_default.is
    c.items_in.ensures in
    (d, reads, none)
