use Rattle.std.proofs.Common.{◌≡◌, ◌∙◌, ◌++◌, [], codes, string_bytes}
use Rattle.std.proofs.lemmas.Result.{IfOk-weaker}
use Rattle.netset_forms.specs.Layouts.{frr_list}
use Rattle.netset_forms.proofs.CommandLaws.{list_is}
use Rattle.netset_forms.proofs.frame.frr_list.Goals as goal

pub returns : goal.returns
returns c =
    let protocol = c.args.protocol.now in
    let name = c.args.name.now in
    IfOk-weaker c.joined.result (λ text. string_bytes text ≡ protocol ++ (codes " prefix-list " ++ (name ++ [])))
    (λ text. string_bytes text ≡ frr_list protocol name) (λ text h. h ∙ list_is protocol name) c.joined.ensures
