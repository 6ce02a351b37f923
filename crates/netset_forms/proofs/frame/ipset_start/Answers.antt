use Rattle.std.proofs.Common.{◌≡◌, ◌∙◌, ◌++◌, [], string_bytes}
use Rattle.std.proofs.lemmas.Result.{IfOk-weaker}
use Rattle.netset_forms.specs.Layouts.{ipset_start}
use Rattle.netset_forms.proofs.CommandLaws.{start_is}
use Rattle.netset_forms.proofs.frame.ipset_start.Goals as goal

pub returns : goal.returns
returns c =
    let create = c.as_str.result.now in
    let create_new = c.as_str-2.result.now in
    let flush = c.as_str-3.result.now in
    IfOk-weaker c.joined-4.result
    (λ text. string_bytes text ≡ create ++ (create_new ++ (flush ++ [])))
    (λ text. string_bytes text ≡ ipset_start c.args.kind.now c.args.name.now)
    (λ text h. h ∙ start_is c.args.kind.now c.args.name.now create create_new flush
    (c.as_str.ensures.value ∙ c.in_ok-create.ensures) (c.as_str-2.ensures.value ∙ c.in_ok-create_new.ensures)
    (c.as_str-3.ensures.value ∙ c.in_ok-flush.ensures)) c.joined-4.ensures
