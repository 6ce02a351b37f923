use Rattle.std.proofs.Common.{◌∙◌, string_bytes}
use Rattle.netset_forms.proofs.CommandLaws.{frr_is}
use Rattle.netset_forms.proofs.frame.frr.Goals as goal

pub returns : goal.returns
returns c =
    frr_is c.args.protocol.now c.args.all.now c.args.name.now c.as_str-list.result.now
    (record {
      before = string_bytes c.in_ok-joined.field-0;
      between = string_bytes c.in_ok-joined-2.field-0;
      after = string_bytes c.in_ok-from_str.field-0;
      none = string_bytes c.in_ok-joined-3.field-0;
    })
    (c.as_str-list.ensures.value ∙ c.in_ok-list.ensures) c.in_ok-joined.ensures c.in_ok-joined-2.ensures
    c.in_ok-from_str.ensures.ok c.in_ok-joined-3.ensures
