use Rattle.std.proofs.Common.{inr, subst, rules}
use Rattle.ipnet_base.proofs.ResultLaws.{false_gives}
use Rattle.ipnet_lists.proofs.RefusalLaws.{none_refused}
use Rattle.netset_origins.specs.VrpLines.{IsVrpList}
use Rattle.netset_origins.proofs.vrp_list.vrps_of.Goals as goal

pub returns-clause-vrps : goal.returns-clause-vrps
returns-clause-vrps c =
    let list = c.in_ok-vrps-2.field-0 in
    let (refusals, read, kept) = c.in_ok-vrps-2.ensures in
    inr (
      false_gives c.begins_object.result c.begins_object.ensures c.if-begins_object.false,
      subst (IsVrpList c.args.grammar c.args.bytes.now list.vrps.items)
          (none_refused list.refused refusals kept (search rules)) read,
    )
