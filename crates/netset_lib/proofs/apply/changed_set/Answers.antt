use Rattle.std.proofs.Common.{◌≡◌, map, subst}
use Rattle.std.proofs.lemmas.Result.{IfOk-weaker}
use Rattle.ipnet.specs.NetworkOf.{ip_network}
use Rattle.ipnet_sets.specs.Members.{HasAddressesOf}
use Rattle.netset_lib.specs.ApplySteps.{parts_of}
use Rattle.netset_lib.proofs.ApplyLaws.{changed_members}
use Rattle.netset_lib.proofs.apply.changed_set.Goals as goal

pub returns : goal.returns
returns c =
    let parts = c.args.parts in
    let added : c.as_slice.result.now ≡ parts.added.items = cc in
    let removed : c.as_slice-2.result.now ≡ parts.removed.items = cc in
    IfOk-weaker c.union.result _ _
    (λ s with changes are fit. changed_members c.args.set.now s c.in_ok-added.added c.in_ok-removed.removed
    c.in_ok-kept.kept changes (parts_of parts) are fit
    (subst (λ z. HasAddressesOf c.in_ok-added.added (map ip_network z)) added c.in_ok-added.ensures.members)
    (subst (λ z. HasAddressesOf c.in_ok-removed.removed (map ip_network z)) removed c.in_ok-removed.ensures.members)
    c.in_ok-kept.ensures.members with)
    c.union.ensures.members
