-- The changes between the two differences.
use Rattle.std.proofs.Common.{string_bytes}
use Rattle.std.proofs.lemmas.Result.{IfOk-weaker}
use Rattle.ipnet_sets.specs.Members.{IsMember}
use Rattle.netset_lib.specs.Changes.{IsOnlyIn}
use Rattle.netset_lib.proofs.ChangeLaws.{lines_of_same}
use Rattle.netset_lib.proofs.changes.address_changes_text.Goals as goal

pub returns : goal.returns
returns c =
    let before = c.args.before.now in
    let after = c.args.after.now in
    IfOk-weaker c.changes_text.result _ _ (λ text h.
    lines_of_same (IsMember c.in_ok-removed.removed) (IsOnlyIn (IsMember before) (IsMember after))
    (IsMember c.in_ok-added.added) (IsOnlyIn (IsMember after) (IsMember before)) c.in_ok-removed.ensures.members
    c.in_ok-added.ensures.members (string_bytes text) h) c.changes_text.ensures
