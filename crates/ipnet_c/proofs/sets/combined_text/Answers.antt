-- The text is of the set that the operation makes of the two.
use Rattle.std.proofs.Common.{string_bytes}
use Rattle.std.proofs.lemmas.Result.{IfOk-weaker}
use Rattle.ipnet_sets.specs.declared.set.IpSet.{IpSet}
use Rattle.ipnet_sets.specs.Members.{IsMember, IsResultOf}
use Rattle.ipnet_lists.specs.SetLines.{AreNetworkLines}
use Rattle.ipnet_c.proofs.sets.combined_text.Goals as goal

pub returns : goal.returns
returns c =
    let set = c.in_ok-combined.combined in
    IfOk-weaker c.network_lines.result (λ text. AreNetworkLines (IsMember set) (string_bytes text))
    (λ text. (s : IpSet) × IsResultOf c.args.operation s c.args.set.now c.args.other.now
    × AreNetworkLines (IsMember s) (string_bytes text))
    (λ text h. (set, c.in_ok-combined.ensures.members, h)) c.network_lines.ensures
