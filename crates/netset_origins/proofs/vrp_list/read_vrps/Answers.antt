use Rattle.std.proofs.Common.{◌≡◌, ◌++◌, List, sym, ap, ◌∙◌}
use Rattle.ipnet_lists.proofs.ContentLaws.{list_taken}
use Rattle.ipnet_origins.specs.declared.payload.Payload.{Payload}
use Rattle.netset_origins.specs.VrpLines.{all_added, IsVrpLine, IsVrpLineCause}
use Rattle.netset_origins.proofs.VrpLaws.{added_last}
use Rattle.netset_origins.proofs.vrp_list.read_vrps.Goals as goal

pub returns : goal.returns
returns c =
    let grammar = c.args.grammar in
    let (refusals, taken, kept) = c.in_ok-refused.ensures in
    let (lines, read, is) = list_taken (λ line. IsVrpLine grammar line.text) (IsVrpLineCause grammar)
    (λ line old new. (added : List Payload) × IsVrpLine grammar line.text added × (new.items ≡ old.items ++ added))
    (λ made lines. made.items ≡ all_added lines)
    (λ line old new (added, is, adds).
    (added, is, λ lines h. adds ∙ ap (λ z. z ++ added) h ∙ sym (added_last lines added)))
    c.args.bytes.now _ _ refusals c.new-vrps.ensures.items taken in
    (refusals, (lines, read, is), kept)
