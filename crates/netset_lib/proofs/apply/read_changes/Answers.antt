use Rattle.std.proofs.Common.{map, ap}
use Rattle.ipnet.specs.NetworkOf.{ip_network}
use Rattle.ipnet_sets.specs.Members.{IsMember}
use Rattle.ipnet_lists.proofs.ContentLaws.{list_taken}
use Rattle.netset_lib.specs.ApplySteps.{AddsPart, AreParts, parts_of}
use Rattle.netset_lib.specs.ChangeLists.{IsAnswerNetwork, IsFittingChange, IsChangeLineCause}
use Rattle.netset_lib.specs.Changes.{ListChange}
use Rattle.netset_lib.proofs.ApplyLaws.{no_parts, parts_more}
use Rattle.netset_lib.proofs.apply.read_changes.Goals as goal

pub returns : goal.returns
returns c =
    let grammar = c.args.grammar in
    let Has = IsAnswerNetwork (IsMember c.args.set.now) in
    let (refusals, taken, kept) = c.in_ok-refused.ensures in
    let (changes, read, are) = list_taken (λ line. IsFittingChange grammar Has line.text)
    (IsChangeLineCause grammar Has)
    (λ line old new. (change : ListChange) × IsFittingChange grammar Has line.text change
    × AddsPart change (parts_of old) (parts_of new))
    (λ parts changes. AreParts changes (parts_of parts))
    (λ line old new (change, is, adds). (
      change,
      is,
      λ changes h. parts_more changes change (parts_of old) (parts_of new) h adds,
    )) c.args.bytes.now _ _ refusals
    (no_parts _ (ap (map ip_network) c.new.ensures.items) (ap (map ip_network) c.new-2.ensures.items)) taken in
    (changes, refusals, read, kept, are)
