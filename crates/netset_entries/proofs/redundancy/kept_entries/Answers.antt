use Rattle.std.proofs.Common.{length, map, subst}
use Rattle.std.proofs.lemmas.Result.{IfOk-weaker}
use Rattle.ipnet_rules.specs.KeptRules.{AreKept}
use Rattle.ipnet_rules.specs.UnreachedRules.{MatchesAt}
use Rattle.netset_entries.specs.EntryLineOf.{numbered}
use Rattle.netset_entries.specs.Redundancy.{AreKeptEntries}
use Rattle.netset_entries.proofs.RedundancyLaws.{kept_same}
use Rattle.netset_entries.proofs.redundancy.kept_entries.Goals as goal

pub returns : goal.returns
returns c =
    let rules = c.in_ok-rules.rules.items in
    let slice = c.as_slice.result.now in
    IfOk-weaker c.kept_rules.result (λ kept. AreKept (MatchesAt slice) (length slice) kept.items)
    (λ kept. AreKeptEntries (map numbered c.args.lines.now) kept.items)
    (λ kept h. kept_same c.args.lines.now rules kept.items c.in_ok-rules.ensures.count c.in_ok-rules.ensures.matched
    (subst (λ z. AreKept (MatchesAt z) (length z) kept.items) c.as_slice.ensures.value h))
    c.kept_rules.ensures
