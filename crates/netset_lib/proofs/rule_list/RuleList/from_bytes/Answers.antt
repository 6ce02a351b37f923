use Rattle.std.proofs.Common.{◌≡◌, map, ap, ap₂}
use Rattle.ipnet_lists.proofs.ContentLaws.{list_taken}
use Rattle.netset_lib.specs.RuleContentsOf.{contents_of, line_of_rule}
use Rattle.netset_lib.specs.RuleLines.{IsRuleOfLine, IsRuleLineCause, contents_of_rules}
use Rattle.netset_lib.specs.RuleSteps.{AddsRule}
use Rattle.netset_lib.proofs.RuleLaws.{rule_added}
use Rattle.netset_lib.proofs.rule_list.RuleList.from_bytes.Goals as goal

pub returns : goal.returns
returns c =
    let grammar = c.args.grammar in
    let (refusals, taken, kept) = c.in_ok-refused.ensures in
    let (items, read, is) = list_taken (IsRuleOfLine grammar) (IsRuleLineCause grammar)
    (λ line old new. AddsRule grammar line (contents_of old) (contents_of new))
    (λ list items. contents_of list ≡ contents_of_rules items)
    (λ line old new. rule_added grammar line (contents_of old) (contents_of new)) c.args.bytes.now _ _ refusals
    (ap₂ (λ rules lines. record { rules = rules; lines = lines }) c.new.ensures.items
    (ap (map line_of_rule) c.new-2.ensures.items)) taken in
    record {
      refusals = refusals;
      read = record { items = items; read = read; is = is };
      kept = kept;
    }
