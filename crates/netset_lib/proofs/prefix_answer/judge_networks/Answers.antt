use Rattle.std.proofs.Common.{false, [], subst}
use Rattle.ipnet_rules.specs.CompiledListOf.{rules_of}
use Rattle.ipnet_rules.proofs.VerdictLaws.{any_nil}
use Rattle.ipnet_lists.proofs.ContentLaws.{list_taken}
use Rattle.netset_lib.specs.PrefixAnswers.{ListNetwork, IsListNetwork, IsNetworkLineCause}
use Rattle.netset_lib.specs.PrefixReading.{AddsVerdict, AreVerdictsOn}
use Rattle.netset_lib.proofs.PrefixLaws.{verdict_added}
use Rattle.netset_lib.proofs.prefix_answer.judge_networks.Goals as goal

pub returns : goal.returns
returns c =
    let grammar = c.args.grammar in
    let rules = rules_of c.in_ok-list.list in
    let start : AreVerdictsOn rules (record { text = c.new.result; denied = false }) [] = record {
      text = c.new.ensures.items;
      denied = (λ no. absurd cc, λ one. absurd (any_nil _ one));
    } in
    let (refusals, taken, kept) = c.in_ok-refused.ensures in
    let (networks, read, are) = list_taken (λ line. IsListNetwork grammar line.text) (IsNetworkLineCause grammar)
    (λ line old new. (n : ListNetwork) × IsListNetwork grammar line.text n × AddsVerdict rules n old new)
    (AreVerdictsOn rules)
    (λ line old new (n, is, adds). (n, is, λ networks h. verdict_added rules n old new networks adds h))
    c.args.networks.now _ _ refusals start taken in (
      networks,
      refusals,
      read,
      kept,
      subst (λ z. AreVerdictsOn z c.read_lines.new.made networks) c.in_ok-list.ensures are,
    )
