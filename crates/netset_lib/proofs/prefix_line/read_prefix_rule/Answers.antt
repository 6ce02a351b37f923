use Rattle.std.proofs.Common.{◌≡◌, sym, ap, ◌∙◌, subst}
use Rattle.netset_lib.specs.NetworkEntries.{IsNoNetworkWord, IsNetworkCause}
use Rattle.netset_lib.specs.PrefixLines.{network_word}
use Rattle.ipnet_lists.specs.Words.{leading_word}
use Rattle.netset_lib.proofs.prefix_line.read_prefix_rule.Goals as goal

pub returns-in-Err-clause-cause : goal.returns-in-Err-clause-cause
returns-in-Err-clause-cause c =
    let grammar = c.args.grammar in
    let entry : c.cut_word-2.result.0.now ≡ network_word c.args.text.now =
    c.cut_word-2.ensures.word ∙ ap leading_word c.cut_word.ensures.rest in (
      (c.in-Some.action, sym c.cut_word.ensures.word ∙ (c.action_of.ensures c.in-Some.action).0 c.in-Some.is),
      subst (IsNoNetworkWord grammar) entry c.in-Err.ensures.none,
      subst (λ z. IsNetworkCause grammar z c.in-Err.cause) entry c.in-Err.ensures.cause,
    )
