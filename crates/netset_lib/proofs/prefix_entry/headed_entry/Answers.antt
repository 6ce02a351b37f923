-- The network is of the other family.
use Rattle.std.proofs.Common.{ap, ◌∙◌, rules}
use Rattle.netset_lib.specs.PrefixEntries.{IsSequence}
use Rattle.netset_lib.specs.PrefixLines.{IsPrefixText}
use Rattle.netset_lib.proofs.prefix_entry.headed_entry.Goals as goal

pub returns-then-not-is_of_family-clause-cause : goal.returns-then-not-is_of_family-clause-cause
returns-then-not-is_of_family-clause-cause c =
    let sequence : IsSequence c.args.heading.rest.now c.in-Some.number c.in-Some.rest.now = search rules in
    let rule : IsPrefixText c.args.grammar c.in-Some.rest.now c.in_ok-rule.rule = c.in_ok-rule.ensures.rule in (
      c.in-Some.number,
      c.in-Some.rest.now,
      c.in_ok-rule.rule,
      sequence,
      rule,
      λ same.
          let yes = c.is_of_family.ensures.1 (ap (λ n. n.family) c.network.ensures ∙ same) in
          let is_not = c.if-not-is_of_family.true in
          absurd cc,
    )
