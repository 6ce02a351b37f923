use Rattle.std.proofs.Common.{ap, ◌++◌, ◌∙◌, string_bytes}
use Rattle.ipnet_info.proofs.all_facts.push_facts.Goals as goal

pub returns : goal.returns
returns c = (
  string_bytes c.in_ok-facts.facts,
  c.in_ok-facts.ensures,
  record {
    is = c.in_ok-push_str.ensures.bytes ∙ ap (λ z. string_bytes c.args.text.now ++ z) c.as_str.ensures.value;
  },
)
