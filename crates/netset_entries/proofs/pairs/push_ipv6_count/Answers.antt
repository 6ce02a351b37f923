-- `None` is 2^128.
use Rattle.std.proofs.lemmas.Result.{on_ok_weaker}
use Rattle.ipnet_bars.specs.Parts.{counted}
use Rattle.netset_entries.proofs.PairLineLaws.{counted_right}
use Rattle.netset_entries.proofs.pairs.push_ipv6_count.Goals as goal

pub returns : goal.returns
returns c =
    on_ok_weaker c.push_count.result
    (λ text. (
      counted c.ipv6_count.result,
      counted_right c.args.set.now c.ipv6_count.result c.ipv6_count.ensures.none c.ipv6_count.ensures.some,
      text,
    ))
    c.push_count.ensures
