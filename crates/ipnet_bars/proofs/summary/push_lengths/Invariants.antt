use Rattle.std.proofs.Common.{◌≡◌, ◌≤◌, ◌-◌, ◌++◌, map, string_bytes}
use Rattle.ipnet.specs.NetworkOf.{ip_network}
use Rattle.ipnet_bars.specs.Summaries.{lengths_text}
use Rattle.ipnet_bars.proofs.summary.push_lengths.Given as goal

abbrev pub invariant-loop-len : goal.invariant-loop-len
invariant-loop-len l = record {
  from : l.first ≤ l.len;
  to : l.len ≤ l.end;
  spelled : string_bytes l.text
      ≡ string_bytes l.fn.text ++ lengths_text (map ip_network l.networks) l.first (l.len - l.first);
}
