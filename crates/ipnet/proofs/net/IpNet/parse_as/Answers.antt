-- The option that the reader gives, as a result.
use Rattle.std.proofs.Common.{Option, Some, None, MatchOption, MatchResult, sym, subst₂}
use Rattle.std.specs.Option.{ok_or}
use Rattle.ipnet.specs.NetworkOf.{ip_network}
use Rattle.ipnet.specs.NetworkTexts.{IsNetworkText, WritesNone, ReadsNetwork}
use Rattle.ipnet.proofs.WholeTexts.{reads_ip}
use Rattle.ipnet.proofs.net.IpNet.parse_as.Goals as goal

-- what holds of an option holds of the result that it becomes
carried : {N E : Type 0} (P : Type 0) (Q : N → Type 0) (o : Option N) (e : E) → MatchOption o P Q
    → MatchResult (ok_or o e) Q (λ _. P)
carried P Q None e h = h
carried P Q (Some n) e h = h

pub returns : goal.returns
returns c =
    let bytes = c.as_bytes.result.now in
    let grammar = c.args.grammar in
    subst₂ (ReadsNetwork ip_network (IsNetworkText grammar)) (c.as_bytes.ensures.value) (sym c.ok_or.ensures.value)
    (reads_ip grammar bytes _ (carried (WritesNone (IsNetworkText grammar) bytes)
    (λ n. IsNetworkText grammar bytes (ip_network n)) c.read_network.result _ c.read_network.ensures))
