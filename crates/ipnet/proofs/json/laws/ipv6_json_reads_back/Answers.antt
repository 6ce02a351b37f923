-- The JSON string is of the canonical text, which writes its network in the strict grammar.
use Rattle.std.proofs.Common.{refl}
use Rattle.ipnet.specs.declared.parser.Grammar.TheVariants.{Strict}
use Rattle.ipnet.specs.NetworkOf.{ipv6_network}
use Rattle.ipnet.specs.NetLaws.{ipv6_valid}
use Rattle.ipnet.proofs.PrintedTexts.{canonical_is_read}
use Rattle.ipnet.proofs.WholeTexts.{of_ipv6}
use Rattle.ipnet.proofs.json.laws.ipv6_json_reads_back.Goals as goal

pub returns : goal.returns
returns c =
    let n = c.args.network.now in
    let writes = of_ipv6 Strict _ (ipv6_network n) refl (canonical_is_read Strict (ipv6_network n) (ipv6_valid n)) in
    (c.from_json.ensures.ok n).1 (_, c.in_ok-to_json.ensures, writes)
