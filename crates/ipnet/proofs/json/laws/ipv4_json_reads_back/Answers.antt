-- The JSON string is of the canonical text, which writes its network in the strict grammar.
use Rattle.std.proofs.Common.{refl}
use Rattle.ipnet.specs.declared.parser.Grammar.TheVariants.{Strict}
use Rattle.ipnet.specs.NetworkOf.{ipv4_network}
use Rattle.ipnet.specs.NetLaws.{ipv4_valid}
use Rattle.ipnet.proofs.PrintedTexts.{canonical_is_read}
use Rattle.ipnet.proofs.WholeTexts.{of_ipv4}
use Rattle.ipnet.proofs.json.laws.ipv4_json_reads_back.Goals as goal

pub returns : goal.returns
returns c =
    let n = c.args.network.now in
    let writes = of_ipv4 Strict _ (ipv4_network n) refl (canonical_is_read Strict (ipv4_network n) (ipv4_valid n)) in
    (c.from_json.ensures.ok n).1 (_, c.in_ok-to_json.ensures, writes)
