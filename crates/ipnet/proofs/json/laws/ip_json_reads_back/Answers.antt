-- The JSON string is of the canonical text, which writes its network in the strict grammar.
use Rattle.ipnet.specs.declared.parser.Grammar.TheVariants.{Strict}
use Rattle.ipnet.specs.NetworkOf.{ip_network}
use Rattle.ipnet.specs.NetLaws.{ip_valid}
use Rattle.ipnet.proofs.PrintedTexts.{canonical_is_read}
use Rattle.ipnet.proofs.json.laws.ip_json_reads_back.Goals as goal

pub returns : goal.returns
returns c =
    let n = c.args.network.now in
    let writes = canonical_is_read Strict (ip_network n) (ip_valid n) in
    (c.from_json.ensures.ok n).1 (_, c.in_ok-to_json.ensures, writes)
