-- The canonical text writes its network in either grammar, so its reader gives that network.
use Rattle.std.proofs.Common.{◌∙◌}
use Rattle.ipnet.specs.NetworkOf.{ip_network}
use Rattle.ipnet.specs.NetLaws.{ip_valid}
use Rattle.ipnet.specs.NetworkTexts.{IsNetworkText}
use Rattle.ipnet.proofs.PrintedTexts.{canonical_is_read}
use Rattle.ipnet.proofs.WholeTexts.{read_back}
use Rattle.ipnet.proofs.text_laws.ip_text_reads_back.Goals as goal

pub returns : goal.returns
returns c =
    let n = c.args.network.now in
    let grammar = c.args.grammar in
    read_back ip_network (IsNetworkText grammar) _ _ n _ c.parse_as.ensures
    (c.as_str.ensures.value ∙ c.to_text-text.ensures)
    (canonical_is_read grammar (ip_network n) (ip_valid n))
