-- The canonical text writes its network in either grammar, so its reader gives that network.
use Rattle.std.proofs.Common.{◌∙◌, refl}
use Rattle.ipnet.specs.NetworkOf.{ipv6_network}
use Rattle.ipnet.specs.NetLaws.{ipv6_valid}
use Rattle.ipnet.specs.NetworkTexts.{IsIpv6NetworkText}
use Rattle.ipnet.proofs.PrintedTexts.{canonical_is_read}
use Rattle.ipnet.proofs.WholeTexts.{of_ipv6, read_back}
use Rattle.ipnet.proofs.text_laws.ipv6_text_reads_back.Goals as goal

pub returns : goal.returns
returns c =
    let n = c.args.network.now in
    let grammar = c.args.grammar in
    read_back ipv6_network (IsIpv6NetworkText grammar) _ _ n _ c.parse_as.ensures
    (c.as_str.ensures.value ∙ c.to_text-text.ensures)
    (of_ipv6 grammar _ (ipv6_network n) refl (canonical_is_read grammar (ipv6_network n) (ipv6_valid n)))
