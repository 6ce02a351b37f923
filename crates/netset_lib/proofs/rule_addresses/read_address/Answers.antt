-- An address is UTF-8.
use Rattle.ipnet_base.specs.Address.{ip_address}
use Rattle.ipnet_lists.specs.Entries.{IsAddressText}
use Rattle.ipnet_lists.proofs.EntryTexts.{reads_none}
use Rattle.ipnet_lists.proofs.ListLines.{address_utf8}
use Rattle.netset_lib.proofs.rule_addresses.read_address.Goals as goal

pub returns-in-Err : goal.returns-in-Err
returns-in-Err c =
    reads_none ip_address (IsAddressText c.args.grammar) c.args.word.now
    (λ x h. c.in-Err.ensures.cases.0 (address_utf8 c.args.grammar c.args.word.now x h))
