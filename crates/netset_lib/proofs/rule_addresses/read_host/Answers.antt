-- The text after the word is not an address.
use Rattle.std.proofs.Common.{sym, ◌∙◌}
use Rattle.ipnet_base.specs.Address.{ip_address}
use Rattle.ipnet_lists.specs.Entries.{IsAddressText}
use Rattle.ipnet_lists.proofs.EntryTexts.{none_of}
use Rattle.netset_lib.proofs.rule_addresses.read_host.Goals as goal

pub returns-in-None-clause-none : goal.returns-in-None-clause-none
returns-in-None-clause-none c = λ none x word.
    none_of ip_address (IsAddressText c.args.grammar) c.args.address.now c.read_address.result c.read_address.ensures
    (λ v e. let clash = sym e ∙ c.in-None.is in absurd cc) x
