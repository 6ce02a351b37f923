-- The text of an address is UTF-8.
use Rattle.std.proofs.Common.{subst}
use Rattle.ipnet_base.specs.Address.{ip_address}
use Rattle.ipnet.specs.declared.parser.Grammar.TheVariants.{Strict}
use Rattle.ipnet_lists.specs.Entries.{IsAddressText, ReadsAs}
use Rattle.ipnet_lists.proofs.EntryTexts.{reads_none}
use Rattle.ipnet_lists.proofs.ListLines.{address_utf8}
use Rattle.ipnet_c.proofs.rows.text_address.Goals as goal

pub returns-in_default : goal.returns-in_default
returns-in_default c =
    reads_none ip_address (IsAddressText Strict) c.args.text.now
    (λ x h. c.in_default.ensures.cases.0 (address_utf8 Strict c.args.text.now x h))

pub returns : goal.returns
returns c =
    subst (λ z. ReadsAs ip_address (IsAddressText Strict) z c.parse_address.result) c.in-Ok.ensures.cases.0
    c.parse_address.ensures
