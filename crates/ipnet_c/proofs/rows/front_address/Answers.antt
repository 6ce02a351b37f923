-- The IPv4 address at the front is the whole text if it ends there.
use Rattle.std.proofs.Common.{take, subst}
use Rattle.ipnet_base.specs.Address.{ip_address, ipv4_address}
use Rattle.ipnet.specs.declared.parser.Grammar.TheVariants.{Strict}
use Rattle.std.specs.declared.net.ip_addr.IpAddr.TheVariants as Ip
use Rattle.ipnet_lists.specs.Entries.{IsAddressText}
use Rattle.ipnet_lists.proofs.EntryTexts.{reads_some}
use Rattle.ipnet_lists.proofs.FrontEntries.{address_text}
use Rattle.ipnet_c.proofs.rows.front_address.Goals as goal

pub returns-then-end-len : goal.returns-then-end-len
returns-then-end-len c =
    let bytes = c.args.bytes.now in
    let address = c.in-Some.address in
    reads_some ip_address (IsAddressText Strict) (take c.args.len bytes) (Ip.V4 address)
    (subst (λ k. IsAddressText Strict (take k bytes) (ipv4_address address)) c.if-end-len.true
    (address_text Strict (take c.in-Some.end bytes) address c.in-Some.ensures.address))
