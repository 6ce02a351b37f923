-- What comes before the byte after the address, and what comes after it (`FrontEntries`).
use Rattle.std.proofs.Common.{◌<◌, length, take, sym, subst, arith}
use Rattle.ipnet.specs.declared.net.IpNet.TheVariants as Nets
use Rattle.ipnet_text.proofs.FrontTexts.{take_cut}
use Rattle.ipnet_lists.specs.declared.entry.Entry.TheVariants as Entries
use Rattle.ipnet_lists.specs.Entries.{IsEntryWord}
use Rattle.ipnet_lists.specs.EntryOf.{entry_range}
use Rattle.ipnet_lists.proofs.FrontEntries.{address_entry, network_entry}
use Rattle.ipnet_lists.proofs.front.front_entry.Goals as goal

pub returns-in-10-clause-entry : goal.returns-in-10-clause-entry
returns-in-10-clause-entry c = λ grammar.
    address_entry grammar (take c.in_ok-first.len c.args.bytes.now) c.in_ok-first.first c.in_ok-first.ensures.address

pub returns-in_ok-network-in-47-clause-entry : goal.returns-in_ok-network-in-47-clause-entry
returns-in_ok-network-in-47-clause-entry c =
    let bytes = c.args.bytes.now in
    let len = c.in_ok-first.len in
    let network = c.in_ok-network-in-47.network in
    let within : len < length bytes = omega (arith, c.if-bytes-lt-LONGEST.false, c.in_ok-first.ensures.few) in
    λ grammar.
    subst (λ z. IsEntryWord grammar z (entry_range (Entries.Network (Nets.V4 network))))
    (sym (take_cut bytes len c.in_ok-network-in-47.digits 47 within c.in-47.is))
    (network_entry grammar _ network
    (c.in_ok-network-in-47.ensures.network (take len bytes) c.in_ok-first.ensures.address))

pub returns-in_ok-entry-in-45-clause-entry : goal.returns-in_ok-entry-in-45-clause-entry
returns-in_ok-entry-in-45-clause-entry c =
    let bytes = c.args.bytes.now in
    let len = c.in_ok-first.len in
    let more = c.in_ok-entry-in-45.more in
    let within : len < length bytes = omega (arith, c.if-bytes-lt-LONGEST.false, c.in_ok-first.ensures.few) in
    λ grammar.
    subst (λ z. IsEntryWord grammar z (entry_range c.in_ok-entry-in-45.entry))
    (sym (take_cut bytes len more 45 within c.in-45.is))
    (c.in_ok-entry-in-45.ensures.entry (take len bytes) c.in_ok-first.ensures.address grammar)
