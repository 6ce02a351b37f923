use Rattle.std.proofs.Common.{refl}
use Rattle.netset_lib.proofs.NetworkEntryLaws.{no_entry_is_no_network, network_none, network_reported}
use Rattle.netset_lib.proofs.network_entry.read_network_entry.Goals as goal

pub cause_without_entry-requires : goal.cause_without_entry-requires
cause_without_entry-requires c = c.in-None.ensures.reads.none.0 refl

pub returns-in-Some-clause-none : goal.returns-in-Some-clause-none
returns-in-Some-clause-none c =
    network_none c.args.grammar c.args.text.now c.in-Some.found.entry c.network_of.result c.network_of.ensures.cause
    c.in-Some.ensures.kind c.in-Some.ensures.reads.some

pub returns-in-Some-clause-cause : goal.returns-in-Some-clause-cause
returns-in-Some-clause-cause c =
    network_reported c.args.grammar c.args.text.now c.in-Some.found.entry c.network_of.result
    c.network_of.ensures.cause c.in-Some.ensures.kind c.in-Some.ensures.reads.some

pub returns-in-None-clause-none : goal.returns-in-None-clause-none
returns-in-None-clause-none c =
    no_entry_is_no_network c.args.grammar c.args.text.now (c.in-None.ensures.reads.none.0 refl)
