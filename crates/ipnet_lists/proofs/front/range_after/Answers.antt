-- Two addresses with "-" between them are a range (`FrontEntries`).
use Rattle.std.proofs.Common.{take, arith}
use Rattle.ipnet_lists.proofs.FrontEntries.{range_entry}
use Rattle.ipnet_lists.proofs.front.range_after.Goals as goal

pub returns-clause-entry : goal.returns-clause-entry
returns-clause-entry c = λ text h grammar.
    range_entry grammar text (take c.in_ok-last.len c.args.bytes.now) c.args.first c.in_ok-last.last h
    c.in_ok-last.ensures.address
    (omega (arith, c.if-to_bits.false, c.to_bits-else-bytes-len-ne10.ensures, c.to_bits.ensures))
