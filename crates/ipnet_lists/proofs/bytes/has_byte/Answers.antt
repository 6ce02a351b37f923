use Rattle.std.proofs.Common.{sym}
use Rattle.ipnet_lists.proofs.ByteLaws.{found_byte, no_byte}
use Rattle.ipnet_lists.proofs.bytes.has_byte.Goals as goal

pub returns-in-Some : goal.returns-in-Some
returns-in-Some c =
    sym (found_byte c.args.wanted c.args.text.now c.in-Some.field-0 c.in-Some.ensures.0 c.in-Some.ensures.1)

pub returns-in-None : goal.returns-in-None
returns-in-None c = sym (no_byte c.args.wanted c.args.text.now c.in-None.ensures)
