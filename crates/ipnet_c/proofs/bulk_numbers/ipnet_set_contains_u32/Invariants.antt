-- Each byte before the index is the answer for the address with its index.
use Rattle.std.proofs.Common.{◌*◌}
use Rattle.ipnet_c.proofs.ColumnLaws.{AreRightTo, IsNumberAnswer}
use Rattle.ipnet_c.proofs.bulk_numbers.ipnet_set_contains_u32.Given as goal

abbrev pub invariant-loop-eight : goal.invariant-loop-eight
invariant-loop-eight l =
    AreRightTo (IsNumberAnswer l.image.bytes.now l.addresses) (l.eight * 8) l.fn.answers l.answers

abbrev pub invariant-loop-index : goal.invariant-loop-index
invariant-loop-index l = AreRightTo (IsNumberAnswer l.image.bytes.now l.addresses) l.index l.fn.answers l.answers
