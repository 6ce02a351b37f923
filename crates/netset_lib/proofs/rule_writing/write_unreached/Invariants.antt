-- The rules before the place are written, or their lines are in the piece.
use Rattle.std.proofs.Common.{map}
use Rattle.netset_lib.specs.RuleContentsOf.{line_of_rule}
use Rattle.netset_lib.proofs.RuleWritingLaws.{AreWrittenTo}
use Rattle.netset_lib.proofs.rule_writing.write_unreached.Given as goal

abbrev pub invariant-loop-place : goal.invariant-loop-place
invariant-loop-place g l =
    AreWrittenTo l.prepared.rules.items (map line_of_rule l.prepared.lines.items) l.place
    (g.W.Write.contents l.fn.out) (g.W.Write.contents l.out) l.piece.items
