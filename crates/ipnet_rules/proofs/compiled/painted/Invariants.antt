-- The rules so far have painted.
use Rattle.std.proofs.Common.{take}
use Rattle.ipnet_rules.specs.CompiledLists.{ArePaintedBy}
use Rattle.ipnet_rules.proofs.compiled.painted.Given as goal

abbrev pub invariant-loop-placed_rule : goal.invariant-loop-placed_rule
invariant-loop-placed_rule l = ArePaintedBy l.prefix_len (take l.placed_rule-index l.placed) l.count l.painting
