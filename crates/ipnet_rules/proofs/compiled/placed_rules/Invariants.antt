-- The rules so far have the cells of their networks.
use Rattle.std.proofs.Common.{take}
use Rattle.ipnet_rules.specs.Cells.{family_of}
use Rattle.ipnet_rules.specs.CompiledLists.{ArePlaced}
use Rattle.ipnet_rules.proofs.compiled.placed_rules.Given as goal

abbrev pub invariant-loop-rule : goal.invariant-loop-rule
invariant-loop-rule l = ArePlaced (family_of l.family) l.cuts (take l.rule-index l.rules) l.placed.items
