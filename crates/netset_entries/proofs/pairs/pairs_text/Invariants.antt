-- The lines of the lists before this one.
use Rattle.ipnet_sets.specs.Members.{IsMember}
use Rattle.std.proofs.Common.{string_bytes}
use Rattle.netset_entries.specs.ListPairs.{ArePairsOf}
use Rattle.netset_entries.specs.TextParts.{AreTextParts}
use Rattle.netset_entries.proofs.pairs.pairs_text.Given as goal

abbrev pub invariant-loop-index : goal.invariant-loop-index
invariant-loop-index l = AreTextParts (ArePairsOf IsMember l.names l.sets) 0 l.index (string_bytes l.text)
