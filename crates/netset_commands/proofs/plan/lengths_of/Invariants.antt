-- whatever the lengths of the other words are, those that were read come before them
use Rattle.std.proofs.Common.{◌++◌, List, ℕ, drop}
use Rattle.netset_commands.specs.Words.{AreLengths}
use Rattle.netset_commands.proofs.plan.lengths_of.Given as goal

abbrev pub invariant-loop-word : goal.invariant-loop-word
invariant-loop-word l = (rest : List ℕ) → AreLengths (drop l.word-index l.words) rest
    → AreLengths l.words (l.lengths.items ++ rest)
