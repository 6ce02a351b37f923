use Rattle.std.proofs.Common.{length}
use Rattle.netset_words.proofs.ExtractLaws.{AreWordsUpTo}
use Rattle.netset_words.proofs.word_reader.WordReader.read.Given as goal

-- the lines up to the rest were read
abbrev pub invariant-lines : goal.invariant-lines
invariant-lines l = AreWordsUpTo l.fn.self l.self l.fn.bytes l.rest

abbrev pub decreases-lines : goal.decreases-lines
decreases-lines l = length l.rest
