use Rattle.netset_words.specs.declared.extraction.Extraction.{Extraction}
use Rattle.netset_words.specs.ExtractSteps.{IsAtFirstLine}
use Rattle.netset_words.proofs.ExtractLaws.{IsTextUpTo}
use Rattle.netset_words.proofs.extraction.Extraction.read_text.Given as goal

-- the text was read up to what is pending
abbrev pub invariant-loop : goal.invariant-loop
invariant-loop g l = record {
  start : Extraction;
  at : IsAtFirstLine l.fn.self.words start.words;
  text : IsTextUpTo l.more (g.R.Read.remaining l.fn.input) (g.R.Read.remaining l.input) start l.self;
}
