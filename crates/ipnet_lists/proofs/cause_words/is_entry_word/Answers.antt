use Rattle.ipnet.specs.declared.parser.Grammar.TheVariants.{Legacy}
use Rattle.ipnet_lists.proofs.CauseTexts.{is_false}
use Rattle.ipnet_lists.proofs.ListLines.{entry_utf8}
use Rattle.ipnet_lists.proofs.cause_words.is_entry_word.Goals as goal

pub returns-in-Err : goal.returns-in-Err
returns-in-Err c = is_false (λ p. c.in-Err.ensures.cases.0 (entry_utf8 Legacy c.args.word.now p.0 p.1))
