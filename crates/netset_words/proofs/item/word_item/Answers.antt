use Rattle.netset_words.specs.WordSteps.{word_of}
use Rattle.netset_words.proofs.item.word_item.Goals as goal

pub returns-in-Some-clause-item : goal.returns-in-Some-clause-item
returns-in-Some-clause-item c = c.place_item.ensures.item (word_of c.args.word) c.in-Some.ensures
