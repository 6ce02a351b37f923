use Rattle.ipnet_lists.proofs.WordTexts.{cut_rest}
use Rattle.ipnet_lists.proofs.word.cut_word.Goals as goal

pub returns-clause-rest : goal.returns-clause-rest
returns-clause-rest c =
    cut_rest c.args.text.now c.trim_ascii_start.result.now c.first_blank-end.result c.first_blank-end.ensures.index
    c.trim_ascii_start.ensures.value
