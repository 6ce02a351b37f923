use Rattle.netset_lib.specs.TextSteps.{AreTextAnswersBy}
use Rattle.ipnet_lists.proofs.ListTexts.{made_list}
use Rattle.netset_lib.proofs.TextAnswerLaws.{no_text_made}
use Rattle.netset_lib.proofs.text_route.answer_list.Goals as goal

pub returns : goal.returns
returns c =
    let table = c.args.table.now.table in
    made_list c.args.grammar c.args.list.now c.skip_mark.result.now c.new-lines.result c.read.new.self
    (AreTextAnswersBy table c.new-answers.result) (AreTextAnswersBy table c.read.new.made) c.new-lines.ensures.grammar
    c.new-lines.ensures.first c.new-lines.ensures.line c.new-lines.ensures.none c.skip_mark.ensures c.in_ok-read.ensures
    (no_text_made table c.new-answers.result c.new-answers.ensures.text c.new-answers.ensures.found)
